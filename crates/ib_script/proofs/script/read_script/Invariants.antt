use Rattle.std.proofs.Common.{◌+◌, ◌≤◌, length}
use Rattle.ib_io.proofs.Reached.{Reached}
use Rattle.ib_io.specs.Lines.{readings_by}
use Rattle.ib_script.specs.Building.{IsBuilt}
use Rattle.ib_script.specs.Script.{fault_behind}
use Rattle.ib_script.proofs.script.read_script.Given as goal

abbrev pub invariant-loop-rest : goal.invariant-loop-rest
invariant-loop-rest g l = record {
  reached : Reached fault_behind IsBuilt (readings_by g.R.LineReader.reading l.bytes) l.count l.builder (readings_by g.R.LineReader.reading l.rest);
  fewer : l.count + length l.rest ≤ length l.bytes;
}

abbrev pub decreases-loop-rest : goal.decreases-loop-rest
decreases-loop-rest g l = length l.rest
