use Rattle.std.proofs.Common.{arith, rules}
use Rattle.ib_io.proofs.Reached.{reached-none, reached-more, reached-fault, reached-all, lines-cut, lines-end}
use Rattle.ib_io.specs.Lines.{readings_by}
use Rattle.ib_script.proofs.Building.{script-built}
use Rattle.ib_script.specs.Building.{IsBuilt}
use Rattle.ib_script.specs.Script.{fault_behind}
use Rattle.ib_script.proofs.script.read_script.Goals as goal

pub loop-rest-init : goal.loop-rest-init
loop-rest-init g c = record { reached = reached-none fault_behind IsBuilt _ _ c.new-builder.ensures; fewer = omega arith }

pub loop-rest-preserved : goal.loop-rest-preserved
loop-rest-preserved g c =
    let reading = g.R.LineReader.reading in
    let line = c.first_line.result.0.now in
    let after = c.first_line.result.1.now in
    record {
      reached = reached-more fault_behind IsBuilt (reading line) (readings_by reading after) c.take.new.self (lines-cut reading c.loop-rest.rest.now line after c.first_line.ensures.line)
          c.loop-rest.invariant.reached c.in-Ok.ensures;
      fewer = omega (arith, c.first_line.ensures.shorter, c.loop-rest.invariant.fewer);
    }

pub returns-in-Err-Bad-clause-bad : goal.returns-in-Err-Bad-clause-bad
returns-in-Err-Bad-clause-bad g c = λ line kind e.
    let reading = g.R.LineReader.reading in
    let at = c.first_line.result.0.now in
    let after = c.first_line.result.1.now in
    reached-fault fault_behind IsBuilt (reading at) (readings_by reading after) c.in-Err-Bad.kind line kind (lines-cut reading c.loop-rest.rest.now at after c.first_line.ensures.line)
    c.loop-rest.invariant.reached (rw c.in-Err-Bad.field-0-is at c.in-Err-Bad.ensures) cc

pub returns-clause-good : goal.returns-clause-good
returns-clause-good g c = (reached-all fault_behind IsBuilt (lines-end g.R.LineReader.reading c.loop-rest.rest.now (search rules)) c.loop-rest.invariant.reached).0

pub returns-clause-script : goal.returns-clause-script
returns-clause-script g c = script-built c.finish.result (reached-all fault_behind IsBuilt (lines-end g.R.LineReader.reading c.loop-rest.rest.now (search rules)) c.loop-rest.invariant.reached).1 c.finish.ensures.value

pub returns-clause-small : goal.returns-clause-small
returns-clause-small g c = c.finish.ensures.few (readings_by g.R.LineReader.reading c.args.bytes.now)
    (reached-all fault_behind IsBuilt (lines-end g.R.LineReader.reading c.loop-rest.rest.now (search rules)) c.loop-rest.invariant.reached).1
