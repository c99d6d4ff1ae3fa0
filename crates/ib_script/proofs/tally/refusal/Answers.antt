use Rattle.std.proofs.Common.{arith, rules}
use Rattle.ib_io.proofs.Reached.{reached-none, reached-more, reached-fault, reached-all, lines-cut, lines-end}
use Rattle.ib_io.specs.Lines.{readings_by}
use Rattle.ib_script.specs.Script.{fault_behind}
use Rattle.ib_script.specs.Tallies.{IsTallied}
use Rattle.ib_script.proofs.tally.refusal.Goals as goal

pub loop-rest-init : goal.loop-rest-init
loop-rest-init g c = record { reached = reached-none fault_behind IsTallied _ _ c.new-tally.ensures; fewer = omega arith }

pub loop-rest-preserved : goal.loop-rest-preserved
loop-rest-preserved g c =
    let reading = g.R.LineReader.reading in
    let line = c.first_line.result.0.now in
    let after = c.first_line.result.1.now in
    record {
      reached = reached-more fault_behind IsTallied (reading line) (readings_by reading after) c.count.new.self (lines-cut reading c.loop-rest.rest.now line after c.first_line.ensures.line)
          c.loop-rest.invariant.reached c.in-Ok.ensures;
      fewer = omega (arith, c.first_line.ensures.shorter, c.loop-rest.invariant.fewer);
    }

pub returns-in-Err-clause-bad : goal.returns-in-Err-clause-bad
returns-in-Err-clause-bad g c = λ line kind e.
    let reading = g.R.LineReader.reading in
    let at = c.first_line.result.0.now in
    let after = c.first_line.result.1.now in
    reached-fault fault_behind IsTallied (reading at) (readings_by reading after) c.in-Err.kind line kind (lines-cut reading c.loop-rest.rest.now at after c.first_line.ensures.line)
    c.loop-rest.invariant.reached c.in-Err.ensures e

pub returns-clause-memory : goal.returns-clause-memory
returns-clause-memory g c = λ e. (reached-all fault_behind IsTallied (lines-end g.R.LineReader.reading c.loop-rest.rest.now (search rules)) c.loop-rest.invariant.reached).0
