-- The pass is the table's.
use Rattle.ib_rule.specs.Takes.{IsStillOf}
use Rattle.ib_latch_tests.proofs.waits.work.Given as goal

abbrev pub invariant-loop-round : goal.invariant-loop-round
invariant-loop-round g l = IsStillOf l.fn.table l.fn.pass l.pass
