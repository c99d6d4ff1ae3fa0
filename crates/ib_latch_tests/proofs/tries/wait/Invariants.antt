-- The pass is the table's.
use Rattle.ib_rule.specs.Takes.{IsStillOf}
use Rattle.ib_latch_tests.proofs.tries.wait.Given as goal

abbrev pub invariant-waiting : goal.invariant-waiting
invariant-waiting g l = IsStillOf l.fn.table l.fn.pass l.pass
