-- The pass is the table's.
use Rattle.ib_rule.specs.Takes.{IsStillOf}
use Rattle.ib_latch_tests.proofs.tries.all_free.Given as goal

abbrev pub invariant-loop-latch : goal.invariant-loop-latch
invariant-loop-latch g l = IsStillOf l.fn.table l.fn.pass l.pass
