use Rattle.ib_rule.specs.Opening.{AreFreed}
use Rattle.ib_rule.proofs.space.free_latches.Given as goal

abbrev pub invariant-loop-latch : goal.invariant-loop-latch
invariant-loop-latch l = record { freed : AreFreed l.latch l.fn.words l.words }
