use Rattle.ib_core.specs.declared.phase.Phase.TheVariants.{Free}
use Rattle.ib_latch.specs.Waits.{IsStill}
use Rattle.ib_latch.proofs.locks.Latches+L+Parkers.lock_later.Given as goal

abbrev pub invariant-loop : goal.invariant-loop
invariant-loop g l = IsStill Free l.fn.pass l.pass
