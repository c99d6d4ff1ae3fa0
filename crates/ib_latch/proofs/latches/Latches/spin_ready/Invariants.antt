use Rattle.ib_core.specs.declared.phase.Phase.TheVariants.{Next}
use Rattle.ib_latch.specs.Waits.{IsStill}
use Rattle.ib_latch.proofs.latches.Latches.spin_ready.Given as goal

abbrev pub invariant-loop : goal.invariant-loop
invariant-loop g l = IsStill (Next l.fn.latch.0 l.fn.level) l.fn.pass l.pass
