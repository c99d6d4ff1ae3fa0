use Rattle.ib_latch.specs.Waits.{IsStill, NextWaits}
use Rattle.ib_latch.proofs.waiting.Latches+L+Parkers.sleep_as_next.Given as goal

abbrev pub invariant-loop : goal.invariant-loop
invariant-loop g l = IsStill l.pass.view.session.phase l.fn.pass l.pass × NextWaits l.fn.latch.0 l.fn.level l.pass.view.session.phase
