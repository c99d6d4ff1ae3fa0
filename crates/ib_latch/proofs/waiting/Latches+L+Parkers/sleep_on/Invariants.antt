use Rattle.std.proofs.Common.{None}
use Rattle.ib_rule.specs.Conditions.{MayLoadGen}
use Rattle.ib_latch.specs.Waits.{IsStill}
use Rattle.ib_latch.proofs.waiting.Latches+L+Parkers.sleep_on.Given as goal

abbrev pub invariant-loop : goal.invariant-loop
invariant-loop g l = IsStill l.pass.view.session.phase l.fn.pass l.pass × MayLoadGen l.fn.latch.0 None l.pass.view.session l.pass.view.session.phase
