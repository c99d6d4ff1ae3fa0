use Rattle.std.proofs.Common.{sym, ◌∙◌}
use Rattle.ib_core.specs.declared.phase.Phase.TheVariants.{Free}
use Rattle.ib_latch.specs.Waits.{IsStill}
use Rattle.ib_latch.proofs.Stills.{none_won, tried_after}
use Rattle.ib_latch.proofs.locks.Latches+L+Parkers.lock_round.Goals as goal

pub returns : goal.returns
returns g c =
    let still = none_won (IsStill Free c.args.pass.now c.spin-reserve.new.pass) c.spin-reserve.result (sym c.is_some.ensures ∙ c.if-is_some.false) c.spin-reserve.ensures.none in
    tried_after c.args.self.now Free c.args.mode c.args.latch.0 c.args.level c.wait.result c.args.pass.now c.spin-reserve.new.pass c.wait.new.pass still c.wait.ensures
