use Rattle.ib_core.specs.declared.phase.Phase.TheVariants.{Free}
use Rattle.ib_latch.proofs.Stills.{won_after}
use Rattle.ib_latch.proofs.locks.Latches+L+Parkers.lock_later.Goals as goal

pub returns-in-Some-lock_round-clause-won : goal.returns-in-Some-lock_round-clause-won
returns-in-Some-lock_round-clause-won g c =
    won_after Free c.args.mode c.args.latch.0 c.args.level c.in-Some-lock_round.reserve c.args.pass.now c.loop.pass c.lock_round.new.pass c.loop.invariant c.in-Some-lock_round.ensures.some
