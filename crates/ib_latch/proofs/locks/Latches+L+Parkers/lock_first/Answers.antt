-- After a try that was not won the session is as still as before, so what the rounds win it wins.
use Rattle.ib_core.specs.declared.phase.Phase.TheVariants.{Free}
use Rattle.ib_latch.proofs.Stills.{won_after}
use Rattle.ib_latch.proofs.locks.Latches+L+Parkers.lock_first.Goals as goal

pub returns-clause-won : goal.returns-clause-won
returns-clause-won g c =
    won_after Free c.args.mode c.args.latch.0 c.args.level c.lock_later.result c.args.pass.now c.try_once.new.pass c.lock_later.new.pass c.in_default.ensures.none c.lock_later.ensures.won
