use Rattle.ib_core.specs.declared.phase.Phase.TheVariants.{Free}
use Rattle.ib_latch.proofs.Stills.{upgraded_after}
use Rattle.ib_latch.proofs.locks.Latches+L+Parkers.spin_upgrade.Goals as goal

pub returns-in-Some-upgrade_once-clause-upgraded : goal.returns-in-Some-upgrade_once-clause-upgraded
returns-in-Some-upgrade_once-clause-upgraded g c =
    upgraded_after Free c.args.latch.0 c.in-Some-upgrade_once.reserve c.args.pass.now c.loop.pass c.upgrade_once.new.pass c.loop.invariant c.in-Some-upgrade_once.ensures.some
