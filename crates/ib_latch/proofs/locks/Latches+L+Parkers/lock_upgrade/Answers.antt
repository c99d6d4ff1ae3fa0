use Rattle.ib_latch.proofs.Stills.{locked_still}
use Rattle.ib_latch.proofs.locks.Latches+L+Parkers.lock_upgrade.Goals as goal

pub returns-clause-locked : goal.returns-clause-locked
returns-clause-locked g c =
    let up = c.spin_upgrade.ensures.upgraded in
    locked_still _ c.args.latch.0 _ c.args.pass.now c.spin_upgrade.new.pass c.own_x.new.pass up.taken up.signed up.looks c.own_x.ensures.still c.own_x.ensures.ends
