use Rattle.ib_latch.proofs.Stills.{locked_still}
use Rattle.ib_latch.proofs.locks.Latches+L+Parkers.lock_new_x.Goals as goal

pub returns-clause-locked : goal.returns-clause-locked
returns-clause-locked g c =
    let won = c.lock_first.ensures.won in
    locked_still _ c.args.latch.0 _ c.args.pass.now c.lock_first.new.pass c.own_x.new.pass won.taken (won.signed (λ e. absurd (cc))) won.looks c.own_x.ensures.still c.own_x.ensures.ends
