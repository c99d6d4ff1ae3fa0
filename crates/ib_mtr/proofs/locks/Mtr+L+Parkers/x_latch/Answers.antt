-- The memo and the session have one grant more.
use Rattle.std.proofs.Common.{rules, refl}
use Rattle.ib_levels.specs.declared.level.Mode.TheVariants.{X}
use Rattle.ib_mtr.proofs.Keeping.{granted, memo_room}
use Rattle.ib_mtr.proofs.locks.Mtr+L+Parkers.x_latch.Goals as goal

pub remember-requires-clause-room : goal.remember-requires-clause-room
remember-requires-clause-room g c =
    memo_room c.args.self.now.latches.now c.args.self.now.pass.now c.lock_x.new.pass c.requires.mtr c.requires.may.grows (search rules)

pub returns-clause-still : goal.returns-clause-still
returns-clause-still g c =
    let mtr = granted c.args.self.now.latches.now c.args.self.now.pass.now c.lock_x.new.pass c.remember.new.self X c.args.latch c.args.level c.requires.mtr c.requires.may.latch
    (search rules) c.lock_x.ensures.locked.taken c.remember.ensures.session c.remember.ensures.more in
    record { mtr = mtr; latches = refl; pass = refl }
