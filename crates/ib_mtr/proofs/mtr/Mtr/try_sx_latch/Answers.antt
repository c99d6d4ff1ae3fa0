-- Refused, the pass is as it was but for looks; granted, the memo and the session have one grant more.
use Rattle.std.proofs.Common.{rules, refl}
use Rattle.ib_levels.specs.declared.level.Mode.TheVariants.{Sx}
use Rattle.ib_mtr.proofs.Keeping.{granted, memo_room, refused}
use Rattle.ib_mtr.proofs.mtr.Mtr.try_sx_latch.Goals as goal

pub returns-in_err-try_sx-clause-still : goal.returns-in_err-try_sx-clause-still
returns-in_err-try_sx-clause-still g c =
    let mtr = refused c.args.self.now.latches.now c.args.self.now.pass.now c.try_sx.new.pass _ c.requires.mtr (search rules) c.in_err-try_sx.ensures.refused in
    record { mtr = mtr; latches = refl; pass = refl }

pub remember-requires-clause-room : goal.remember-requires-clause-room
remember-requires-clause-room g c =
    memo_room c.args.self.now.latches.now c.args.self.now.pass.now c.try_sx.new.pass c.requires.mtr c.requires.may.grows (search rules)

pub returns-clause-still : goal.returns-clause-still
returns-clause-still g c =
    let mtr = granted c.args.self.now.latches.now c.args.self.now.pass.now c.try_sx.new.pass c.remember.new.self Sx c.args.latch c.args.level c.requires.mtr c.requires.may.latch
    (search rules) (c.in_ok-try_sx.ensures.taken refl) c.remember.ensures.session c.remember.ensures.more in
    record { mtr = mtr; latches = refl; pass = refl }
