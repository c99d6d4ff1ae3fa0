-- Nothing is held on the latch, so the grant is one holding more.
use Rattle.std.proofs.Common.{◌+◌, arith}
use Rattle.ib_levels.specs.declared.level.Mode.TheVariants.{Sx, X}
use Rattle.ib_levels.proofs.Counts.{on-none}
use Rattle.ib_mtr.proofs.Keeping.{may_take_more}
use Rattle.ib_cursor.proofs.RefusalLaws.{claim_had, read_had}
use Rattle.ib_cursor.proofs.try_latch.try_once.Goals as goal

pub returns-in-S-clause-taken : goal.returns-in-S-clause-taken
returns-in-S-clause-taken g c = rw c.in-S.is (read_had c.args.latch c.args.level c.try_s_latch.result c.args.mtr.now.pass.now c.try_s_latch.new.self.pass.now c.try_s_latch.ensures.granted c.try_s_latch.ensures.taken)

pub returns-in-S-clause-tried : goal.returns-in-S-clause-tried
returns-in-S-clause-tried g c = rw c.in-S.is c.try_s_latch.ensures.tried

pub try_sx_latch-requires-clause-may : goal.try_sx_latch-requires-clause-may
try_sx_latch-requires-clause-may g c = may_take_more c.args.mtr.now.latches.now c.args.latch.0 c.args.level c.args.mtr.now.pass.now c.requires.may

pub returns-in-Sx-clause-taken : goal.returns-in-Sx-clause-taken
returns-in-Sx-clause-taken g c =
    let none = on-none c.args.latch.0 (λ h. h.sx + h.x) c.args.mtr.now.pass.now.view.session.held c.requires.may.may.none in let t = c.try_sx_latch.ensures in
    rw c.in-Sx.is (claim_had Sx c.args.latch c.args.level c.try_sx_latch.result c.args.mtr.now.pass.now c.try_sx_latch.new.self.pass.now c.requires.may.may t.granted t.taken (t.first none))

pub returns-in-Sx-clause-tried : goal.returns-in-Sx-clause-tried
returns-in-Sx-clause-tried g c =
    let none = on-none c.args.latch.0 (λ h. h.sx + h.x) c.args.mtr.now.pass.now.view.session.held c.requires.may.may.none in
    rw c.in-Sx.is (c.try_sx_latch.ensures.first none)

pub try_x_latch-requires-clause-may : goal.try_x_latch-requires-clause-may
try_x_latch-requires-clause-may g c = may_take_more c.args.mtr.now.latches.now c.args.latch.0 c.args.level c.args.mtr.now.pass.now c.requires.may

pub try_x_latch-requires-clause-no_upgrade : goal.try_x_latch-requires-clause-no_upgrade
try_x_latch-requires-clause-no_upgrade g c = λ some. let none = on-none c.args.latch.0 (λ h. h.sx) c.args.mtr.now.pass.now.view.session.held c.requires.may.may.none in absurd (omega arith)

pub returns-in-X-clause-taken : goal.returns-in-X-clause-taken
returns-in-X-clause-taken g c =
    let none = on-none c.args.latch.0 (λ h. h.sx + h.x) c.args.mtr.now.pass.now.view.session.held c.requires.may.may.none in let t = c.try_x_latch.ensures in
    rw c.in-X.is (claim_had X c.args.latch c.args.level c.try_x_latch.result c.args.mtr.now.pass.now c.try_x_latch.new.self.pass.now c.requires.may.may t.granted t.taken (t.first none))

pub returns-in-X-clause-tried : goal.returns-in-X-clause-tried
returns-in-X-clause-tried g c =
    let none = on-none c.args.latch.0 (λ h. h.sx + h.x) c.args.mtr.now.pass.now.view.session.held c.requires.may.may.none in
    rw c.in-X.is (c.try_x_latch.ensures.first none)
