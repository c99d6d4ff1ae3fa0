-- Nothing is held on the latch, so it may be claimed, and the grant is one holding more.
use Rattle.ib_levels.specs.declared.level.Mode.TheVariants.{Sx, X}
use Rattle.ib_mtr.proofs.Keeping.{may_take_more}
use Rattle.ib_cursor.proofs.LatchingLaws.{taken_claim}
use Rattle.ib_cursor.proofs.latch_page.take.Goals as goal

pub sx_latch-requires-clause-may : goal.sx_latch-requires-clause-may
sx_latch-requires-clause-may g c = may_take_more c.args.mtr.now.latches.now c.args.latch.0 c.args.level c.args.mtr.now.pass.now c.requires.may

pub x_latch-requires-clause-may : goal.x_latch-requires-clause-may
x_latch-requires-clause-may g c = may_take_more c.args.mtr.now.latches.now c.args.latch.0 c.args.level c.args.mtr.now.pass.now c.requires.may

pub returns-in-Sx-clause-taken : goal.returns-in-Sx-clause-taken
returns-in-Sx-clause-taken g c = rw c.in-Sx.is (taken_claim Sx c.args.latch c.args.level c.args.mtr.now.pass.now c.sx_latch.new.self.pass.now c.requires.may.may c.sx_latch.ensures.granted)

pub returns-in-X-clause-taken : goal.returns-in-X-clause-taken
returns-in-X-clause-taken g c = rw c.in-X.is (taken_claim X c.args.latch c.args.level c.args.mtr.now.pass.now c.x_latch.new.self.pass.now c.requires.may.may c.x_latch.ensures.granted)
