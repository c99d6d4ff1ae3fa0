-- The grant, and then the look.
use Rattle.std.proofs.Common.{subst, ap}
use Rattle.ib_levels.specs.declared.latch.Latch.{Latch}
use Rattle.ib_levels.specs.declared.level.Level.TheVariants.{TreeNode}
use Rattle.ib_cursor.specs.Grants.{HasTaken, page_grant}
use Rattle.ib_cursor.specs.Going.{HasSeen}
use Rattle.ib_cursor.proofs.ClaimLaws.{keeps_after}
use Rattle.ib_cursor.proofs.LatchingLaws.{latched_by}
use Rattle.ib_cursor.proofs.RefusalLaws.{few_same}
use Rattle.ib_cursor.proofs.try_latch.try_page.Goals as goal

pub returns-clause-latched : goal.returns-clause-latched
returns-clause-latched g c =
    let key = c.args.mtr.now.latches.now.sizes in
    let p = c.args.mtr.now.pass.now in let q = c.try_take.new.mtr.pass.now in let r = c.look.new.mtr.pass.now in
    let taken = subst (λ (l : Latch). HasTaken (record { latch = l.0; mode = c.args.mode; level = TreeNode }) p q) c.page.ensures c.in_ok-try_take.ensures.taken in
    let same = ap (λ m. m.now.sizes) c.try_take.ensures.still.latches in
    latched_by key (g.L.Law.lawful key.pages) (page_grant c.args.page c.args.mode) p q r taken
    (subst (λ k. HasSeen k (g.L.Law.lawful k.pages) q r) same c.look.ensures.looked_on.seen)
    c.look.ensures.memo c.look.ensures.session c.look.ensures.grants c.look.ensures.work

pub returns-clause-keeps : goal.returns-clause-keeps
returns-clause-keeps g c =
    keeps_after c.args.mtr.now.pass.now c.try_take.new.mtr.pass.now c.look.new.mtr.pass.now c.in_ok-try_take.ensures.taken.taken.memory c.look.ensures.looked_on.keeps

pub returns-clause-few : goal.returns-clause-few
returns-clause-few g c = few_same 0 c.args.mtr.now.pass.now.view c.try_take.new.mtr.pass.now.view c.look.new.mtr.pass.now.view c.look.ensures.looks c.look.ensures.grants c.in_ok-try_take.ensures.few
