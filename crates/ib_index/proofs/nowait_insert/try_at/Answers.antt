-- The page is had, and then loaded; or what is held is as it was.
use Rattle.std.proofs.Common.{rules, ◌≡◌, ◌∙◌, ap, sym, subst}
use Rattle.ib_layout.specs.Geometry.{Sizes}
use Rattle.ib_levels.specs.declared.latch.Latch.{Latch}
use Rattle.ib_levels.specs.declared.level.Mode.TheVariants.{X}
use Rattle.ib_core.specs.Holders.{CanWish}
use Rattle.ib_logrec.specs.Log.{by_place}
use Rattle.ib_page.specs.Work.{changed_of}
use Rattle.ib_rule.specs.Pass.{PassState}
use Rattle.ib_tree.specs.TreeLog.{opening}
use Rattle.ib_planned_log.specs.Kept.{IsKeptLog}
use Rattle.ib_cursor.specs.Descent.{HasPage}
use Rattle.ib_cursor.specs.Grants.{HasTaken}
use Rattle.ib_cursor.specs.Refusals.{IsVainTry}
use Rattle.ib_cursor.specs.Shapes.{HasLookedOn}
use Rattle.ib_cursor.proofs.PageLaws.{has_told}
use Rattle.ib_cursor.proofs.RefusalLaws.{few_same}
use Rattle.ib_index.proofs.GrowLaws.{has-grown}
use Rattle.ib_index.proofs.VainLaws.{growing-stays}
use Rattle.ib_index.proofs.nowait_insert.try_at.Goals as goal

pub try_take-requires-clause-may : goal.try_take-requires-clause-may
try_take-requires-clause-may g c = record {
  own = c.requires.mtr.own;
  latch = search rules;
  grows = c.requires.grows;
  may = subst (λ (l : Latch). CanWish l.0 c.args.level c.args.mtr.now.pass.now.view.session) (sym c.page.ensures) c.requires.may;
}

pub read-requires-clause-absent : goal.read-requires-clause-absent
read-requires-clause-absent g c = ap (λ (r : PassState). changed_of c.args.page r.work) c.in-Ok.ensures.taken.pass ∙ c.requires.absent

pub returns-in-Ok-clause-grown : goal.returns-in-Ok-clause-grown
returns-in-Ok-clause-grown g c = λ key path held can other.
    let sizes : Sizes = c.args.mtr.now.latches.now.sizes in
    let p : PassState = c.args.mtr.now.pass.now in let q : PassState = c.try_take.new.mtr.pass.now in let r : PassState = c.read.new.mtr.pass.now in
    let size : c.geometry.result ≡ sizes = c.geometry.ensures in
    let fits = has_told size c.pages.ensures.pages c.pages.ensures.in_range in
    let taken = subst (λ (l : Latch). HasTaken (record { latch = l.0; mode = X; level = c.args.level }) p q) c.page.ensures c.in-Ok.ensures.taken in
    let same = ap (λ m. m.now.sizes) c.try_take.ensures.still.latches in
    let l = c.read.ensures in
    has-grown sizes key path held c.args.page c.args.level p can other fits q r c.requires.page c.requires.mtr.held taken (subst (λ (k : Sizes). HasLookedOn k (IsKeptLog k.pages) q r) same l.looked_on) l.memo l.session l.grants
    (subst (λ (k : Sizes). HasPage (by_place opening k.pages) c.args.page q r) same l.loaded) l.still.mtr.held

pub returns-in-Ok-clause-twice : goal.returns-in-Ok-clause-twice
returns-in-Ok-clause-twice g c =
    few_same 0 c.args.mtr.now.pass.now.view c.try_take.new.mtr.pass.now.view c.read.new.mtr.pass.now.view c.read.ensures.looks c.read.ensures.grants c.in-Ok.ensures.few

pub returns-in-Err-clause-vain : goal.returns-in-Err-clause-vain
returns-in-Err-clause-vain g c =
    let sizes : Sizes = c.args.mtr.now.latches.now.sizes in
    subst (λ (l : Latch). IsVainTry sizes (IsKeptLog sizes.pages) X l.0 c.in-Err.fault c.args.mtr.now.pass.now c.try_take.new.mtr.pass.now) c.page.ensures c.in-Err.ensures.vain

pub returns-in-Err-clause-kept : goal.returns-in-Err-clause-kept
returns-in-Err-clause-kept g c = λ key path held can.
    let sizes : Sizes = c.args.mtr.now.latches.now.sizes in
    let size : c.geometry.result ≡ sizes = c.geometry.ensures in
    let fits = has_told size c.pages.ensures.pages c.pages.ensures.in_range in
    growing-stays sizes fits key path held X c.page.result.0 c.in-Err.fault c.args.mtr.now.pass.now c.try_take.new.mtr.pass.now c.in-Err.ensures.vain c.try_take.ensures.still.mtr.held can
