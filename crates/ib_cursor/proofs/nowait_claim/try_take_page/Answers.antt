-- The page is tried, and then loaded.
use Rattle.std.proofs.Common.{◌∙◌, ◌∷◌, ap, sym, subst, arith}
use Rattle.std.proofs.lemmas.List.{length-map}
use Rattle.ib_layout.specs.Geometry.{Sizes}
use Rattle.ib_levels.specs.declared.latch.Latch.{Latch}
use Rattle.ib_levels.specs.declared.level.Level.TheVariants.{TreeNode}
use Rattle.ib_levels.specs.declared.level.Mode.TheVariants.{X}
use Rattle.ib_logrec.specs.Log.{by_place}
use Rattle.ib_page.specs.Work.{changed_of}
use Rattle.ib_rule.specs.Pass.{PassState}
use Rattle.ib_rule.specs.Takes.{MayTake}
use Rattle.ib_cursor.specs.Claims.{claim_grant}
use Rattle.ib_cursor.specs.Descent.{HasPage}
use Rattle.ib_cursor.specs.Grants.{HasTaken, page_grant}
use Rattle.ib_cursor.specs.Shapes.{HasLookedOn}
use Rattle.ib_cursor.specs.Takings.{page_grants}
use Rattle.ib_cursor.proofs.GrantLaws.{may_grow}
use Rattle.ib_cursor.proofs.TakeLaws.{page_may, page_absent, page_taken}
use Rattle.ib_cursor.specs.Refusals.{IsVainTry}
use Rattle.ib_cursor.proofs.RefusalLaws.{few_same}
use Rattle.ib_cursor.proofs.TakeRefusalLaws.{page_behind}
use Rattle.ib_cursor.proofs.nowait_claim.try_take_page.Goals as goal

pub try_take-requires-clause-may : goal.try_take-requires-clause-may
try_take-requires-clause-may g c =
    let space = c.args.mtr.now.latches.now in let p = c.args.mtr.now.pass.now in
    let h = c.requires.holds.1 in
    subst (λ (l : Latch). MayTake space l.0 TreeNode p) (sym c.page.ensures) (record {
      own = c.requires.mtr.own;
      latch = let low = c.requires.page in omega arith;
      grows = may_grow (claim_grant ∷ page_grants c.requires.holds.0) p h.holds.grants c.requires.room (let f = h.few in let l = length-map c.requires.holds.0 (λ page. page_grant page X) in omega arith);
      may = page_may space.sizes (g.L.Law.lawful space.sizes.pages) (by_place g.L.Law.opening space.sizes.pages) c.requires.holds.0 c.args.page p h;
    })

pub read-requires-clause-absent : goal.read-requires-clause-absent
read-requires-clause-absent g c =
    let sizes : Sizes = c.args.mtr.now.latches.now.sizes in
    ap (λ (r : PassState). changed_of c.args.page r.work) c.in-Ok.ensures.taken.pass ∙ page_absent sizes (g.L.Law.lawful sizes.pages) (by_place g.L.Law.opening sizes.pages) c.requires.holds.0 c.args.page c.args.mtr.now.pass.now c.requires.holds.1

pub returns-in-Ok-clause-taken : goal.returns-in-Ok-clause-taken
returns-in-Ok-clause-taken g c = λ held can.
    let sizes : Sizes = c.args.mtr.now.latches.now.sizes in
    let p = c.args.mtr.now.pass.now in let q = c.try_take.new.mtr.pass.now in let r = c.read.new.mtr.pass.now in
    let taken = subst (λ (l : Latch). HasTaken (record { latch = l.0; mode = X; level = TreeNode }) p q) c.page.ensures c.in-Ok.ensures.taken in
    let same = ap (λ m. m.now.sizes) c.try_take.ensures.still.latches in
    let l = c.read.ensures in
    page_taken sizes (g.L.Law.lawful sizes.pages) (by_place g.L.Law.opening sizes.pages) held c.args.page p can q r c.requires.mtr.held taken (subst (λ (k : Sizes). HasLookedOn k (g.L.Law.lawful k.pages) q r) same l.looked_on) l.memo l.session l.grants
    (subst (λ (k : Sizes). HasPage (by_place g.L.Law.opening k.pages) c.args.page q r) same l.loaded) l.still.mtr.held

pub returns-in-Ok-clause-few : goal.returns-in-Ok-clause-few
returns-in-Ok-clause-few g c = few_same 0 c.args.mtr.now.pass.now.view c.try_take.new.mtr.pass.now.view c.read.new.mtr.pass.now.view c.read.ensures.looks c.read.ensures.grants c.in-Ok.ensures.few

pub returns-in-Err-clause-refused : goal.returns-in-Err-clause-refused
returns-in-Err-clause-refused g c = λ held can.
    let sizes : Sizes = c.args.mtr.now.latches.now.sizes in
    let p = c.args.mtr.now.pass.now in let q = c.try_take.new.mtr.pass.now in let f = c.in-Err.fault in
    let vain = subst (λ (l : Latch). IsVainTry sizes (g.L.Law.lawful sizes.pages) X l.0 f p q) c.page.ensures c.in-Err.ensures.vain in
    page_behind sizes (g.L.Law.lawful sizes.pages) (by_place g.L.Law.opening sizes.pages) held c.args.page f p q can vain
