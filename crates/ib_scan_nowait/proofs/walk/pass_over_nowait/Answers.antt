-- The next leaf is tried, and loaded where it was had.
use Rattle.std.proofs.Common.{◌<◌, ◌+◌, ◌∙◌, ℕ, sym, ap, subst, arith}
use Rattle.ib_levels.specs.declared.latch.Latch.{Latch}
use Rattle.ib_levels.specs.declared.level.Level.TheVariants.{TreeNode}
use Rattle.ib_levels.specs.declared.level.Mode.TheVariants.{S}
use Rattle.ib_layout.specs.Geometry.{Sizes}
use Rattle.ib_layout.specs.Places.{latches_of}
use Rattle.ib_core.specs.Holders.{CanWish}
use Rattle.ib_logrec.specs.Log.{by_place}
use Rattle.ib_page.specs.Image.{next_of}
use Rattle.ib_rule.specs.Conditions.{MayGrow}
use Rattle.ib_rule.specs.Pass.{PassState}
use Rattle.ib_cursor.specs.Grants.{page_grant, HasTaken}
use Rattle.ib_cursor.specs.Going.{HasSeen}
use Rattle.ib_cursor.specs.Descent.{HasPage}
use Rattle.ib_cursor.specs.Refusals.{AreFewLooks, IsVainTry}
use Rattle.ib_cursor.proofs.PageLaws.{few_pages}
use Rattle.ib_cursor.proofs.RefusalLaws.{few_same}
use Rattle.ib_scan.proofs.PassLaws.{most_pages, next_inside, empty_now, may_take, may_have, passed_over}
use Rattle.ib_scan_nowait.proofs.NextLaws.{next_refused}
use Rattle.ib_scan_nowait.proofs.walk.pass_over_nowait.Goals as goal

pub page-requires : goal.page-requires
page-requires g c =
    let sizes : Sizes = c.args.mtr.now.latches.now.sizes in let p : PassState = c.args.mtr.now.pass.now in let h = c.requires.may in
    few_pages sizes.pages c.args.next c.facts_of_trees.ensures.space (subst (λ (n : ℕ). n < sizes.pages) (sym h.link)
    (next_inside sizes g.L.Trees.ROOTS (g.L.Law.lawful sizes.pages) (by_place g.L.Law.opening sizes.pages) c.facts_of_trees.ensures.laws h.root h.start h.ps h.last p h.scans h.skipped.some))

pub try_take-requires-clause-may : goal.try_take-requires-clause-may
try_take-requires-clause-may g c =
    let sizes : Sizes = c.args.mtr.now.latches.now.sizes in let p : PassState = c.args.mtr.now.pass.now in let h = c.requires.may in
    let inside = next_inside sizes g.L.Trees.ROOTS (g.L.Law.lawful sizes.pages) (by_place g.L.Law.opening sizes.pages) c.facts_of_trees.ensures.laws h.root h.start h.ps h.last p h.scans h.skipped.some in
    let link = h.link in
    let empty = c.forget.ensures.forgotten ∙ empty_now sizes g.L.Trees.ROOTS (g.L.Law.lawful sizes.pages) (by_place g.L.Law.opening sizes.pages) c.facts_of_trees.ensures.laws h.root h.start h.ps h.last p h.scans c.args.leaf h.here in
    let may = may_take sizes g.L.Trees.ROOTS (g.L.Law.lawful sizes.pages) (by_place g.L.Law.opening sizes.pages) c.facts_of_trees.ensures.laws h.root h.start h.ps h.last p h.scans h.skipped.some in
    record {
      own = c.forget.ensures.still.mtr.own;
      latch = subst (λ (s : Sizes). c.page.result.0 < latches_of s) (sym (ap (λ m. m.now.sizes) c.forget.ensures.still.latches)) (subst (λ (l : Latch). l.0 < sizes.pages + 2) (sym c.page.ensures) (omega arith));
      grows = subst (λ (q : PassState). MayGrow q.view) (sym empty)
          (may_have sizes g.L.Trees.ROOTS (g.L.Law.lawful sizes.pages) (by_place g.L.Law.opening sizes.pages) c.facts_of_trees.ensures.laws h.root h.start h.ps h.last p h.scans h.skipped.some (most_pages sizes.pages c.facts_of_trees.ensures.space) h.room);
      may = subst (λ (l : Latch). CanWish l.0 TreeNode c.forget.new.self.pass.now.view.session) (sym (c.page.ensures ∙ ap (λ (n : ℕ). let l : Latch = record { 0 = n + 2 } in l) h.link))
          (subst (λ (q : PassState). CanWish (next_of h.last.image + 2) TreeNode q.view.session) (sym empty) may);
    }

pub read-requires-clause-page : goal.read-requires-clause-page
read-requires-clause-page g c =
    let sizes : Sizes = c.args.mtr.now.latches.now.sizes in let p : PassState = c.args.mtr.now.pass.now in let h = c.requires.may in
    subst (λ (s : Sizes). c.args.next < s.pages) (sym (ap (λ m. m.now.sizes) (c.try_take.ensures.still.latches ∙ c.forget.ensures.still.latches))) (subst (λ (n : ℕ). n < sizes.pages) (sym h.link)
    (next_inside sizes g.L.Trees.ROOTS (g.L.Law.lawful sizes.pages) (by_place g.L.Law.opening sizes.pages) c.facts_of_trees.ensures.laws h.root h.start h.ps h.last p h.scans h.skipped.some))

pub returns-in-Ok-clause-passed : goal.returns-in-Ok-clause-passed
returns-in-Ok-clause-passed g c = λ h.
    let sizes : Sizes = c.args.mtr.now.latches.now.sizes in let p : PassState = c.args.mtr.now.pass.now in
    let q : PassState = c.try_take.new.mtr.pass.now in let r : PassState = c.read.new.mtr.pass.now in
    let empty = c.forget.ensures.forgotten ∙ empty_now sizes g.L.Trees.ROOTS (g.L.Law.lawful sizes.pages) (by_place g.L.Law.opening sizes.pages) c.facts_of_trees.ensures.laws h.root h.start h.ps h.last p h.scans c.args.leaf h.here in
    let same = ap (λ m. m.now.sizes) (c.try_take.ensures.still.latches ∙ c.forget.ensures.still.latches) in
    let on = subst (λ (l : Latch). HasTaken (record { latch = l.0; mode = S; level = TreeNode }) c.forget.new.self.pass.now q) (c.page.ensures ∙ ap (λ (n : ℕ). let l : Latch = record { 0 = n + 2 } in l) h.link) c.in-Ok.ensures.taken in
    let taken = subst (λ (o : PassState). HasTaken (page_grant (next_of h.last.image) S) o q) empty on in
    let seen = subst (λ (k : Sizes). HasSeen k (g.L.Law.lawful k.pages) q r) same c.read.ensures.looked_on.seen in
    let page = subst (λ (n : ℕ). HasPage (by_place g.L.Law.opening sizes.pages) n q r) h.link (subst (λ (k : Sizes). HasPage (by_place g.L.Law.opening k.pages) c.args.next q r) same c.read.ensures.loaded) in
    passed_over sizes g.L.Trees.ROOTS (g.L.Law.lawful sizes.pages) (by_place g.L.Law.opening sizes.pages) c.facts_of_trees.ensures.laws h.root h.start h.ps h.last p h.scans h.skipped q r taken seen c.read.ensures.memo c.read.ensures.session c.read.ensures.grants page

pub returns-in-Ok-clause-few : goal.returns-in-Ok-clause-few
returns-in-Ok-clause-few g c =
    let q : PassState = c.try_take.new.mtr.pass.now in let r : PassState = c.read.new.mtr.pass.now in
    let few = subst (λ (o : PassState). AreFewLooks 0 o.view q.view) c.forget.ensures.forgotten c.in-Ok.ensures.few in
    few_same 0 c.args.mtr.now.pass.now.view q.view r.view c.read.ensures.looks c.read.ensures.grants few

pub returns-in-Err-clause-refused : goal.returns-in-Err-clause-refused
returns-in-Err-clause-refused g c = λ h.
    let sizes : Sizes = c.args.mtr.now.latches.now.sizes in let p : PassState = c.args.mtr.now.pass.now in
    let o : PassState = c.forget.new.self.pass.now in let q : PassState = c.try_take.new.mtr.pass.now in let f = c.in-Err.fault in
    let empty = c.forget.ensures.forgotten ∙ empty_now sizes g.L.Trees.ROOTS (g.L.Law.lawful sizes.pages) (by_place g.L.Law.opening sizes.pages) c.facts_of_trees.ensures.laws h.root h.start h.ps h.last p h.scans c.args.leaf h.here in
    let vain = subst (λ (k : Sizes). IsVainTry k (g.L.Law.lawful k.pages) S c.page.result.0 f o q) (ap (λ m. m.now.sizes) c.forget.ensures.still.latches) c.in-Err.ensures.vain in
    let on = subst (λ (l : Latch). IsVainTry sizes (g.L.Law.lawful sizes.pages) S l.0 f o q) (c.page.ensures ∙ ap (λ (n : ℕ). let l : Latch = record { 0 = n + 2 } in l) h.link) vain in
    next_refused sizes g.L.Trees.ROOTS (g.L.Law.lawful sizes.pages) (by_place g.L.Law.opening sizes.pages) c.facts_of_trees.ensures.laws h.root h.start h.ps h.last p h.scans h.skipped q f
    (subst (λ (u : PassState). IsVainTry sizes (g.L.Law.lawful sizes.pages) S (next_of h.last.image + 2) f u q) empty on)
