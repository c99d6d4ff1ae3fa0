-- A page of the path is tried, read, and given up.
use Rattle.std.proofs.Common.{◌≡◌, ◌<◌, ℕ, ◌∷◌, [], ◌∙◌, ap, sym, subst, arith, length}
use Rattle.ib_layout.specs.Geometry.{Sizes}
use Rattle.ib_logrec.specs.Log.{by_place, memory_after}
use Rattle.ib_levels.specs.declared.level.Mode.TheVariants.{S}
use Rattle.ib_rule.specs.Pass.{PassState}
use Rattle.ib_cursor.specs.Claims.{claim_grant}
use Rattle.ib_page.specs.Image.{IsTreePage, level_of}
use Rattle.ib_walk.specs.Words.{image_of}
use Rattle.ib_cursor.specs.Descent.{IsAt}
use Rattle.ib_cursor.specs.Shapes.{NamesLink, HasReadLink, is_claimed}
use Rattle.ib_cursor.proofs.GrantLaws.{may_grow}
use Rattle.ib_cursor.proofs.StepLaws.{at_held, at_read}
use Rattle.ib_cursor.proofs.LinkReadLaws.{page_image, link_read_inside, link_read_may, link_read_at, link_read, link_read_linked, keeps_on_path}
use Rattle.ib_cursor.proofs.RefusalLaws.{few_read, few_released, few_same}
use Rattle.ib_cursor.proofs.nowait_claim.try_link.Goals as goal

pub try_page-requires-clause-page : goal.try_page-requires-clause-page
try_page-requires-clause-page g c =
    let sizes : Sizes = c.args.mtr.now.latches.now.sizes in
    link_read_inside sizes g.L.Trees.ROOTS (g.L.Law.lawful sizes.pages) (by_place g.L.Law.opening sizes.pages) c.facts_of_trees.ensures.shapes c.args.sought.root c.requires.sought.some c.requires.sought.there c.args.sought.key c.requires.sought.is_key c.args.page c.requires.on_path.0 c.args.mtr.now.pass.now c.requires.index c.requires.on_path.1

pub try_page-requires-clause-grows : goal.try_page-requires-clause-grows
try_page-requires-clause-grows g c = may_grow (claim_grant ∷ []) c.args.mtr.now.pass.now c.requires.index.grants c.requires.room (omega arith)

pub try_page-requires-clause-may : goal.try_page-requires-clause-may
try_page-requires-clause-may g c =
    let sizes : Sizes = c.args.mtr.now.latches.now.sizes in
    link_read_may sizes g.L.Trees.ROOTS (g.L.Law.lawful sizes.pages) (by_place g.L.Law.opening sizes.pages) c.facts_of_trees.ensures.shapes c.args.sought.root c.requires.sought.some c.requires.sought.there c.args.sought.key c.requires.sought.is_key c.args.page c.requires.on_path.0 c.args.mtr.now.pass.now c.requires.index c.requires.on_path.1

pub level_of-level-requires-clause-can : goal.level_of-level-requires-clause-can
level_of-level-requires-clause-can g c =
    let sizes : Sizes = c.args.mtr.now.latches.now.sizes in
    let p : PassState = c.args.mtr.now.pass.now in let q : PassState = c.try_page.new.mtr.pass.now in
    let n : ℕ = c.requires.on_path.0 in
    let keeps = c.in-Ok.ensures.keeps c.requires.index.claimed in
    let at = link_read_at sizes g.L.Trees.ROOTS (g.L.Law.lawful sizes.pages) (by_place g.L.Law.opening sizes.pages) c.facts_of_trees.ensures.shapes c.args.sought.root c.requires.sought.some c.requires.sought.there c.args.sought.key c.requires.sought.is_key c.args.page n p c.requires.index c.requires.on_path.1 q c.in-Ok.ensures.latched keeps in
    let same_sizes = ap (λ m. m.now.sizes) c.try_page.ensures.still.latches in
    let image = page_image sizes g.L.Trees.ROOTS (g.L.Law.lawful sizes.pages) (by_place g.L.Law.opening sizes.pages) c.facts_of_trees.ensures.shapes c.args.sought.root c.requires.sought.some c.requires.sought.there c.args.sought.key c.requires.sought.is_key q.view.memory.seen c.args.page n at.known.legal at.on_path in
    record {
      mtr = c.try_page.ensures.still.mtr;
      there = subst (λ (s : Sizes). c.args.page < s.pages) (sym same_sizes) image.there;
      held = at_held sizes (g.L.Law.lawful sizes.pages) (by_place g.L.Law.opening sizes.pages) c.args.sought.root c.args.sought.key (claim_grant ∷ []) c.args.page n S q at;
      watched = at.watched;
    }

pub level_of-level-requires-clause-tree : goal.level_of-level-requires-clause-tree
level_of-level-requires-clause-tree g c =
    let sizes : Sizes = c.args.mtr.now.latches.now.sizes in
    let p : PassState = c.args.mtr.now.pass.now in let q : PassState = c.try_page.new.mtr.pass.now in
    let n : ℕ = c.requires.on_path.0 in
    let keeps = c.in-Ok.ensures.keeps c.requires.index.claimed in
    let at = link_read_at sizes g.L.Trees.ROOTS (g.L.Law.lawful sizes.pages) (by_place g.L.Law.opening sizes.pages) c.facts_of_trees.ensures.shapes c.args.sought.root c.requires.sought.some c.requires.sought.there c.args.sought.key c.requires.sought.is_key c.args.page n p c.requires.index c.requires.on_path.1 q c.in-Ok.ensures.latched keeps in
    let same_sizes = ap (λ m. m.now.sizes) c.try_page.ensures.still.latches in
    let image = page_image sizes g.L.Trees.ROOTS (g.L.Law.lawful sizes.pages) (by_place g.L.Law.opening sizes.pages) c.facts_of_trees.ensures.shapes c.args.sought.root c.requires.sought.some c.requires.sought.there c.args.sought.key c.requires.sought.is_key q.view.memory.seen c.args.page n at.known.legal at.on_path in
    subst (λ (s : Sizes). IsTreePage (image_of (memory_after (by_place g.L.Law.opening s.pages) c.try_page.new.mtr.pass.now.view.memory.seen) c.args.page)) (sym same_sizes) image.image.tree

pub link_here-link-requires-clause-at : goal.link_here-link-requires-clause-at
link_here-link-requires-clause-at g c =
    let sizes : Sizes = c.args.mtr.now.latches.now.sizes in
    let p : PassState = c.args.mtr.now.pass.now in let q : PassState = c.try_page.new.mtr.pass.now in
    let n : ℕ = c.requires.on_path.0 in
    let keeps = c.in-Ok.ensures.keeps c.requires.index.claimed in
    let at = link_read_at sizes g.L.Trees.ROOTS (g.L.Law.lawful sizes.pages) (by_place g.L.Law.opening sizes.pages) c.facts_of_trees.ensures.shapes c.args.sought.root c.requires.sought.some c.requires.sought.there c.args.sought.key c.requires.sought.is_key c.args.page n p c.requires.index c.requires.on_path.1 q c.in-Ok.ensures.latched keeps in
    let same_sizes = ap (λ m. m.now.sizes) c.try_page.ensures.still.latches in
    let image = page_image sizes g.L.Trees.ROOTS (g.L.Law.lawful sizes.pages) (by_place g.L.Law.opening sizes.pages) c.facts_of_trees.ensures.shapes c.args.sought.root c.requires.sought.some c.requires.sought.there c.args.sought.key c.requires.sought.is_key q.view.memory.seen c.args.page n at.known.legal at.on_path in
    let level : c.level_of-level.result ≡ level_of (image_of (memory_after (by_place g.L.Law.opening sizes.pages) q.view.memory.seen) c.args.page) =
    subst (λ (s : Sizes). c.level_of-level.result ≡ level_of (image_of (memory_after (by_place g.L.Law.opening s.pages) c.try_page.new.mtr.pass.now.view.memory.seen) c.args.page)) same_sizes c.level_of-level.ensures.level in
    let r : PassState = c.level_of-level.new.mtr.pass.now in
    let there : IsAt sizes (g.L.Law.lawful sizes.pages) (by_place g.L.Law.opening sizes.pages) c.args.sought.root c.args.sought.key (claim_grant ∷ []) c.args.page c.level_of-level.result S r =
    at_read sizes (g.L.Law.lawful sizes.pages) (by_place g.L.Law.opening sizes.pages) c.args.sought.root c.args.sought.key (claim_grant ∷ []) c.args.page c.level_of-level.result S q r
    (subst (λ k. IsAt sizes (g.L.Law.lawful sizes.pages) (by_place g.L.Law.opening sizes.pages) c.args.sought.root c.args.sought.key (claim_grant ∷ []) c.args.page k S q) (sym image.height ∙ sym level) at) c.level_of-level.ensures.read in
    let both = ap (λ m. m.now.sizes) (c.level_of-level.ensures.still.latches ∙ c.try_page.ensures.still.latches) in
    subst (λ (s : Sizes). IsAt s (g.L.Law.lawful s.pages) (by_place g.L.Law.opening s.pages) c.args.sought.root c.args.sought.key (claim_grant ∷ []) c.args.page c.level_of-level.result S r) (sym both) there

pub link_here-link-requires-clause-claimed : goal.link_here-link-requires-clause-claimed
link_here-link-requires-clause-claimed g c = ap (λ (r : PassState). is_claimed r.view.memory.since) c.level_of-level.ensures.read.same ∙ (c.in-Ok.ensures.keeps c.requires.index.claimed).claimed

pub release_at-requires-clause-at : goal.release_at-requires-clause-at
release_at-requires-clause-at g c = let l = ap length c.link_here-link.ensures.linked.at.grants.memo in omega arith

pub returns-clause-link_read : goal.returns-clause-link_read
returns-clause-link_read g c =
    let sizes : Sizes = c.args.mtr.now.latches.now.sizes in
    let p : PassState = c.args.mtr.now.pass.now in let q : PassState = c.try_page.new.mtr.pass.now in
    let n : ℕ = c.requires.on_path.0 in
    let keeps = c.in-Ok.ensures.keeps c.requires.index.claimed in
    let at = link_read_at sizes g.L.Trees.ROOTS (g.L.Law.lawful sizes.pages) (by_place g.L.Law.opening sizes.pages) c.facts_of_trees.ensures.shapes c.args.sought.root c.requires.sought.some c.requires.sought.there c.args.sought.key c.requires.sought.is_key c.args.page n p c.requires.index c.requires.on_path.1 q c.in-Ok.ensures.latched keeps in
    let same_sizes = ap (λ m. m.now.sizes) c.try_page.ensures.still.latches in
    let image = page_image sizes g.L.Trees.ROOTS (g.L.Law.lawful sizes.pages) (by_place g.L.Law.opening sizes.pages) c.facts_of_trees.ensures.shapes c.args.sought.root c.requires.sought.some c.requires.sought.there c.args.sought.key c.requires.sought.is_key q.view.memory.seen c.args.page n at.known.legal at.on_path in
    let level : c.level_of-level.result ≡ level_of (image_of (memory_after (by_place g.L.Law.opening sizes.pages) q.view.memory.seen) c.args.page) =
    subst (λ (s : Sizes). c.level_of-level.result ≡ level_of (image_of (memory_after (by_place g.L.Law.opening s.pages) c.try_page.new.mtr.pass.now.view.memory.seen) c.args.page)) same_sizes c.level_of-level.ensures.level in
    let r : PassState = c.level_of-level.new.mtr.pass.now in
    let there : IsAt sizes (g.L.Law.lawful sizes.pages) (by_place g.L.Law.opening sizes.pages) c.args.sought.root c.args.sought.key (claim_grant ∷ []) c.args.page c.level_of-level.result S r =
    at_read sizes (g.L.Law.lawful sizes.pages) (by_place g.L.Law.opening sizes.pages) c.args.sought.root c.args.sought.key (claim_grant ∷ []) c.args.page c.level_of-level.result S q r
    (subst (λ k. IsAt sizes (g.L.Law.lawful sizes.pages) (by_place g.L.Law.opening sizes.pages) c.args.sought.root c.args.sought.key (claim_grant ∷ []) c.args.page k S q) (sym image.height ∙ sym level) at) c.level_of-level.ensures.read in
    let both = ap (λ m. m.now.sizes) (c.level_of-level.ensures.still.latches ∙ c.try_page.ensures.still.latches) in
    let s : PassState = c.link_here-link.new.mtr.pass.now in
    let linked = subst (λ (k : Sizes). NamesLink k (g.L.Law.lawful k.pages) (by_place g.L.Law.opening k.pages) c.args.sought.root c.args.sought.key c.args.page c.level_of-level.result c.link_here-link.result r s) both c.link_here-link.ensures.linked in
    let here = subst (λ k. (NamesLink sizes (g.L.Law.lawful sizes.pages) (by_place g.L.Law.opening sizes.pages) c.args.sought.root c.args.sought.key c.args.page k c.link_here-link.result q s)) (level ∙ image.height)
    (link_read_linked sizes (g.L.Law.lawful sizes.pages) (by_place g.L.Law.opening sizes.pages) c.args.sought.root c.args.sought.key c.args.page c.level_of-level.result c.link_here-link.result q r s keeps.claimed c.level_of-level.ensures.read linked) in
    subst (λ k. HasReadLink sizes (g.L.Law.lawful sizes.pages) (by_place g.L.Law.opening sizes.pages) c.args.sought.root c.args.sought.key c.args.page k c.link_here-link.result p c.release_at.new.self.pass.now) (sym image.height ∙ sym level)
    (link_read sizes g.L.Trees.ROOTS (g.L.Law.lawful sizes.pages) (by_place g.L.Law.opening sizes.pages) c.facts_of_trees.ensures.shapes c.args.sought.root c.requires.sought.some c.requires.sought.there c.args.sought.key c.requires.sought.is_key c.args.page n p c.requires.index c.requires.on_path.1 q c.in-Ok.ensures.latched keeps c.link_here-link.result s c.release_at.new.self.pass.now here c.release_at.ensures.released)

pub returns-clause-few : goal.returns-clause-few
returns-clause-few g c =
    let p : PassState = c.args.mtr.now.pass.now in let q : PassState = c.try_page.new.mtr.pass.now in let r : PassState = c.level_of-level.new.mtr.pass.now in let s : PassState = c.link_here-link.new.mtr.pass.now in
    few_released 0 1 p s c.release_at.new.self.pass.now c.release_at.ensures.released
    (few_same 0 p.view r.view s.view c.link_here-link.ensures.looks c.link_here-link.ensures.linked.grants (few_read 0 p q r c.level_of-level.ensures.read c.in-Ok.ensures.few))

pub returns-in-Err-clause-vain : goal.returns-in-Err-clause-vain
returns-in-Err-clause-vain g c =
    let sizes : Sizes = c.args.mtr.now.latches.now.sizes in
    let p : PassState = c.args.mtr.now.pass.now in let q : PassState = c.try_page.new.mtr.pass.now in
    let vain = c.in-Err.ensures.vain in (
      c.requires.on_path.0,
      record {
        vain = vain;
        on_path = keeps_on_path sizes g.L.Trees.ROOTS (g.L.Law.lawful sizes.pages) (by_place g.L.Law.opening sizes.pages) c.facts_of_trees.ensures.shapes c.args.sought.root c.requires.sought.some c.requires.sought.there c.args.sought.key c.requires.sought.is_key p q vain.looked_on.seen.known (vain.looked_on.keeps c.requires.index.claimed) c.args.page c.requires.on_path.0 c.requires.on_path.1;
      },
    )
