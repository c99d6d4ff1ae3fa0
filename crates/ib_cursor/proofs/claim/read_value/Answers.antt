-- The key's leaf is taken, what it has of the key is read, and it is given up.
use Rattle.std.proofs.Common.{◌≡◌, ◌<◌, ◌∷◌, [], ap, sym, subst, arith, length}
use Rattle.ib_map.specs.Pairs.{value_at}
use Rattle.ib_layout.specs.Geometry.{Sizes}
use Rattle.ib_logrec.specs.Log.{by_place, memory_after}
use Rattle.ib_levels.specs.declared.level.Mode.TheVariants.{S}
use Rattle.ib_rule.specs.Pass.{PassState}
use Rattle.ib_tree.specs.Logs.{pages_after}
use Rattle.ib_cursor.specs.Claims.{claim_grant}
use Rattle.ib_page.specs.Image.{IsTreePage, records_of}
use Rattle.ib_walk.specs.Words.{image_of}
use Rattle.ib_cursor.proofs.GrantLaws.{may_grow}
use Rattle.ib_cursor.proofs.StepLaws.{at_held, at_read}
use Rattle.ib_cursor.proofs.LinkReadLaws.{page_image, leaf_linked, leaf_value, link_read_inside, link_read_may, link_read_at, value_read}
use Rattle.ib_cursor.proofs.claim.read_value.Goals as goal

pub latch_page-requires-clause-page : goal.latch_page-requires-clause-page
latch_page-requires-clause-page g c =
    let sizes : Sizes = c.args.mtr.now.latches.now.sizes in
    link_read_inside sizes g.L.Trees.ROOTS (g.L.Law.lawful sizes.pages) (by_place g.L.Law.opening sizes.pages) c.facts_of_trees.ensures.shapes c.args.sought.root c.requires.sought.some c.requires.sought.there c.args.sought.key c.requires.sought.is_key c.args.leaf 0 c.args.mtr.now.pass.now c.requires.index c.requires.on_path

pub latch_page-requires-clause-grows : goal.latch_page-requires-clause-grows
latch_page-requires-clause-grows g c = may_grow (claim_grant ∷ []) c.args.mtr.now.pass.now c.requires.index.grants c.requires.room (omega arith)

pub latch_page-requires-clause-may : goal.latch_page-requires-clause-may
latch_page-requires-clause-may g c =
    let sizes : Sizes = c.args.mtr.now.latches.now.sizes in
    link_read_may sizes g.L.Trees.ROOTS (g.L.Law.lawful sizes.pages) (by_place g.L.Law.opening sizes.pages) c.facts_of_trees.ensures.shapes c.args.sought.root c.requires.sought.some c.requires.sought.there c.args.sought.key c.requires.sought.is_key c.args.leaf 0 c.args.mtr.now.pass.now c.requires.index c.requires.on_path

pub value_of-value-requires-clause-can : goal.value_of-value-requires-clause-can
value_of-value-requires-clause-can g c =
    let sizes : Sizes = c.args.mtr.now.latches.now.sizes in
    let p : PassState = c.args.mtr.now.pass.now in let q : PassState = c.latch_page.new.mtr.pass.now in
    let keeps = c.latch_page.ensures.keeps c.requires.index.claimed in
    let at = link_read_at sizes g.L.Trees.ROOTS (g.L.Law.lawful sizes.pages) (by_place g.L.Law.opening sizes.pages) c.facts_of_trees.ensures.shapes c.args.sought.root c.requires.sought.some c.requires.sought.there c.args.sought.key c.requires.sought.is_key c.args.leaf 0 p c.requires.index c.requires.on_path q c.latch_page.ensures.latched keeps in
    let same_sizes = ap (λ m. m.now.sizes) c.latch_page.ensures.still.latches in
    let image = page_image sizes g.L.Trees.ROOTS (g.L.Law.lawful sizes.pages) (by_place g.L.Law.opening sizes.pages) c.facts_of_trees.ensures.shapes c.args.sought.root c.requires.sought.some c.requires.sought.there c.args.sought.key c.requires.sought.is_key q.view.memory.seen c.args.leaf 0 at.known.legal at.on_path in
    record {
      mtr = c.latch_page.ensures.still.mtr;
      there = subst (λ (s : Sizes). c.args.leaf < s.pages) (sym same_sizes) image.there;
      held = at_held sizes (g.L.Law.lawful sizes.pages) (by_place g.L.Law.opening sizes.pages) c.args.sought.root c.args.sought.key (claim_grant ∷ []) c.args.leaf 0 S q at;
      watched = at.watched;
    }

pub value_of-value-requires-clause-tree : goal.value_of-value-requires-clause-tree
value_of-value-requires-clause-tree g c =
    let sizes : Sizes = c.args.mtr.now.latches.now.sizes in
    let p : PassState = c.args.mtr.now.pass.now in let q : PassState = c.latch_page.new.mtr.pass.now in
    let keeps = c.latch_page.ensures.keeps c.requires.index.claimed in
    let at = link_read_at sizes g.L.Trees.ROOTS (g.L.Law.lawful sizes.pages) (by_place g.L.Law.opening sizes.pages) c.facts_of_trees.ensures.shapes c.args.sought.root c.requires.sought.some c.requires.sought.there c.args.sought.key c.requires.sought.is_key c.args.leaf 0 p c.requires.index c.requires.on_path q c.latch_page.ensures.latched keeps in
    let same_sizes = ap (λ m. m.now.sizes) c.latch_page.ensures.still.latches in
    let image = page_image sizes g.L.Trees.ROOTS (g.L.Law.lawful sizes.pages) (by_place g.L.Law.opening sizes.pages) c.facts_of_trees.ensures.shapes c.args.sought.root c.requires.sought.some c.requires.sought.there c.args.sought.key c.requires.sought.is_key q.view.memory.seen c.args.leaf 0 at.known.legal at.on_path in
    subst (λ (s : Sizes). IsTreePage (image_of (memory_after (by_place g.L.Law.opening s.pages) q.view.memory.seen) c.args.leaf)) (sym same_sizes) image.image.tree

pub release_at-requires-clause-at : goal.release_at-requires-clause-at
release_at-requires-clause-at g c =
    let sizes : Sizes = c.args.mtr.now.latches.now.sizes in
    let p : PassState = c.args.mtr.now.pass.now in let q : PassState = c.latch_page.new.mtr.pass.now in let r : PassState = c.value_of-value.new.mtr.pass.now in
    let keeps = c.latch_page.ensures.keeps c.requires.index.claimed in
    let at = link_read_at sizes g.L.Trees.ROOTS (g.L.Law.lawful sizes.pages) (by_place g.L.Law.opening sizes.pages) c.facts_of_trees.ensures.shapes c.args.sought.root c.requires.sought.some c.requires.sought.there c.args.sought.key c.requires.sought.is_key c.args.leaf 0 p c.requires.index c.requires.on_path q c.latch_page.ensures.latched keeps in
    let there = at_read sizes (g.L.Law.lawful sizes.pages) (by_place g.L.Law.opening sizes.pages) c.args.sought.root c.args.sought.key (claim_grant ∷ []) c.args.leaf 0 S q r at c.value_of-value.ensures.read in
    let l = ap length there.grants.memo in omega arith

pub returns-clause-value_read : goal.returns-clause-value_read
returns-clause-value_read g c =
    let sizes : Sizes = c.args.mtr.now.latches.now.sizes in
    let p : PassState = c.args.mtr.now.pass.now in let q : PassState = c.latch_page.new.mtr.pass.now in let r : PassState = c.value_of-value.new.mtr.pass.now in
    let keeps = c.latch_page.ensures.keeps c.requires.index.claimed in
    let at = link_read_at sizes g.L.Trees.ROOTS (g.L.Law.lawful sizes.pages) (by_place g.L.Law.opening sizes.pages) c.facts_of_trees.ensures.shapes c.args.sought.root c.requires.sought.some c.requires.sought.there c.args.sought.key c.requires.sought.is_key c.args.leaf 0 p c.requires.index c.requires.on_path q c.latch_page.ensures.latched keeps in
    let same_sizes = ap (λ m. m.now.sizes) c.latch_page.ensures.still.latches in
    let value = c.value_of-value.result in
    let link = (pages_after (by_place g.L.Law.opening sizes.pages) r.view.memory.seen c.args.leaf).prev in
    let linked = leaf_linked sizes g.L.Trees.ROOTS (g.L.Law.lawful sizes.pages) (by_place g.L.Law.opening sizes.pages) c.facts_of_trees.ensures.shapes c.args.sought.root c.requires.sought.some c.requires.sought.there c.args.sought.key c.requires.sought.is_key c.args.leaf q r at keeps.claimed c.value_of-value.ensures.read in
    let is = subst (λ (s : Sizes). value ≡ value_at c.args.sought.key (records_of (image_of (memory_after (by_place g.L.Law.opening s.pages) q.view.memory.seen) c.args.leaf))) same_sizes c.value_of-value.ensures.value in
    value_read sizes g.L.Trees.ROOTS (g.L.Law.lawful sizes.pages) (by_place g.L.Law.opening sizes.pages) c.facts_of_trees.ensures.shapes c.args.sought.root c.requires.sought.some c.requires.sought.there c.args.sought.key c.requires.sought.is_key c.args.leaf 0 p c.requires.index c.requires.on_path q c.latch_page.ensures.latched keeps link r c.release_at.new.self.pass.now linked c.release_at.ensures.released
    value (leaf_value sizes g.L.Trees.ROOTS (g.L.Law.lawful sizes.pages) (by_place g.L.Law.opening sizes.pages) c.facts_of_trees.ensures.shapes c.args.sought.root c.requires.sought.some c.requires.sought.there c.args.sought.key c.requires.sought.is_key c.args.leaf value q r at c.value_of-value.ensures.read is)
