-- The root is tried behind the index.
use Rattle.std.proofs.Common.{◌≡◌, ◌<◌, true, ◌∷◌, [], ap, sym, subst, ◌∙◌, List}
use Rattle.ib_map.specs.Space.{has_pages}
use Rattle.ib_layout.specs.Geometry.{Sizes}
use Rattle.ib_logrec.specs.declared.entry.Entry.{Entry}
use Rattle.ib_logrec.specs.Log.{by_place, memory_after}
use Rattle.ib_page.specs.Image.{IsTreePage, level_of}
use Rattle.ib_rule.specs.Pass.{PassState}
use Rattle.ib_walk.specs.Trees.{height_of}
use Rattle.ib_walk.specs.Words.{image_of}
use Rattle.ib_tree.specs.Logs.{pages_after}
use Rattle.ib_cursor.specs.Grants.{index_grant}
use Rattle.ib_cursor.specs.Descent.{IsAt}
use Rattle.ib_cursor.proofs.PageLaws.{has_told}
use Rattle.ib_cursor.proofs.LogLaws.{laws_under, root_path}
use Rattle.ib_cursor.proofs.StepLaws.{beside_read, seen_read, at_read, at_held, at_image, root_inside, root_at, root_height}
use Rattle.ib_cursor.proofs.RefusalLaws.{few_read}
use Rattle.ib_cursor.proofs.nowait_descent.try_root_in.Goals as goal

pub try_page-requires-clause-page : goal.try_page-requires-clause-page
try_page-requires-clause-page g c =
    let sizes : Sizes = c.args.mtr.now.latches.now.sizes in
    let has : has_pages sizes.pages ≡ true = has_told c.geometry.ensures c.pages.ensures.pages c.pages.ensures.in_range in
    let laws = laws_under g.L.Law g.L.Trees.ROOTS sizes.pages has g.met.L.Law.begins c.trees_law.ensures.memory g.met.L.Law.stays c.trees_law.ensures.range in
    root_inside sizes g.L.Trees.ROOTS (g.L.Law.lawful sizes.pages) (by_place g.L.Law.opening sizes.pages) laws c.args.sought.root c.requires.sought.some c.requires.sought.there c.args.sought.key c.requires.sought.is_key (g.met.L.Law.empty sizes.pages has)

pub level_of-requires-clause-can : goal.level_of-requires-clause-can
level_of-requires-clause-can g c =
    let sizes : Sizes = c.args.mtr.now.latches.now.sizes in
    let has : has_pages sizes.pages ≡ true = has_told c.geometry.ensures c.pages.ensures.pages c.pages.ensures.in_range in
    let laws = laws_under g.L.Law g.L.Trees.ROOTS sizes.pages has g.met.L.Law.begins c.trees_law.ensures.memory g.met.L.Law.stays c.trees_law.ensures.range in
    let p : PassState = c.args.mtr.now.pass.now in let q : PassState = c.try_page.new.mtr.pass.now in
    let at = root_at sizes g.L.Trees.ROOTS (g.L.Law.lawful sizes.pages) (by_place g.L.Law.opening sizes.pages) laws c.args.sought.root c.requires.sought.some c.requires.sought.there c.args.sought.key c.requires.sought.is_key c.args.mode p q c.requires.index c.requires.none c.in-Ok.ensures.latched in
    let same_sizes = ap (λ m. m.now.sizes) c.try_page.ensures.still.latches in
    record {
      mtr = c.try_page.ensures.still.mtr;
      there = subst (λ (s : Sizes). c.args.sought.root < s.pages) (sym same_sizes) (root_inside sizes g.L.Trees.ROOTS (g.L.Law.lawful sizes.pages) (by_place g.L.Law.opening sizes.pages) laws c.args.sought.root c.requires.sought.some c.requires.sought.there c.args.sought.key c.requires.sought.is_key (g.met.L.Law.empty sizes.pages has));
      held = at_held sizes (g.L.Law.lawful sizes.pages) (by_place g.L.Law.opening sizes.pages) c.args.sought.root c.args.sought.key (index_grant ∷ []) c.args.sought.root _ c.args.mode q at;
      watched = at.watched;
    }

pub level_of-requires-clause-tree : goal.level_of-requires-clause-tree
level_of-requires-clause-tree g c =
    let sizes : Sizes = c.args.mtr.now.latches.now.sizes in
    let has : has_pages sizes.pages ≡ true = has_told c.geometry.ensures c.pages.ensures.pages c.pages.ensures.in_range in
    let laws = laws_under g.L.Law g.L.Trees.ROOTS sizes.pages has g.met.L.Law.begins c.trees_law.ensures.memory g.met.L.Law.stays c.trees_law.ensures.range in
    let p : PassState = c.args.mtr.now.pass.now in let q : PassState = c.try_page.new.mtr.pass.now in
    let at = root_at sizes g.L.Trees.ROOTS (g.L.Law.lawful sizes.pages) (by_place g.L.Law.opening sizes.pages) laws c.args.sought.root c.requires.sought.some c.requires.sought.there c.args.sought.key c.requires.sought.is_key c.args.mode p q c.requires.index c.requires.none c.in-Ok.ensures.latched in
    let same_sizes = ap (λ m. m.now.sizes) c.try_page.ensures.still.latches in
    let image = at_image sizes g.L.Trees.ROOTS (g.L.Law.lawful sizes.pages) (by_place g.L.Law.opening sizes.pages) laws c.args.sought.root c.requires.sought.some c.requires.sought.there c.args.sought.key c.requires.sought.is_key (index_grant ∷ []) c.args.sought.root _ c.args.mode q at in
    subst (λ (s : Sizes). IsTreePage (image_of (memory_after (by_place g.L.Law.opening s.pages) c.try_page.new.mtr.pass.now.view.memory.seen) c.args.sought.root)) (sym same_sizes) image.image.tree

pub returns-in-Ok-clause-here : goal.returns-in-Ok-clause-here
returns-in-Ok-clause-here g c =
    let sizes : Sizes = c.args.mtr.now.latches.now.sizes in
    let has : has_pages sizes.pages ≡ true = has_told c.geometry.ensures c.pages.ensures.pages c.pages.ensures.in_range in
    let laws = laws_under g.L.Law g.L.Trees.ROOTS sizes.pages has g.met.L.Law.begins c.trees_law.ensures.memory g.met.L.Law.stays c.trees_law.ensures.range in
    let p : PassState = c.args.mtr.now.pass.now in let q : PassState = c.try_page.new.mtr.pass.now in
    let at = root_at sizes g.L.Trees.ROOTS (g.L.Law.lawful sizes.pages) (by_place g.L.Law.opening sizes.pages) laws c.args.sought.root c.requires.sought.some c.requires.sought.there c.args.sought.key c.requires.sought.is_key c.args.mode p q c.requires.index c.requires.none c.in-Ok.ensures.latched in
    let r : PassState = c.level_of.new.mtr.pass.now in
    let level : c.level_of.result ≡ level_of (image_of (memory_after (by_place g.L.Law.opening sizes.pages) q.view.memory.seen) c.args.sought.root) =
    subst (λ (s : Sizes). c.level_of.result ≡ level_of (image_of (memory_after (by_place g.L.Law.opening s.pages) c.try_page.new.mtr.pass.now.view.memory.seen) c.args.sought.root)) (ap (λ m. m.now.sizes) c.try_page.ensures.still.latches) c.level_of.ensures.level in
    at_read sizes (g.L.Law.lawful sizes.pages) (by_place g.L.Law.opening sizes.pages) c.args.sought.root c.args.sought.key (index_grant ∷ []) c.args.sought.root c.level_of.result c.args.mode q r
    (subst (λ n. IsAt sizes (g.L.Law.lawful sizes.pages) (by_place g.L.Law.opening sizes.pages) c.args.sought.root c.args.sought.key (index_grant ∷ []) c.args.sought.root n c.args.mode q) (sym level) at)
    c.level_of.ensures.read

pub returns-in-Ok-clause-height : goal.returns-in-Ok-clause-height
returns-in-Ok-clause-height g c =
    let sizes : Sizes = c.args.mtr.now.latches.now.sizes in
    let has : has_pages sizes.pages ≡ true = has_told c.geometry.ensures c.pages.ensures.pages c.pages.ensures.in_range in
    let laws = laws_under g.L.Law g.L.Trees.ROOTS sizes.pages has g.met.L.Law.begins c.trees_law.ensures.memory g.met.L.Law.stays c.trees_law.ensures.range in
    let p : PassState = c.args.mtr.now.pass.now in let q : PassState = c.try_page.new.mtr.pass.now in
    let at = root_at sizes g.L.Trees.ROOTS (g.L.Law.lawful sizes.pages) (by_place g.L.Law.opening sizes.pages) laws c.args.sought.root c.requires.sought.some c.requires.sought.there c.args.sought.key c.requires.sought.is_key c.args.mode p q c.requires.index c.requires.none c.in-Ok.ensures.latched in
    let r : PassState = c.level_of.new.mtr.pass.now in
    let level : c.level_of.result ≡ level_of (image_of (memory_after (by_place g.L.Law.opening sizes.pages) q.view.memory.seen) c.args.sought.root) =
    subst (λ (s : Sizes). c.level_of.result ≡ level_of (image_of (memory_after (by_place g.L.Law.opening s.pages) c.try_page.new.mtr.pass.now.view.memory.seen) c.args.sought.root)) (ap (λ m. m.now.sizes) c.try_page.ensures.still.latches) c.level_of.ensures.level in
    level ∙ (root_height sizes g.L.Trees.ROOTS (g.L.Law.lawful sizes.pages) (by_place g.L.Law.opening sizes.pages) laws c.args.sought.root c.requires.sought.some c.requires.sought.there c.args.sought.key c.requires.sought.is_key c.args.mode p q c.requires.index c.requires.none c.in-Ok.ensures.latched
    ∙ ap (λ (log : List Entry). height_of (pages_after (by_place g.L.Law.opening sizes.pages) log) c.args.sought.root) (sym (beside_read q r c.level_of.ensures.read).seen))

pub returns-in-Ok-clause-seen : goal.returns-in-Ok-clause-seen
returns-in-Ok-clause-seen g c =
    let sizes : Sizes = c.args.mtr.now.latches.now.sizes in
    seen_read sizes (g.L.Law.lawful sizes.pages) c.args.mtr.now.pass.now c.try_page.new.mtr.pass.now c.level_of.new.mtr.pass.now c.in-Ok.ensures.latched.seen c.level_of.ensures.read

pub returns-in-Ok-clause-few : goal.returns-in-Ok-clause-few
returns-in-Ok-clause-few g c = few_read 0 c.args.mtr.now.pass.now c.try_page.new.mtr.pass.now c.level_of.new.mtr.pass.now c.level_of.ensures.read c.in-Ok.ensures.few

pub returns-in-Err-clause-vain : goal.returns-in-Err-clause-vain
returns-in-Err-clause-vain g c =
    let sizes : Sizes = c.args.mtr.now.latches.now.sizes in
    let has : has_pages sizes.pages ≡ true = has_told c.geometry.ensures c.pages.ensures.pages c.pages.ensures.in_range in
    let laws = laws_under g.L.Law g.L.Trees.ROOTS sizes.pages has g.met.L.Law.begins c.trees_law.ensures.memory g.met.L.Law.stays c.trees_law.ensures.range in
    let vain = c.in-Err.ensures.vain in
    (_, record { vain = vain; on_path = root_path sizes.pages g.L.Trees.ROOTS (g.L.Law.lawful sizes.pages) (by_place g.L.Law.opening sizes.pages) laws c.args.sought.root c.requires.sought.some c.requires.sought.there c.args.sought.key c.requires.sought.is_key c.try_page.new.mtr.pass.now.view.memory.seen vain.looked_on.seen.known.legal })
