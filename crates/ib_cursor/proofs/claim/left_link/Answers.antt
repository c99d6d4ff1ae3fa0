-- The leaf is loaded, its link read, and the leaf forgotten.
use Rattle.std.proofs.Common.{◌∷◌, [], ◌∙◌, ap, arith, length}
use Rattle.ib_layout.specs.Geometry.{Sizes}
use Rattle.ib_logrec.specs.Log.{by_place}
use Rattle.ib_levels.specs.declared.level.Mode.TheVariants.{S}
use Rattle.ib_cursor.specs.Claims.{claim_grant}
use Rattle.ib_page.specs.Work.{changed_of}
use Rattle.ib_rule.specs.Pass.{PassState}
use Rattle.ib_cursor.proofs.LinkReadLaws.{page_image, left_loaded, left_formed, left_linked}
use Rattle.ib_cursor.proofs.StepLaws.{at_held}
use Rattle.ib_cursor.proofs.claim.left_link.Goals as goal

pub read-requires-clause-page : goal.read-requires-clause-page
read-requires-clause-page g c =
    let sizes : Sizes = c.args.mtr.now.latches.now.sizes in
    (page_image sizes g.L.Trees.ROOTS (g.L.Law.lawful sizes.pages) (by_place g.L.Law.opening sizes.pages) c.facts_of_trees.ensures.shapes c.args.sought.root c.requires.sought.some c.requires.sought.there c.args.sought.key c.requires.sought.is_key c.args.mtr.now.pass.now.view.memory.seen c.args.leaf 0 c.requires.at.known.legal c.requires.at.on_path).there

pub read-requires-clause-held : goal.read-requires-clause-held
read-requires-clause-held g c =
    let sizes : Sizes = c.args.mtr.now.latches.now.sizes in
    at_held sizes (g.L.Law.lawful sizes.pages) (by_place g.L.Law.opening sizes.pages) c.args.sought.root c.args.sought.key (claim_grant ∷ []) c.args.leaf 0 S c.args.mtr.now.pass.now c.requires.at

pub read-requires-clause-absent : goal.read-requires-clause-absent
read-requires-clause-absent g c = ap (changed_of c.args.leaf) c.requires.at.work

pub read-requires-clause-few : goal.read-requires-clause-few
read-requires-clause-few g c = let none = ap length c.requires.at.work in omega arith

pub left_of-left-requires-clause-loaded : goal.left_of-left-requires-clause-loaded
left_of-left-requires-clause-loaded g c =
    let sizes : Sizes = c.args.mtr.now.latches.now.sizes in
    let p = c.args.mtr.now.pass.now in let q = c.read.new.mtr.pass.now in
    let l = c.read.ensures in
    (l.loaded.image, left_loaded sizes g.L.Trees.ROOTS (g.L.Law.lawful sizes.pages) (by_place g.L.Law.opening sizes.pages) c.facts_of_trees.ensures.shapes c.args.sought.root c.requires.sought.some c.requires.sought.there c.args.sought.key c.requires.sought.is_key c.args.leaf p q c.requires.at c.requires.claimed l.looked_on l.memo l.session l.grants l.loaded, left_formed sizes g.L.Trees.ROOTS (g.L.Law.lawful sizes.pages) (by_place g.L.Law.opening sizes.pages) c.facts_of_trees.ensures.shapes c.args.sought.root c.requires.sought.some c.requires.sought.there c.args.sought.key c.requires.sought.is_key c.args.leaf p q c.requires.at c.requires.claimed l.looked_on l.memo l.session l.grants l.loaded)

pub returns-clause-linked : goal.returns-clause-linked
returns-clause-linked g c =
    let sizes : Sizes = c.args.mtr.now.latches.now.sizes in
    let p = c.args.mtr.now.pass.now in let q = c.read.new.mtr.pass.now in
    let l = c.read.ensures in
    left_linked sizes g.L.Trees.ROOTS (g.L.Law.lawful sizes.pages) (by_place g.L.Law.opening sizes.pages) c.facts_of_trees.ensures.shapes c.args.sought.root c.requires.sought.some c.requires.sought.there c.args.sought.key c.requires.sought.is_key c.args.leaf p q c.requires.at c.requires.claimed l.looked_on l.memo l.session l.grants l.loaded c.left_of-left.result c.forget.new.self.pass.now
    (c.left_of-left.ensures l.loaded.image (left_loaded sizes g.L.Trees.ROOTS (g.L.Law.lawful sizes.pages) (by_place g.L.Law.opening sizes.pages) c.facts_of_trees.ensures.shapes c.args.sought.root c.requires.sought.some c.requires.sought.there c.args.sought.key c.requires.sought.is_key c.args.leaf p q c.requires.at c.requires.claimed l.looked_on l.memo l.session l.grants l.loaded)) c.forget.ensures.forgotten

pub returns-clause-looks : goal.returns-clause-looks
returns-clause-looks g c = ap (λ (r : PassState). r.view.looks) c.forget.ensures.forgotten ∙ c.read.ensures.looks
