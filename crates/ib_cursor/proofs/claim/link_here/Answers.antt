-- The child of a node, or the link of a leaf.
use Rattle.std.proofs.Common.{◌∷◌, [], ap, arith}
use Rattle.ib_layout.specs.Geometry.{Sizes}
use Rattle.ib_logrec.specs.Log.{by_place}
use Rattle.ib_levels.specs.declared.level.Mode.TheVariants.{S}
use Rattle.ib_rule.specs.Pass.{PassState}
use Rattle.ib_cursor.specs.Claims.{claim_grant}
use Rattle.ib_cursor.proofs.PageLaws.{few}
use Rattle.ib_cursor.proofs.LinkReadLaws.{page_image, child_linked, child_small}
use Rattle.ib_cursor.proofs.StepLaws.{at_held}
use Rattle.ib_cursor.proofs.claim.link_here.Goals as goal

pub child_of-requires-clause-can : goal.child_of-requires-clause-can
child_of-requires-clause-can g c =
    let sizes : Sizes = c.args.mtr.now.latches.now.sizes in
    record {
      mtr = c.requires.mtr;
      there = (page_image sizes g.L.Trees.ROOTS (g.L.Law.lawful sizes.pages) (by_place g.L.Law.opening sizes.pages) c.facts_of_trees.ensures.shapes c.args.sought.root c.requires.sought.some c.requires.sought.there c.args.sought.key c.requires.sought.is_key c.args.mtr.now.pass.now.view.memory.seen c.args.page c.args.level c.requires.at.known.legal c.requires.at.on_path).there;
      held = at_held sizes (g.L.Law.lawful sizes.pages) (by_place g.L.Law.opening sizes.pages) c.args.sought.root c.args.sought.key (claim_grant ∷ []) c.args.page c.args.level S c.args.mtr.now.pass.now c.requires.at;
      watched = c.requires.at.watched;
    }

pub child_of-requires-clause-tree : goal.child_of-requires-clause-tree
child_of-requires-clause-tree g c =
    let sizes : Sizes = c.args.mtr.now.latches.now.sizes in
    (page_image sizes g.L.Trees.ROOTS (g.L.Law.lawful sizes.pages) (by_place g.L.Law.opening sizes.pages) c.facts_of_trees.ensures.shapes c.args.sought.root c.requires.sought.some c.requires.sought.there c.args.sought.key c.requires.sought.is_key c.args.mtr.now.pass.now.view.memory.seen c.args.page c.args.level c.requires.at.known.legal c.requires.at.on_path).image.tree

pub child_of-requires-clause-first : goal.child_of-requires-clause-first
child_of-requires-clause-first g c =
    let sizes : Sizes = c.args.mtr.now.latches.now.sizes in
    (page_image sizes g.L.Trees.ROOTS (g.L.Law.lawful sizes.pages) (by_place g.L.Law.opening sizes.pages) c.facts_of_trees.ensures.shapes c.args.sought.root c.requires.sought.some c.requires.sought.there c.args.sought.key c.requires.sought.is_key c.args.mtr.now.pass.now.view.memory.seen c.args.page c.args.level c.requires.at.known.legal c.requires.at.on_path).first (let z = c.if-level-eq0.false in omega arith)

pub child_of-requires-clause-small : goal.child_of-requires-clause-small
child_of-requires-clause-small g c =
    let sizes : Sizes = c.args.mtr.now.latches.now.sizes in
    few sizes.pages _ c.facts_of_trees.ensures.pages (child_small sizes g.L.Trees.ROOTS (g.L.Law.lawful sizes.pages) (by_place g.L.Law.opening sizes.pages) c.facts_of_trees.ensures.shapes c.args.sought.root c.requires.sought.some c.requires.sought.there c.args.sought.key c.requires.sought.is_key c.args.page c.args.level c.args.mtr.now.pass.now c.requires.at (let z = c.if-level-eq0.false in omega arith))

pub returns-clause-linked : goal.returns-clause-linked
returns-clause-linked g c =
    let sizes : Sizes = c.args.mtr.now.latches.now.sizes in
    child_linked sizes g.L.Trees.ROOTS (g.L.Law.lawful sizes.pages) (by_place g.L.Law.opening sizes.pages) c.facts_of_trees.ensures.shapes c.args.sought.root c.requires.sought.some c.requires.sought.there c.args.sought.key c.requires.sought.is_key c.args.page c.args.level c.child_of.result c.args.mtr.now.pass.now c.child_of.new.mtr.pass.now c.requires.at c.requires.claimed (let z = c.if-level-eq0.false in omega arith) c.child_of.ensures.child c.child_of.ensures.read

pub returns-clause-looks : goal.returns-clause-looks
returns-clause-looks g c = ap (λ (r : PassState). r.view.looks) c.child_of.ensures.read.same
