-- The laws, from the clauses of a law of trees.
use Rattle.std.proofs.Common.{◌≡◌, true}
use Rattle.ib_map.specs.Space.{has_pages}
use Rattle.ib_layout.specs.Geometry.{Sizes}
use Rattle.ib_logrec.specs.Log.{by_place}
use Rattle.ib_cursor.proofs.PageLaws.{has_told}
use Rattle.ib_cursor.proofs.ShapeLaws.{shapes_of}
use Rattle.ib_cursor.proofs.claim.facts_of_trees.Goals as goal

pub returns-clause-shapes : goal.returns-clause-shapes
returns-clause-shapes g c =
    let sizes : Sizes = c.args.mtr.now.latches.now.sizes in
    let has : has_pages sizes.pages ≡ true = has_told c.geometry.ensures c.pages.ensures.pages c.pages.ensures.in_range in
    shapes_of sizes.pages g.L.Trees.ROOTS (g.L.Law.lawful sizes.pages) (by_place g.L.Law.opening sizes.pages) (g.L.Law.range sizes.pages) (λ xs ys. g.met.L.Law.begins sizes.pages xs ys has)
    (λ log. c.trees_law.ensures.memory sizes.pages log has) (λ xs e page r. g.met.L.Law.stays sizes.pages xs e page r has) (λ log page r. c.trees_law.ensures.range sizes.pages log page r)
    (λ log. c.trees_law.ensures.structural sizes.pages log has)

pub returns-clause-empty : goal.returns-clause-empty
returns-clause-empty g c =
    let sizes : Sizes = c.args.mtr.now.latches.now.sizes in
    let has : has_pages sizes.pages ≡ true = has_told c.geometry.ensures c.pages.ensures.pages c.pages.ensures.in_range in
    g.met.L.Law.empty sizes.pages has

pub returns-clause-pages : goal.returns-clause-pages
returns-clause-pages g c = has_told c.geometry.ensures c.pages.ensures.pages c.pages.ensures.in_range
