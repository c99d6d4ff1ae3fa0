-- The clock is that of the leaf's image, which is the leaf's after all seen.
use Rattle.std.proofs.Common.{◌∙◌}
use Rattle.ib_layout.specs.Geometry.{Sizes}
use Rattle.ib_logrec.specs.Log.{by_place}
use Rattle.ib_cursor.proofs.PositionLaws.{stored_clock, stored_formed, stored_position}
use Rattle.ib_cursor.proofs.position.store.Goals as goal

pub clock_of-requires-clause-loaded : goal.clock_of-requires-clause-loaded
clock_of-requires-clause-loaded g c =
    let sizes : Sizes = c.args.mtr.now.latches.now.sizes in
    let l = c.requires.loaded in
    (l.image, l.loaded, stored_formed sizes g.L.Trees.ROOTS (g.L.Law.lawful sizes.pages) (by_place g.L.Law.opening sizes.pages) c.facts_of_trees.ensures.shapes.laws c.args.leaf c.args.mtr.now.pass.now l)

pub returns-clause-clock : goal.returns-clause-clock
returns-clause-clock g c =
    let sizes : Sizes = c.args.mtr.now.latches.now.sizes in
    let l = c.requires.loaded in
    c.clock_of.ensures l.image l.loaded ∙ stored_clock sizes g.L.Trees.ROOTS (g.L.Law.lawful sizes.pages) (by_place g.L.Law.opening sizes.pages) c.facts_of_trees.ensures.shapes.laws c.args.leaf c.args.mtr.now.pass.now l

pub returns-clause-position : goal.returns-clause-position
returns-clause-position g c =
    let sizes : Sizes = c.args.mtr.now.latches.now.sizes in
    let l = c.requires.loaded in
    let clock = c.clock_of.ensures l.image l.loaded ∙ stored_clock sizes g.L.Trees.ROOTS (g.L.Law.lawful sizes.pages) (by_place g.L.Law.opening sizes.pages) c.facts_of_trees.ensures.shapes.laws c.args.leaf c.args.mtr.now.pass.now l in
    stored_position sizes g.L.Trees.ROOTS (g.L.Law.lawful sizes.pages) (by_place g.L.Law.opening sizes.pages) c.facts_of_trees.ensures.shapes.laws c.args.leaf c.args.mtr.now.pass.now l c.clock_of.result c.place.result clock c.place.ensures
