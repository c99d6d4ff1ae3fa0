-- The page is taken and loaded, and where its clock is another it is given up.
use Rattle.std.proofs.Common.{◌≢◌, ◌∙◌, false, ap, arith, subst, sym}
use Rattle.ib_layout.specs.Geometry.{Sizes}
use Rattle.ib_logrec.specs.Log.{by_place}
use Rattle.ib_page.specs.Image.{clock_of}
use Rattle.ib_rule.specs.Pass.{PassState}
use Rattle.ib_rule.specs.Views.{total}
use Rattle.ib_cursor.specs.Descent.{HasDescended}
use Rattle.ib_cursor.proofs.PositionLaws.{alone_formed, alone_there, left_descend, may_leave, moved, position_inside, stayed}
use Rattle.ib_cursor.proofs.position.restore.Goals as goal

pub load_alone-requires-clause-inside : goal.load_alone-requires-clause-inside
load_alone-requires-clause-inside g c =
    let sizes : Sizes = c.args.mtr.now.latches.now.sizes in
    position_inside sizes g.L.Trees.ROOTS (g.L.Law.lawful sizes.pages) (by_place g.L.Law.opening sizes.pages) c.facts_of_trees.ensures.shapes.laws c.args.position.now c.args.mtr.now.pass.now c.requires.position

pub clock_of-clock-requires-clause-loaded : goal.clock_of-clock-requires-clause-loaded
clock_of-clock-requires-clause-loaded g c =
    let sizes : Sizes = c.args.mtr.now.latches.now.sizes in
    let a = c.load_alone.ensures.loaded in
    let p : PassState = c.args.mtr.now.pass.now in let q : PassState = c.load_alone.new.mtr.pass.now in
    (a.image, alone_there sizes g.L.Trees.ROOTS (g.L.Law.lawful sizes.pages) (by_place g.L.Law.opening sizes.pages) c.facts_of_trees.ensures.shapes.laws c.args.position.now p c.requires.position q a, alone_formed sizes g.L.Trees.ROOTS (g.L.Law.lawful sizes.pages) (by_place g.L.Law.opening sizes.pages) c.facts_of_trees.ensures.shapes.laws c.args.position.now p c.requires.position q a)

pub returns-then-clock-position-clause-restored : goal.returns-then-clock-position-clause-restored
returns-then-clock-position-clause-restored g c = λ stored.
    let sizes : Sizes = c.args.mtr.now.latches.now.sizes in
    let laws = c.facts_of_trees.ensures.shapes.laws in let counts = c.clocks_law.ensures sizes.pages c.facts_of_trees.ensures.pages in
    let a = c.load_alone.ensures.loaded in
    let p : PassState = c.args.mtr.now.pass.now in let q : PassState = c.load_alone.new.mtr.pass.now in
    let there = alone_there sizes g.L.Trees.ROOTS (g.L.Law.lawful sizes.pages) (by_place g.L.Law.opening sizes.pages) laws c.args.position.now p stored q a in
    stayed sizes g.L.Trees.ROOTS (g.L.Law.lawful sizes.pages) (by_place g.L.Law.opening sizes.pages) laws c.args.position.now p stored q a counts (sym (c.clock_of-clock.ensures a.image there) ∙ c.if-clock-position.true)

pub release_at-requires-clause-unchanged : goal.release_at-requires-clause-unchanged
release_at-requires-clause-unchanged g c = let a = c.load_alone.ensures.loaded in may_leave c.args.position.now.page a.image c.load_alone.new.mtr.pass.now a.held a.work

pub descend-requires-clause-may : goal.descend-requires-clause-may
descend-requires-clause-may g c =
    let a = c.load_alone.ensures.loaded in
    let all = ap total a.grants in let room = c.requires.room in
    left_descend c.args.position.now.page a.image c.load_alone.new.mtr.pass.now a.held a.work c.release_at.new.self.pass.now c.release_at.ensures.released c.release_at.new.self.latches.now c.release_at.ensures.still.mtr (omega arith)

pub returns-clause-restored : goal.returns-clause-restored
returns-clause-restored g c = λ stored.
    let sizes : Sizes = c.args.mtr.now.latches.now.sizes in
    let laws = c.facts_of_trees.ensures.shapes.laws in let counts = c.clocks_law.ensures sizes.pages c.facts_of_trees.ensures.pages in
    let a = c.load_alone.ensures.loaded in
    let p : PassState = c.args.mtr.now.pass.now in let q : PassState = c.load_alone.new.mtr.pass.now in
    let there = alone_there sizes g.L.Trees.ROOTS (g.L.Law.lawful sizes.pages) (by_place g.L.Law.opening sizes.pages) laws c.args.position.now p stored q a in
    let other : clock_of a.image ≢ c.args.position.now.clock = λ same. c.if-clock-position.false (c.clock_of-clock.ensures a.image there ∙ same) in
    let t : PassState = c.release_at.new.self.pass.now in let u : PassState = c.descend.new.mtr.pass.now in
    let end = ap (λ m. m.now.sizes) (c.release_at.ensures.still.latches ∙ c.load_alone.ensures.still.latches) in
    let descended = subst (λ (k : Sizes). HasDescended k (g.L.Law.lawful k.pages) (by_place g.L.Law.opening k.pages) 1 c.args.key false c.descend.result t u) end c.descend.ensures.descended in
    moved sizes g.L.Trees.ROOTS (g.L.Law.lawful sizes.pages) (by_place g.L.Law.opening sizes.pages) laws c.args.position.now p stored q a counts other t c.release_at.ensures.released c.args.key c.descend.result u descended
