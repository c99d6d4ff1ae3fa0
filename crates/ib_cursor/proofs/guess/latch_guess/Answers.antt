-- Nothing is held, so the latch may be taken, and then it alone is held.
use Rattle.std.proofs.Common.{◌+◌, ◌<◌, [], ap, arith, subst, sym}
use Rattle.ib_levels.specs.declared.level.Level.TheVariants.{TreeNode}
use Rattle.ib_layout.specs.Geometry.{Sizes}
use Rattle.ib_logrec.specs.Log.{by_place}
use Rattle.ib_rule.specs.Pass.{PassState}
use Rattle.ib_cursor.proofs.GrantLaws.{can_wish, may_grow, none_granted}
use Rattle.ib_cursor.proofs.GuessLaws.{alone_holds, latched_alone}
use Rattle.ib_cursor.proofs.guess.latch_guess.Goals as goal

pub latch_page-requires-clause-grows : goal.latch_page-requires-clause-grows
latch_page-requires-clause-grows g c =
    let p : PassState = c.args.mtr.now.pass.now in
    may_grow [] p (none_granted c.args.mtr.now.latches.now p c.requires.mtr c.requires.memo) c.requires.room (omega arith)

pub latch_page-requires-clause-may : goal.latch_page-requires-clause-may
latch_page-requires-clause-may g c =
    let p : PassState = c.args.mtr.now.pass.now in
    can_wish [] p (none_granted c.args.mtr.now.latches.now p c.requires.mtr c.requires.memo) (c.args.page + 2) TreeNode tt tt

pub returns-clause-latched : goal.returns-clause-latched
returns-clause-latched g c =
    let space = c.args.mtr.now.latches.now in let sizes : Sizes = space.sizes in
    let p : PassState = c.args.mtr.now.pass.now in let q : PassState = c.latch_page.new.mtr.pass.now in
    latched_alone sizes g.L.Trees.ROOTS (g.L.Law.lawful sizes.pages) (by_place g.L.Law.opening sizes.pages) c.facts_of_trees.ensures.shapes.laws c.args.page c.requires.some c.args.mode p q
    (none_granted space p c.requires.mtr c.requires.memo) c.requires.none c.latch_page.ensures.latched

pub returns-clause-can : goal.returns-clause-can
returns-clause-can g c =
    let space = c.args.mtr.now.latches.now in let sizes : Sizes = space.sizes in
    let p : PassState = c.args.mtr.now.pass.now in let q : PassState = c.latch_page.new.mtr.pass.now in
    let idle = none_granted space p c.requires.mtr c.requires.memo in
    let alone = latched_alone sizes g.L.Trees.ROOTS (g.L.Law.lawful sizes.pages) (by_place g.L.Law.opening sizes.pages) c.facts_of_trees.ensures.shapes.laws c.args.page c.requires.some c.args.mode p q idle c.requires.none c.latch_page.ensures.latched in
    record {
      mtr = c.latch_page.ensures.still.mtr;
      there = subst (λ (s : Sizes). c.args.page < s.pages) (sym (ap (λ m. m.now.sizes) c.latch_page.ensures.still.latches)) c.requires.inside;
      held = alone_holds sizes g.L.Trees.ROOTS (g.L.Law.lawful sizes.pages) (by_place g.L.Law.opening sizes.pages) c.facts_of_trees.ensures.shapes.laws c.args.page c.requires.some c.args.mode p q idle c.requires.none c.latch_page.ensures.latched;
      watched = alone.watched;
    }
