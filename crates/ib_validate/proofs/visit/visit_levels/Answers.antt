use Rattle.std.proofs.Common.{◌≡◌, ◌∙◌, sym, ap, arith, ◌-◌, ◌+◌, suc}
use Rattle.ib_walk.specs.Words.{memory_of}
use Rattle.ib_validate.specs.PatchTest.{visit_level, levels_below_visited}
use Rattle.ib_validate.specs.Positions.{positions_of, marks_of, is_good_at}
use Rattle.ib_validate.proofs.StepLaws.{then_do-some, step-true}
use Rattle.ib_validate.proofs.visit.visit_levels.Goals as goal

pub loop-done-preserved : goal.loop-done-preserved
loop-done-preserved c =
    let lt = c.loop-done-test.true in
    let a : 8 - c.loop-done.done ≡ suc (7 - c.loop-done.done) = omega arith in
    let b : 8 - (c.loop-done.done + 1) ≡ 7 - c.loop-done.done = omega arith in
    let m = memory_of c.args.after.now in
    let level = visit_level (marks_of c.args.written.now) (positions_of c.args.old.now) m (is_good_at m) (7 - c.loop-done.done) c.args.pages.now (positions_of c.loop-done.table) in
    let rest = levels_below_visited (marks_of c.args.written.now) (positions_of c.args.old.now) m (is_good_at m) in
    let e = step-true level c.visit_level.result (positions_of c.visit_level.new.table) c.if-not-visit_level.false c.visit_level.ensures in
    ap (λ k. rest k c.args.pages.now (positions_of c.visit_level.new.table)) b
    ∙ (sym (then_do-some (rest (7 - c.loop-done.done) c.args.pages.now) level (positions_of c.visit_level.new.table) e)
    ∙ (ap (λ k. rest k c.args.pages.now (positions_of c.loop-done.table)) (sym a) ∙ c.loop-done.invariant))
