use Rattle.std.proofs.Common.{◌∙◌, sym, ap}
use Rattle.ib_map.specs.Keys.{end_rank}
use Rattle.ib_walk.specs.Words.{memory_of}
use Rattle.ib_validate.specs.PatchTest.{detach_pages, set_roots, visit_levels, all_back}
use Rattle.ib_validate.specs.Positions.{is_good_at, marks_of, positions_of}
use Rattle.ib_validate.proofs.StepLaws.{step-true, step-false, visits-by, visits-none}
use Rattle.ib_validate.proofs.RestLaws.{visited-rest}
use Rattle.ib_validate.proofs.patch.visit_patch.Goals as goal

pub returns-then-visit_levels-clause-visits : goal.returns-then-visit_levels-clause-visits
returns-then-visit_levels-clause-visits c =
    let m = memory_of c.args.after.now in
    let start = c.visit_root.ensures ∙ ap (set_roots (marks_of c.args.written.now) m end_rank 1)
    (c.detach_pages.ensures ∙ ap (detach_pages (memory_of c.args.before.now) (positions_of c.args.old.now) c.args.pages.now) c.requires.same) in
    let levels = visit_levels (marks_of c.args.written.now) (positions_of c.args.old.now) m (is_good_at m) 7 c.args.pages.now in
    let went = step-true (levels (positions_of c.visit_root.new.table)) c.visit_levels.result (positions_of c.visit_levels.new.table) c.if-visit_levels.true c.visit_levels.ensures in
    visits-by _ (all_back (marks_of c.args.written.now) (memory_of c.args.before.now) (positions_of c.args.old.now) c.args.pages.now) c.are_pages_back.result (positions_of c.visit_levels.new.table)
    (sym (ap levels start) ∙ went) (sym c.are_pages_back.ensures)

pub returns-else-visit_levels-clause-visits : goal.returns-else-visit_levels-clause-visits
returns-else-visit_levels-clause-visits c =
    let m = memory_of c.args.after.now in
    let start = c.visit_root.ensures ∙ ap (set_roots (marks_of c.args.written.now) m end_rank 1)
    (c.detach_pages.ensures ∙ ap (detach_pages (memory_of c.args.before.now) (positions_of c.args.old.now) c.args.pages.now) c.requires.same) in
    let levels = visit_levels (marks_of c.args.written.now) (positions_of c.args.old.now) m (is_good_at m) 7 c.args.pages.now in
    let went = step-false (levels (positions_of c.visit_root.new.table)) c.visit_levels.result (positions_of c.visit_levels.new.table) c.if-visit_levels.false c.visit_levels.ensures in
    visits-none _ (all_back (marks_of c.args.written.now) (memory_of c.args.before.now) (positions_of c.args.old.now) c.args.pages.now) c.visit_levels.result (positions_of c.visit_levels.new.table)
    (sym (ap levels start) ∙ went) c.if-visit_levels.false

pub returns-then-visit_levels-clause-rest : goal.returns-then-visit_levels-clause-rest
returns-then-visit_levels-clause-rest c t page unwritten =
    let m = memory_of c.args.after.now in
    let start = c.visit_root.ensures ∙ ap (set_roots (marks_of c.args.written.now) m end_rank 1)
    (c.detach_pages.ensures ∙ ap (detach_pages (memory_of c.args.before.now) (positions_of c.args.old.now) c.args.pages.now) c.requires.same) in
    let levels = visit_levels (marks_of c.args.written.now) (positions_of c.args.old.now) m (is_good_at m) 7 c.args.pages.now in
    let went = step-true (levels (positions_of c.visit_root.new.table)) c.visit_levels.result (positions_of c.visit_levels.new.table) c.if-visit_levels.true c.visit_levels.ensures in
    visited-rest (marks_of c.args.written.now) page unwritten (positions_of c.args.old.now) m (is_good_at m) (memory_of c.args.before.now) end_rank 1 c.args.pages.now (positions_of c.visit_levels.new.table)
    (sym (ap levels start) ∙ went) (sym c.are_pages_back.ensures ∙ t)
