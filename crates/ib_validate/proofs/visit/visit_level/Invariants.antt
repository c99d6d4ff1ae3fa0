use Rattle.std.proofs.Common.{◌≡◌, drop}
use Rattle.ib_walk.specs.Words.{memory_of}
use Rattle.ib_validate.specs.Positions.{marks_of, positions_of, is_good_at}
use Rattle.ib_validate.specs.PatchTest.{visit_level}
use Rattle.ib_validate.proofs.visit.visit_level.Given as goal

abbrev pub invariant-loop-page : goal.invariant-loop-page
invariant-loop-page l = visit_level (marks_of l.fn.written) (positions_of l.fn.old) (memory_of l.fn.after) (is_good_at (memory_of l.fn.after)) l.fn.height (drop l.page-index l.fn.pages) (positions_of l.table)
    ≡ visit_level (marks_of l.fn.written) (positions_of l.fn.old) (memory_of l.fn.after) (is_good_at (memory_of l.fn.after)) l.fn.height l.fn.pages (positions_of l.fn.table)
