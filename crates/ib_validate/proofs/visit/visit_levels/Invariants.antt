use Rattle.std.proofs.Common.{◌≡◌, ◌-◌}
use Rattle.ib_walk.specs.Words.{memory_of}
use Rattle.ib_validate.specs.Positions.{marks_of, positions_of, is_good_at}
use Rattle.ib_validate.specs.PatchTest.{levels_below_visited}
use Rattle.ib_validate.proofs.visit.visit_levels.Given as goal

abbrev pub invariant-loop-done : goal.invariant-loop-done
invariant-loop-done l = levels_below_visited (marks_of l.fn.written) (positions_of l.fn.old) (memory_of l.fn.after) (is_good_at (memory_of l.fn.after)) (8 - l.done) l.fn.pages (positions_of l.table)
    ≡ levels_below_visited (marks_of l.fn.written) (positions_of l.fn.old) (memory_of l.fn.after) (is_good_at (memory_of l.fn.after)) 8 l.fn.pages (positions_of l.fn.table)
