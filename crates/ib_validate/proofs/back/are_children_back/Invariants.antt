use Rattle.std.proofs.Common.{◌≡◌, drop}
use Rattle.ib_walk.specs.Words.{state_of}
use Rattle.ib_page.specs.Form.{page_of}
use Rattle.ib_walk.specs.Walk.{children_of}
use Rattle.ib_validate.specs.Positions.{end_of, marks_of, positions_of}
use Rattle.ib_validate.specs.PatchTest.{are_back}
use Rattle.ib_validate.proofs.back.are_children_back.Given as goal

abbrev pub invariant-loop-place : goal.invariant-loop-place
invariant-loop-place l = are_back (marks_of l.fn.written) (drop l.place (children_of (state_of (page_of l.fn.node)).records (end_of l.fn.high))) (positions_of l.fn.table)
    ≡ are_back (marks_of l.fn.written) (children_of (state_of (page_of l.fn.node)).records (end_of l.fn.high)) (positions_of l.fn.table)
