use Rattle.std.proofs.Common.{◌≡◌, ◌-◌, drop}
use Rattle.ib_walk.specs.Words.{state_of}
use Rattle.ib_page.specs.Form.{page_of}
use Rattle.ib_walk.specs.Walk.{children_of}
use Rattle.ib_validate.specs.Positions.{end_of, marks_of, positions_of}
use Rattle.ib_validate.specs.PatchTest.{attach}
use Rattle.ib_validate.proofs.attach.attach_children.Given as goal

abbrev pub invariant-loop-place : goal.invariant-loop-place
invariant-loop-place l = attach (marks_of l.fn.written) (positions_of l.fn.old) l.fn.at.tree (l.fn.at.height - 1) (drop l.place (children_of (state_of (page_of l.fn.node)).records (end_of l.fn.at.high))) (positions_of l.table)
    ≡ attach (marks_of l.fn.written) (positions_of l.fn.old) l.fn.at.tree (l.fn.at.height - 1) (children_of (state_of (page_of l.fn.node)).records (end_of l.fn.at.high)) (positions_of l.fn.table)
