use Rattle.std.proofs.Common.{◌≡◌, drop}
use Rattle.ib_page.specs.Form.{page_of}
use Rattle.ib_walk.specs.Walk.{children_of}
use Rattle.ib_walk.specs.Words.{state_of}
use Rattle.ib_validate.specs.PatchTest.{detach}
use Rattle.ib_validate.specs.Positions.{end_of, positions_of}
use Rattle.ib_validate.proofs.detach.detach_children.Given as goal

abbrev pub invariant-loop-place : goal.invariant-loop-place
invariant-loop-place l = detach (drop l.place (children_of (state_of (page_of l.fn.node)).records (end_of l.fn.high))) (positions_of l.table)
    ≡ detach (children_of (state_of (page_of l.fn.node)).records (end_of l.fn.high)) (positions_of l.fn.table)
