-- The page stays a page of the tree.
use Rattle.ib_heap.specs.Image.{IsTreePage}
use Rattle.ib_plan_tests.proofs.images.cuts_and_joins.Given as goal

abbrev pub invariant-loop-number : goal.invariant-loop-number
invariant-loop-number g l = IsTreePage l.left
