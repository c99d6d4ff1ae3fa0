-- The page stays a page of the tree.
use Rattle.ib_heap.specs.Image.{IsTreePage}
use Rattle.ib_plan_tests.proofs.images.any_order_gives_the_same_records.Given as goal

abbrev pub invariant-loop-number : goal.invariant-loop-number
invariant-loop-number g l = IsTreePage l.rising

abbrev pub invariant-loop-number-2 : goal.invariant-loop-number-2
invariant-loop-number-2 g l = IsTreePage l.mixed
