-- The page stays a page of the tree.
use Rattle.ib_heap.specs.Image.{IsTreePage}
use Rattle.ib_plan_tests.proofs.heaps.eight.Given as goal

abbrev pub invariant-loop-number : goal.invariant-loop-number
invariant-loop-number l = IsTreePage l.words
