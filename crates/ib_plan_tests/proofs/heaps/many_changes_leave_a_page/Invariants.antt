-- The page stays a page of the tree.
use Rattle.ib_heap.specs.Image.{IsTreePage}
use Rattle.ib_plan_tests.proofs.heaps.many_changes_leave_a_page.Given as goal

abbrev pub invariant-loop-step : goal.invariant-loop-step
invariant-loop-step g l = IsTreePage l.words
