use Rattle.ib_page.specs.Image.{IsTreePage}
use Rattle.ib_plan_tests.proofs.row_tests.full_page.Given as goal

abbrev pub invariant-loop-place : goal.invariant-loop-place
invariant-loop-place l = IsTreePage l.image
