use Rattle.std.proofs.Common.{ℕ, ◌<◌, get_or}
use Rattle.ib_plans.specs.Agreement.{IsThere}
use Rattle.ib_plan_tests.proofs.pages.has_pages.Given as goal

abbrev pub invariant-loop-page : goal.invariant-loop-page
invariant-loop-page l = (i : ℕ) → i < l.page-index → IsThere l.work (get_or l.pages i 0)
