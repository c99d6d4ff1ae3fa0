use Rattle.std.proofs.Common.{ℕ, ◌<◌, get_or}
use Rattle.std.specs.Prelude.{IsSomeAnd}
use Rattle.ib_page.specs.Image.{IsTreePage}
use Rattle.ib_page.specs.Work.{changed_of}
use Rattle.ib_plan_tests.proofs.pages.has_tree_pages.Given as goal

abbrev pub invariant-loop-page : goal.invariant-loop-page
invariant-loop-page l = (i : ℕ) → i < l.page-index → IsSomeAnd (changed_of (get_or l.pages i 0) l.work) IsTreePage
