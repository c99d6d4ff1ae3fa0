use Rattle.std.proofs.Common.{ℕ, ◌<◌, get_or}
use Rattle.ib_plans.specs.Agreement.{IsThere}
use Rattle.ib_planned_change.specs.Copies.{HasCopied}
use Rattle.ib_planned_change.proofs.copies.copy_all.Given as goal

abbrev pub invariant-loop-page : goal.invariant-loop-page
invariant-loop-page l = record {
  copied : HasCopied l.images l.page-index l.initial.work l.work;
  there : (k : ℕ) → k < l.page-index → IsThere l.work (get_or l.pages k 0);
}
