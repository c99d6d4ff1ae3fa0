use Rattle.std.proofs.Common.{◌≡◌, ◌≢◌, ℕ, All, false, drop}
use Rattle.ib_validate.specs.Positions.{marks_of}
use Rattle.ib_validate.proofs.marks.clear_marks.Given as goal

abbrev pub invariant-loop-page : goal.invariant-loop-page
invariant-loop-page l = (page : ℕ) → All (λ p. p ≢ page) (drop l.page-index l.pages) → marks_of l.written page ≡ false
