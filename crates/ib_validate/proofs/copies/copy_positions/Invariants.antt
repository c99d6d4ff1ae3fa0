use Rattle.std.proofs.Common.{◌≡◌, ◌≢◌, ℕ, All, drop}
use Rattle.ib_validate.specs.Positions.{positions_of}
use Rattle.ib_validate.proofs.copies.copy_positions.Given as goal

abbrev pub invariant-loop-page : goal.invariant-loop-page
invariant-loop-page l = (page : ℕ) → All (λ p. p ≢ page) (drop l.page-index l.pages) → positions_of l.to page ≡ positions_of l.from page
