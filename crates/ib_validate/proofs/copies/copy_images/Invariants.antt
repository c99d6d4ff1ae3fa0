use Rattle.std.proofs.Common.{◌≡◌, ◌≢◌, ℕ, All, drop}
use Rattle.ib_page.specs.Memory.{image_at}
use Rattle.ib_validate.proofs.copies.copy_images.Given as goal

abbrev pub invariant-loop-page : goal.invariant-loop-page
invariant-loop-page l = (page : ℕ) → All (λ p. p ≢ page) (drop l.page-index l.pages) → image_at l.to page ≡ image_at l.from page
