use Rattle.std.proofs.Common.{◌≡◌, ◌≢◌, ◌<◌, ℕ, All, true, length, drop}
use Rattle.std.specs.Prelude.{◌↔◌}
use Rattle.ib_page.specs.Image.{IsFormed}
use Rattle.ib_page.specs.Memory.{image_at}
use Rattle.ib_validate.specs.Positions.{marks_of}
use Rattle.ib_validate.proofs.forms.copy_forms.Given as goal

-- the marks of all pages but the rest are right
abbrev pub invariant-loop-page : goal.invariant-loop-page
invariant-loop-page l = (page : ℕ) → page < length l.images → All (λ p. p ≢ page) (drop l.page-index l.pages) → (marks_of l.to page ≡ true) ↔ IsFormed (image_at l.images page)
