use Rattle.std.proofs.Common.{◌≡◌, ◌<◌, ℕ, true}
use Rattle.std.specs.Prelude.{◌↔◌}
use Rattle.ib_page.specs.Image.{IsFormed}
use Rattle.ib_page.specs.Memory.{image_at}
use Rattle.ib_validate.specs.Positions.{marks_of}
use Rattle.ib_validate.proofs.forms.test_all.Given as goal

-- the images up to here are tested
abbrev pub invariant-loop-page : goal.invariant-loop-page
invariant-loop-page l = (page : ℕ) → page < l.page → (marks_of l.forms page ≡ true) ↔ IsFormed (image_at l.images page)
