-- Which images of pages can be read, by a mark for each.
use Rattle.std.specs.Prelude.{◌≡◌, ℕ, ◌<◌, ◌≤◌, ◌↔◌, Bool, true, List, length}
use Rattle.ib_map.specs.declared.TheConstants.{MOST_PAGES}
use Rattle.ib_page.specs.Image.{IsFormed}
use Rattle.ib_page.specs.Memory.{image_at}
use Rattle.ib_validate.specs.Positions.{marks_of}

-- there is a mark for each image, which is set exactly where the image can be read
pub record AreForms (images : List (List ℕ)) (forms : List Bool) : Type 0 where
  pub size : length forms ≡ length images
  pub few : length images ≤ MOST_PAGES
  pub right : (page : ℕ) → page < length images → (marks_of forms page ≡ true) ↔ IsFormed (image_at images page)
