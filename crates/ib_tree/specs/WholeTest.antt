-- What the test of a whole memory asks of all pages, once it is known where each is met.
use Rattle.std.specs.Prelude.{◌≡◌, ℕ, ◌<◌, ◌≤◌, Bool, List, length, All, Option}
use Rattle.ib_map.specs.Keys.{end_rank}
use Rattle.ib_page.specs.Memory.{image_at}
use Rattle.ib_page.specs.Space.{is_taken, IsSpacePage}
use Rattle.ib_walk.specs.Trees.{most_height}
use Rattle.ib_walk.specs.Words.{memory_of}
use Rattle.ib_validate.specs.PageTests.{PassesAt, bit_of}
use Rattle.ib_validate.specs.PatchTest.{Positions}
use Rattle.ib_validate.specs.Positions.{marks_of, positions_of}
use Rattle.ib_validate.specs.declared.position.PagePosition.{PagePosition}
use Rattle.ib_tree.specs.PageLists.{is_below, pages_below}
use Rattle.ib_tree.specs.Tests.{root_positions}

-- before the visits of a whole space: a table for each page's position, and one of a new space, with the roots met alone, a mark at each page, and all pages by number
pub record MayVisitAll (count roots : ℕ) (table old : List (Option PagePosition)) (written : List Bool) (pages : List ℕ) : Type 0 where
  pub size : length table ≡ count
  pub old_size : length old ≡ count
  pub marks_size : length written ≡ count
  pub opening : positions_of old ≡ root_positions roots
  pub same : positions_of table ≡ root_positions roots
  pub marks : marks_of written ≡ is_below count
  pub pages_are : pages ≡ pages_below count

-- the levels of the roots are those that so many trees may have
abbrev pub AreLow : List (List ℕ) → ℕ → Type 0
AreLow images roots = (root : ℕ) → 0 < root → root ≤ roots → (memory_of images root).level ≤ most_height roots

-- page 0 is the space page, the roots are low, and each page passes by itself
pub record PassesAllPages (images : List (List ℕ)) (roots : ℕ) (table : Positions) : Type 0 where
  pub space : IsSpacePage (length images) (image_at images 0)
  pub low : AreLow images roots
  pub each : All (λ p. PassesAt (memory_of images) end_rank table (bit_of (is_taken (image_at images 0) p)) p) (pages_below (length images))
