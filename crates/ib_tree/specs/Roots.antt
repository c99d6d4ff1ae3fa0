-- The roots of a lawful memory.
use Rattle.std.specs.Prelude.{ℕ, ◌<◌, ◌≤◌, List, length}
use Rattle.ib_map.specs.declared.TheConstants.{LEAST_PAGES, MOST_PAGES}
use Rattle.ib_page.specs.Memory.{word_at}
use Rattle.ib_walk.specs.Words.{IsLawfulMemory}

-- the images are those of a lawful memory of one tree or two, and this is the root of one of them
pub record HasRoot (images : List (List ℕ)) (root : ℕ) : Type 0 where
  pub roots : ℕ
  pub few : roots ≤ 2
  pub some : 0 < root
  pub within : root ≤ roots
  pub least : LEAST_PAGES ≤ length images
  pub most : length images ≤ MOST_PAGES
  pub lawful : IsLawfulMemory (length images) roots (word_at images)
