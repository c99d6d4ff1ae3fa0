-- The path of a key through a tree, page by page.
use Rattle.std.specs.Prelude.{◌≡◌, ℕ, ◌+◌, ◌<◌, ◌≤◌}
use Rattle.ib_map.specs.Keys.{MapKey, rank, end_rank}
use Rattle.ib_walk.specs.Pages.{PageMemory}
use Rattle.ib_walk.specs.Trees.{height_of}
use Rattle.ib_walk.specs.Search.{page_below}

-- the path of the key from the root meets the page at this level
pub record IsOnPath (memory : PageMemory) (root : ℕ) (key : MapKey) (page level : ℕ) : Type 0 where
  pub depth : ℕ
  pub height : depth + level ≡ height_of memory root
  pub below : page_below memory key depth root ≡ page

-- the root of one of so many trees
pub record IsRoot (roots root : ℕ) : Type 0 where
  pub some : 0 < root
  pub there : root ≤ roots

-- what may be sought: a key, in the tree of one of so many roots
pub record IsSought (roots root : ℕ) (key : MapKey) : Type 0 where
  pub some : 0 < root
  pub there : root ≤ roots
  pub is_key : rank key < end_rank
