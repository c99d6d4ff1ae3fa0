-- The path of a key, from a page of the tree down.
use Rattle.std.specs.Prelude.{◌≡◌, ℕ, zero, suc, ◌<◌, ◌≤◌, List, [], ◌∷◌, ◌++◌, nat_lt, if◌then◌else◌}
use Rattle.ib_map.specs.Keys.{MapKey, rank}
use Rattle.ib_map.specs.Pairs.{Pairs}
use Rattle.ib_walk.specs.Pages.{PageMemory}
use Rattle.ib_walk.specs.Walk.{Visit}
use Rattle.ib_walk.specs.Trees.{height_of}

-- the child whose range has the key: the last one whose key isn't above it, or `found` where there is none
abbrev pub child_for : MapKey → ℕ → Pairs → ℕ
child_for key found [] = found
child_for key found (x ∷ xs) = if nat_lt (rank key) (rank x.0) then found else child_for key x.1 xs

-- the page of the key that is so many levels below a page
abbrev pub page_below : PageMemory → MapKey → ℕ → ℕ → ℕ
page_below memory key zero page = page
page_below memory key (suc depth) page = page_below memory key depth (child_for key 0 (memory page).records)

-- the leaf at the end of the key's path
abbrev pub leaf_for : PageMemory → MapKey → ℕ → ℕ
leaf_for memory key root = page_below memory key (height_of memory root) root

-- the page of that of these visits whose range has the key
pub record IsPageFor (key : MapKey) (vs : List Visit) (page : ℕ) : Type 0 where
  pub before : List Visit
  pub visit : Visit
  pub behind : List Visit
  pub is : vs ≡ before ++ visit ∷ behind
  pub here : visit.page ≡ page
  pub low : visit.low ≤ rank key
  pub high : rank key < visit.high
