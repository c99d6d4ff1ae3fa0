-- What the written leaves have.
use Rattle.std.specs.Prelude.{◌≡◌, ℕ, ◌<◌, ◌≤◌, nat_lt, List, filter, Option, Some, None}
use Rattle.ib_map.specs.Keys.{rank}
use Rattle.ib_map.specs.Pairs.{Pairs}
use Rattle.ib_walk.specs.Pages.{PageMemory}
use Rattle.ib_walk.specs.Walk.{Visit, counts_visit}
use Rattle.ib_validate.specs.Patch.{LevelVisit, over, slice}
use Rattle.ib_validate.specs.PatchTest.{Position}

-- the pairs whose keys are below the end of a range
abbrev pub pairs_inside : ℕ → Pairs → Pairs
pairs_inside high pairs = filter (λ p. nat_lt (rank p.0) high) pairs

-- a page that is met as a leaf of the tree has what the target has in its range
abbrev pub HasItsContent : PageMemory → Pairs → ℕ → Option Position → Type 0
HasItsContent new target page None = Unit {0}
HasItsContent new target page (Some e) = e.tree ≡ 1 → e.height ≡ 0 → (new page).records ≡ slice target e.low e.high

-- a page is met as a leaf of the tree, with this key in its range
abbrev pub IsLeafOf : ℕ → Option Position → Type 0
IsLeafOf key None = ⊥
IsLeafOf key (Some e) = (e.tree ≡ 1) × (e.height ≡ 0) × (e.low ≤ key) × (key < e.high)

-- what `IsSliced` asks of each new visit
abbrev pub HasSlice : PageMemory → Pairs → LevelVisit → Type 0
HasSlice new target s = s.height ≡ 0 → (new s.visit.page).records ≡ slice target s.visit.low s.visit.high

-- one of the new visits is a leaf's, with this key in its range
abbrev pub HasLeafOf : ℕ → List LevelVisit → Type 0
HasLeafOf key fresh = (v : Visit) × (0 < over (counts_visit 0 v) fresh) × (v.low ≤ key) × (key < v.high)
