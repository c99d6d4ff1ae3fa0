-- Lawful memories, for trees with the roots 1 to `roots`.
use Rattle.std.specs.Prelude.{◌≡◌, ◌≢◌, ◌↔◌, ℕ, zero, suc, ◌+◌, ◌<◌, ◌≤◌, List, [], ◌∷◌, ◌++◌, map, ◌==◌, nat_lt, if◌then◌else◌}
use Rattle.std.specs.List.{Contains, IsDistinct}
use Rattle.ib_map.specs.Keys.{end_rank}
use Rattle.ib_map.specs.Pairs.{Pairs}
use Rattle.ib_heap.specs.declared.TheConstants.{MOST_LEVEL, MOST_RECORDS}
use Rattle.ib_page.specs.declared.space.TheConstants.{MAPPED_PAGES}
use Rattle.ib_walk.specs.Pages.{Free, Tree, PageState, PageMemory, IsSound}
use Rattle.ib_walk.specs.Walk.{Visit, below, walk_down, records_along, weight_along, counts_page, IsTree, AreLinked}

-- the root with the range of all keys
abbrev pub top_of : ℕ → List Visit
top_of root = record { page = root; low = 0; high = end_rank } ∷ []

-- how high the tree of a root is, its leaves, and the records of its leaves in order
abbrev pub height_of : PageMemory → ℕ → ℕ
height_of memory root = (memory root).level

abbrev pub leaves_of : PageMemory → ℕ → List Visit
leaves_of memory root = below memory (height_of memory root) (top_of root)

abbrev pub content_of : PageMemory → ℕ → Pairs
content_of memory root = records_along memory (leaves_of memory root)

-- a page is met with this range, at this level, in the tree of a root: the visit stands in the list of its level
pub record IsMetAt (memory : PageMemory) (root level : ℕ) (visit : Visit) : Type 0 where
  pub depth : ℕ
  pub at : depth + level ≡ height_of memory root
  pub there : Contains (below memory depth (top_of root)) visit

-- the pages that the walk of a tree meets, and those that the walks of the trees of the roots 1 to `roots` meet, each as often as it is met
abbrev pub pages_met_from : PageMemory → ℕ → List ℕ
pages_met_from memory root = map (λ v. v.page) (walk_down memory (height_of memory root) (top_of root))

abbrev pub pages_met : PageMemory → ℕ → List ℕ
pages_met memory zero = []
pages_met memory (suc roots) = pages_met_from memory (suc roots) ++ pages_met memory roots

-- page 0 and the pages met are those that have their bit set, and no page is met twice, nor page 0 at all
pub record IsPageMap (memory : PageMemory) (bits : ℕ → ℕ) (roots : ℕ) : Type 0 where
  pub once : IsDistinct ◌==◌ (0 ∷ pages_met memory roots)
  pub set : (n : ℕ) → bits n ≡ 1 ↔ Contains (0 ∷ pages_met memory roots) n

-- Weights, by which proofs count: what all visits of the tree weigh
abbrev pub weight_of : (ℕ → Visit → ℕ) → PageMemory → ℕ → ℕ
weight_of f memory root = weight_along f memory (height_of memory root) (top_of root)

-- over the trees of the roots 1 to `roots`
abbrev pub weight_all : (ℕ → Visit → ℕ) → PageMemory → ℕ → ℕ
weight_all f memory zero = 0
weight_all f memory (suc roots) = weight_of f memory (suc roots) + weight_all f memory roots

-- how often a page is met
abbrev pub times_met : PageMemory → ℕ → ℕ → ℕ
times_met memory roots page = weight_all (counts_page page) memory roots

-- the tree of this height under a root, with its leaves linked
pub record IsTreeOf (memory : PageMemory) (height root : ℕ) : Type 0 where
  pub tree : IsTree memory height (top_of root)
  pub linked : AreLinked memory 0 (below memory height (top_of root)) 0

-- the highest level that a root may have: where there is one tree `MOST_LEVEL`, else 3
abbrev pub most_height : ℕ → ℕ
most_height roots = if roots == 1 then MOST_LEVEL else 3

-- Lawful trees, whose pages have a limit of records each. `bits` are those of page 0: 0 or 1 for each page, and 0 for those that the space doesn't have
pub record IsLawfulUpTo (most : ℕ → ℕ) (memory : PageMemory) (bits : ℕ → ℕ) (roots : ℕ) : Type 0 where
  pub sound : (n : ℕ) → n ≢ 0 → IsSound (most n) (memory n)
  pub trees : (root : ℕ) → 0 < root → root ≤ roots → IsTreeOf memory (height_of memory root) root × (height_of memory root ≤ most_height roots)
  pub met : IsPageMap memory bits roots
  pub bit : (n : ℕ) → bits n ≤ 1
  pub few : (n : ℕ) → MAPPED_PAGES ≤ n → bits n ≡ 0
  pub unmet : (n : ℕ) → bits n ≡ 0 → (memory n).kind ≡ Free

-- lawful trees. No page is met twice, so a child is no root and not page 0
abbrev pub IsLawful : PageMemory → (ℕ → ℕ) → ℕ → Type 0
IsLawful memory bits roots = IsLawfulUpTo (λ n. MOST_RECORDS) memory bits roots

-- the pages of a new space
abbrev pub empty_leaf : PageState
empty_leaf = record { kind = Tree; level = 0; prev = 0; next = 0; clock = 0; records = [] }

abbrev pub free_page : PageState
free_page = record { kind = Free; level = 0; prev = 0; next = 0; clock = 0; records = [] }

-- pages 0 to `roots` are empty leaves, and all pages behind them are free. What stands for page 0 counts for nothing
abbrev pub opening_pages : ℕ → PageMemory
opening_pages roots n = if nat_lt roots n then free_page else empty_leaf

abbrev pub opening_bits : ℕ → ℕ → ℕ
opening_bits roots n = if nat_lt roots n then 0 else 1
