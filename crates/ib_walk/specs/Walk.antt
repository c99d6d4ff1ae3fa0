-- The walk of a tree, one level after the other. A visit is a page met with its range: the keys whose
-- rank is at least `low` and below `high`.
use Rattle.std.specs.Prelude.{◌≡◌, ℕ, zero, suc, ◌+◌, ◌<◌, List, [], ◌∷◌, ◌++◌, length, ◌==◌, if◌then◌else◌}
use Rattle.std.specs.List.{AllByRecursion}
use Rattle.ib_map.specs.Keys.{rank}
use Rattle.ib_map.specs.Pairs.{Pairs, Rises, first_rank}
use Rattle.ib_walk.specs.Pages.{Tree, PageMemory}

pub record Visit : Type 0 where
  pub page : ℕ
  pub low : ℕ
  pub high : ℕ

-- child i has the keys from its record's key up to the next record's, the last child up to `high`
abbrev pub children_of : Pairs → ℕ → List Visit
children_of [] high = []
children_of (x ∷ xs) high = record { page = x.1; low = rank x.0; high = first_rank xs high } ∷ children_of xs high

-- the level below a level
abbrev pub children : PageMemory → List Visit → List Visit
children memory [] = []
children memory (v ∷ vs) = children_of (memory v.page).records v.high ++ children memory vs

-- the level that is so many levels below
abbrev pub below : PageMemory → ℕ → List Visit → List Visit
below memory zero vs = vs
below memory (suc depth) vs = below memory depth (children memory vs)

-- all visits of a level and of the levels below it
abbrev pub walk_down : PageMemory → ℕ → List Visit → List Visit
walk_down memory zero vs = vs
walk_down memory (suc height) vs = vs ++ walk_down memory height (children memory vs)

-- the records of these pages in order
abbrev pub records_along : PageMemory → List Visit → Pairs
records_along memory [] = []
records_along memory (v ∷ vs) = (memory v.page).records ++ records_along memory vs

-- Weights of visits: proofs count by them. What all visits of a level weigh together
abbrev pub sum_of : (Visit → ℕ) → List Visit → ℕ
sum_of f [] = 0
sum_of f (v ∷ vs) = f v + sum_of f vs

-- what the visits of these levels weigh together, each by its height
abbrev pub weight_along : (ℕ → Visit → ℕ) → PageMemory → ℕ → List Visit → ℕ
weight_along f memory zero vs = sum_of (f zero) vs
weight_along f memory (suc height) vs = sum_of (f (suc height)) vs + weight_along f memory height (children memory vs)

-- a visit of this page counts 1
abbrev pub counts_page : ℕ → ℕ → Visit → ℕ
counts_page page height v = if v.page == page then 1 else 0

-- a visit of this page and range at this height counts 1
abbrev pub counts_visit : ℕ → Visit → ℕ → Visit → ℕ
counts_visit h v k u = if k == h then (if u.page == v.page then (if u.low == v.low then (if u.high == v.high then 1 else 0) else 0) else 0) else 0

pub record IsNodeAt (memory : PageMemory) (height : ℕ) (v : Visit) : Type 0 where
  pub kind : (memory v.page).kind ≡ Tree
  pub level : (memory v.page).level ≡ height
  pub within : Rises v.low (memory v.page).records v.high
  pub first : first_rank (memory v.page).records v.high ≡ v.low
  pub some : 0 < length (memory v.page).records

pub record IsLeafAt (memory : PageMemory) (v : Visit) : Type 0 where
  pub kind : (memory v.page).kind ≡ Tree
  pub level : (memory v.page).level ≡ 0
  pub within : Rises v.low (memory v.page).records v.high

abbrev pub AreNodes : PageMemory → ℕ → List Visit → Type 0
AreNodes memory zero vs = Unit {0}
AreNodes memory (suc height) vs = AllByRecursion (IsNodeAt memory (suc height)) vs × AreNodes memory height (children memory vs)

-- the lowest pages are linked both ways, from the page before them to the page behind them
abbrev pub first_page : List Visit → ℕ → ℕ
first_page [] next = next
first_page (v ∷ vs) next = v.page

abbrev pub last_page : ℕ → List Visit → ℕ
last_page prev [] = prev
last_page prev (v ∷ vs) = last_page v.page vs

abbrev pub AreLinked : PageMemory → ℕ → List Visit → ℕ → Type 0
AreLinked memory prev [] next = Unit {0}
AreLinked memory prev (v ∷ vs) next =
    ((memory v.page).prev ≡ prev) × ((memory v.page).next ≡ first_page vs next) × AreLinked memory v.page vs next

-- a level and all below it
pub record IsTree (memory : PageMemory) (height : ℕ) (vs : List Visit) : Type 0 where
  pub nodes : AreNodes memory height vs
  pub leaves : AllByRecursion (IsLeafAt memory) (below memory height vs)

-- neighbouring ranges, from `low` up to `high`
abbrev pub IsTiled : ℕ → List Visit → ℕ → Type 0
IsTiled low [] high = low ≡ high
IsTiled low (v ∷ vs) high = (v.low ≡ low) × IsTiled v.high vs high
