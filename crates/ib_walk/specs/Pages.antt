-- What an image says, however its words say it.
use Rattle.std.specs.Prelude.{◌≡◌, ℕ, ◌<◌, ◌≤◌, ◌^◌, length, ◌==◌, if◌then◌else◌}
use Rattle.ib_map.specs.Keys.{end_rank}
use Rattle.ib_map.specs.Pairs.{Pairs, Rises}
use Rattle.ib_heap.specs.declared.TheConstants.{MOST_LEVEL}

pub data PageKind : Type 0 where
  Malformed : PageKind
  Free : PageKind
  Tree : PageKind

-- a page: what it is used for, its level, 0 for a leaf, its links, its modify clock and its records
pub record PageState : Type 0 where
  pub kind : PageKind
  pub level : ℕ
  pub prev : ℕ
  pub next : ℕ
  pub clock : ℕ
  pub records : Pairs

-- the page of each number
abbrev pub PageMemory : Type 0
PageMemory = ℕ → PageState

-- the page is one that an image can be: a free page, or a page of a tree with so many records at most
pub record IsSound (most : ℕ) (page : PageState) : Type 0 where
  pub formed : page.kind ≡ Malformed → ⊥
  pub ascends : Rises 0 page.records end_rank
  pub short : length page.records ≤ most
  pub low : page.level ≤ MOST_LEVEL
  pub prev : page.prev < 2 ^ 32
  pub next : page.next < 2 ^ 32
  pub node : 0 < page.level → (page.prev ≡ 0) × (page.next ≡ 0)

abbrev pub with_page : PageMemory → ℕ → PageState → PageMemory
with_page memory at page = λ n. if n == at then page else memory n
