-- Pages of the tree, as all code outside this crate knows them.
use Rattle.std.specs.Prelude.{◌≡◌, ℕ, ◌+◌, ◌<◌, ◌≤◌, ◌^◌, ◌⊎◌, Bool, nat_lt, nat_le, ◌==◌, ◌&&◌, ◌||◌, [], ◌∷◌, length}
use Rattle.ib_map.specs.Keys.{rank, end_rank}
use Rattle.ib_map.specs.Pairs.{Pairs, Rises}
use Rattle.ib_heap.specs.declared.TheConstants.{MOST_LEVEL, MOST_RECORDS}

-- a page: its level, 0 for a leaf, the leaves before and behind it, 0 for none, its modify clock and its records
pub record Page : Type 0 where
  pub level : ℕ
  pub prev : ℕ
  pub next : ℕ
  pub clock : ℕ
  pub records : Pairs

-- level, links and number of records within their limits, no links on a node, and keys that ascend strictly
pub record IsPage (p : Page) : Type 0 where
  pub level : p.level ≤ MOST_LEVEL
  pub prev : p.prev < 2 ^ 32
  pub next : p.next < 2 ^ 32
  pub no_prev : 0 < p.level → p.prev ≡ 0
  pub no_next : 0 < p.level → p.next ≡ 0
  pub few : length p.records ≤ MOST_RECORDS
  pub ascends : Rises 0 p.records end_rank

-- whether the keys ascend strictly, from the rank `low` on and below `high`
abbrev pub rises : ℕ → Pairs → ℕ → Bool
rises low [] high = nat_le low high
rises low (x ∷ xs) high = nat_le low (rank x.0) && rises (rank x.0 + 1) xs high

-- whether level, links and records are within their limits
abbrev pub is_page : Page → Bool
is_page p = nat_le p.level MOST_LEVEL && (nat_lt p.prev (2 ^ 32) && (nat_lt p.next (2 ^ 32) && ((p.level == 0 || (p.prev == 0 && p.next == 0))
    && (nat_le (length p.records) MOST_RECORDS && rises 0 p.records end_rank))))

-- level and links are within their limits
abbrev pub HasLimits : ℕ → ℕ → ℕ → Type 0
HasLimits level prev next = (level ≤ MOST_LEVEL) × (prev < 2 ^ 32) × (next < 2 ^ 32) × ((level ≡ 0) ⊎ ((prev ≡ 0) × (next ≡ 0)))

-- what an image holds: nothing that can be read, a free page with its clock, or a page of the tree
pub data PageValue : Type 0 where
  Malformed : PageValue
  Free : ℕ → PageValue
  Tree : Page → PageValue

abbrev pub HoldsTree : PageValue → Type 0
HoldsTree (Tree p) = Unit {0}
HoldsTree _ = ⊥

abbrev pub HoldsPage : PageValue → Type 0
HoldsPage Malformed = ⊥
HoldsPage _ = Unit {0}

-- the page that is held; a free page has level 0, no links and no records
abbrev pub page_in : PageValue → Page
page_in (Tree p) = p
page_in (Free clock) = record { level = 0; prev = 0; next = 0; clock = clock; records = [] }
page_in Malformed = record { level = 0; prev = 0; next = 0; clock = 0; records = [] }
