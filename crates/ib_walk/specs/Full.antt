-- How many pages an insert takes, which they are, and when it can take none.
use Rattle.std.specs.Prelude.{ℕ, zero, suc, ◌+◌, Bool, ◌==◌, ◌&&◌, nat_le, nat_lt, List, [], ◌∷◌, ◌++◌, length, map, filter, take, if◌then◌else◌}
use Rattle.ib_map.specs.Keys.{MapKey, rank}
use Rattle.ib_heap.specs.declared.TheConstants.{MOST_RECORDS}
use Rattle.ib_walk.specs.Pages.{PageMemory}
use Rattle.ib_walk.specs.Walk.{Visit, children}
use Rattle.ib_walk.specs.Trees.{height_of, most_height, top_of}

-- the pages of a level whose range has the key
abbrev pub pages_for : MapKey → List Visit → List ℕ
pages_for key vs = map (λ v. v.page) (filter (λ v. nat_le v.low (rank key) && nat_lt (rank key) v.high) vs)

-- the pages whose range has the key, from the leaf up to a level of this height
abbrev pub path_up : PageMemory → MapKey → ℕ → List Visit → List ℕ
path_up memory key zero vs = pages_for key vs
path_up memory key (suc height) vs = path_up memory key height (children memory vs) ++ pages_for key vs

-- .. up to the root
abbrev pub path_of : PageMemory → MapKey → ℕ → List ℕ
path_of memory key root = path_up memory key (height_of memory root) (top_of root)

-- how many pages at the front of the list are full
abbrev pub full_run : PageMemory → List ℕ → ℕ
full_run memory [] = 0
full_run memory (p ∷ ps) = if length (memory p).records == MOST_RECORDS then suc (full_run memory ps) else 0

-- consecutive full pages of the key's path, from the leaf up
abbrev pub run_of : PageMemory → MapKey → ℕ → ℕ
run_of memory key root = full_run memory (path_of memory key root)

-- the root is among them
abbrev pub is_root_full : PageMemory → MapKey → ℕ → Bool
is_root_full memory key root = run_of memory key root == suc (height_of memory root)

-- how many pages an insert of the key takes: one for each full page, and one more where the root is raised
abbrev pub need_of : PageMemory → MapKey → ℕ → ℕ
need_of memory key root = run_of memory key root + (if is_root_full memory key root then 1 else 0)

-- the root would be raised at the highest level that so many trees may have
abbrev pub is_too_high : ℕ → PageMemory → MapKey → ℕ → Bool
is_too_high roots memory key root = is_root_full memory key root && (height_of memory root == most_height roots)

-- the free pages among so many from a page on
abbrev pub free_pages_from : (ℕ → ℕ) → ℕ → ℕ → List ℕ
free_pages_from bits page zero = []
free_pages_from bits page (suc n) = if bits page == 0 then page ∷ free_pages_from bits (page + 1) n else free_pages_from bits (page + 1) n

-- how many pages of the space are free
abbrev pub free_of : (ℕ → ℕ) → ℕ → ℕ
free_of bits pages = length (free_pages_from bits 0 pages)

-- the lowest free pages
abbrev pub chosen : (ℕ → ℕ) → ℕ → ℕ → List ℕ
chosen bits pages need = take need (free_pages_from bits 0 pages)
