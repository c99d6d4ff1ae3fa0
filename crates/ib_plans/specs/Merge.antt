-- A merge of two pages under one parent, and the lift of a root that is left with one child.
use Rattle.std.specs.Prelude.{ℕ, ◌+◌, Bool, [], ◌∷◌, ◌++◌, length, ◌==◌, nat_lt, nat_le, Option, Some, None, if◌then◌else◌}
use Rattle.ib_map.specs.Keys.{MapKey, rank, least}
use Rattle.ib_map.specs.Pairs.{Pairs, without}
use Rattle.ib_heap.specs.declared.TheConstants.{MOST_RECORDS}
use Rattle.ib_walk.specs.Pages.{Free, Tree, PageState, PageMemory}
use Rattle.ib_plans.specs.Split.{with_records, with_prev, next_or}

-- a node's record of the child to which the key belongs, and those beside it
pub record Siblings : Type 0 where
  pub left : Option (MapKey × ℕ)
  pub here : MapKey × ℕ
  pub right : Option (MapKey × ℕ)

abbrev pub siblings_from : MapKey → Option (MapKey × ℕ) → MapKey × ℕ → Pairs → Siblings
siblings_from key left here [] = record { left = left; here = here; right = None }
siblings_from key left here (x ∷ xs) = if nat_lt (rank key) (rank x.0) then record { left = left; here = here; right = Some x } else siblings_from key (Some here) x xs

abbrev pub siblings_of : MapKey → Pairs → Siblings
siblings_of key [] = record { left = None; here = (least, 0); right = None }
siblings_of key (x ∷ xs) = siblings_from key None x xs

-- both pages' records fit one page
abbrev pub fit_one : PageMemory → ℕ → ℕ → Bool
fit_one memory a b = nat_le (length (memory a).records + length (memory b).records) MOST_RECORDS

abbrev pub freed_page : PageState → PageState
freed_page page = record { kind = Free; level = 0; prev = 0; next = 0; clock = page.clock; records = [] }

-- the left one of two pages with the records of both, linked to what was behind the right one
abbrev pub joined : PageState → PageState → PageState
joined left right = record { kind = left.kind; level = left.level; prev = left.prev; next = right.next; clock = left.clock; records = left.records ++ right.records }

-- the left page takes the records of the one that goes, which is freed; the parent loses the record of that one, and a leaf behind it is linked back to the left one
abbrev pub merge_pages : PageMemory → ℕ → ℕ → MapKey × ℕ → PageMemory
merge_pages memory parent left gone n =
    if n == gone.1 then freed_page (memory gone.1)
    else (if n == left then joined (memory left) (memory gone.1)
    else (if n == parent then with_records (without gone.0 (memory parent).records) (memory parent)
    else (if n == next_or gone.1 (memory gone.1) then with_prev left (memory n)
    else memory n)))

abbrev pub first_child : Pairs → ℕ
first_child [] = 0
first_child (x ∷ xs) = x.1

-- a root with the level and the records of its one child
abbrev pub lowered : PageState → PageState → PageState
lowered root child = record { kind = Tree; level = child.level; prev = 0; next = 0; clock = root.clock; records = child.records }

-- the root takes the records and the level of its one child, which is freed
abbrev pub lift_page : PageMemory → ℕ → ℕ → PageMemory
lift_page memory root child n =
    if n == child then freed_page (memory child)
    else (if n == root then lowered (memory root) (memory child)
    else memory n)
