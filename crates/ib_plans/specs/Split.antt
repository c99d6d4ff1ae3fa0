-- A split of a page that has one record too many, and the raise of a root that has.
use Rattle.std.specs.Prelude.{ℕ, suc, [], ◌∷◌, take, drop, ◌==◌, if◌then◌else◌}
use Rattle.ib_map.specs.Keys.{MapKey, least}
use Rattle.ib_map.specs.Pairs.{Pairs, put}
use Rattle.ib_plans.specs.declared.TheConstants.{LEFT_RECORDS}
use Rattle.ib_walk.specs.Pages.{Tree, PageState, PageMemory}

abbrev pub with_records : Pairs → PageState → PageState
with_records records page = record { kind = page.kind; level = page.level; prev = page.prev; next = page.next; clock = page.clock; records = records }

abbrev pub with_prev : ℕ → PageState → PageState
with_prev prev page = record { kind = page.kind; level = page.level; prev = prev; next = page.next; clock = page.clock; records = page.records }

-- the records of a page that stay in it, and those that go
abbrev pub left_part : Pairs → Pairs
left_part records = take LEFT_RECORDS records

abbrev pub right_part : Pairs → Pairs
right_part records = drop LEFT_RECORDS records

abbrev pub first_key : Pairs → MapKey
first_key [] = least
first_key (x ∷ xs) = x.0

-- a page with one record too many as two halves: what stays in it, and what goes to the fresh page
abbrev pub lower_half : PageState → ℕ → PageState
lower_half long fresh = record {
  kind = long.kind;
  level = long.level;
  prev = long.prev;
  next = if long.level == 0 then fresh else long.next;
  clock = long.clock;
  records = left_part long.records;
}

abbrev pub upper_half : PageState → ℕ → ℕ → PageState
upper_half long page clock = record {
  kind = Tree;
  level = long.level;
  prev = if long.level == 0 then page else 0;
  next = if long.level == 0 then long.next else 0;
  clock = clock;
  records = right_part long.records;
}

-- the leaf behind a page, or this other page where there is none
abbrev pub next_or : ℕ → PageState → ℕ
next_or other page = if page.next == 0 then other else page.next

-- the child keeps the first records, the others go to the fresh page, the parent gets a record for it, and a leaf behind is linked back to it
abbrev pub split_page : PageMemory → ℕ → ℕ → ℕ → PageMemory
split_page memory parent child fresh n =
    if n == fresh then upper_half (memory child) child (memory fresh).clock
    else (if n == child then lower_half (memory child) fresh
    else (if n == parent then with_records (put (first_key (right_part (memory child).records)) fresh (memory parent).records) (memory parent)
    else (if n == next_or fresh (memory child) then with_prev (if (memory child).level == 0 then fresh else (memory n).prev) (memory n)
    else memory n)))

-- the two pages below a root with one record too many that is raised, and the root
abbrev pub raised_left : PageState → ℕ → ℕ → PageState
raised_left long right clock = record {
  kind = Tree;
  level = long.level;
  prev = 0;
  next = if long.level == 0 then right else 0;
  clock = clock;
  records = left_part long.records;
}

abbrev pub raised_right : PageState → ℕ → ℕ → PageState
raised_right long left clock = record {
  kind = Tree;
  level = long.level;
  prev = if long.level == 0 then left else 0;
  next = 0;
  clock = clock;
  records = right_part long.records;
}

abbrev pub raised_root : PageState → ℕ → ℕ → PageState
raised_root long left right = record {
  kind = Tree;
  level = suc long.level;
  prev = 0;
  next = 0;
  clock = long.clock;
  records = (least, left) ∷ (first_key (right_part long.records), right) ∷ [];
}

-- the root's records go to two fresh pages, and the root goes up a level with a record for each
abbrev pub raise_page : PageMemory → ℕ → ℕ → ℕ → PageMemory
raise_page memory root left right n =
    if n == left then raised_left (memory root) right (memory left).clock
    else (if n == right then raised_right (memory root) left (memory right).clock
    else (if n == root then raised_root (memory root) left right
    else memory n))
