-- What an insert makes of each page, by its level. From the key's leaf up, each full page of the path is split: of its 36 records with
-- the new one it keeps the first 18, and the fresh page of its level has the others. The first page that is not full gets one record,
-- and a root that is full is raised.
use Rattle.std.specs.Prelude.{ℕ, zero, suc, ◌==◌, List, slice_index, Option, Some, None, if◌then◌else◌}
use Rattle.std.specs.Option.{option_or}
use Rattle.ib_map.specs.Keys.{MapKey}
use Rattle.ib_map.specs.Pairs.{put}
use Rattle.ib_walk.specs.Pages.{PageState, PageMemory}
use Rattle.ib_walk.specs.Trees.{height_of}
use Rattle.ib_walk.specs.Full.{run_of, is_root_full}
use Rattle.ib_plans.specs.Moves.{Stays, Puts, Fills}
use Rattle.ib_plans.specs.Split.{with_records, with_prev, right_part, first_key, lower_half, upper_half, next_or, raised_left, raised_right, raised_root}
use Rattle.ib_plans.specs.Changed.{PageChange}
use Rattle.ib_plans.specs.Deleted.{page_on}

module _ (memory : PageMemory) (fresh : List ℕ) (key : MapKey) (value root : ℕ) where
  -- the fresh page of a level
  abbrev pub fresh_on : ℕ → ℕ
  fresh_on level = slice_index fresh level

  -- the record that comes to the page of the path on a level: on level 0 the pair itself, above it that of the fresh page below
  abbrev pub coming_to : ℕ → MapKey × ℕ
  coming_to zero = (key, value)
  coming_to (suc level) = (first_key (right_part (put (coming_to level).0 (coming_to level).1 (memory (page_on memory key root level)).records)), fresh_on level)

  -- that page with it
  abbrev pub with_coming : ℕ → PageState
  with_coming level = with_records (put (coming_to level).0 (coming_to level).1 (memory (page_on memory key root level)).records) (memory (page_on memory key root level))

  -- what the split of a level makes of a page
  abbrev pub split_change : ℕ → ℕ → Option PageChange
  split_change level n =
      if n == fresh_on level then Some (record { state = upper_half (with_coming level) (page_on memory key root level) (memory n).clock; move = Fills })
      else (if n == page_on memory key root level then Some (record { state = lower_half (with_coming level) (fresh_on level); move = Fills })
      else None)

  -- what the splits of the lowest levels make of it; the page above them gets one record; and the leaf behind is linked back
  abbrev pub in_splits : ℕ → ℕ → Option PageChange
  in_splits zero n = None
  in_splits (suc level) n = option_or (split_change level n) (in_splits level n)

  abbrev pub in_page_above : ℕ → ℕ → Option PageChange
  in_page_above level n = if n == page_on memory key root level then Some (record { state = with_coming level; move = Puts (coming_to level).0 }) else None

  abbrev pub in_leaf_behind : ℕ → ℕ → Option PageChange
  in_leaf_behind zero n = None
  in_leaf_behind (suc level) n =
      if n == next_or (fresh_on zero) (memory (page_on memory key root zero)) then Some (record { state = with_prev (fresh_on zero) (memory n); move = Stays }) else None

  abbrev pub unraised_change : ℕ → ℕ → Option PageChange
  unraised_change levels n = option_or (in_splits levels n) (option_or (in_page_above levels n) (in_leaf_behind levels n))

  -- the root is raised: the next fresh page is the left one, the one after it the right one
  abbrev pub raise_change : ℕ → ℕ → Option PageChange
  raise_change height n =
      if n == fresh_on height then Some (record { state = raised_left (with_coming height) (fresh_on (suc height)) (memory n).clock; move = Fills })
      else (if n == fresh_on (suc height) then Some (record { state = raised_right (with_coming height) (fresh_on height) (memory n).clock; move = Fills })
      else (if n == root then Some (record { state = raised_root (with_coming height) (fresh_on height) (fresh_on (suc height)); move = Fills })
      else unraised_change height n))

  abbrev pub insert_change : ℕ → Option PageChange
  insert_change n = if is_root_full memory key root then raise_change (height_of memory root) n else unraised_change (run_of memory key root) n
