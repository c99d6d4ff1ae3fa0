-- What a delete makes of each page, by its level. The merges go up from the key's leaf: a page of the path that lost a record and has
-- few is merged with a page beside it, so that the page above loses one; at last a root that is left with one child takes its records.
use Rattle.std.specs.Prelude.{ℕ, zero, suc, ◌+◌, ◌-◌, Bool, ◌&&◌, length, ◌==◌, nat_lt, nat_le, Option, Some, None, is_some, if◌then◌else◌}
use Rattle.std.specs.Option.{option_or}
use Rattle.ib_map.specs.Keys.{MapKey, least}
use Rattle.ib_map.specs.Pairs.{Pairs, without}
use Rattle.ib_heap.specs.declared.TheConstants.{MOST_RECORDS}
use Rattle.ib_plans.specs.declared.TheConstants.{FEWEST_RECORDS}
use Rattle.ib_walk.specs.Pages.{PageState, PageMemory}
use Rattle.ib_walk.specs.Trees.{height_of}
use Rattle.ib_walk.specs.Search.{page_below}
use Rattle.ib_plans.specs.Moves.{Stays, Takes, Fills, Frees}
use Rattle.ib_plans.specs.Split.{with_records, with_prev, next_or}
use Rattle.ib_plans.specs.Merge.{Siblings, siblings_of, freed_page, joined, first_child, lowered}
use Rattle.ib_plans.specs.Changed.{PageChange, state_or}

-- two pages under one parent as one: the page that stays, its state, and the record of the page that is freed
pub record Merge : Type 0 where
  pub stays : ℕ
  pub state : PageState
  pub freed : MapKey × ℕ

-- a page that has these records left, as one with its left sibling, or with its right one, where both fit one page
abbrev pub with_left : PageMemory → Pairs → MapKey × ℕ → Option (MapKey × ℕ) → Option Merge
with_left memory records here None = None
with_left memory records here (Some left) =
    if nat_le (length (memory left.1).records + length records) MOST_RECORDS
    then Some (record { stays = left.1; state = joined (memory left.1) (with_records records (memory here.1)); freed = here }) else None

abbrev pub with_right : PageMemory → Pairs → MapKey × ℕ → Option (MapKey × ℕ) → Option Merge
with_right memory records here None = None
with_right memory records here (Some right) =
    if nat_le (length records + length (memory right.1).records) MOST_RECORDS
    then Some (record { stays = here.1; state = joined (with_records records (memory here.1)) (memory right.1); freed = right }) else None

-- a page that has few records left is merged with its left sibling, else with its right one, else not at all
abbrev pub merge_of : PageMemory → Pairs → Siblings → Option Merge
merge_of memory records t =
    if nat_lt (length records) FEWEST_RECORDS then option_or (with_left memory records t.here t.left) (with_right memory records t.here t.right) else None

abbrev pub freed_key : Option Merge → MapKey
freed_key None = least
freed_key (Some merge) = merge.freed.0

-- what a merge makes of its two pages, and of the leaf behind them
abbrev pub merge_change : PageMemory → Option Merge → ℕ → Option PageChange
merge_change memory None n = None
merge_change memory (Some merge) n =
    if n == merge.freed.1 then Some (record { state = freed_page (memory merge.freed.1); move = Frees })
    else (if n == merge.stays then Some (record { state = merge.state; move = Fills })
    else None)

abbrev pub behind_change : PageMemory → Option Merge → ℕ → Option PageChange
behind_change memory None n = None
behind_change memory (Some merge) n =
    if n == next_or merge.freed.1 (memory merge.freed.1) then Some (record { state = with_prev merge.stays (memory n); move = Stays }) else None

module _ (memory : PageMemory) (key : MapKey) (root : ℕ) where
  -- the page of the key's path on a level, and its record in the page above, with those beside it
  abbrev pub page_on : ℕ → ℕ
  page_on level = page_below memory key (height_of memory root - level) root

  abbrev pub siblings_on : ℕ → Siblings
  siblings_on level = siblings_of key (memory (page_on (suc level))).records

  -- the key whose record that page loses: on level 0 the key itself, above it that of the page that is freed below
  abbrev pub lost_key : ℕ → MapKey
  lost_key zero = key
  lost_key (suc level) = freed_key (merge_of memory (without (lost_key level) (memory (page_on level)).records) (siblings_on level))

  -- what is left in it
  abbrev pub left_on : ℕ → Pairs
  left_on level = without (lost_key level) (memory (page_on level)).records

  -- the merge of a level, and how many levels are merged: the most such that each level below is
  abbrev pub merge_on : ℕ → Option Merge
  merge_on level = merge_of memory (left_on level) (siblings_on level)

  abbrev pub merged_below : ℕ → ℕ
  merged_below zero = 0
  merged_below (suc level) = if (merged_below level == level) && is_some (merge_on level) then suc level else merged_below level

  abbrev pub merged_levels : ℕ
  merged_levels = merged_below (height_of memory root)

  -- what the merges of the lowest levels make of a page; the page above them loses a record; and the leaf behind is linked back
  abbrev pub in_merges : ℕ → ℕ → Option PageChange
  in_merges zero n = None
  in_merges (suc level) n = option_or (merge_change memory (merge_on level) n) (in_merges level n)

  abbrev pub in_page_above : ℕ → ℕ → Option PageChange
  in_page_above level n = if n == page_on level then Some (record { state = with_records (left_on level) (memory (page_on level)); move = Takes (lost_key level) }) else None

  abbrev pub in_leaf_behind : ℕ → ℕ → Option PageChange
  in_leaf_behind zero n = None
  in_leaf_behind (suc level) n = behind_change memory (merge_on zero) n

  abbrev pub unlifted_change : ℕ → ℕ → Option PageChange
  unlifted_change levels n = option_or (in_merges levels n) (option_or (in_page_above levels n) (in_leaf_behind levels n))

  -- a root that is left with one child takes its level and its records, and the child is freed
  abbrev pub is_lifted : Bool
  is_lifted = (merged_levels == height_of memory root) && (nat_lt 0 (height_of memory root) && (length (left_on (height_of memory root)) == 1))

  abbrev pub only_child : ℕ
  only_child = first_child (left_on (height_of memory root))

  abbrev pub lifted_state : PageState
  lifted_state = state_or (unlifted_change merged_levels only_child) (memory only_child)

  abbrev pub delete_change : ℕ → Option PageChange
  delete_change n =
      if is_lifted
      then (if n == only_child then Some (record { state = freed_page lifted_state; move = Frees })
      else (if n == root then Some (record { state = lowered (memory root) lifted_state; move = Fills })
      else unlifted_change merged_levels n))
      else unlifted_change merged_levels n
