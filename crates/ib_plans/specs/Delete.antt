-- The planned delete: the pair leaves the key's leaf, and then, from the leaf up, a page that lost a record and has few is merged
-- with a sibling; at last a root that is left with one child takes its records.
use Rattle.std.specs.Prelude.{ℕ, zero, suc, Bool, true, false, ◌&&◌, length, ◌==◌, nat_lt, Option, Some, None, if◌then◌else◌}
use Rattle.ib_map.specs.Keys.{MapKey}
use Rattle.ib_map.specs.Pairs.{without}
use Rattle.ib_plans.specs.declared.TheConstants.{FEWEST_RECORDS}
use Rattle.ib_walk.specs.Pages.{PageMemory, with_page}
use Rattle.ib_walk.specs.Trees.{height_of}
use Rattle.ib_walk.specs.Search.{child_for}
use Rattle.ib_plans.specs.Marks.{untouched, mark, with_bit}
use Rattle.ib_plans.specs.Moves.{Move, Takes, Fills, Frees, unmoved, with_move}
use Rattle.ib_plans.specs.Split.{with_records, next_or}
use Rattle.ib_plans.specs.Merge.{Siblings, siblings_of, fit_one, merge_pages, first_child, lift_page}

-- how far a delete has come: the pages, the bits, which pages it has touched, how their records moved, and whether the page that it has come to has lost a record
pub record Shrinkage : Type 0 where
  pub memory : PageMemory
  pub bits : ℕ → ℕ
  pub touched : ℕ → Bool
  pub moves : ℕ → Move
  pub lost : Bool

-- no page above loses a record
abbrev pub settled : Shrinkage → Shrinkage
settled s = record { memory = s.memory; bits = s.bits; touched = s.touched; moves = s.moves; lost = false }

-- two pages under a parent are merged
abbrev pub merged : Shrinkage → ℕ → ℕ → MapKey × ℕ → Shrinkage
merged s parent left gone = record {
  memory = merge_pages s.memory parent left gone;
  bits = with_bit gone.1 0 s.bits;
  touched = mark 0 (mark gone.1 (mark left (mark parent (mark (next_or gone.1 (s.memory gone.1)) s.touched))));
  moves = with_move gone.1 Frees (with_move left Fills (with_move parent (Takes gone.0) s.moves));
  lost = true;
}

-- with the left sibling where both fit one page, or else another way
abbrev pub merge_left : Shrinkage → ℕ → Option (MapKey × ℕ) → MapKey × ℕ → Shrinkage → Shrinkage
merge_left s parent None here other = other
merge_left s parent (Some left) here other = if fit_one s.memory left.1 here.1 then merged s parent left.1 here else other

-- with the right sibling
abbrev pub merge_right : Shrinkage → ℕ → MapKey × ℕ → Option (MapKey × ℕ) → Shrinkage → Shrinkage
merge_right s parent here None other = other
merge_right s parent here (Some right) other = if fit_one s.memory here.1 right.1 then merged s parent here.1 right else other

-- with the left sibling, else with the right one, else not at all
abbrev pub merge : Shrinkage → ℕ → Siblings → Shrinkage
merge s parent t = merge_left s parent t.left t.here (merge_right s parent t.here t.right (settled s))

-- .. where the key's child has lost a record and has few
abbrev pub merge_short : MapKey → ℕ → Shrinkage → Shrinkage
merge_short key parent s =
    if s.lost then (if nat_lt (length (s.memory (siblings_of key (s.memory parent).records).here.1).records) FEWEST_RECORDS
    then merge s parent (siblings_of key (s.memory parent).records) else settled s) else s

-- the pair of the key is gone from the page
abbrev pub drop_at : PageMemory → ℕ → MapKey → PageMemory
drop_at memory page key = with_page memory page (with_records (without key (memory page).records) (memory page))

-- the pair is gone from the key's leaf, and each page below this one, which has this height, that lost a record and had few is merged where it could be
abbrev pub delete_below : PageMemory → (ℕ → ℕ) → MapKey → ℕ → ℕ → Shrinkage
delete_below memory bits key zero page = record { memory = drop_at memory page key; bits = bits; touched = mark page untouched; moves = with_move page (Takes key) unmoved; lost = true }
delete_below memory bits key (suc height) page = merge_short key page (delete_below memory bits key height (child_for key 0 (memory page).records))

-- the root takes the place of this child
abbrev pub lifted : Shrinkage → ℕ → ℕ → Shrinkage
lifted s root child = record {
  memory = lift_page s.memory root child;
  bits = with_bit child 0 s.bits;
  touched = mark 0 (mark child (mark root s.touched));
  moves = with_move child Frees (with_move root Fills s.moves);
  lost = false;
}

-- .. where a merge took a record from it, and it is a node with one record
abbrev pub lift_single : ℕ → Shrinkage → Shrinkage
lift_single root s =
    if s.lost && (nat_lt 0 (s.memory root).level && (length (s.memory root).records == 1)) then lifted s root (first_child (s.memory root).records) else s

-- the pages after a delete of the key from the tree of a root, all but the clocks
abbrev pub planned_delete : PageMemory → (ℕ → ℕ) → MapKey → ℕ → Shrinkage
planned_delete memory bits key root = lift_single root (delete_below memory bits key (height_of memory root) root)
