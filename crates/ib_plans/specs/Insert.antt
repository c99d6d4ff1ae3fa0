-- The planned insert: the pair goes into the key's leaf, and then, from the leaf up, each page that has one record too many is
-- split, or raised where it is the root. A page has one too many only between two steps.
use Rattle.std.specs.Prelude.{◌≡◌, ℕ, zero, suc, ◌<◌, Bool, List, [], ◌∷◌, length, nat_lt, if◌then◌else◌, ⊤}
use Rattle.ib_map.specs.Keys.{MapKey}
use Rattle.ib_map.specs.Pairs.{put}
use Rattle.ib_heap.specs.declared.TheConstants.{MOST_RECORDS}
use Rattle.ib_page.specs.declared.space.TheConstants.{MAPPED_PAGES}
use Rattle.ib_walk.specs.Pages.{PageMemory, with_page}
use Rattle.ib_walk.specs.Trees.{height_of}
use Rattle.ib_walk.specs.Search.{child_for}
use Rattle.ib_plans.specs.Marks.{untouched, mark, with_bit}
use Rattle.ib_plans.specs.Moves.{Move, Puts, Fills, unmoved, with_move}
use Rattle.ib_plans.specs.Split.{with_records, right_part, first_key, next_or, split_page, raise_page}

-- how far an insert has come: the pages, the bits, which pages it has touched, how their records moved, and the fresh pages that are left
pub record Growth : Type 0 where
  pub memory : PageMemory
  pub bits : ℕ → ℕ
  pub touched : ℕ → Bool
  pub moves : ℕ → Move
  pub fresh : List ℕ

-- the first of the fresh pages, and the others
abbrev pub first_fresh : List ℕ → ℕ
first_fresh [] = 0
first_fresh (x ∷ xs) = x

abbrev pub other_fresh : List ℕ → List ℕ
other_fresh [] = []
other_fresh (x ∷ xs) = xs

-- the pair stands in the page
abbrev pub put_at : PageMemory → ℕ → MapKey → ℕ → PageMemory
put_at memory page key value = with_page memory page (with_records (put key value (memory page).records) (memory page))

-- the child is split
abbrev pub split : ℕ → ℕ → Growth → Growth
split parent child g = record {
  memory = split_page g.memory parent child (first_fresh g.fresh);
  bits = with_bit (first_fresh g.fresh) 1 g.bits;
  touched = mark 0 (mark (first_fresh g.fresh) (mark child (mark parent (mark (next_or (first_fresh g.fresh) (g.memory child)) g.touched))));
  moves = with_move (first_fresh g.fresh) Fills (with_move child Fills (with_move parent (Puts (first_key (right_part (g.memory child).records))) g.moves));
  fresh = other_fresh g.fresh;
}

-- .. where it has one record too many
abbrev pub split_long : ℕ → ℕ → Growth → Growth
split_long parent child g = if nat_lt MOST_RECORDS (length (g.memory child).records) then split parent child g else g

-- the pair is in the key's leaf, and every page below this one, which has this height, is short enough
abbrev pub insert_below : PageMemory → (ℕ → ℕ) → List ℕ → MapKey → ℕ → ℕ → ℕ → Growth
insert_below memory bits fresh key value zero page = record { memory = put_at memory page key value; bits = bits; touched = mark page untouched; moves = with_move page (Puts key) unmoved; fresh = fresh }
insert_below memory bits fresh key value (suc height) page =
    split_long page (child_for key 0 (memory page).records) (insert_below memory bits fresh key value height (child_for key 0 (memory page).records))

-- the root is raised: the left page is taken before the right one
abbrev pub raised : ℕ → Growth → Growth
raised root g = record {
  memory = raise_page g.memory root (first_fresh g.fresh) (first_fresh (other_fresh g.fresh));
  bits = with_bit (first_fresh (other_fresh g.fresh)) 1 (with_bit (first_fresh g.fresh) 1 g.bits);
  touched = mark 0 (mark (first_fresh g.fresh) (mark (first_fresh (other_fresh g.fresh)) (mark root g.touched)));
  moves = with_move (first_fresh g.fresh) Fills (with_move (first_fresh (other_fresh g.fresh)) Fills (with_move root Fills g.moves));
  fresh = other_fresh (other_fresh g.fresh);
}

-- .. where it has one record too many
abbrev pub raise_long : ℕ → Growth → Growth
raise_long root g = if nat_lt MOST_RECORDS (length (g.memory root).records) then raised root g else g

-- the pages after an insert of the pair into the tree of a root, all but the clocks
abbrev pub planned_insert : PageMemory → (ℕ → ℕ) → List ℕ → MapKey → ℕ → ℕ → Growth
planned_insert memory bits fresh key value root = raise_long root (insert_below memory bits fresh key value (height_of memory root) root)

-- the fresh pages are free, and each is another one
abbrev pub AreFresh : (ℕ → ℕ) → List ℕ → Type 0
AreFresh bits [] = ⊤
AreFresh bits (x ∷ xs) = (bits x ≡ 0) × (x < MAPPED_PAGES) × AreFresh (with_bit x 1 bits) xs

-- there is a fresh page for each page below this one that has one record too many
abbrev pub AreEnough : PageMemory → (ℕ → ℕ) → List ℕ → MapKey → ℕ → ℕ → ℕ → Type 0
AreEnough memory bits fresh key value zero page = ⊤
AreEnough memory bits fresh key value (suc height) page =
    AreEnough memory bits fresh key value height (child_for key 0 (memory page).records)
    × (let g = insert_below memory bits fresh key value height (child_for key 0 (memory page).records) in
    MOST_RECORDS < length (g.memory (child_for key 0 (memory page).records)).records → 0 < length g.fresh)
