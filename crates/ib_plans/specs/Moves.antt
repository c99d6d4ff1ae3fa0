-- What a plan does to the records of each page, and how they stand in it afterwards.
use Rattle.std.specs.Prelude.{◌≡◌, ℕ, ◌==◌, List, Option, is_some, IfSome, if◌then◌else◌}
use Rattle.ib_map.specs.Keys.{MapKey}
use Rattle.ib_map.specs.Pairs.{Pairs, index_of, value_at}
use Rattle.ib_heap.specs.Heap.{Heap, used_offsets, read_heap}
use Rattle.ib_heap.specs.Put.{put_in}
use Rattle.ib_heap.specs.Take.{remove_in}
use Rattle.ib_heap.specs.Filled.{filled}
use Rattle.ib_page.specs.Image.{records_of}

-- the records stay, one is put in, that of a key is taken out, all stand one behind the other as in a page that was just filled, or the page is free
pub data Move : Type 0 where
  Stays : Move
  Puts : MapKey → Move
  Takes : MapKey → Move
  Fills : Move
  Frees : Move

-- every page's records stay
abbrev pub unmoved : ℕ → Move
unmoved n = Stays

-- one page's records move so
abbrev pub with_move : ℕ → Move → (ℕ → Move) → ℕ → Move
with_move page move moves n = if n == page then move else moves n

-- the heap of a page without the record of a key, where there is one
abbrev pub heap_without : MapKey → Pairs → Heap → Heap
heap_without key records heap = if is_some (value_at key records) then remove_in (index_of key records) heap else heap

-- which heap a page with these records has after a move
abbrev pub IsMovedHeap : Move → Pairs → Heap → Heap → Type 0
IsMovedHeap Stays records was is = is ≡ was
IsMovedHeap (Puts key) records was is = is ≡ put_in (index_of key records) was
IsMovedHeap (Takes key) records was is = is ≡ heap_without key records was
IsMovedHeap Fills records was is = is ≡ filled (used_offsets is)
IsMovedHeap Frees records was is = Unit {0}

-- .. an image, where the page is there
abbrev pub HasMoved : Move → Option (List ℕ) → Option (List ℕ) → Type 0
HasMoved move was image = IfSome was (λ w. IfSome image (λ i. IsMovedHeap move (records_of w) (read_heap w) (read_heap i)))
