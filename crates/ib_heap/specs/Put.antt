-- What an insert makes of a heap.
use Rattle.std.specs.Prelude.{ℕ, ◌+◌, ◌-◌, ◌*◌, List, [], ◌∷◌, ◌++◌, length, take, drop, slice_index_or, nat_le, nat_lt, if◌then◌else◌}
use Rattle.ib_heap.specs.declared.form.TheConstants.{FIRST_OFFSET, RECORD_WORDS, MOST_OWNED, FEWEST_OWNED}
use Rattle.ib_heap.specs.Heap.{Heap, used_offsets}

-- the offset that a new record takes: the first free one, or where there is none the one at the top
abbrev pub offset_for : Heap → ℕ
offset_for h = slice_index_or h.free 0 (FIRST_OFFSET + RECORD_WORDS * used_offsets h)

-- a slot of nine is split: its fourth record owns the first four, and its owner keeps the others
abbrev pub split : List ℕ → List (List ℕ)
split slot = if nat_le (length slot) MOST_OWNED then slot ∷ [] else take FEWEST_OWNED slot ∷ drop FEWEST_OWNED slot ∷ []

-- a record put in before the k-th one, counted from 0, and into the slot of that one
abbrev pub put_before : ℕ → ℕ → List (List ℕ) → List (List ℕ)
put_before k p [] = []
put_before k p (slot ∷ slots) = if nat_lt k (length slot) then split (take k slot ++ p ∷ drop k slot) ++ slots else slot ∷ put_before (k - length slot) p slots

-- the heap with a record put in before the k-th one; it takes the offset for a new record, which is free no more
abbrev pub put_in : ℕ → Heap → Heap
put_in k h = record { slots = put_before k (offset_for h) h.slots; free = drop 1 h.free }
