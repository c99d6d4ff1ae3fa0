-- The heap of a page: its slots and its free offsets.
use Rattle.std.specs.Prelude.{ℕ, ◌+◌, ◌-◌, ◌==◌, List, [], ◌∷◌, length, if◌then◌else◌}
use Rattle.std.specs.List.{concat}
use Rattle.ib_heap.specs.declared.form.TheConstants.{SUPREMUM}
use Rattle.ib_heap.specs.Chain.{Node, Chain, read_chain}

-- The records of each slot in the order of the chain, each by the word at which it stands. The last record of a slot is its owner, and the
-- last of all is the supremum. And the free offsets, the first of which is the next to be taken.
pub record Heap : Type 0 where
  pub slots : List (List ℕ)
  pub free : List ℕ

-- the first of these slots with a record before its others
abbrev pub begin_with : ℕ → List (List ℕ) → List (List ℕ)
begin_with p [] = (p ∷ []) ∷ []
begin_with p (slot ∷ slots) = (p ∷ slot) ∷ slots

-- the records of a chain and the supremum, cut behind each that owns a slot
abbrev pub slots_of : List Node → List (List ℕ)
slots_of [] = (SUPREMUM ∷ []) ∷ []
slots_of (x ∷ xs) = if x.owned == 0 then begin_with x.offset (slots_of xs) else (x.offset ∷ []) ∷ slots_of xs

abbrev pub heap_of : Chain → Heap
heap_of c = record { slots = slots_of c.nodes; free = c.free }

-- the heap that stands in these words, if one does
abbrev pub read_heap : List ℕ → Heap
read_heap ws = heap_of (read_chain ws)

-- how many record offsets have been used: those of the records, without the supremum, and the free ones
abbrev pub used_offsets : Heap → ℕ
used_offsets h = length (concat h.slots) - 1 + length h.free
