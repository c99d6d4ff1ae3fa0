-- What a removal makes of a heap.
use Rattle.std.specs.Prelude.{ℕ, ◌+◌, ◌-◌, List, [], ◌∷◌, ◌++◌, ◌==◌, length, take, drop, slice_index, nat_lt, if◌then◌else◌}
use Rattle.std.specs.List.{concat}
use Rattle.ib_heap.specs.declared.form.TheConstants.{FEWEST_OWNED, ONE_TOO_FEW}
use Rattle.ib_heap.specs.Heap.{Heap}

-- a slot of three with others behind it takes the first record of the next one where that has five or more, and joins it where it has fewer
abbrev pub balanced : List ℕ → List (List ℕ) → List (List ℕ)
balanced slot [] = slot ∷ []
balanced slot (next ∷ slots) = if length slot == ONE_TOO_FEW then (if nat_lt FEWEST_OWNED (length next) then (slot ++ take 1 next) ∷ drop 1 next ∷ slots else (slot ++ next) ∷ slots) else slot ∷ next ∷ slots

-- the k-th record, counted from 0, taken out of its slot
abbrev pub take_at : ℕ → List (List ℕ) → List (List ℕ)
take_at k [] = []
take_at k (slot ∷ slots) = if nat_lt k (length slot) then balanced (take k slot ++ drop (k + 1) slot) slots else slot ∷ take_at (k - length slot) slots

-- the heap without the k-th record, whose offset goes to the front of the free ones
abbrev pub remove_in : ℕ → Heap → Heap
remove_in k h = record { slots = take_at k h.slots; free = slice_index (concat h.slots) k ∷ h.free }
