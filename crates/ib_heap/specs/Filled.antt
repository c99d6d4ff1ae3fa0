-- The heap of an empty page into which records were put in ascending order of their keys.
use Rattle.std.specs.Prelude.{ℕ, zero, suc, [], ◌∷◌}
use Rattle.ib_heap.specs.declared.form.TheConstants.{SUPREMUM}
use Rattle.ib_heap.specs.Heap.{Heap}
use Rattle.ib_heap.specs.Put.{put_in}

-- the heap of a page with no records and no free offsets
abbrev pub empty_heap : Heap
empty_heap = record { slots = (SUPREMUM ∷ []) ∷ []; free = [] }

-- the heap after n records, each put in behind all before it
unfoldable pub filled : ℕ → Heap
filled zero = empty_heap
filled (suc n) = put_in n (filled n)
