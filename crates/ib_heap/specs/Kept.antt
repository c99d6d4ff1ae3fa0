-- The words that no change of a page's records writes.
use Rattle.std.specs.Prelude.{ℕ, ◌+◌, ◌-◌, ◌*◌, ◌%◌, ◌<◌, ◌≤◌, ◌≢◌, ◌⊎◌}
use Rattle.ib_heap.specs.declared.form.TheConstants.{COUNT, FREE, FIRST_OFFSET, RECORD_WORDS}

-- Where n record offsets have been used: the words of kind, level, links and clock, of keys and values, and those behind these offsets. An insert writes
-- a key and a value besides.
abbrev pub IsKept : ℕ → ℕ → Type 0
IsKept n i = (i < COUNT) ⊎ (((COUNT < i) × (i < FREE)) ⊎ ((FIRST_OFFSET ≤ i) × (((i - FIRST_OFFSET) % RECORD_WORDS ≢ 0) ⊎ (FIRST_OFFSET + RECORD_WORDS * n ≤ i))))

-- a word that is none of those of a record offset
abbrev pub IsOutside : ℕ → ℕ → Type 0
IsOutside offset i = (i < offset) ⊎ (offset + RECORD_WORDS ≤ i)
