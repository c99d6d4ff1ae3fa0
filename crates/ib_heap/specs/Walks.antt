-- What the test of a page looks at, in one walk of the chain and one of the free list.
use Rattle.std.specs.Prelude.{◌≡◌, ℕ, zero, suc, ◌+◌, ◌-◌, ◌/◌, ◌*◌, ◌%◌, ◌<◌, ◌≤◌, Bool, true, ◌==◌, ◌&&◌, List, [], ◌∷◌, Option, None, Some, length, slice_index, slice_set}
use Rattle.ib_map.specs.declared.TheConstants.{PAGE_WORDS}
use Rattle.ib_map.specs.Keys.{MapKey, rank, end_rank}
use Rattle.ib_heap.specs.declared.form.TheConstants.{KIND, COUNT, TREE, TOP, DIRECTORY, MOST_SLOTS, INFIMUM, SUPREMUM, FIRST_OFFSET, RECORD_WORDS, OWNED_UNIT}
use Rattle.ib_heap.specs.declared.TheConstants.{MOST_RECORDS}
use Rattle.ib_heap.specs.declared.formed.ChainStep.{ChainStep}
use Rattle.ib_heap.specs.Page.{rises}
use Rattle.ib_heap.specs.Chain.{is_offset, chain_from, owners, is_owned, is_directory, records_in, are_keys}

-- where the chain stands after n records from an offset on
abbrev pub end_from : List ℕ → ℕ → ℕ → ℕ
end_from ws zero p = p
end_from ws (suc n) p = end_from ws n (slice_index ws p % OWNED_UNIT)

-- the same of the free list
abbrev pub free_end : List ℕ → ℕ → ℕ → ℕ
free_end ws zero p = p
free_end ws (suc n) p = free_end ws n (slice_index ws p)

-- the words of the header that stand by themselves: kind, count, top, the start and the end of the chain
abbrev pub HasHeader : List ℕ → Type 0
HasHeader ws = (slice_index ws KIND ≡ TREE) × ((slice_index ws COUNT ≤ MOST_RECORDS) × ((FIRST_OFFSET ≤ slice_index ws TOP % OWNED_UNIT) × (((slice_index ws TOP % OWNED_UNIT - FIRST_OFFSET) % RECORD_WORDS ≡ 0) × ((slice_index ws TOP % OWNED_UNIT ≤ PAGE_WORDS)
    × ((slice_index ws COUNT ≤ (slice_index ws TOP % OWNED_UNIT - FIRST_OFFSET) / RECORD_WORDS) × ((slice_index ws INFIMUM / OWNED_UNIT ≡ 1) × ((slice_index ws SUPREMUM % OWNED_UNIT ≡ 0) × (slice_index ws DIRECTORY ≡ INFIMUM))))))))

-- whether the top word's number of slots ends at the supremum's
abbrev pub HasSlots : List ℕ → Type 0
HasSlots ws = (2 ≤ slice_index ws TOP / OWNED_UNIT) × ((slice_index ws TOP / OWNED_UNIT ≤ MOST_SLOTS) × (slice_index ws (DIRECTORY - 1 + slice_index ws TOP / OWNED_UNIT) ≡ SUPREMUM))

-- no word but the headers of record offsets is 0: only those may still be met
abbrev pub HasOnlyOffsets : List ℕ → Type 0
HasOnlyOffsets met = (p : ℕ) → p < PAGE_WORDS → slice_index met p ≡ 0 → is_offset MOST_RECORDS p ≡ true

-- no record offset is met
pub record IsUnmet (met : List ℕ) : Type 0 where
  pub size : length met ≡ PAGE_WORDS
  pub none : (r : ℕ) → r < MOST_RECORDS → slice_index met (FIRST_OFFSET + RECORD_WORDS * r) ≡ 0
  pub offsets : HasOnlyOffsets met

-- the word is the header of one of the first n record offsets, and was not met before
abbrev pub is_new : ℕ → List ℕ → ℕ → Bool
is_new n met p = is_offset n p && (slice_index met p == 0)

-- the same of each of these words, of which none stands twice
abbrev pub are_new : ℕ → List ℕ → List ℕ → Bool
are_new n met [] = true
are_new n met (p ∷ ps) = is_new n met p && are_new n (slice_set met p 1) ps

-- what was met, with these words
abbrev pub met_with : List ℕ → List ℕ → List ℕ
met_with met [] = met
met_with met (p ∷ ps) = met_with (slice_set met p 1) ps

-- the least rank of a key behind another, where there is one
abbrev pub low_of : Option MapKey → ℕ
low_of None = 0
low_of (Some last) = rank last + 1

-- the step in front of the first record
abbrev pub first_step : List ℕ → ChainStep
first_step ws = record { at = slice_index ws INFIMUM % OWNED_UNIT; owned = 0; slot = 1; last = None }

-- the next n records are the rest of a page's chain: it ends at the supremum, their slots are those of the directory, and they have keys, which ascend
abbrev pub chain_holds : List ℕ → ℕ → ChainStep → Bool
chain_holds ws n s = (end_from ws n s.at == SUPREMUM) && (is_owned s.owned (chain_from ws n s.at) (slice_index ws SUPREMUM / OWNED_UNIT)
    && (is_directory ws (MOST_SLOTS - s.slot) (DIRECTORY + s.slot) (owners (chain_from ws n s.at)) && (are_keys ws (chain_from ws n s.at) && rises (low_of s.last) (records_in ws (chain_from ws n s.at)) end_rank)))

-- what the step behind a record leaves to be tested
pub record LeavesStep (ws : List ℕ) (s next : ChainStep) : Type 0 where
  pub at : next.at ≡ slice_index ws s.at % OWNED_UNIT
  pub holds : (m : ℕ) → chain_holds ws (suc m) s ≡ chain_holds ws m next
  pub owned : next.owned ≤ s.owned + 1
  pub last : low_of next.last ≤ end_rank
