-- The chain of a page: which words have which chain.
-- The words: 0 the kind, 1 the level, 2 how many records, 3 and 4 the links, 5 the clock, 6 the first free offset, 7 how many slots and the top, 8 to 17 the
-- directory, 18 the infimum, 19 the supremum, 20 to 159 the 35 record offsets of four words each (header, the two words of the key, value). A header is the offset of the
-- next record, and 256 for each record that its slot owns.
use Rattle.std.specs.Prelude.{ℕ, zero, suc, ◌+◌, ◌-◌, ◌*◌, ◌/◌, ◌%◌, Bool, true, nat_lt, nat_le, ◌==◌, ◌&&◌, List, [], ◌∷◌, ◌++◌, length, slice_index, if◌then◌else◌}
use Rattle.ib_map.specs.KeyWords.{is_key_words}
use Rattle.ib_map.specs.Keys.{MapKey, key_in}
use Rattle.ib_map.specs.Pairs.{Pairs}
use Rattle.ib_map.specs.declared.TheConstants.{PAGE_WORDS}
use Rattle.ib_heap.specs.declared.form.TheConstants.{KIND, LEVEL, COUNT, PREV, NEXT, TREE, FREE, TOP, DIRECTORY, MOST_SLOTS, INFIMUM, SUPREMUM, FIRST_OFFSET, RECORD_WORDS, FIRST_KEY_WORD, SECOND_KEY_WORD, VALUE_WORD, OWNED_UNIT, MOST_OWNED, FEWEST_OWNED}
use Rattle.ib_heap.specs.declared.page.TheConstants.{CLOCK}
use Rattle.ib_heap.specs.declared.TheConstants.{MOST_RECORDS}
use Rattle.ib_heap.specs.Page.{Page, is_page}

-- a record of the chain: the word at which it stands, and how many records its slot owns, 0 where it has no slot
pub record Node : Type 0 where
  pub offset : ℕ
  pub owned : ℕ

-- the chain in order, how many records the supremum's slot owns, and the free offsets in order
pub record Chain : Type 0 where
  pub nodes : List Node
  pub last : ℕ
  pub free : List ℕ

-- where the chain goes on: the first of these records, or the supremum
abbrev pub first_of : List Node → ℕ
first_of [] = SUPREMUM
first_of (x ∷ xs) = x.offset

-- the first free offset, 0 for none
abbrev pub first_free : List ℕ → ℕ
first_free [] = 0
first_free (p ∷ ps) = p

-- the headers of these records and of the supremum
abbrev pub is_chained : List ℕ → List Node → ℕ → Bool
is_chained ws [] last = slice_index ws SUPREMUM == last * OWNED_UNIT
is_chained ws (x ∷ xs) last = (slice_index ws x.offset == x.owned * OWNED_UNIT + first_of xs) && is_chained ws xs last

-- the headers of free offsets
abbrev pub is_freed : List ℕ → List ℕ → Bool
is_freed ws [] = true
is_freed ws (p ∷ ps) = (slice_index ws p == first_free ps) && is_freed ws ps

-- n records stand behind the last one that has a slot: each slot owns its own record and those before it
abbrev pub is_owned : ℕ → List Node → ℕ → Bool
is_owned n [] last = (last == n + 1) && nat_le last MOST_OWNED
is_owned n (x ∷ xs) last = if x.owned == 0 then is_owned (n + 1) xs last else ((x.owned == n + 1) && (nat_le FEWEST_OWNED x.owned && nat_le x.owned MOST_OWNED)) && is_owned 0 xs last

-- the records that have slots, and the supremum
abbrev pub owners : List Node → List ℕ
owners [] = SUPREMUM ∷ []
owners (x ∷ xs) = if x.owned == 0 then owners xs else x.offset ∷ owners xs

-- the first n words from word i on are these slots, and behind them 0
abbrev pub is_directory : List ℕ → ℕ → ℕ → List ℕ → Bool
is_directory ws zero i slots = length slots == 0
is_directory ws (suc n) i [] = (slice_index ws i == 0) && is_directory ws n (i + 1) []
is_directory ws (suc n) i (s ∷ slots) = (slice_index ws i == s) && is_directory ws n (i + 1) slots

-- how often an offset stands in a list
abbrev pub times : ℕ → List ℕ → ℕ
times p [] = 0
times p (x ∷ xs) = (if x == p then 1 else 0) + times p xs

-- whether a word is the header of one of the first n record offsets
abbrev pub is_offset : ℕ → ℕ → Bool
is_offset n p = nat_le FIRST_OFFSET p && (((p - FIRST_OFFSET) % RECORD_WORDS == 0) && nat_lt p (FIRST_OFFSET + RECORD_WORDS * n))

abbrev pub are_offsets : ℕ → List ℕ → Bool
are_offsets n [] = true
are_offsets n (p ∷ ps) = is_offset n p && are_offsets n ps

-- each of the first n record offsets stands once
abbrev pub each_once : ℕ → List ℕ → Bool
each_once zero ps = true
each_once (suc n) ps = (times (FIRST_OFFSET + RECORD_WORDS * n) ps == 1) && each_once n ps

abbrev pub offsets_of : List Node → List ℕ
offsets_of [] = []
offsets_of (x ∷ xs) = x.offset ∷ offsets_of xs

-- whether the record at an offset has the words of a key
abbrev pub is_key_at : List ℕ → ℕ → Bool
is_key_at ws p = is_key_words (slice_index ws (p + FIRST_KEY_WORD)) (slice_index ws (p + SECOND_KEY_WORD))

-- the key of the record at an offset
abbrev pub key_at : List ℕ → ℕ → MapKey
key_at ws p = key_in (slice_index ws (p + FIRST_KEY_WORD)) (slice_index ws (p + SECOND_KEY_WORD))

-- each of these records has the words of a key
abbrev pub are_keys : List ℕ → List Node → Bool
are_keys ws [] = true
are_keys ws (x ∷ xs) = is_key_at ws x.offset && are_keys ws xs

-- the keys and values of these records
abbrev pub records_in : List ℕ → List Node → Pairs
records_in ws [] = []
records_in ws (x ∷ xs) = (key_at ws x.offset, slice_index ws (x.offset + VALUE_WORD)) ∷ records_in ws xs

-- how many record offsets have been used
abbrev pub used_in_chain : Chain → ℕ
used_in_chain h = length h.nodes + length h.free

-- the page that these records make
abbrev pub page_with : List ℕ → Pairs → Page
page_with ws records = record { level = slice_index ws LEVEL; prev = slice_index ws PREV; next = slice_index ws NEXT; clock = slice_index ws CLOCK; records = records }

-- all that is asked of the words of a page, but for the counts of the slots: what a removal leaves before it balances
abbrev pub is_shaped : List ℕ → Chain → Bool
is_shaped ws h =
    (length ws == PAGE_WORDS)
    && ((slice_index ws KIND == TREE)
    && ((slice_index ws COUNT == length h.nodes)
    && (is_page (page_with ws (records_in ws h.nodes))
    && ((slice_index ws FREE == first_free h.free)
    && ((slice_index ws TOP == (1 + length (owners h.nodes)) * OWNED_UNIT + (FIRST_OFFSET + RECORD_WORDS * used_in_chain h))
    && (nat_le (used_in_chain h) MOST_RECORDS
    && ((slice_index ws INFIMUM == OWNED_UNIT + first_of h.nodes)
    && (is_chained ws h.nodes h.last
    && (is_freed ws h.free
    && (is_directory ws MOST_SLOTS DIRECTORY (INFIMUM ∷ owners h.nodes)
    && (are_offsets (used_in_chain h) (offsets_of h.nodes ++ h.free)
    && (each_once (used_in_chain h) (offsets_of h.nodes ++ h.free)
    && are_keys ws h.nodes))))))))))))

-- the words are a page with this chain
abbrev pub is_heap : List ℕ → Chain → Bool
is_heap ws h = is_shaped ws h && is_owned 0 h.nodes h.last

-- the n records of the chain from an offset on
abbrev pub chain_from : List ℕ → ℕ → ℕ → List Node
chain_from ws zero p = []
chain_from ws (suc n) p = (let x : Node = record { offset = p; owned = slice_index ws p / OWNED_UNIT } in x) ∷ chain_from ws n (slice_index ws p % OWNED_UNIT)

-- the n offsets of the free list from an offset on
abbrev pub free_from : List ℕ → ℕ → ℕ → List ℕ
free_from ws zero p = []
free_from ws (suc n) p = p ∷ free_from ws n (slice_index ws p)

-- the chain that stands in these words, if one does
abbrev pub read_chain : List ℕ → Chain
read_chain ws = record {
  nodes = chain_from ws (slice_index ws COUNT) (slice_index ws INFIMUM % OWNED_UNIT);
  last = slice_index ws SUPREMUM / OWNED_UNIT;
  free = free_from ws ((slice_index ws TOP % OWNED_UNIT - FIRST_OFFSET) / RECORD_WORDS - slice_index ws COUNT) (slice_index ws FREE);
}

-- the records of the chain
abbrev pub nodes_of : List ℕ → List Node
nodes_of ws = (read_chain ws).nodes

-- where the chain stands behind these records: at the last of them, or where there is none at `p`
abbrev pub last_from : ℕ → List Node → ℕ
last_from p [] = p
last_from p (x ∷ xs) = last_from x.offset xs

-- how many records stand up to the j-th one that has a slot
abbrev pub up_to : ℕ → List Node → ℕ
up_to zero xs = 0
up_to (suc j) [] = 0
up_to (suc j) (x ∷ xs) = 1 + (if x.owned == 0 then up_to (suc j) xs else up_to j xs)
