-- The steps of an insert and of a removal: what each asks of the words, and what it leaves.
use Rattle.std.specs.Prelude.{◌≡◌, ◌≢◌, ℕ, ◌+◌, ◌-◌, ◌*◌, ◌/◌, ◌%◌, ◌<◌, ◌≤◌, ◌⊎◌, List, length, take, drop, slice_index, IsTrue}
use Rattle.ib_map.specs.Keys.{MapKey}
use Rattle.ib_map.specs.Pairs.{index_of}
use Rattle.ib_map.specs.declared.TheConstants.{PAGE_WORDS}
use Rattle.ib_heap.specs.declared.form.TheConstants.{COUNT, FREE, TOP, DIRECTORY, MOST_SLOTS, INFIMUM, FIRST_OFFSET, RECORD_WORDS, LAST_OFFSET, VALUE_WORD, OWNED_UNIT, FEWEST_OWNED, ONE_TOO_FEW}
use Rattle.ib_heap.specs.Chain.{key_at, is_key_at, first_of, first_free, owners, used_in_chain, read_chain, nodes_of, last_from, up_to}
use Rattle.ib_heap.specs.Image.{records_of}
use Rattle.ib_heap.specs.ChainPut.{chain_offset, rest_of}
use Rattle.ib_heap.specs.Kept.{IsOutside}

-- where a key stands on a page: its neighbours in the chain, and its slot
pub record IsOffsetOfKey (ws : List ℕ) (key : MapKey) (slot before at : ℕ) : Type 0 where
  pub before_is : before ≡ last_from INFIMUM (take (index_of key (records_of ws)) (nodes_of ws))
  pub at_is : at ≡ first_of (drop (index_of key (records_of ws)) (nodes_of ws))
  pub some : 0 < slot
  pub in_range : slot ≤ length (owners (nodes_of ws))
  pub low : up_to (slot - 1) (nodes_of ws) ≤ index_of key (records_of ws)
  pub high : (index_of key (records_of ws) < up_to slot (nodes_of ws)) ⊎ (slot ≡ length (owners (nodes_of ws)))

-- a header that may be written
pub record IsHeader (offset : ℕ) : Type 0 where
  pub low : INFIMUM ≤ offset
  pub high : offset ≤ LAST_OFFSET

-- the offset for a new record is taken from the free ones, or from the top
pub record IsOffsetTaken (ws vs : List ℕ) (p : ℕ) : Type 0 where
  pub offset : p ≡ chain_offset (read_chain ws)
  pub low : FIRST_OFFSET ≤ p
  pub high : p ≤ LAST_OFFSET
  pub front : slice_index vs FREE ≡ first_free (rest_of (read_chain ws).free)
  pub top : slice_index vs TOP ≡ slice_index ws TOP + RECORD_WORDS * (length (nodes_of ws) + 1 + length (rest_of (read_chain ws).free) - used_in_chain (read_chain ws))
  pub other : (i : ℕ) → i ≢ FREE → i ≢ TOP → slice_index vs i ≡ slice_index ws i
  pub size : length vs ≡ length ws

-- a record can be linked in at an offset that is none of its neighbours'
pub record CanLink (ws : List ℕ) (before at owner p : ℕ) : Type 0 where
  pub size : length ws ≡ PAGE_WORDS
  pub offset_low : FIRST_OFFSET ≤ p
  pub offset_high : p ≤ LAST_OFFSET
  pub before_header : IsHeader before
  pub owner_header : IsHeader owner
  pub apart : before ≢ owner
  pub before_apart : IsOutside p before
  pub owner_apart : IsOutside p owner
  pub reaches : at ≤ slice_index ws before
  pub before_word : slice_index ws before < 65536
  pub owner_word : slice_index ws owner < 65536
  pub count_word : slice_index ws COUNT < 65536

-- it stands between its neighbours, and is counted, and owned
pub record IsLinkedIn (ws vs : List ℕ) (before at owner p : ℕ) (key : MapKey) (value : ℕ) : Type 0 where
  pub offset_word : slice_index vs p ≡ at
  pub key_word : key_at vs p ≡ key
  pub is_key : IsTrue (is_key_at vs p)
  pub value_word : slice_index vs (p + VALUE_WORD) ≡ value
  pub link : slice_index vs before + at ≡ slice_index ws before + p
  pub raised : slice_index vs owner ≡ slice_index ws owner + OWNED_UNIT
  pub count : slice_index vs COUNT ≡ slice_index ws COUNT + 1
  pub other : (i : ℕ) → i ≢ COUNT → IsOutside p i → i ≢ before → i ≢ owner → slice_index vs i ≡ slice_index ws i
  pub size : length vs ≡ length ws

-- a slot can be split where there is room for one more
pub record CanSplitSlot (ws : List ℕ) (slot middle owner : ℕ) : Type 0 where
  pub size : length ws ≡ PAGE_WORDS
  pub some : 0 < slot
  pub last : slot + 1 ≤ slice_index ws TOP / OWNED_UNIT
  pub few : slice_index ws TOP / OWNED_UNIT ≤ MOST_SLOTS - 1
  pub middle_header : IsHeader middle
  pub owner_header : IsHeader owner
  pub apart : middle ≢ owner
  pub middle_word : slice_index ws middle < 65536
  pub owner_word : FEWEST_OWNED * OWNED_UNIT ≤ slice_index ws owner

-- the new slot's owner owns four more, the old owner four fewer, and the slots from there on stand one word higher
pub record IsSlotSplit (ws vs : List ℕ) (slot middle owner : ℕ) : Type 0 where
  pub marked : slice_index vs middle ≡ slice_index ws middle + FEWEST_OWNED * OWNED_UNIT
  pub lowered : slice_index vs owner + FEWEST_OWNED * OWNED_UNIT ≡ slice_index ws owner
  pub top : slice_index vs TOP ≡ slice_index ws TOP + OWNED_UNIT
  pub before : (m : ℕ) → m < slot → slice_index vs (DIRECTORY + m) ≡ slice_index ws (DIRECTORY + m)
  pub here : slice_index vs (DIRECTORY + slot) ≡ middle
  pub behind : (m : ℕ) → slot ≤ m → m + 1 ≤ slice_index ws TOP / OWNED_UNIT → slice_index vs (DIRECTORY + (m + 1)) ≡ slice_index ws (DIRECTORY + m)
  pub other : (i : ℕ) → (i < TOP) ⊎ (DIRECTORY + slice_index ws TOP / OWNED_UNIT < i) → i ≢ middle → i ≢ owner → slice_index vs i ≡ slice_index ws i
  pub size : length vs ≡ length ws

-- a record that owns no slot can be unlinked
pub record CanUnlink (ws : List ℕ) (before at owner : ℕ) : Type 0 where
  pub size : length ws ≡ PAGE_WORDS
  pub at_high : at ≤ LAST_OFFSET
  pub before_header : IsHeader before
  pub owner_header : IsHeader owner
  pub apart : before ≢ owner
  pub reaches : at ≤ slice_index ws before
  pub before_word : slice_index ws before < 65536
  pub owner_word : OWNED_UNIT ≤ slice_index ws owner

-- the chain goes on behind it, and its slot owns one fewer
pub record IsLinkedPast (ws vs : List ℕ) (before at owner : ℕ) : Type 0 where
  pub link : slice_index vs before + at ≡ slice_index ws before + slice_index ws at % OWNED_UNIT
  pub lowered : slice_index vs owner + OWNED_UNIT ≡ slice_index ws owner
  pub other : (i : ℕ) → i ≢ before → i ≢ owner → slice_index vs i ≡ slice_index ws i
  pub size : length vs ≡ length ws

-- a slot can be handed over to the record before its owner
pub record CanHandOver (ws : List ℕ) (before at slot : ℕ) : Type 0 where
  pub size : length ws ≡ PAGE_WORDS
  pub at_high : at ≤ LAST_OFFSET
  pub before_header : IsHeader before
  pub slot_few : slot ≤ MOST_SLOTS - 1
  pub at_word : OWNED_UNIT ≤ slice_index ws at

-- the record before it goes on where the owner did, and owns one fewer
pub record IsHandedOver (ws vs : List ℕ) (before at slot : ℕ) : Type 0 where
  pub link : slice_index vs before + OWNED_UNIT ≡ slice_index ws at
  pub here : slice_index vs (DIRECTORY + slot) ≡ before
  pub other : (i : ℕ) → i ≢ before → i ≢ DIRECTORY + slot → slice_index vs i ≡ slice_index ws i
  pub size : length vs ≡ length ws

-- an offset can be given back
pub record CanGiveBack (ws : List ℕ) (at : ℕ) : Type 0 where
  pub size : length ws ≡ PAGE_WORDS
  pub low : FIRST_OFFSET ≤ at
  pub high : at ≤ LAST_OFFSET
  pub some : 0 < slice_index ws COUNT

-- it is the first free one, and its record is counted out
pub record IsGivenBack (ws vs : List ℕ) (at : ℕ) : Type 0 where
  pub freed : slice_index vs at ≡ slice_index ws FREE
  pub front : slice_index vs FREE ≡ at
  pub count : slice_index vs COUNT + 1 ≡ slice_index ws COUNT
  pub other : (i : ℕ) → i ≢ COUNT → i ≢ FREE → i ≢ at → slice_index vs i ≡ slice_index ws i
  pub size : length vs ≡ length ws

-- the slot after a short one can lend its first record
pub record CanLend (ws : List ℕ) (slot short first after : ℕ) : Type 0 where
  pub size : length ws ≡ PAGE_WORDS
  pub slot_few : slot ≤ MOST_SLOTS - 1
  pub short_header : IsHeader short
  pub first_header : IsHeader first
  pub after_header : IsHeader after
  pub apart : (short ≢ first) × ((short ≢ after) × (first ≢ after))
  pub short_word : ONE_TOO_FEW * OWNED_UNIT ≤ slice_index ws short
  pub first_word : slice_index ws first < 65536
  pub after_word : OWNED_UNIT ≤ slice_index ws after

-- that record owns the short slot of four, and the slot after it one fewer
pub record IsLent (ws vs : List ℕ) (slot short first after : ℕ) : Type 0 where
  pub fewer : slice_index vs short + ONE_TOO_FEW * OWNED_UNIT ≡ slice_index ws short
  pub marked : slice_index vs first ≡ slice_index ws first + FEWEST_OWNED * OWNED_UNIT
  pub lowered : slice_index vs after + OWNED_UNIT ≡ slice_index ws after
  pub here : slice_index vs (DIRECTORY + slot) ≡ first
  pub other : (i : ℕ) → i ≢ short → i ≢ first → i ≢ after → i ≢ DIRECTORY + slot → slice_index vs i ≡ slice_index ws i
  pub size : length vs ≡ length ws

-- a short slot can join the slot after it
pub record CanJoin (ws : List ℕ) (slot short after : ℕ) : Type 0 where
  pub size : length ws ≡ PAGE_WORDS
  pub some : 0 < slot
  pub last : slot + 2 ≤ slice_index ws TOP / OWNED_UNIT
  pub few : slice_index ws TOP / OWNED_UNIT ≤ MOST_SLOTS
  pub short_header : IsHeader short
  pub after_header : IsHeader after
  pub apart : short ≢ after
  pub short_word : ONE_TOO_FEW * OWNED_UNIT ≤ slice_index ws short
  pub after_word : slice_index ws after < 65536

-- the slot after it owns three more, and the slots from there on stand one word lower
pub record IsSlotJoined (ws vs : List ℕ) (slot short after : ℕ) : Type 0 where
  pub fewer : slice_index vs short + ONE_TOO_FEW * OWNED_UNIT ≡ slice_index ws short
  pub raised : slice_index vs after ≡ slice_index ws after + ONE_TOO_FEW * OWNED_UNIT
  pub top : slice_index vs TOP + OWNED_UNIT ≡ slice_index ws TOP
  pub before : (m : ℕ) → m < slot → slice_index vs (DIRECTORY + m) ≡ slice_index ws (DIRECTORY + m)
  pub behind : (m : ℕ) → slot ≤ m → m + 1 < slice_index ws TOP / OWNED_UNIT → slice_index vs (DIRECTORY + m) ≡ slice_index ws (DIRECTORY + (m + 1))
  pub end : slice_index vs (DIRECTORY - 1 + slice_index ws TOP / OWNED_UNIT) ≡ 0
  pub other : (i : ℕ) → (i < TOP) ⊎ (DIRECTORY + slice_index ws TOP / OWNED_UNIT ≤ i) → i ≢ short → i ≢ after → slice_index vs i ≡ slice_index ws i
  pub size : length vs ≡ length ws
