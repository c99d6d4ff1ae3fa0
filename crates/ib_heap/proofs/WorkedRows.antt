-- Rows of words, tried by computing: an empty leaf, the keys of the numbers 1 to 8 put in, 4 taken out, and 4 put in again with 9.
use Rattle.std.proofs.Common.{◌≡◌, ℕ, ◌+◌, [], ◌∷◌, List, refl, set, replicate}
use Rattle.ib_map.specs.KeyWords.{is_key_words, zero_bytes}
use Rattle.ib_map.specs.Keys as K
use Rattle.ib_heap.specs.Words as W
use Rattle.ib_heap.specs.Page.PageValue.{Malformed, Tree}
use Rattle.ib_heap.specs.Heap.{Heap, read_heap}
use Rattle.ib_heap.specs.Form.{page_of, empty_leaf_words}
use Rattle.ib_heap.specs.Put.{put_in}
use Rattle.ib_heap.specs.Take.{remove_in}
use Rattle.ib_heap.specs.Filled.{filled, empty_heap}

abbrev none : List ℕ
none = set (set (set (set (set (set (replicate 160 0) 0 1) 7 532) 8 18) 9 19) 18 275) 19 256

-- the key is that of a number, eight bytes
abbrev with_record : List ℕ → ℕ → ℕ → ℕ → ℕ → List ℕ
with_record ws p header number value = set (set (set (set ws p header) (p + 1) number) (p + 2) 8) (p + 3) value

-- the key of 10 with value 100
abbrev ten : List ℕ
ten = with_record (set (set (set (set none 2 1) 7 536) 18 276) 19 512) 20 19 10 100

abbrev eight : List ℕ
eight = let ws = set (set (set (set (set none 2 8) 7 820) 9 32) 10 19) 18 276 in
    let a = with_record (with_record (with_record (with_record (set ws 19 1280) 20 24 1 1) 24 28 2 2) 28 32 3 3) 32 1060 4 4 in
    with_record (with_record (with_record (with_record a 36 40 5 5) 40 44 6 6) 44 48 7 7) 48 19 8 8

abbrev removed : List ℕ
removed = set (set (set (set (set (set (set eight 2 7) 6 32) 9 36) 19 1024) 28 36) 32 0) 36 1064

abbrev again : List ℕ
again = set (set (set (set (set (set (set removed 2 8) 6 0) 28 32) 32 36) 33 4) 35 9) 36 1320

none_is : page_of none ≡ Tree (record { level = 0; prev = 0; next = 0; clock = 0; records = [] })
unfolding page_of K.rank K.end_rank K.key_in is_key_words zero_bytes W.free_page_words W.zeros
none_is = refl

none_leaf : none ≡ empty_leaf_words 0
unfolding empty_leaf_words W.zeros
none_leaf = refl

ten_is : page_of ten ≡ Tree (record { level = 0; prev = 0; next = 0; clock = 0; records = (K.key_in 10 8, 100) ∷ [] })
unfolding page_of K.rank K.end_rank K.key_in is_key_words zero_bytes W.free_page_words W.zeros
ten_is = refl

eight_is : page_of eight ≡ Tree (record { level = 0; prev = 0; next = 0; clock = 0; records = (K.key_in 1 8, 1) ∷ (K.key_in 2 8, 2) ∷ (K.key_in 3 8, 3) ∷ (K.key_in 4 8, 4) ∷ (K.key_in 5 8, 5) ∷ (K.key_in 6 8, 6) ∷ (K.key_in 7 8, 7) ∷ (K.key_in 8 8, 8) ∷ [] })
unfolding page_of K.rank K.end_rank K.key_in is_key_words zero_bytes W.free_page_words W.zeros
eight_is = refl

removed_is : page_of removed ≡ Tree (record { level = 0; prev = 0; next = 0; clock = 0; records = (K.key_in 1 8, 1) ∷ (K.key_in 2 8, 2) ∷ (K.key_in 3 8, 3) ∷ (K.key_in 5 8, 5) ∷ (K.key_in 6 8, 6) ∷ (K.key_in 7 8, 7) ∷ (K.key_in 8 8, 8) ∷ [] })
unfolding page_of K.rank K.end_rank K.key_in is_key_words zero_bytes W.free_page_words W.zeros
removed_is = refl

again_is : page_of again ≡ Tree (record { level = 0; prev = 0; next = 0; clock = 0; records = (K.key_in 1 8, 1) ∷ (K.key_in 2 8, 2) ∷ (K.key_in 3 8, 3) ∷ (K.key_in 4 8, 9) ∷ (K.key_in 5 8, 5) ∷ (K.key_in 6 8, 6) ∷ (K.key_in 7 8, 7) ∷ (K.key_in 8 8, 8) ∷ [] })
unfolding page_of K.rank K.end_rank K.key_in is_key_words zero_bytes W.free_page_words W.zeros
again_is = refl

-- the heaps of these words are what inserts and the removal make of each other
none_heap : read_heap none ≡ empty_heap
none_heap = refl

eight_heap : read_heap eight ≡ filled 8
unfolding filled
eight_heap = refl

removed_heap : read_heap removed ≡ remove_in 3 (read_heap eight)
removed_heap = refl

again_heap : read_heap again ≡ put_in 3 (read_heap removed)
again_heap = refl

-- the same slot by slot: a slot of nine is split, one of three takes a record of a slot of five and joins one of four, and a free offset is taken before the top
abbrev heap : List (List ℕ) → List ℕ → Heap
heap slots free = record { slots = slots; free = free }

eight_slots : read_heap eight ≡ heap ((20 ∷ 24 ∷ 28 ∷ 32 ∷ []) ∷ (36 ∷ 40 ∷ 44 ∷ 48 ∷ 19 ∷ []) ∷ []) []
eight_slots = refl

removed_slots : read_heap removed ≡ heap ((20 ∷ 24 ∷ 28 ∷ 36 ∷ []) ∷ (40 ∷ 44 ∷ 48 ∷ 19 ∷ []) ∷ []) (32 ∷ [])
removed_slots = refl

abbrev joined : Heap
joined = heap ((24 ∷ 28 ∷ 36 ∷ 40 ∷ 44 ∷ 48 ∷ 19 ∷ []) ∷ []) (20 ∷ 32 ∷ [])

joined_slots : remove_in 0 (read_heap removed) ≡ joined
joined_slots = refl

abbrev two_more : Heap
two_more = heap ((32 ∷ 24 ∷ 28 ∷ 36 ∷ []) ∷ (40 ∷ 44 ∷ 48 ∷ 20 ∷ 19 ∷ []) ∷ []) []

two_more_slots : put_in 0 (put_in 6 joined) ≡ two_more
two_more_slots = refl

third_slots : put_in 8 two_more ≡ heap ((32 ∷ 24 ∷ 28 ∷ 36 ∷ []) ∷ (40 ∷ 44 ∷ 48 ∷ 20 ∷ 52 ∷ 19 ∷ []) ∷ []) []
third_slots = refl

-- the words of a free offset may hold anything, also what is no key, and those behind the top; its header and the chain's may not
free_value : page_of (set (set removed 33 77) 34 255) ≡ page_of removed
unfolding page_of K.rank K.end_rank K.key_in is_key_words zero_bytes W.free_page_words W.zeros
free_value = refl

unused_value : page_of (set (set removed 52 77) 54 255) ≡ page_of removed
unfolding page_of K.rank K.end_rank K.key_in is_key_words zero_bytes W.free_page_words W.zeros
unused_value = refl

free_header : page_of (set removed 32 256) ≡ Malformed
unfolding page_of K.rank K.end_rank K.key_in is_key_words zero_bytes W.free_page_words W.zeros
free_header = refl

slot_without_entry : page_of (set eight 36 1064) ≡ Malformed
unfolding page_of K.rank K.end_rank K.key_in is_key_words zero_bytes W.free_page_words W.zeros
slot_without_entry = refl

-- a record of the chain has a key: 15 bytes at most, and zeros behind them
long_key : page_of (set ten 22 16) ≡ Malformed
unfolding page_of K.rank K.end_rank K.key_in is_key_words zero_bytes W.free_page_words W.zeros
long_key = refl

byte_behind_key : page_of (set ten 22 264) ≡ Malformed
unfolding page_of K.rank K.end_rank K.key_in is_key_words zero_bytes W.free_page_words W.zeros
byte_behind_key = refl
