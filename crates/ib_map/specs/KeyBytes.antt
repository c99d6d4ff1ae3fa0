-- Keys as their bytes.
use Rattle.std.specs.Prelude.{◌≡◌, ℕ, ◌<◌, ◌%◌, ◌⊎◌, List, [], ◌∷◌, ◌++◌, length, take, get_or, ⊤}
use Rattle.std.specs.Int.{w64, from_be_bytes, to_be_bytes}
use Rattle.ib_map.specs.Keys.{MapKey, key_in}

-- the sixteen bytes of a key's words, from the highest down: its own, zeros up to 15, and how many are its own
abbrev pub word_bytes : MapKey → List ℕ
word_bytes key = to_be_bytes w64 key.first ++ to_be_bytes w64 key.second

-- the bytes of a key
abbrev pub bytes_of : MapKey → List ℕ
bytes_of key = take (key.second % 256) (word_bytes key)

-- the order of bytes: the first that differ decide, and a prefix is before what is longer
abbrev pub Precedes : List ℕ → List ℕ → Type 0
Precedes xs [] = ⊥
Precedes [] (y ∷ ys) = ⊤
Precedes (x ∷ xs) (y ∷ ys) = (x < y) ⊎ ((x ≡ y) × Precedes xs ys)

-- the words of bytes: a byte, or 0 behind the last one, and how many they are
abbrev pub first_bytes : List ℕ → List ℕ
first_bytes bs = get_or bs 0 0 ∷ get_or bs 1 0 ∷ get_or bs 2 0 ∷ get_or bs 3 0 ∷ get_or bs 4 0 ∷ get_or bs 5 0 ∷ get_or bs 6 0 ∷ get_or bs 7 0 ∷ []

abbrev pub second_bytes : List ℕ → List ℕ
second_bytes bs = get_or bs 8 0 ∷ get_or bs 9 0 ∷ get_or bs 10 0 ∷ get_or bs 11 0 ∷ get_or bs 12 0 ∷ get_or bs 13 0 ∷ get_or bs 14 0 ∷ length bs ∷ []

-- the key of at most 15 bytes
abbrev pub key_of_bytes : List ℕ → MapKey
key_of_bytes bs = key_in (from_be_bytes w64 (first_bytes bs)) (from_be_bytes w64 (second_bytes bs))

-- all of them are bytes
abbrev pub AreBytes : List ℕ → Type 0
AreBytes [] = ⊤
AreBytes (b ∷ bs) = (b < 256) × AreBytes bs
