-- Keys as words: nothing else here knows how many words a key has, or which.
use Rattle.std.specs.Prelude.{ℕ, Bool, List, [], ◌∷◌, slice_index}
use Rattle.ib_map.specs.KeyWords.{is_key_words}
use Rattle.ib_map.specs.Keys.{MapKey, key_in as key_of_words}

-- the words that a key is written as
unfoldable pub key_words : MapKey → List ℕ
key_words key = key.first ∷ key.second ∷ []

-- whether a key is spelled at the front of the words
unfoldable pub spells_key : List ℕ → Bool
spells_key words = is_key_words (slice_index words 0) (slice_index words 1)

-- the key that is spelled at the front of the words
unfoldable pub key_in : List ℕ → MapKey
key_in words = key_of_words (slice_index words 0) (slice_index words 1)
