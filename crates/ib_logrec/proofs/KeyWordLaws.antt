-- Keys and the words that they are written as: no other proof opens `key_words`, `spells_key` or `key_in`.
use Rattle.std.proofs.Common.{◌≡◌, ℕ, ◌≤◌, true, List, [], ◌∷◌, ◌++◌, length, drop, refl, arith}
use Rattle.ib_map.specs.Keys.{MapKey}
use Rattle.ib_map.proofs.KeyLaws.{key_in-words, words-key_in}
use Rattle.ib_logrec.specs.declared.key_words.TheConstants.{KEY_WORDS}
use Rattle.ib_logrec.specs.KeyWords.{key_words, spells_key, key_in}

pub length-key_words : (key : MapKey) → length (key_words key) ≡ KEY_WORDS
unfolding key_words
length-key_words key = refl

-- a key is the one that its words spell, whatever stands behind them
pub key_in-key_words : (key : MapKey) (rest : List ℕ) → key_in (key_words key ++ rest) ≡ key
unfolding key_in key_words
key_in-key_words key rest = key_in-words key

pub spells_key-key_words : (key : MapKey) (rest : List ℕ) → spells_key (key_words key ++ rest) ≡ true
unfolding spells_key key_words
spells_key-key_words key rest = key.is_key

-- words that spell a key are that key's, and it is one
pub key_words-key_in : (words : List ℕ) → KEY_WORDS ≤ length words → spells_key words ≡ true → key_words (key_in words) ++ drop KEY_WORDS words ≡ words
unfolding key_words key_in spells_key
key_words-key_in [] long spells = absurd (omega arith)
key_words-key_in (first ∷ []) long spells = absurd (omega arith)
key_words-key_in (first ∷ second ∷ words) long spells =
    let parts = words-key_in first second spells in
    λ i. parts.0 i ∷ parts.1 i ∷ words
