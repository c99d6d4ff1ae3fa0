-- Keys, ordered by their rank alone.
use Rattle.std.specs.Prelude.{◌≡◌, ℕ, ◌+◌, ◌-◌, ◌/◌, ◌%◌, ◌^◌, Bool, true, false, Option, Some, None, refl, ◌==◌, if◌then◌else◌}
use Rattle.ib_map.specs.KeyWords.{number_of, is_key_words, number_behind, least_words, greatest_words}
use Rattle.ib_map.specs.declared.key.Key.{Key}

-- a key as clauses see it
abbrev pub MapKey : Type 0
MapKey = Key

-- the key that no key is below, and the key that no key is above
abbrev pub least : MapKey
least = record { first = 0; second = 0; is_key = least_words }

abbrev pub greatest : MapKey
greatest = record { first = 2 ^ 64 - 1; second = 2 ^ 64 - 241; is_key = greatest_words }

-- where a key stands in the order: a key is below another where its rank is
unfoldable pub rank : MapKey → ℕ
rank key = number_of key.first key.second

-- one above the greatest rank
unfoldable pub end_rank : ℕ
end_rank = number_of (2 ^ 64 - 1) (2 ^ 64 - 241) + 1

-- the key of two words, by whether they are one's
abbrev pub key_by : (a b : ℕ) (t : Bool) → is_key_words a b ≡ t → MapKey
key_by a b true is = record { first = a; second = b; is_key = is }
key_by a b false is = least

-- the key of two words, and the least one where they are none's
unfoldable pub key_in : ℕ → ℕ → MapKey
key_in a b = key_by a b (is_key_words a b) refl

-- the next key above, where there is one
unfoldable pub key_after : MapKey → Option MapKey
key_after key = if rank key + 1 == end_rank then None else Some (key_in (number_behind (rank key) / 2 ^ 64) (number_behind (rank key) % 2 ^ 64))
