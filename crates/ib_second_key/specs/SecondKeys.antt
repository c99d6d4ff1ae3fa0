-- The keys of a second tree, in which a pair of a map is found by its value: the eight bytes of the value, and those of the key behind them.
use Rattle.std.specs.Prelude.{ℕ, ◌<◌, ◌≤◌, ◌^◌, [], ◌∷◌, ◌++◌, length, drop, replicate}
use Rattle.std.specs.List.{AllByRecursion}
use Rattle.std.specs.Int.{w64, to_be_bytes}
use Rattle.ib_map.specs.Keys.{MapKey}
use Rattle.ib_map.specs.KeyBytes.{bytes_of, key_of_bytes}
use Rattle.ib_map.specs.Pairs.{Pairs, put}
use Rattle.ib_second_key.specs.declared.keys.TheConstants.{MOST_PRIMARY_BYTES}

-- a key has so few bytes that they can stand behind those of a value
abbrev pub IsPrimary : MapKey → Type 0
IsPrimary key = length (bytes_of key) ≤ MOST_PRIMARY_BYTES

-- .. and its value is a word
abbrev pub IsPrimaryPair : MapKey → ℕ → Type 0
IsPrimaryPair key value = IsPrimary key × (value < 2 ^ 64)

-- each pair can be found by its value
abbrev pub ArePrimary : Pairs → Type 0
ArePrimary pairs = AllByRecursion (λ x. IsPrimaryPair x.0 x.1) pairs

-- where the pair of a key and a value is found: the bytes of the value from the highest down, and then those of the key
unfoldable pub second_key_of : MapKey → ℕ → MapKey
second_key_of key value = key_of_bytes (to_be_bytes w64 value ++ bytes_of key)

-- the second tree's map: the second key of each pair of a map, with the value 0
abbrev pub second_of : Pairs → Pairs
second_of [] = []
second_of (x ∷ xs) = put (second_key_of x.0 x.1) 0 (second_of xs)

-- the value and the key of which this is the second key
abbrev pub value_of : MapKey → ℕ
value_of second = second.first

unfoldable pub primary_of : MapKey → MapKey
primary_of second = key_of_bytes (drop 8 (bytes_of second))

-- the second keys of a value stand between these two: its eight bytes alone, and with seven bytes 255 behind them
unfoldable pub least_of_value : ℕ → MapKey
least_of_value value = key_of_bytes (to_be_bytes w64 value)

unfoldable pub greatest_of_value : ℕ → MapKey
greatest_of_value value = key_of_bytes (to_be_bytes w64 value ++ replicate 7 255)
