-- The change of the second tree that goes with a change of the map.
use Rattle.std.specs.Prelude.{ℕ, Option, Some, None}
use Rattle.ib_map.specs.Pairs.{Pairs, value_at}
use Rattle.ib_map.specs.declared.call.Change.{Change}
use Rattle.ib_map.specs.declared.call.Change.TheVariants.{Insert, Delete}
use Rattle.ib_second_key.specs.SecondKeys.{IsPrimary, IsPrimaryPair, second_key_of}

-- a change of a key that has a second key
abbrev pub IsPrimaryChange : Change → Type 0
IsPrimaryChange (Insert key value) = IsPrimaryPair key value
IsPrimaryChange (Delete key) = IsPrimary key

abbrev pub value_or_zero : Option ℕ → ℕ
value_or_zero (Some value) = value
value_or_zero None = 0

-- the second key of the pair goes in, or out: a delete finds the value in the map before it
abbrev pub second_change : Pairs → Change → Change
second_change m (Insert key value) = Insert (second_key_of key value) 0
second_change m (Delete key) = Delete (second_key_of key (value_or_zero (value_at key m)))
