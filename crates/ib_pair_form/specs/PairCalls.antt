-- The calls that a pair of trees takes, and their grants.
use Rattle.std.specs.Prelude.{ℕ, false}
use Rattle.ib_map.specs.declared.call.Call.{Call}
use Rattle.ib_map.specs.declared.call.Call.TheVariants.{Insert, Delete, Get, Scan}
use Rattle.ib_second_key.specs.SecondKeys.{IsPrimary}
use Rattle.ib_runs.specs.Sessions.{most_grants}

-- its key has a second key; and a scan is one of the second tree
abbrev pub IsPairCall : Call → Type 0
IsPairCall (Insert key value) = IsPrimary key
IsPairCall (Delete key) = IsPrimary key
IsPairCall (Get key) = IsPrimary key
IsPairCall (Scan low high) = Unit {0}

-- the most grants that a call takes, on trees of four levels at most
abbrev pub most_pair_grants : Call → ℕ
most_pair_grants (Get key) = 5
most_pair_grants (Insert key value) = 31
most_pair_grants (Delete key) = 39
most_pair_grants (Scan low high) = most_grants false (Scan low high)
