-- What has been put in, and behind it what is left, are the map.
use Rattle.std.proofs.Common.{◌≡◌, ◌++◌}
use Rattle.ib_sorted_map.proofs.sorted.SortedMap.to_plain.Given as goal

abbrev pub invariant-loop-key : goal.invariant-loop-key
invariant-loop-key l = l.plain ++ l.key-iterator ≡ l.self
