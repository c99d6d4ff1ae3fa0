-- How one key stands to another.
use Rattle.std.specs.Prelude.{◌≡◌, ◌<◌}
use Rattle.std.specs.declared.cmp.Ordering.{Ordering}
use Rattle.std.specs.Ordering.{MatchOrdering}
use Rattle.ib_map.specs.Keys.{MapKey, rank}

-- the first is before the second, or is that key, or is behind it
abbrev pub IsOrder : MapKey → MapKey → Ordering → Type 0
IsOrder a b order = MatchOrdering order (rank a < rank b) (a ≡ b) (rank b < rank a)
