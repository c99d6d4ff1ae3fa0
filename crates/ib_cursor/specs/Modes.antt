-- What a search is for.
use Rattle.std.specs.Prelude.{ℕ, Bool, true, false, ◌==◌, ◌&&◌}
use Rattle.ib_levels.specs.declared.level.Mode.{Mode}
use Rattle.ib_levels.specs.declared.level.Mode.TheVariants.{S, X}
use Rattle.ib_cursor.specs.declared.search.Search.{Search}
use Rattle.ib_cursor.specs.declared.search.Search.TheVariants.{Find, ModifyLeaf}

-- whether it takes its leaf in X
abbrev pub is_exclusive : Search → Bool
is_exclusive Find = false
is_exclusive ModifyLeaf = true

abbrev pub mode_by : Bool → Mode
mode_by false = S
mode_by true = X

-- the mode in which it takes a page of this level
abbrev pub mode_at : Search → ℕ → Mode
mode_at mode level = mode_by (is_exclusive mode && (level == 0))
