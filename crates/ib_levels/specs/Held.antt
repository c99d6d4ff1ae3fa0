-- Lists of `Held`.
use Rattle.std.specs.Prelude.{ℕ, Bool, List}
use Rattle.ib_levels.specs.declared.level.Level.{Level}
use Rattle.ib_levels.specs.declared.held.Held.{Held}
use Rattle.ib_levels.specs.Listed.{is_among, levels_along}

-- the levels along a list, in order of taking
abbrev pub levels_of_held : List Held → List Level
levels_of_held held = levels_along (λ h. h.level) held

-- whether the list has the latch with this number
abbrev pub has_latch : ℕ → List Held → Bool
has_latch latch held = is_among (λ h. h.latch.0) latch held
