-- The phases of those that wait for a grant, by the generation that they recorded.
use Rattle.std.specs.Prelude.{◌≡◌, ℕ, ◌⊎◌}
use Rattle.ib_levels.specs.declared.level.Level.{Level}
use Rattle.ib_levels.specs.declared.level.Mode.{Mode}
use Rattle.ib_core.specs.declared.phase.Phase.{Phase}
use Rattle.ib_core.specs.declared.phase.Phase.TheVariants.{Flagged, Checked, Asleep, NextChecked, NextAsleep}

-- the wish was refused once more, and the session may go to sleep, or sleeps, for as long as the
-- generation is this one
abbrev pub MaySleep : ℕ → Mode → Level → ℕ → Phase → Type 0
MaySleep l mode v g p = (p ≡ Checked l mode v g) ⊎ (p ≡ Asleep l mode v g)

-- the session set the waiters flag, for such a sleep
abbrev pub HasFlagged : ℕ → Mode → Level → ℕ → Phase → Type 0
HasFlagged l mode v g p = (p ≡ Flagged l mode v g) ⊎ MaySleep l mode v g p

-- the next writer found readers, and may go to sleep, or sleeps, for as long as the ex generation
-- is this one
abbrev pub NextMaySleep : ℕ → Level → ℕ → Phase → Type 0
NextMaySleep l v g p = (p ≡ NextChecked l v g) ⊎ (p ≡ NextAsleep l v g)
