-- Tries of which it is known before that they are first wishes.
use Rattle.std.specs.Prelude.{◌≡◌, ℤ, true, Option, Some, None}
use Rattle.ib_levels.specs.declared.level.Level.{Level}
use Rattle.ib_levels.specs.declared.level.Mode.{Mode}
use Rattle.ib_core.specs.declared.event.Event.{Event}
use Rattle.ib_core.specs.declared.session.Session.{Session}
use Rattle.ib_core.specs.Holders.{CanWish}
use Rattle.ib_core.specs.Responses.{latch_of}
use Rattle.ib_core.specs.Takings.{is_given_at, wish}

-- the event is the first wish of this mode and level, if one is named: the session may have it, and the word w gives it
abbrev pub IsWished : Option (Mode × Level) → Event → ℤ → Session → Type 0
IsWished None e w a = Unit {0}
IsWished (Some it) e w a =
    CanWish (latch_of e) it.1 a × (e ≡ wish it.0 (latch_of e) it.1) × (is_given_at it.0 w ≡ true)
