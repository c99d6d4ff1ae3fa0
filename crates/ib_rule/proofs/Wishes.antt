-- The try of a session in the middle of nothing is a first wish.
use Rattle.std.proofs.Common.{◌≡◌, ℕ, ℤ, refl}
use Rattle.std.specs.Prelude.{true, Some}
use Rattle.ib_levels.specs.declared.level.Level.{Level}
use Rattle.ib_levels.specs.declared.level.Mode.{Mode}
use Rattle.ib_levels.specs.declared.level.Mode.TheVariants.{S, Sx, X}
use Rattle.ib_core.specs.declared.phase.Phase.TheVariants.{Free}
use Rattle.ib_core.specs.declared.session.Session.{Session}
use Rattle.ib_core.specs.Takings.{is_given_at}
use Rattle.ib_rule.specs.Conditions.{MayTry, try_event}
use Rattle.ib_rule.specs.Wished.{IsWished}

pub wish_known : (mode : Mode) (l : ℕ) (v : Level) (w : ℤ) (a : Session) → MayTry mode l v a Free → is_given_at mode w ≡ true
    → IsWished (Some (mode, v)) (try_event mode l v Free) w a
wish_known S l v w a may given = (may, refl, given)
wish_known Sx l v w a may given = (may, refl, given)
wish_known X l v w a may given = (may, refl, given)
