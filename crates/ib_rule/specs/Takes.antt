-- Who may take a grant of a latch, and what the pass of one who looked is.
use Rattle.std.specs.Prelude.{◌≡◌, ℕ, ◌<◌}
use Rattle.ib_levels.specs.declared.level.Level.{Level}
use Rattle.ib_layout.specs.Places.{latches_of}
use Rattle.ib_core.specs.declared.phase.Phase.TheVariants.{Free}
use Rattle.ib_core.specs.Holders.{CanWish}
use Rattle.ib_core.specs.Sessions.{sx_grants, x_grants}
use Rattle.ib_rule.specs.Conditions.{MayClaim, MayGrow}
use Rattle.ib_rule.specs.Pass.{PassState, IsOf, with_view}
use Rattle.ib_rule.specs.Space.{SpaceState}

-- a first grant may be taken on a latch of the space, at a level
pub record MayTake (space : SpaceState) (l : ℕ) (v : Level) (p : PassState) : Type 0 where
  pub own : IsOf space p
  pub latch : l < latches_of space.sizes
  pub grows : MayGrow p.view
  pub may : CanWish l v p.view.session

-- .. or in SX or X a further one, beside what is owned there
pub record MayTakeMore (space : SpaceState) (l : ℕ) (v : Level) (p : PassState) : Type 0 where
  pub own : IsOf space p
  pub latch : l < latches_of space.sizes
  pub free : p.view.session.phase ≡ Free
  pub grows : MayGrow p.view
  pub may : MayClaim l v p.view.session

-- a further grant may be taken beside those that are owned on a latch of the space
pub record MayTakeFurther (space : SpaceState) (l : ℕ) (p : PassState) : Type 0 where
  pub own : IsOf space p
  pub latch : l < latches_of space.sizes
  pub free : p.view.session.phase ≡ Free
  pub grows : MayGrow p.view

-- .. which is X beside one's own SX alone
pub record MayUpgrade (space : SpaceState) (l : ℕ) (p : PassState) : Type 0 where
  pub own : IsOf space p
  pub latch : l < latches_of space.sizes
  pub free : p.view.session.phase ≡ Free
  pub grows : MayGrow p.view
  pub owns_sx : 0 < sx_grants l p.view.session
  pub no_x : x_grants l p.view.session ≡ 0

-- it is a pass of the space still, and its view alone is another
pub record IsStillOf (space : SpaceState) (p q : PassState) : Type 0 where
  pub own : IsOf space q
  pub same : q ≡ with_view p q.view
