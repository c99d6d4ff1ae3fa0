-- Which wishes the library refuses by itself, and why.
use Rattle.std.specs.Prelude.{◌≡◌, ◌≢◌, ℕ, ◌<◌, ◌≤◌}
use Rattle.ib_levels.specs.declared.level.Level.{Level}
use Rattle.ib_levels.specs.Level.{number_of}
use Rattle.ib_layout.specs.Places.{latches_of}
use Rattle.ib_core.specs.declared.session.Session.{Session}
use Rattle.ib_levels.specs.declared.level.Mode.{Mode}
use Rattle.ib_levels.specs.declared.level.Mode.TheVariants.{S, Sx, X}
use Rattle.ib_core.specs.declared.phase.Phase.TheVariants.{Free}
use Rattle.ib_core.specs.Sessions.{sx_grants, x_grants}
use Rattle.ib_rule.specs.Conditions.{MayClaim, MayGrow}
use Rattle.ib_rule.specs.Pass.{PassState}
use Rattle.ib_rule.specs.Space.{SpaceState}
use Rattle.ib_c.specs.declared.status.Status.{Status}
use Rattle.ib_c.specs.declared.status.Status.TheVariants.{BadLatch, BadLevel, NotAllowed, TooManyGrants}

-- what a wish asks of a session, at the latch and the level
abbrev pub Allowance : Type 1
Allowance = ℕ → Level → Session → Type 0

-- the wish is refused for this: it names no latch of the space, or no level, or is not allowed, or may take no grant
abbrev pub IsRefusedFor : Allowance → ℕ → ℕ → SpaceState → PassState → Status → Type 0
IsRefusedFor may l v space p BadLatch = latches_of space.sizes ≤ l
IsRefusedFor may l v space p BadLevel = (u : Level) → number_of u ≢ v
IsRefusedFor may l v space p NotAllowed = (u : Level) × (number_of u ≡ v) × ¬ may l u p.view.session
IsRefusedFor may l v space p TooManyGrants = ¬ MayGrow p.view
IsRefusedFor may l v space p other = ⊥

-- .. or may be made at this level
pub record IsGrantedAt (may : Allowance) (l v : ℕ) (space : SpaceState) (p : PassState) (u : Level) : Type 0 where
  pub level : number_of u ≡ v
  pub latch : l < latches_of space.sizes
  pub grows : MayGrow p.view
  pub allowed : may l u p.view.session

-- SX or X may be wished for by a session in the middle of nothing
abbrev pub MayClaimNow : Allowance
MayClaimNow l u a = (a.phase ≡ Free) × MayClaim l u a

-- X is owned on the latch beside each SX
abbrev pub HasNoSxAlone : ℕ → Session → Type 0
HasNoSxAlone l a = 0 < sx_grants l a → 0 < x_grants l a

-- .. and then X may be tried for
abbrev pub MayTryX : Allowance
MayTryX l u a = MayClaimNow l u a × HasNoSxAlone l a

-- the numbers of modes in C
abbrev pub mode_number : Mode → ℕ
mode_number S = 0
mode_number Sx = 1
mode_number X = 2
