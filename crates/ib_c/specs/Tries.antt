-- What a try on a session's handle comes to, and how C is told.
use Rattle.std.specs.Prelude.{◌≡◌, ℕ, ◌<◌, ◌≤◌, Result, Ok, Err, pos}
use Rattle.ib_levels.specs.declared.level.Level.{Level}
use Rattle.ib_levels.specs.declared.level.Mode.TheVariants.{S as ModeS, Sx as ModeSx, X as ModeX}
use Rattle.ib_layout.specs.Places.{latches_of}
use Rattle.ib_core.specs.declared.phase.Phase.{Phase}
use Rattle.ib_core.specs.declared.phase.Phase.TheVariants.{Next as NextPhase}
use Rattle.ib_core.specs.Responses.{is_above_0, is_above_half}
use Rattle.ib_core.specs.Sessions.{claims, sx_grants, x_grants}
use Rattle.ib_core.specs.Holders.{CanWish}
use Rattle.ib_latch.specs.declared.tries.TryFault.{TryFault}
use Rattle.ib_latch.specs.declared.tries.TryFault.TheVariants.{Busy, Raced}
use Rattle.ib_latch.specs.declared.tries.NotReady.{NotReady}
use Rattle.ib_latch.specs.declared.tries.Reserve.{Reserve}
use Rattle.ib_latch.specs.declared.tries.Reserve.TheVariants.{Owned, Next as NextWriter}
use Rattle.ib_latch.specs.Tries.{IsFirstTry, IsReadyTry, IsReserveOf, IsSxMore, IsTryOf, IsXMore, first_session, is_free_word, upgraded}
use Rattle.ib_rule.specs.Pass.{PassState}
use Rattle.ib_rule.specs.Space.{SpaceState}
use Rattle.ib_c.specs.declared.status.Status.{Status}
use Rattle.ib_c.specs.declared.status.Status.TheVariants.{Done, Busy as WasBusy, Raced as WasRaced, Next, NotReady as WasNotReady, BadLatch, WrongPhase}
use Rattle.ib_c.specs.declared.tries.Tried.{Tried}
use Rattle.ib_c.specs.Statuses.{status_number}
use Rattle.ib_c.specs.Sessions.{Does}
use Rattle.ib_c.specs.Wishes.{Allowance, IsGrantedAt, IsRefusedFor, MayClaimNow, MayTryX}

-- a status with no words
abbrev pub told_only : Status → Tried
told_only s = record { status = status_number s; expected = pos 0; found = pos 0 }

-- what a try came to, in C's words
abbrev pub told : Result (Unit {0}) TryFault → Tried
told (Ok x) = told_only Done
told (Err (Busy w)) = record { status = status_number WasBusy; expected = pos 0; found = w.0 }
told (Err (Raced w found)) = record { status = status_number WasRaced; expected = w.0; found = found.0 }

-- what a reservation came to: the word that is left where readers remain
abbrev pub told_reserve : Result Reserve TryFault → Tried
told_reserve (Ok Owned) = told_only Done
told_reserve (Ok (NextWriter w)) = record { status = status_number Next; expected = pos 0; found = w.0 }
told_reserve (Err (Busy w)) = told (Err (Busy w))
told_reserve (Err (Raced w found)) = told (Err (Raced w found))

-- what a look of the next writer came to
abbrev pub told_ready : Result (Unit {0}) NotReady → Tried
told_ready (Ok x) = told_only Done
told_ready (Err none) = record { status = status_number WasNotReady; expected = pos 0; found = none.word.0 }

-- .. or it was refused before the library's call
abbrev pub told_as : {A : Type 0} → (A → Tried) → Result A Status → Tried
told_as tell (Ok r) = tell r
told_as tell (Err s) = told_only s

-- a wish that was refused changes nothing, and else the library's call was made, at the level
abbrev pub IsAsked : Allowance → ℕ → ℕ → {A : Type 0} → (Level → PassState → A → PassState → Type 0) → SpaceState → PassState → Result A Status → PassState → Type 0
IsAsked may l v does space p (Err s) q = IsRefusedFor may l v space p s × (q ≡ p)
IsAsked may l v does space p (Ok r) q = (u : Level) × IsGrantedAt may l v space p u × does u p r q

-- a call that a wish asks for, as C is told of it
abbrev pub HasWished : {A : Type 0} → (A → Tried) → Allowance → ℕ → ℕ → (Level → PassState → A → PassState → Type 0) → Does Tried
HasWished {A} tell may l v does space p r q = (answer : Result A Status) × (r ≡ told_as tell answer) × IsAsked may l v does space p answer q

-- a try for S
abbrev pub HasTriedS : ℕ → ℕ → Does Tried
HasTriedS l v = HasWished told CanWish l v (IsFirstTry ModeS l)

-- a try for SX: a first one, or one more beside what is owned
pub record IsSxTry (l : ℕ) (u : Level) (p : PassState) (r : Result (Unit {0}) TryFault) (q : PassState) : Type 0 where
  pub first : claims l p.view.session ≡ 0 → IsFirstTry ModeSx l u p r q
  pub more : 0 < claims l p.view.session → (r ≡ Ok tt) × IsSxMore l p q

abbrev pub HasTriedSx : ℕ → ℕ → Does Tried
HasTriedSx l v = HasWished told MayClaimNow l v (IsSxTry l)

-- a try for X: a first one on a free latch, or one more beside X
pub record IsXTry (l : ℕ) (u : Level) (p : PassState) (r : Result (Unit {0}) TryFault) (q : PassState) : Type 0 where
  pub first : claims l p.view.session ≡ 0 → IsTryOf is_free_word ModeX l (first_session ModeX l u p.view.session.held) p r q
  pub more : 0 < x_grants l p.view.session → (r ≡ Ok tt) × IsXMore l p q

abbrev pub HasTriedX : ℕ → ℕ → Does Tried
HasTriedX l v = HasWished told MayTryX l v (IsXTry l)

-- a reservation of X: a first one, one beside SX alone, or one more beside X
pub record IsXReserve (l : ℕ) (u : Level) (p : PassState) (r : Result Reserve TryFault) (q : PassState) : Type 0 where
  pub first : claims l p.view.session ≡ 0 → IsReserveOf is_above_half l (first_session ModeX l u p.view.session.held) p r q
  pub upgrade : 0 < sx_grants l p.view.session → x_grants l p.view.session ≡ 0 → IsReserveOf is_above_0 l (upgraded l p.view.session.held) p r q
  pub more : 0 < x_grants l p.view.session → (r ≡ Ok Owned) × IsXMore l p q

abbrev pub HasReservedX : ℕ → ℕ → Does Tried
HasReservedX l v = HasWished told_reserve MayClaimNow l v (IsXReserve l)

-- the session is the next writer of the latch
abbrev pub IsNextOn : ℕ → Phase → Type 0
IsNextOn l (NextPhase k v) = k ≡ l
IsNextOn l other = ⊥

-- a call for a phase is refused: the space has no such latch, or the session is in no such phase of it
abbrev pub IsRefusedIn : (ℕ → Phase → Type 0) → ℕ → SpaceState → PassState → Status → Type 0
IsRefusedIn is l space p BadLatch = latches_of space.sizes ≤ l
IsRefusedIn is l space p WrongPhase = ¬ is l p.view.session.phase
IsRefusedIn is l space p other = ⊥

-- a call for a phase changes nothing where it is refused, and else the library's call was made
abbrev pub IsAskedIn : (ℕ → Phase → Type 0) → ℕ → {A : Type 0} → (PassState → A → PassState → Type 0) → SpaceState → PassState → Result A Status → PassState → Type 0
IsAskedIn is l does space p (Err s) q = IsRefusedIn is l space p s × (q ≡ p)
IsAskedIn is l does space p (Ok r) q = (l < latches_of space.sizes) × is l p.view.session.phase × does p r q

-- a look of the next writer
abbrev pub HasLookedReady : ℕ → Does Tried
HasLookedReady l space p r q = (answer : Result (Result (Unit {0}) NotReady) Status) × (r ≡ told_as told_ready answer) × IsAskedIn IsNextOn l (IsReadyTry l) space p answer q
