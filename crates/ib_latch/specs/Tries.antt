-- What a try is: a look at the lock word, and at most one exchange of it.
use Rattle.std.specs.Prelude.{◌≡◌, ◌≢◌, ℕ, ◌<◌, ◌+◌, ◌-◌, Bool, true, false, if◌then◌else◌, nat_lt, List, Some, ℤ, pos, ◌-ℤ◌, Result, Ok, Err, IfErr}
use Rattle.std.specs.Ordering.{int_eq}
use Rattle.ib_word.specs.Word.{cell_of, is_drained}
use Rattle.ib_word.specs.Weight.{x_weight}
use Rattle.ib_word.specs.declared.word.LockWord.{LockWord}
use Rattle.ib_word.specs.declared.word.TheConstants.{X_LOCK_DECR, X_LOCK_HALF_DECR}
use Rattle.ib_levels.specs.declared.level.Level.{Level}
use Rattle.ib_levels.specs.declared.level.Level.TheVariants.{Log}
use Rattle.ib_levels.specs.declared.level.Mode.{Mode}
use Rattle.ib_levels.specs.declared.level.Mode.TheVariants.{S as ModeS, Sx as ModeSx, X as ModeX}
use Rattle.ib_levels.specs.declared.holding.Holding.{Holding}
use Rattle.ib_levels.specs.Holding.{changed_on}
use Rattle.ib_core.specs.declared.phase.Phase.{Phase}
use Rattle.ib_core.specs.declared.phase.Phase.TheVariants.{Free, Next}
use Rattle.ib_core.specs.declared.event.Event.TheVariants.{Sx, X, Ready}
use Rattle.ib_core.specs.declared.session.Session.{Session}
use Rattle.ib_core.specs.Sessions.{claims, sx_grants, x_grants}
use Rattle.ib_core.specs.Table.{owns_x_at}
use Rattle.ib_core.specs.Takings.{holding_too, is_given_at, level_on, one_more}
use Rattle.ib_rule.specs.declared.view.View.{View}
use Rattle.ib_rule.specs.Afterwards.{granted, looked_on, tried_on}
use Rattle.ib_rule.specs.Laws.{Stores}
use Rattle.ib_rule.specs.Turns.{IsTurn}
use Rattle.ib_rule.specs.Views.{signed, with_grant}
use Rattle.ib_rule.specs.Pass.{PassState, with_view}
use Rattle.ib_latch.specs.declared.tries.Claim.{Claim}
use Rattle.ib_latch.specs.declared.tries.Claim.TheVariants.{Nothing, Sx as OwnSx, X as OwnX}
use Rattle.ib_latch.specs.declared.tries.NotReady.{NotReady}
use Rattle.ib_latch.specs.declared.tries.TryFault.{TryFault}
use Rattle.ib_latch.specs.declared.tries.TryFault.TheVariants.{Busy, Raced}
use Rattle.ib_latch.specs.declared.tries.Reserve.{Reserve}
use Rattle.ib_latch.specs.declared.tries.Reserve.TheVariants.{Owned, Next as NextWriter}

-- the word of a latch that nobody holds
abbrev pub is_free_word : ℤ → Bool
is_free_word w = int_eq w (pos X_LOCK_DECR)

-- the pass after a look at the lock word that found this word
abbrev pub looked_at : ℕ → LockWord → PassState → PassState
looked_at l w p = with_view p (looked_on l w p.view)

-- .. after its number was stored as the writer of the latch, which it is for SX and X
abbrev pub signed_on : ℕ → PassState → PassState
signed_on l p = with_view p (signed l p.view)

abbrev pub signed_for : Mode → ℕ → PassState → PassState
signed_for ModeS l p = p
signed_for ModeSx l p = signed_on l p
signed_for ModeX l p = signed_on l p

-- .. after an exchange that found the word expected, and took a grant of the mode, with which the session is this
abbrev pub won_with : Mode → ℕ → LockWord → Session → PassState → PassState
won_with mode l w a p = signed_for mode l (with_view p (granted mode a (tried_on l w w p.view)))

-- .. and after one that found another
abbrev pub lost_at : ℕ → LockWord → LockWord → PassState → PassState
lost_at l w found p = with_view p (tried_on l w found p.view)

-- a try for the mode: a look, and where the test holds of the word found, one exchange. It is won where the exchange found that very word again, refused where the test does not hold, and lost where the exchange found another word. What the session is then, the word tells
abbrev pub IsTryAt : (ℤ → Bool) → Mode → ℕ → (LockWord → Session) → PassState → Result LockWord TryFault → PassState → Type 0
IsTryAt test mode l after p (Ok w) q = (test w.0 ≡ true) × (q ≡ won_with mode l w (after w) (looked_at l w p))
IsTryAt test mode l after p (Err (Busy w)) q = (test w.0 ≡ false) × (q ≡ looked_at l w p)
IsTryAt test mode l after p (Err (Raced w found)) q = (test w.0 ≡ true) × (found.0 ≢ w.0) × (q ≡ lost_at l w found (looked_at l w p))

-- .. at some word
abbrev pub IsTryOf : (ℤ → Bool) → Mode → ℕ → (LockWord → Session) → PassState → Result (Unit {0}) TryFault → PassState → Type 0
IsTryOf test mode l after p (Ok x) q = (w : LockWord) × IsTryAt test mode l after p (Ok w) q
IsTryOf test mode l after p (Err fault) q = IsTryAt test mode l after p (Err fault) q

-- X is owned where this word is left, and else its session is the next writer
abbrev pub reserve_at : ℤ → Reserve
reserve_at w = if is_drained w then Owned else NextWriter (record { 0 = w })

-- the phase after a reservation
abbrev pub phase_of : ℕ → Level → Reserve → Phase
phase_of l v Owned = Free
phase_of l v (NextWriter w) = Next l v

-- the phase after a first grant at the word
abbrev pub phase_by : Mode → ℕ → Level → ℤ → Phase
phase_by ModeS l v w = Free
phase_by ModeSx l v w = Free
phase_by ModeX l v w = phase_of l v (reserve_at (w -ℤ pos X_LOCK_DECR))

-- the session after a first grant at the word, and after X was taken beside its own SX
abbrev pub first_session : Mode → ℕ → Level → List Holding → LockWord → Session
first_session mode l v held w = record { held = holding_too mode l v held; phase = phase_by mode l v w.0 }

abbrev pub upgraded : ℕ → List Holding → LockWord → Session
upgraded l held w = record { held = changed_on l (one_more ModeX) held; phase = phase_of l (level_on l Log held) (reserve_at (w.0 -ℤ pos X_LOCK_DECR)) }

-- a first try for the mode
abbrev pub IsFirstTry : Mode → ℕ → Level → PassState → Result (Unit {0}) TryFault → PassState → Type 0
IsFirstTry mode l v p result q = IsTryOf (is_given_at mode) mode l (first_session mode l v p.view.session.held) p result q

-- what is held after one more grant of the mode on the latch: a holding more, where nothing was held in SX or X
abbrev pub held_with : Mode → ℕ → Level → Session → List Holding
held_with mode l v a =
    if nat_lt 0 (claims l a) then changed_on l (one_more mode) a.held
    else holding_too mode l v a.held

-- how many looks a try made that was not won
abbrev pub looks_of : TryFault → ℕ
looks_of (Busy w) = 1
looks_of (Raced w found) = 2

-- nothing is changed but the looks, of which there are these more, and none of who waits
pub record IsUnchanged (more : ℕ) (before after : View) : Type 0 where
  pub session : after.session ≡ before.session
  pub grants : after.grants ≡ before.grants
  pub written : after.written ≡ before.written
  pub memory : after.memory ≡ before.memory
  pub looks : after.looks.count ≡ before.looks.count + more
  pub waits : after.looks.waits ≡ before.looks.waits

-- .. where a try was not won
abbrev pub IsUnchangedAtFault : {A : Type 0} → Result A TryFault → PassState → PassState → Type 0
IsUnchangedAtFault result p q = IfErr result (λ fault. IsUnchanged (looks_of fault) p.view q.view)

-- one more grant of the mode: this is held then, in this phase, of the log and the pages as much is known as before, and the session is the writer still of each latch of which it was
pub record HasTakenGrant (mode : Mode) (held : List Holding) (phase : Phase) (before after : View) : Type 0 where
  pub session : after.session ≡ record { held = held; phase = phase }
  pub grants : after.grants ≡ with_grant (Some mode) before.grants
  pub kept : (k : ℕ) → Stores k before.written → Stores k after.written
  pub memory : after.memory ≡ before.memory

-- SX more beside one's own SX is a load of the writer, and beside one's own X alone HALF is taken off the lock word, which leaves this word
abbrev pub TakesSxUnderX : ℕ → LockWord → PassState → PassState → Type 0
TakesSxUnderX l left p q = (between : PassState) × IsTurn (Sx l Log) (cell_of left.0 + X_LOCK_HALF_DECR) p between × (q ≡ signed_on l between)

pub record IsSxMore (l : ℕ) (p q : PassState) : Type 0 where
  pub beside_sx : 0 < sx_grants l p.view.session → (writer : ℕ) × IsTurn (Sx l Log) writer p q
  pub beside_x : sx_grants l p.view.session ≡ 0 → (left : LockWord) × TakesSxUnderX l left p q

-- X more takes off what its number weighs, which leaves this word
abbrev pub IsXMore : ℕ → PassState → PassState → Type 0
IsXMore l p q = let x = x_grants l p.view.session in
    (left : LockWord) × (between : PassState) × IsTurn (X l Log) (cell_of left.0 + (x_weight (x + 1) - x_weight x)) p between × (q ≡ signed_on l between)

-- a try for X that may have to wait for readers: where it is won at a word, X is reserved
abbrev pub IsReserveOf : (ℤ → Bool) → ℕ → (LockWord → Session) → PassState → Result Reserve TryFault → PassState → Type 0
IsReserveOf test l after p (Ok r) q = (w : LockWord) × IsTryAt test ModeX l after p (Ok w) q × (r ≡ reserve_at (w.0 -ℤ pos X_LOCK_DECR))
IsReserveOf test l after p (Err fault) q = IsTryAt test ModeX l after p (Err fault) q

-- the level of a latch that is reserved: the one at which it was taken first
abbrev pub level_with : ℕ → Level → Session → Level
level_with l v a = if nat_lt 0 (claims l a) then level_on l Log a.held else v

-- the next writer looked whether it owns X, at this word
abbrev pub IsReadyAt : ℕ → LockWord → PassState → PassState → Type 0
IsReadyAt l w p q = IsTurn (Ready l) (cell_of w.0) p q

-- .. it does at some word where no reader is left, and not at the word that is named
abbrev pub IsReadyTry : ℕ → PassState → Result (Unit {0}) NotReady → PassState → Type 0
IsReadyTry l p (Ok x) q = (w : LockWord) × (owns_x_at (sx_grants l p.view.session) w.0 ≡ true) × IsReadyAt l w p q
IsReadyTry l p (Err none) q = (owns_x_at (sx_grants l p.view.session) none.word.0 ≡ false) × IsReadyAt l none.word p q

-- what a session has of the latch in SX and X
abbrev pub IsClaim : ℕ → Session → Claim → Type 0
IsClaim l a Nothing = (claims l a ≡ 0) × (sx_grants l a ≡ 0) × (x_grants l a ≡ 0)
IsClaim l a OwnSx = (0 < claims l a) × (0 < sx_grants l a) × (x_grants l a ≡ 0)
IsClaim l a OwnX = (0 < claims l a) × (0 < x_grants l a)
