-- What a release on a session's handle comes to, which generation it raised, and how C is told.
use Rattle.std.specs.Prelude.{◌≡◌, ◌≢◌, ◌⊎◌, ℕ, ◌-◌, ◌<◌, ◌≤◌, Bool, true, false, nat_lt, List, ◌∷◌, Result, Ok, Err}
use Rattle.ib_word.specs.Word.{cell_of, is_drained}
use Rattle.ib_word.specs.Weight.{x_weight}
use Rattle.ib_word.specs.declared.word.LockWord.{LockWord}
use Rattle.ib_word.specs.declared.word.TheConstants.{X_LOCK_DECR, X_LOCK_HALF_DECR}
use Rattle.ib_levels.specs.declared.level.Mode.TheVariants.{Sx as ModeSx, X as ModeX}
use Rattle.ib_levels.specs.Holding.{without_latch}
use Rattle.ib_layout.specs.Places.{latches_of}
use Rattle.ib_core.specs.declared.latch_word.LatchWord.TheVariants.{Generation as GenerationWord, ExGeneration as ExGenerationWord}
use Rattle.ib_core.specs.declared.event.Event.{Event}
use Rattle.ib_core.specs.declared.event.Event.TheVariants.{Clear, Look, Raise as RaiseEvent, Us, Usx, Ux}
use Rattle.ib_core.specs.declared.phase.Phase.TheVariants.{Free}
use Rattle.ib_core.specs.Sessions.{reads, sx_grants, x_grants}
use Rattle.ib_core.specs.Takings.{given_back}
use Rattle.ib_latch.specs.Unlocks.{IsReleased, sx_steps}
use Rattle.ib_rule.specs.declared.looks.Raise.{Raise as LatchRaise}
use Rattle.ib_rule.specs.Pass.{PassState}
use Rattle.ib_rule.specs.Space.{SpaceState}
use Rattle.ib_rule.specs.Turns.{IsTurn}
use Rattle.ib_c.specs.declared.status.Status.{Status}
use Rattle.ib_c.specs.declared.status.Status.TheVariants.{Done, BadLatch, NotHeld, WrongPhase}
use Rattle.ib_c.specs.declared.unlocks.Raise.{Raise}
use Rattle.ib_c.specs.declared.unlocks.Raise.TheVariants.{Nothing, Generation, ExGeneration}
use Rattle.ib_c.specs.declared.unlocks.Released.{Released}
use Rattle.ib_c.specs.Statuses.{status_number}
use Rattle.ib_c.specs.Sessions.{Does}

-- a release in C's words
abbrev pub told_raise : Result Raise Status → Released
told_raise (Err s) = record { status = status_number s; raised = 0; generation = 0 }
told_raise (Ok Nothing) = record { status = status_number Done; raised = 0; generation = 0 }
told_raise (Ok (Generation g)) = record { status = status_number Done; raised = 1; generation = g }
told_raise (Ok (ExGeneration g)) = record { status = status_number Done; raised = 2; generation = g }

-- a release is refused, by a session with so many grants of the mode there: the space has no such latch, the session is in the middle of something, or it has none
abbrev pub IsRefusedRelease : ℕ → ℕ → SpaceState → PassState → Status → Type 0
IsRefusedRelease count l space p BadLatch = latches_of space.sizes ≤ l
IsRefusedRelease count l space p WrongPhase = p.view.session.phase ≢ Free
IsRefusedRelease count l space p NotHeld = count ≡ 0
IsRefusedRelease count l space p other = ⊥

-- a turn of the event on a flag that was found set, or not
abbrev pub IsTurnBy : Event → Bool → PassState → PassState → Type 0
IsTurnBy e set p q = (found : ℕ) × (nat_lt 0 found ≡ set) × IsTurn e found p q

-- the generation of the latch was raised to this
pub record IsRaiseTo (l now : ℕ) (p q : PassState) : Type 0 where
  pub positive : 0 < now
  pub turn : IsTurn (RaiseEvent l) (now - 1) p q

-- what a last release of SX or X owes was paid: a look at the waiters flag, where it was set its clearing, and where it was set then too the raise
abbrev pub IsPaid : ℕ → PassState → Raise → PassState → Type 0
IsPaid l p Nothing q = IsTurnBy (Look l) false p q ⊎ ((b : PassState) × IsTurnBy (Look l) true p b × IsTurnBy (Clear l) false b q)
IsPaid l p (Generation g) q = (b : PassState) × (c : PassState) × IsTurnBy (Look l) true p b × IsTurnBy (Clear l) true b c × IsRaiseTo l g c q
IsPaid l p (ExGeneration g) q = ⊥

-- S was given back at this word: the last reader before a next writer raises the ex generation
abbrev pub IsSRaiseAt : ℕ → LockWord → PassState → Raise → PassState → PassState → Type 0
IsSRaiseAt l w p Nothing b q = (is_drained w.0 ≡ false) × (q ≡ b)
IsSRaiseAt l w p (ExGeneration g) b q = (is_drained w.0 ≡ true) × IsRaiseTo l g b q
IsSRaiseAt l w p (Generation g) b q = ⊥

abbrev pub IsSRaise : ℕ → PassState → Raise → PassState → Type 0
IsSRaise l p r q = (w : LockWord) × (b : PassState) × IsTurn (Us l) (cell_of w.0 - 1) p b × IsSRaiseAt l w p r b q

-- SX was given back: one that is not the last, or the last beside X, raises nothing, and else what is owed is paid
pub record IsSxRaise (l : ℕ) (p : PassState) (r : Raise) (q : PassState) : Type 0 where
  pub again : 1 < sx_grants l p.view.session → (r ≡ Nothing) × (found : ℕ) × IsTurn (Usx l) found p q
  pub under_x : sx_grants l p.view.session ≡ 1 → 0 < x_grants l p.view.session → (r ≡ Nothing) × (w : LockWord) × IsTurn (Usx l) (cell_of w.0 - X_LOCK_HALF_DECR) p q
  pub last : sx_grants l p.view.session ≡ 1 → x_grants l p.view.session ≡ 0 → (w : LockWord) × (b : PassState) × IsTurn (Usx l) (cell_of w.0 - X_LOCK_HALF_DECR) p b × IsPaid l b r q

-- X was given back: one that is not the last raises nothing, and else what is owed is paid
pub record IsXRaise (l : ℕ) (p : PassState) (r : Raise) (q : PassState) : Type 0 where
  pub again : let x = x_grants l p.view.session in 1 < x → (r ≡ Nothing) × (w : LockWord) × IsTurn (Ux l) (cell_of w.0 - (x_weight x - x_weight (x - 1))) p q
  pub last : x_grants l p.view.session ≡ 1 → (w : LockWord) × (b : PassState) × IsTurn (Ux l) (cell_of w.0 - X_LOCK_DECR) p b × IsPaid l b r q

-- the raises of a session, the newest first, with the one that C is told
abbrev pub raises_with : ℕ → Raise → List LatchRaise → List LatchRaise
raises_with l Nothing before = before
raises_with l (Generation g) before = record { latch = l; word = GenerationWord; now = g } ∷ before
raises_with l (ExGeneration g) before = record { latch = l; word = ExGenerationWord; now = g } ∷ before

-- C is told just what was raised on the latch
abbrev pub TellsRaise : ℕ → PassState → Raise → PassState → Type 0
TellsRaise l p r q = q.view.looks.raises ≡ raises_with l r p.view.looks.raises

-- a release that is refused changes nothing, and else the library's was made, with the raise that it owes, of which C is told
abbrev pub IsReleaseOf : ℕ → ℕ → (PassState → PassState → Type 0) → (PassState → Raise → PassState → Type 0) → SpaceState → PassState → Result Raise Status → PassState → Type 0
IsReleaseOf count l released raised space p (Err s) q = IsRefusedRelease count l space p s × (q ≡ p)
IsReleaseOf count l released raised space p (Ok r) q = (l < latches_of space.sizes) × (p.view.session.phase ≡ Free) × (0 < count) × released p q × raised p r q × TellsRaise l p r q

abbrev pub HasReleasedS : ℕ → Does Released
HasReleasedS l space p r q = (answer : Result Raise Status) × (r ≡ told_raise answer)
    × IsReleaseOf (reads l p.view.session) l (IsReleased 1 l (without_latch l p.view.session.held)) (IsSRaise l) space p answer q

abbrev pub HasReleasedSx : ℕ → Does Released
HasReleasedSx l space p r q = (answer : Result Raise Status) × (r ≡ told_raise answer)
    × IsReleaseOf (sx_grants l p.view.session) l (IsReleased (sx_steps l p.view.session) l (given_back ModeSx l p.view.session)) (IsSxRaise l) space p answer q

abbrev pub HasReleasedX : ℕ → Does Released
HasReleasedX l space p r q = (answer : Result Raise Status) × (r ≡ told_raise answer)
    × IsReleaseOf (x_grants l p.view.session) l (IsReleased 1 l (given_back ModeX l p.view.session)) (IsXRaise l) space p answer q
