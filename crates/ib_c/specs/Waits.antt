-- What the calls of a session that waits come to, and how C is told.
use Rattle.std.specs.Prelude.{◌≡◌, ◌≢◌, ℕ, ◌<◌, ◌≤◌, Result, Ok, Err, pos}
use Rattle.ib_word.specs.Word.{cell_of}
use Rattle.ib_word.specs.declared.word.LockWord.{LockWord}
use Rattle.ib_levels.specs.declared.level.Level.{Level}
use Rattle.ib_levels.specs.declared.level.Mode.{Mode}
use Rattle.ib_levels.specs.Level.{number_of}
use Rattle.ib_layout.specs.Places.{latches_of}
use Rattle.ib_core.specs.declared.phase.Phase.{Phase}
use Rattle.ib_core.specs.declared.phase.Phase.TheVariants.{Free, Flagged, Checked, Asleep, NextArmed, NextChecked, NextAsleep}
use Rattle.ib_core.specs.Holders.{CanWish}
use Rattle.ib_latch.specs.declared.tries.TryFault.{TryFault}
use Rattle.ib_latch.specs.declared.tries.Reserve.{Reserve}
use Rattle.ib_latch.specs.Waits.{IsRecheck}
use Rattle.ib_rule.specs.Afterwards.{ex_loaded, looked_on, phased, slept, with_wait, word_loaded}
use Rattle.ib_rule.specs.Conditions.{MayGrow}
use Rattle.ib_rule.specs.Pass.{PassState, with_view}
use Rattle.ib_rule.specs.Space.{SpaceState}
use Rattle.ib_c.specs.declared.status.Status.{Status}
use Rattle.ib_c.specs.declared.status.Status.TheVariants.{Done, Asleep as IsAsleep, BadLatch, BadLevel, BadMode, NotAllowed, NotReady, TooManyGrants, WrongPhase}
use Rattle.ib_c.specs.declared.tries.Tried.{Tried}
use Rattle.ib_c.specs.declared.waits.Generation.{Generation}
use Rattle.ib_c.specs.declared.waits.Sleeper.{Sleeper}
use Rattle.ib_c.specs.declared.waits.Sleeper.TheVariants.{First, Next}
use Rattle.ib_c.specs.Statuses.{status_number}
use Rattle.ib_c.specs.Sessions.{Does}
use Rattle.ib_c.specs.Tries.{IsAskedIn, IsNextOn, told_as, told_only, told_reserve}
use Rattle.ib_c.specs.Wishes.{mode_number}

-- a generation in C's words
abbrev pub told_generation : Result (Status × ℕ) Status → Generation
told_generation (Err s) = record { status = status_number s; generation = 0 }
told_generation (Ok r) = record { status = status_number r.0; generation = r.1 }

-- the session may not wait: no such latch, mode or level, or what it holds forbids the wish
abbrev pub IsRefusedArm : ℕ → ℕ → ℕ → SpaceState → PassState → Status → Type 0
IsRefusedArm l m v space p BadLatch = latches_of space.sizes ≤ l
IsRefusedArm l m v space p BadMode = 2 < m
IsRefusedArm l m v space p BadLevel = (u : Level) → number_of u ≢ v
IsRefusedArm l m v space p NotAllowed = (u : Level) × (number_of u ≡ v) × ¬ CanWish l u p.view.session
IsRefusedArm l m v space p other = ⊥

-- the session recorded this generation and its wish, and set the waiters flag
pub record IsArmedWith (l : ℕ) (mode : Mode) (u : Level) (p : PassState) (g : ℕ) (q : PassState) : Type 0 where
  pub may : CanWish l u p.view.session
  pub armed : q ≡ with_view p (with_wait (with_wait (phased (Flagged l mode u g) p.view)))

abbrev pub IsArm : ℕ → ℕ → ℕ → SpaceState → PassState → Result (Status × ℕ) Status → PassState → Type 0
IsArm l m v space p (Err s) q = IsRefusedArm l m v space p s × (q ≡ p)
IsArm l m v space p (Ok r) q = (mode : Mode) × (u : Level) × (mode_number mode ≡ m) × (number_of u ≡ v) × (r.0 ≡ Done) × IsArmedWith l mode u p r.1 q

abbrev pub HasArmed : ℕ → ℕ → ℕ → Does Generation
HasArmed l m v space p r q = (answer : Result (Status × ℕ) Status) × (r ≡ told_generation answer) × IsArm l m v space p answer q

-- a session that set the waiters flag of the latch
abbrev pub IsFlaggedOn : ℕ → Phase → Type 0
IsFlaggedOn l (Flagged k mode v g) = k ≡ l
IsFlaggedOn l other = ⊥

abbrev pub IsRefusedRecheck : ℕ → SpaceState → PassState → Status → Type 0
IsRefusedRecheck l space p BadLatch = latches_of space.sizes ≤ l
IsRefusedRecheck l space p WrongPhase = ¬ IsFlaggedOn l p.view.session.phase
IsRefusedRecheck l space p TooManyGrants = ¬ MayGrow p.view
IsRefusedRecheck l space p other = ⊥

-- one more try for the wish that was recorded
abbrev pub IsRecheckOf : ℕ → PassState → Result Reserve TryFault → PassState → Type 0
IsRecheckOf l p r q = (mode : Mode) (level : Level) (g : ℕ) → p.view.session.phase ≡ Flagged l mode level g → IsRecheck mode l level g p r q

abbrev pub IsRecheckAsked : ℕ → SpaceState → PassState → Result (Result Reserve TryFault) Status → PassState → Type 0
IsRecheckAsked l space p (Err s) q = IsRefusedRecheck l space p s × (q ≡ p)
IsRecheckAsked l space p (Ok r) q = (l < latches_of space.sizes) × IsFlaggedOn l p.view.session.phase × MayGrow p.view × IsRecheckOf l p r q

abbrev pub HasRechecked : ℕ → Does Tried
HasRechecked l space p r q = (answer : Result (Result Reserve TryFault) Status) × (r ≡ told_as told_reserve answer) × IsRecheckAsked l space p answer q

-- a session that waits for a first grant on the latch, and does not sleep
abbrev pub IsWaiterOn : ℕ → Phase → Type 0
IsWaiterOn l (Flagged k mode v g) = k ≡ l
IsWaiterOn l (Checked k mode v g) = k ≡ l
IsWaiterOn l other = ⊥

-- it gave the wish up
abbrev pub IsStoodDown : PassState → Unit {0} → PassState → Type 0
IsStoodDown p x q = q ≡ with_view p (with_wait (phased Free p.view))

abbrev pub status_of : Result (Unit {0}) Status → ℕ
status_of (Ok x) = status_number Done
status_of (Err s) = status_number s

abbrev pub HasStoodDown : ℕ → Does ℕ
HasStoodDown l space p r q = (answer : Result (Unit {0}) Status) × (r ≡ status_of answer) × IsAskedIn IsWaiterOn l IsStoodDown space p answer q

-- the ex generation was loaded, by a next writer that records it or looks at it
abbrev pub IsExLoad : ℕ → PassState → ℕ → PassState → Type 0
IsExLoad l p g q = q ≡ with_view p (with_wait (phased (ex_loaded g p.view.session.phase) p.view))

abbrev pub IsExArm : ℕ → PassState → Status × ℕ → PassState → Type 0
IsExArm l p r q = (r.0 ≡ Done) × IsExLoad l p r.1 q

abbrev pub HasArmedNext : ℕ → Does Generation
HasArmedNext l space p r q = (answer : Result (Status × ℕ) Status) × (r ≡ told_generation answer) × IsAskedIn IsNextOn l (IsExArm l) space p answer q

-- a next writer that has recorded the ex generation
abbrev pub IsNextArmedOn : ℕ → Phase → Type 0
IsNextArmedOn l (NextArmed k v g) = k ≡ l
IsNextArmedOn l other = ⊥

-- the lock word was loaded, which found this
abbrev pub IsWordLoad : ℕ → PassState → LockWord → PassState → Type 0
IsWordLoad l p w q = q ≡ with_view p (looked_on l w (phased (word_loaded l (cell_of w.0) p.view.session p.view.session.phase) p.view))

-- it owns X where it is in the middle of nothing then
abbrev pub told_verified : Phase → LockWord → Tried
told_verified Free w = told_only Done
told_verified other w = record { status = status_number NotReady; expected = pos 0; found = w.0 }

abbrev pub IsVerify : ℕ → SpaceState → PassState → Tried → Result LockWord Status → PassState → Type 0
IsVerify l space p r (Err s) q = (r ≡ told_only s) × IsAskedIn IsNextArmedOn l (IsWordLoad l) space p (Err s) q
IsVerify l space p r (Ok w) q = (r ≡ told_verified q.view.session.phase w) × IsAskedIn IsNextArmedOn l (IsWordLoad l) space p (Ok w) q

abbrev pub HasVerified : ℕ → Does Tried
HasVerified l space p r q = (answer : Result LockWord Status) × IsVerify l space p r answer q

-- who has checked, or sleeps: for a first grant, or as a next writer
abbrev pub IsSleeperAs : Sleeper → ℕ → Phase → Type 0
IsSleeperAs First l (Checked k m v g) = k ≡ l
IsSleeperAs First l (Asleep k m v g) = k ≡ l
IsSleeperAs First l other = ⊥
IsSleeperAs Next l (NextChecked k v g) = k ≡ l
IsSleeperAs Next l (NextAsleep k v g) = k ≡ l
IsSleeperAs Next l other = ⊥

abbrev pub IsSleeperOn : ℕ → Phase → Type 0
IsSleeperOn l (Checked k m v g) = k ≡ l
IsSleeperOn l (Asleep k m v g) = k ≡ l
IsSleeperOn l (NextChecked k v g) = k ≡ l
IsSleeperOn l (NextAsleep k v g) = k ≡ l
IsSleeperOn l other = ⊥

-- it looked at its generation, and sleeps on where that is the recorded one
abbrev pub IsSleepLook : PassState → ℕ → PassState → Type 0
IsSleepLook p g q = q ≡ with_view p (with_wait (phased (slept g p.view.session.phase) p.view))

abbrev pub sleep_status : Phase → Status
sleep_status (Asleep k m v g) = IsAsleep
sleep_status (NextAsleep k v g) = IsAsleep
sleep_status other = Done

abbrev pub IsLook : PassState → Status × ℕ → PassState → Type 0
IsLook p r q = (r.0 ≡ sleep_status q.view.session.phase) × IsSleepLook p r.1 q

abbrev pub HasLooked : ℕ → Does Generation
HasLooked l space p r q = (answer : Result (Status × ℕ) Status) × (r ≡ told_generation answer) × IsAskedIn IsSleeperOn l IsLook space p answer q
