-- What an event comes to, which latch it is about, and the tests of the word that it finds.
use Rattle.std.specs.Prelude.{ℕ, Bool, false, ◌==◌, not, List, ℤ, pos, int_lt}
use Rattle.ib_word.specs.declared.word.TheConstants.{X_LOCK_HALF_DECR}
use Rattle.ib_levels.specs.declared.holding.Holding.{Holding}
use Rattle.ib_core.specs.declared.phase.Phase.{Phase}
use Rattle.ib_core.specs.declared.phase.Phase.TheVariants.{Free, Armed, Flagged, Checked, Asleep, Next, NextArmed, NextChecked, NextAsleep, OwesLook, OwesClear, OwesRaise, OwesRaiseEx}
use Rattle.ib_core.specs.declared.event.Event.{Event}
use Rattle.ib_core.specs.declared.event.Event.TheVariants.{S, Sx, X, Us, Usx, Ux, Arm, Flag, Again, Quit, Sleep, Ready, Exarm, Look, Clear, Raise}
use Rattle.ib_core.specs.declared.event.Answer.{Answer}
use Rattle.ib_core.specs.declared.event.Answer.TheVariants.{Refused}
use Rattle.ib_core.specs.declared.event.Refusal.{Refusal}
use Rattle.ib_core.specs.declared.session.Session.{Session}
use Rattle.ib_core.specs.declared.session.Marks.{Marks}

-- the answer of an event, and its session after it
pub record Response : Type 0 where
  pub answer : Answer
  pub session : Session

-- .. and the marks of its latch after it
pub record Turn : Type 0 where
  pub answer : Answer
  pub session : Session
  pub marks : Marks

-- a response by its answer, what is held after it, and the phase after it
abbrev pub response : Answer → List Holding → Phase → Response
response answer held phase =
    record { answer = answer; session = record { held = held; phase = phase } }

-- a response by its answer and the session after it
abbrev pub answered : Answer → Session → Response
answered answer a = record { answer = answer; session = a }

-- a refused event changes nothing
abbrev pub refused : Refusal → Session → Response
refused why a = answered (Refused why) a

-- the latch of an event
abbrev pub latch_of : Event → ℕ
latch_of (S l v) = l
latch_of (Sx l v) = l
latch_of (X l v) = l
latch_of (Us l) = l
latch_of (Usx l) = l
latch_of (Ux l) = l
latch_of (Arm l mode v) = l
latch_of (Flag l) = l
latch_of (Again l) = l
latch_of (Quit l) = l
latch_of (Sleep l) = l
latch_of (Ready l) = l
latch_of (Exarm l) = l
latch_of (Look l) = l
latch_of (Clear l) = l
latch_of (Raise l) = l

-- the phase is about another latch than this
abbrev pub is_elsewhere : ℕ → Phase → Bool
is_elsewhere l Free = false
is_elsewhere l (Armed k mode v g) = not (k == l)
is_elsewhere l (Flagged k mode v g) = not (k == l)
is_elsewhere l (Checked k mode v g) = not (k == l)
is_elsewhere l (Asleep k mode v g) = not (k == l)
is_elsewhere l (Next k v) = not (k == l)
is_elsewhere l (NextArmed k v g) = not (k == l)
is_elsewhere l (NextChecked k v g) = not (k == l)
is_elsewhere l (NextAsleep k v g) = not (k == l)
is_elsewhere l (OwesLook k) = not (k == l)
is_elsewhere l (OwesClear k) = not (k == l)
is_elsewhere l (OwesRaise k) = not (k == l)
is_elsewhere l (OwesRaiseEx k) = not (k == l)

-- the word is above 0, or above HALF
abbrev pub is_above_0 : ℤ → Bool
is_above_0 w = int_lt (pos 0) w

abbrev pub is_above_half : ℤ → Bool
is_above_half w = int_lt (pos X_LOCK_HALF_DECR) w
