-- Laws tried: that of states on more sessions than a machine of one thread has, and that of grants on an owner of SX.
use Rattle.std.proofs.Common.{◌≡◌, ◌<◌, ◌≤◌, [], ◌∷◌, length, replicate, ap, inl, inr, refl, arith}
use Rattle.std.proofs.lemmas.List.{length-replicate}
use Rattle.ib_word.specs.declared.word.LockWord.{LockWord}
use Rattle.ib_levels.specs.declared.level.Level.TheVariants.{TreeNode}
use Rattle.ib_levels.specs.Holding.{hold}
use Rattle.ib_core.specs.declared.machine.TheConstants.{MOST_SESSIONS}
use Rattle.ib_core.specs.declared.event.Event.{Event}
use Rattle.ib_core.specs.declared.event.Event.TheVariants.{X}
use Rattle.ib_core.specs.declared.event.Answer.TheVariants.{Granted, Busy}
use Rattle.ib_core.specs.declared.phase.Phase.TheVariants.{Free}
use Rattle.ib_core.specs.Holders.{IsTaken}
use Rattle.ib_core.specs.Responses.{latch_of}
use Rattle.ib_core.specs.Sessions.{HasFewReaders, idle, reads}
use Rattle.ib_core.specs.Machine.{CoreState, IsGoodState, fresh, opening_state, outcome_of}
use Rattle.ib_core.proofs.Elements.{all_zero}
use Rattle.ib_core.proofs.Opened.{at_replicate}
use Rattle.ib_core.proofs.InWords.{event_kept, opening_good}

abbrev pub many_sessions : CoreState
many_sessions = opening_state 2000 1

-- a bound on the number of sessions would leave this state out ..
pub beyond_a_machine : ¬ (length many_sessions.sessions ≤ MOST_SESSIONS)
beyond_a_machine few = let n = length-replicate 2000 idle in absurd (omega arith)

-- .. but no latch has a reader, so that the law speaks of it
pub few_readers : HasFewReaders many_sessions.sessions
few_readers l =
    let none = all_zero (reads l) (replicate 2000 idle) (λ i a at. ap (reads l) (at_replicate 2000 i idle a at)) in
    omega arith

pub last_session_keeps_it_good : (event : Event) → latch_of event < 1 → IsGoodState (outcome_of many_sessions 1999 event).state
last_session_keeps_it_good event among =
    event_kept many_sessions (record { index = 1999; event = event }) few_readers
    (record { session = let n = length-replicate 2000 idle in omega arith; latch = among })
    (opening_good 2000 1)

-- one session owns SX of a latch, and wishes for X of it ..
abbrev pub sx_owned : CoreState
sx_owned = record { sessions = record { held = hold 0 TreeNode 0 1 0 ∷ []; phase = Free } ∷ []; marks = fresh ∷ [] }

pub x_granted : (outcome_of sx_owned 0 (X 0 TreeNode)).answer ≡ Granted
x_granted = refl

-- .. so that it is not told busy, which would take nothing
pub x_not_busy : (w : LockWord) → ¬ ((outcome_of sx_owned 0 (X 0 TreeNode)).answer ≡ Busy w)
x_not_busy w busy = let granted = x_granted in absurd (cc)

pub busy_not_taken : (w : LockWord) → ¬ IsTaken (Busy w)
busy_not_taken w (inl granted) = absurd (cc)
busy_not_taken w (inr reserved) = absurd (cc)
