-- The state of the whole machine, and what an event does to it.
use Rattle.std.specs.Prelude.{ℕ, false, List, replicate, pos, slice_index_or, slice_set}
use Rattle.ib_word.specs.declared.word.LockWord.{LockWord}
use Rattle.ib_word.specs.declared.word.TheConstants.{X_LOCK_DECR}
use Rattle.ib_core.specs.declared.event.Event.{Event}
use Rattle.ib_core.specs.declared.event.Answer.{Answer}
use Rattle.ib_core.specs.declared.session.Session.{Session}
use Rattle.ib_core.specs.declared.session.Marks.{Marks}
use Rattle.ib_core.specs.Sessions.{idle, word_on}
use Rattle.ib_core.specs.Responses.{Turn, latch_of}
use Rattle.ib_core.specs.Table.{turn_of}
use Rattle.ib_core.specs.Good.{IsGood}

-- the sessions, and the marks of each latch. Who holds a latch, and its word, follow from the
-- sessions
pub record CoreState : Type 0 where
  pub sessions : List Session
  pub marks : List Marks

-- the marks at the start
abbrev pub fresh : Marks
fresh = record { waiters = false; generation = 0; ex_generation = 0 }

-- the word of a latch that nobody holds
abbrev pub free_word : LockWord
free_word = record { 0 = pos X_LOCK_DECR }

-- the session at a place, and the marks of a latch
abbrev pub session_at : CoreState → ℕ → Session
session_at state i = slice_index_or state.sessions i idle

abbrev pub marks_at : List Marks → ℕ → Marks
marks_at marks l = slice_index_or marks l fresh

-- all latches are free, and nobody holds or waits
abbrev pub opening_state : ℕ → ℕ → CoreState
opening_state sessions latches = record {
  sessions = replicate sessions idle;
  marks = replicate latches fresh;
}

-- the answer of an event, and the state after it
pub record Outcome : Type 0 where
  pub answer : Answer
  pub state : CoreState

-- the turn of the session at a place
abbrev pub turn_in : CoreState → ℕ → Event → Turn
turn_in state i e =
    let l = latch_of e in
    turn_of (word_on l state.sessions) (marks_at state.marks l) e (session_at state i)

-- what an event of the session at a place comes to
abbrev pub outcome_of : CoreState → ℕ → Event → Outcome
outcome_of state i e = let turn = turn_in state i e in record {
  answer = turn.answer;
  state = record {
    sessions = slice_set state.sessions i turn.session;
    marks = slice_set state.marks (latch_of e) turn.marks;
  };
}

-- a state that is good
abbrev pub IsGoodState : CoreState → Type 0
IsGoodState state = IsGood state.sessions (marks_at state.marks)

-- what contracts see of a `Core`
pub record Machine : Type 0 where
  pub state : CoreState
  pub steps : ℕ
