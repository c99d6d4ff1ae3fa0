-- What the machine keeps of its members, words and marks: a good state, whose words are those of
-- the equation, whose numbers are bounded by the steps, and whose lists have room.
use Rattle.std.specs.Prelude.{◌≡◌, ℕ, ◌<◌, ◌≤◌, List, length, slice_index_or}
use mathlib.Core.Option.{some}
use lib.ListN.{get_elem?}
use Rattle.ib_word.specs.declared.word.LockWord.{LockWord}
use Rattle.ib_core.specs.declared.machine.TheConstants.{MOST_SESSIONS, MOST_STEPS}
use Rattle.ib_core.specs.declared.session.Session.{Session}
use Rattle.ib_core.specs.declared.session.Marks.{Marks}
use Rattle.ib_core.specs.Sessions.{Stands, grants, word_on}
use Rattle.ib_core.specs.Good.{IsGood}
use Rattle.ib_core.specs.Machine.{marks_at, free_word}
use Rattle.ib_core.specs.Member.{SessionAmong, sessions_of}

pub record IsKept (members : List SessionAmong) (words : List LockWord) (marks : List Marks)
    (steps : ℕ) : Type 0 where
  pub good : IsGood (sessions_of members) (marks_at marks)
  pub few : length members ≤ MOST_SESSIONS
  pub bounded : steps ≤ MOST_STEPS
  pub sized : length words ≡ length marks
  pub counted : (l : ℕ) → l < length words
      → (slice_index_or words l free_word).0 ≡ word_on l (sessions_of members)
  pub granted : (i : ℕ) (a : Session) → Stands (sessions_of members) i a
      → (l : ℕ) → grants l a ≤ steps
  pub raised : (l : ℕ) → (marks_at marks l).generation ≤ steps
  pub ex_raised : (l : ℕ) → (marks_at marks l).ex_generation ≤ steps
  pub rooms : (i : ℕ) (m : SessionAmong) → get_elem? members i ≡ some m
      → m.latches ≡ length marks
