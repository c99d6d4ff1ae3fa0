-- One event as a step on one word of its latch.
use Rattle.std.specs.Prelude.{◌≡◌, ℕ, ◌+◌, Bool, true, false, nat_lt, if◌then◌else◌, ℤ}
use Rattle.ib_word.specs.Word.{word_in}
use Rattle.ib_core.specs.declared.latch_word.LatchWord.{LatchWord}
use Rattle.ib_core.specs.declared.latch_word.LatchWord.TheVariants.{Lock, Waiters, Writer, Generation, ExGeneration}
use Rattle.ib_core.specs.declared.phase.Phase.{Phase}
use Rattle.ib_core.specs.declared.phase.Phase.TheVariants.{NextChecked, NextAsleep, OwesRaiseEx}
use Rattle.ib_core.specs.declared.event.Event.{Event}
use Rattle.ib_core.specs.declared.event.Event.TheVariants.{S, Sx, X, Us, Usx, Ux, Arm, Flag, Again, Quit, Sleep, Ready, Exarm, Look, Clear, Raise}
use Rattle.ib_core.specs.declared.session.Session.{Session}
use Rattle.ib_core.specs.declared.session.Marks.{Marks}
use Rattle.ib_core.specs.Sessions.{sx_grants, taken}
use Rattle.ib_core.specs.Responses.{Turn, latch_of}
use Rattle.ib_core.specs.Table.{turn_of}

-- the word that a sleeper of this phase looks at, and the one that is raised by who owes it
abbrev pub sleep_word : Phase → LatchWord
sleep_word (NextChecked l v g) = ExGeneration
sleep_word (NextAsleep l v g) = ExGeneration
sleep_word _ = Generation

abbrev pub raise_word : Phase → LatchWord
raise_word (OwesRaiseEx l) = ExGeneration
raise_word _ = Generation

-- the one word on which an event of the session is a step. A further SX, and one SX given back
-- that is not the last, read the writer
abbrev pub word_for : Event → Session → LatchWord
word_for (S l v) a = Lock
word_for (Sx l v) a = if nat_lt 0 (sx_grants l a) then Writer else Lock
word_for (X l v) a = Lock
word_for (Us l) a = Lock
word_for (Usx l) a = if nat_lt 1 (sx_grants l a) then Writer else Lock
word_for (Ux l) a = Lock
word_for (Arm l mode v) a = Generation
word_for (Flag l) a = Waiters
word_for (Again l) a = Lock
word_for (Quit l) a = Waiters
word_for (Sleep l) a = sleep_word a.phase
word_for (Ready l) a = Lock
word_for (Exarm l) a = ExGeneration
word_for (Look l) a = Waiters
word_for (Clear l) a = Waiters
word_for (Raise l) a = raise_word a.phase

-- the marks of which one word was found, each mark read from that word
abbrev pub marks_found : ℕ → Marks
marks_found n = record { waiters = nat_lt 0 n; generation = n; ex_generation = n }

-- the turn of an event at the one word that was found
abbrev pub turn_at : Event → ℕ → Session → Turn
turn_at e n a = turn_of (word_in n) (marks_found n) e a

-- the word found is what the machine has there: its lock word w, or one of its marks
abbrev pub Tells : LatchWord → ℕ → ℤ → Marks → Type 0
Tells Lock n w m = word_in n ≡ w
Tells Waiters n w m = nat_lt 0 n ≡ m.waiters
Tells Writer n w m = Unit {0}
Tells Generation n w m = n ≡ m.generation
Tells ExGeneration n w m = n ≡ m.ex_generation

-- the waiters flag as a word
abbrev pub flag_word : Bool → ℕ
flag_word waiters = if waiters then 1 else 0

-- what a word is in some marks, 0 where it is none of theirs
abbrev pub mark_in : LatchWord → Marks → ℕ
mark_in Waiters m = flag_word m.waiters
mark_in Generation m = m.generation
mark_in ExGeneration m = m.ex_generation
mark_in _ m = 0

-- the marks in which the word is this one
abbrev pub with_mark : LatchWord → ℕ → Marks → Marks
with_mark Lock n m = m
with_mark Writer n m = m
with_mark Waiters n m = record m { waiters = nat_lt 0 n }
with_mark Generation n m = record m { generation = n }
with_mark ExGeneration n m = record m { ex_generation = n }

-- the events that write a mark
abbrev pub writes_mark : Event → Bool
writes_mark (Flag l) = true
writes_mark (Clear l) = true
writes_mark (Raise l) = true
writes_mark _ = false

-- the event that found n leaves n' as its word: the lock word moves by what the session takes off
-- it, the writer stays, and each mark is what the turn makes of it
abbrev pub Leaves : LatchWord → Event → Session → ℕ → ℕ → Type 0
Leaves Lock e a n n' = n' + taken (latch_of e) (turn_at e n a).session ≡ n + taken (latch_of e) a
Leaves Waiters e a n n' = n' ≡ flag_word (turn_at e n a).marks.waiters
Leaves Writer e a n n' = n' ≡ n
Leaves Generation e a n n' = n' ≡ (turn_at e n a).marks.generation
Leaves ExGeneration e a n n' = n' ≡ (turn_at e n a).marks.ex_generation
