-- What an atomic step tells its caller.
use Rattle.std.specs.Prelude.{◌≡◌, ◌≢◌, ℕ, ◌+◌, ◌*◌, ◌%◌, ◌^◌, ◌≤◌, true, List, length, slice_set, slice_index_or, Option, Some, None}
use Rattle.atomic_table.specs.Table.{Me}
use Rattle.ib_word.specs.Word.{IsCounted, word_in}
use Rattle.ib_word.specs.declared.word.TheConstants.{X_LOCK_DECR, X_LOCK_HALF_DECR, WORD_BIAS}
use Rattle.ib_layout.specs.Geometry.{Sizes}
use Rattle.ib_core.specs.declared.latch_word.LatchWord.{LatchWord}
use Rattle.ib_core.specs.declared.latch_word.LatchWord.TheVariants.{Lock, Waiters, Writer, Generation, ExGeneration}
use Rattle.ib_core.specs.declared.event.Event.{Event}
use Rattle.ib_core.specs.declared.event.Answer.{Answer}
use Rattle.ib_core.specs.declared.session.Session.{Session}
use Rattle.ib_core.specs.declared.session.Marks.{Marks}
use Rattle.ib_core.specs.Sessions.{Stands, HasFewReaders, grants, taken, word_on}
use Rattle.ib_core.specs.Responses.{Turn as CoreTurn, latch_of}
use Rattle.ib_core.specs.Table.{turn_of}
use Rattle.ib_core.specs.Good.{IsGood, IsProper}
use Rattle.ib_core.specs.Turns.{Leaves, turn_at, word_for}
use Rattle.ib_logrec.specs.declared.entry.Entry.{Entry}
use Rattle.ib_logrec.specs.Words.{words_of_entry}
use Rattle.ib_logrec.specs.Log.{log_words, memory_after, by_place, used}
use Rattle.ib_rule.specs.declared.kind.StepKind.{StepKind}
use Rattle.ib_rule.specs.declared.kind.StepKind.TheVariants.{Turn, Try, Recheck, Look, StoreWriter, Enter, Count, Meet, LoadPage, LoadEnd, LoadLog, StorePage, StoreLog, StoreEnd}
use Rattle.ib_rule.specs.declared.view.View.{View}
use Rattle.ib_rule.specs.Roles.{drawn_in, ended_in, session_number_of, sessions_in}
use Rattle.ib_rule.specs.Memory.{latch_at}
use Rattle.ib_rule.specs.Views.{total, loading, is_watched, reaching, KnowsHeld}
use Rattle.ib_rule.specs.Stores.{ShowsSeen, ShowsWholeLog, storing_page, storing_word, appending}
use Rattle.ib_rule.specs.Steps.{event_at, view_after}

-- a step is an event of the latch machine: in some good state the session stands as it did before it, the event comes to this answer there, and the state after it, in which the session stands as it does now, is good
pub record IsEvent (e : Event) (before : Session) (answer : Answer) (after : Session) : Type 0 where
  pub sessions : List Session
  pub marks : ℕ → Marks
  pub marks_after : ℕ → Marks
  pub place : ℕ
  pub stands : Stands sessions place before
  pub good : IsGood sessions marks
  pub few : HasFewReaders sessions
  pub turns : Path CoreTurn (turn_of (word_on (latch_of e) sessions) (marks (latch_of e)) e before) (record { answer = answer; session = after; marks = marks_after (latch_of e) })
  pub away : (k : ℕ) → latch_of e ≢ k → marks_after k ≡ marks k
  pub good_after : IsGood (slice_set sessions place after) marks_after

-- .. or leaves the session as it is
abbrev pub Happens : Option Event → Session → ℕ → Session → Type 0
Happens None a n b = b ≡ a
Happens (Some e) a n b = IsEvent e a (turn_at e n a).answer b

-- what a word of a latch can be, where the session stands so
abbrev pub CanBe : LatchWord → ℕ → Session → ℕ → Type 0
CanBe Lock l a n = (n + taken l a ≤ WORD_BIAS + X_LOCK_DECR) × (WORD_BIAS ≤ n + X_LOCK_DECR + X_LOCK_HALF_DECR + 9216) × IsCounted (word_in n)
CanBe Waiters l a n = n ≤ 1
CanBe Writer l a n = Unit {0}
CanBe Generation l a n = n ≤ 2 ^ 62
CanBe ExGeneration l a n = n ≤ 2 ^ 62

-- what a step of this kind can find
abbrev pub CanFind : StepKind → View → ℕ → Type 0
CanFind (Turn e) v n = CanBe (word_for e v.session) (latch_of e) v.session n
CanFind (Try e expected) v n = CanBe (word_for e v.session) (latch_of e) v.session n
CanFind (Recheck l) v n = CanBe Lock l v.session n
CanFind (Look l) v n = CanBe Lock l v.session n
CanFind Count v n = (length (ended_in v.role) ≤ drawn_in v.role) × (drawn_in v.role ≤ 1024)
CanFind kind v n = Unit {0}

-- a word of a page whose latch is watched is that of the page after all that is seen, since nothing later conflicts with the latch
abbrev pub IsWatchedWord : (ℕ → ℕ) → View → ℕ → ℕ → Type 0
IsWatchedWord opening v q n = is_watched (latch_at q) v.memory.since ≡ true → n ≡ memory_after opening v.memory.seen q

-- the view after a step. A load of the log's end shows all of the log, which the word alone does not tell
abbrev pub After : (ℕ → List Entry → Type 0) → (ℕ → ℕ → ℕ → ℕ) → Sizes → Entry → StepKind → View → ℕ → View → Type 0
After lawful opening sizes e LoadEnd v n w = (w ≡ reaching w.memory.seen v) × ShowsWholeLog sizes (lawful sizes.pages) (by_place opening sizes.pages) v n w.memory.seen
After lawful opening sizes e (LoadPage q) v n w = (w ≡ loading q n v) × IsWatchedWord (by_place opening sizes.pages) v q n
After lawful opening sizes e Meet v n w = (w ≡ view_after Meet n v) × ShowsSeen sizes (lawful sizes.pages) v
After lawful opening sizes e (LoadLog k) v n w = (w ≡ v) × (n ≡ slice_index_or (log_words v.memory.seen) k 0)
After lawful opening sizes e (StorePage q x) v n w = w ≡ storing_page e q v
After lawful opening sizes e (StoreLog j x) v n w = w ≡ storing_word e j v
After lawful opening sizes e StoreEnd v n w = w ≡ appending e v
After lawful opening sizes e kind v n w = w ≡ view_after kind n v

-- what a step of this kind leaves where it found n: an event leaves its word as the latch machine does, a store what is stored, and a load what it found
abbrev pub HasLeft : Entry → StepKind → View → ℕ → ℕ → Type 0
HasLeft e (Turn event) v n left = Leaves (word_for event v.session) event v.session n left
HasLeft e (Try event expected) v n left = (n ≡ expected → Leaves (word_for event v.session) event v.session n left) × (n ≢ expected → left ≡ n)
HasLeft e (StoreWriter l) v n left = left ≡ session_number_of v.role
HasLeft e Enter v n left = left ≡ (n + 1) % 2 ^ 64
HasLeft e (StorePage q x) v n left = left ≡ x
HasLeft e (StoreLog j x) v n left = left ≡ x
HasLeft e StoreEnd v n left = left ≡ (length v.memory.seen + 1) * 2 ^ 32 + (used v.memory.seen + length (words_of_entry e))
HasLeft e kind v n left = left ≡ n

-- what a step tells that makes f of its word: the view after it, the event that it was, what it found and left, and how its session stands
pub record IsStepTold (lawful : ℕ → List Entry → Type 0) (opening : ℕ → ℕ → ℕ → ℕ) (sizes : Sizes) (e : Entry) (kind : StepKind) (f : ℕ → ℕ) (v : View) (found : ℕ) (w : View) : Type 0 where
  pub view : After lawful opening sizes e kind v found w
  pub event : Happens (event_at kind v.session found) v.session found w.session
  pub proper : IsProper w.session
  pub known : KnowsHeld w
  pub range : CanFind kind v found
  pub left : HasLeft e kind v found (f found)
  pub few : (l : ℕ) → grants l w.session ≤ 8192
  pub taken : total w.grants ≤ 2 ^ 52 * sessions_in w.role

abbrev pub tells : (ℕ → List Entry → Type 0) → (ℕ → ℕ → ℕ → ℕ) → Sizes → Entry → StepKind → (ℕ → ℕ) → Me (Unit {0}) View → ℕ → Me (Unit {0}) View → Type 0
tells lawful opening sizes e kind f m found w = IsStepTold lawful opening sizes e kind f m.0 found w.0 × (w.1 ≡ m.1)
