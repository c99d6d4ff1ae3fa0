-- The rule of the table: what holds of all words and all views between any two steps.
use Rattle.std.specs.Prelude.{◌≡◌, ℕ, ◌+◌, ◌*◌, ◌^◌, ◌<◌, ◌≤◌, nat_lt, false, cond, List, [], length, map, slice_index, slice_index_or, sum_by}
use Rattle.std.specs.List.{AllByRecursion}
use mathlib.Core.Option.{some}
use lib.ListN.{get_elem?}
use Rattle.atomic_table.specs.Table.{State}
use Rattle.ib_word.specs.Word.{IsCell}
use Rattle.ib_word.specs.declared.word.TheConstants.{X_LOCK_DECR, WORD_BIAS}
use Rattle.ib_layout.specs.Geometry.{Sizes}
use Rattle.ib_layout.specs.Places.{lock_place, waiters_place, writer_place, gen_place, ex_gen_place, log_place, words_of, latches_of, drawn_place, end_place}
use Rattle.ib_core.specs.declared.session.Session.{Session}
use Rattle.ib_core.specs.declared.session.Marks.{Marks}
use Rattle.ib_core.specs.Sessions.{Stands, idle, claims, grants, all_taken}
use Rattle.ib_core.specs.Good.{IsGood}
use Rattle.ib_core.specs.Debts.{debt}
use Rattle.ib_logrec.specs.declared.entry.Entry.{Entry}
use Rattle.ib_logrec.specs.Law.{AreInGrammar}
use Rattle.ib_logrec.specs.Log.{log_words, used, memory_after, by_place}
use Rattle.ib_rule.specs.declared.view.View.{View}
use Rattle.ib_rule.specs.Roles.{SessionsPart, live, session_number_of, drawn_in, ended_in, sessions_in}
use Rattle.ib_rule.specs.Views.{role_of, session_in_view, total}
use Rattle.ib_rule.specs.Room.{HadRoom}
use Rattle.ib_rule.specs.Memory.{base, page_places, entries_of, stored_in, EndedFact, Follows}

-- the marks of a latch that there is, read off the words
abbrev pub marks_in : ℕ → List ℕ → ℕ → Marks
marks_in latches words l = record {
  waiters = cond (nat_lt l latches) (nat_lt 0 (slice_index words (waiters_place l))) false;
  generation = cond (nat_lt l latches) (slice_index words (gen_place l)) 0;
  ex_generation = cond (nat_lt l latches) (slice_index words (ex_gen_place l)) 0;
}

-- the latch part: words and sessions stand for one good state of the latch machine
pub record LatchPart (latches : ℕ) (words : List ℕ) (sessions : List Session) : Type 0 where
  pub good : IsGood sessions (marks_in latches words)
  pub counted : (l : ℕ) → l < latches → IsCell (all_taken l sessions) (slice_index words (lock_place l))
  pub flags : (l : ℕ) → l < latches → slice_index words (waiters_place l) ≤ 1
  pub few : (i : ℕ) (a : Session) → Stands sessions i a → (l : ℕ) → grants l a ≤ 8192

-- the raises made on a latch
abbrev pub raises_in : List ℕ → ℕ → ℕ
raises_in words l = slice_index words (gen_place l) + slice_index words (ex_gen_place l)

-- each raise, made or to come, is paid by a grant, and a session takes at most 2 ^ 52: so no generation comes round
pub record PaidPart (latches : ℕ) (words : List ℕ) (views : List View) : Type 0 where
  pub paid : (l : ℕ) → l < latches → raises_in words l + sum_by (λ v. debt l v.session) views ≤ sum_by (λ v. total v.grants) views
  pub bound : (i : ℕ) (v : View) → get_elem? views i ≡ some v → total v.grants ≤ 2 ^ 52 * sessions_in v.role

-- the session has SX or X of the latch or is its next writer, and the writer word is its number
abbrev pub IsWriter : ℕ → List ℕ → View → ℕ → Type 0
IsWriter latches words v l = (0 < claims l v.session) × (slice_index words (writer_place l) ≡ session_number_of v.role) × (l < latches)

abbrev pub WriterPart : ℕ → List ℕ → List View → Type 0
WriterPart latches words views = (i : ℕ) (v : View) → get_elem? views i ≡ some v → AllByRecursion (IsWriter latches words v) v.written

-- who is no session holds nothing
abbrev pub IsIdle : View → Type 0
IsIdle v = live v.role ≡ 0 → v.session ≡ idle

abbrev pub Idles : List View → Type 0
Idles views = (i : ℕ) (v : View) → get_elem? views i ≡ some v → IsIdle v

-- the memory part: the log words up to the log's end are those of a lawful log, each entry of which was written where the longest one had room, the page words are the memory after it, but for those that an open append has stored, and what each session knows is true
pub record MemoryPart (sizes : Sizes) (lawful : List Entry → Type 0) (opening : ℕ → ℕ) (words : List ℕ) (log : List Entry) (views : List View) : Type 0 where
  pub legal : lawful log
  pub grammar : AreInGrammar sizes.pages log
  pub short : length log ≤ used log
  pub room : used log ≤ sizes.log_words
  pub had_room : HadRoom sizes.log_words log
  pub end : slice_index words end_place ≡ length log * 2 ^ 32 + used log
  pub logged : (w : ℕ) → w < used log → slice_index words (log_place sizes w) ≡ slice_index_or (log_words log) w 0
  pub paged : (q : ℕ) → q < page_places sizes → ((i : ℕ) (v : View) → get_elem? views i ≡ some v → stored_in v.memory.append q ≡ false) → slice_index words (base sizes + q) ≡ memory_after opening log q
  pub follows : (i : ℕ) (v : View) → get_elem? views i ≡ some v → Follows sizes lawful opening words log (session_number_of v.role) v.session v.memory
  pub ended : (i : ℕ) (v : View) → get_elem? views i ≡ some v → AllByRecursion (EndedFact log) (ended_in v.role)
  pub undrawn : (n : ℕ) → sum_by drawn_in (map role_of views) < n → entries_of n log ≡ []

-- the rule
pub record RuleHolds (lawful : ℕ → List Entry → Type 0) (opening : ℕ → ℕ → ℕ → ℕ) (sizes : Sizes) (s : State (Unit {0}) View) : Type 0 where
  pub sized : length s.words ≡ words_of sizes
  pub sessions : SessionsPart (slice_index s.words drawn_place) (map role_of s.views)
  pub latches : LatchPart (latches_of sizes) s.words (map session_in_view s.views)
  pub idles : Idles s.views
  pub paid : PaidPart (latches_of sizes) s.words s.views
  pub writers : WriterPart (latches_of sizes) s.words s.views
  pub log : List Entry
  pub memory : MemoryPart sizes (lawful sizes.pages) (by_place opening sizes.pages) s.words log s.views

-- the words of a space that opens: all latches are free, no session was drawn, the log is empty, and the pages are the law's
pub record IsOpening (opening : ℕ → ℕ → ℕ → ℕ) (sizes : Sizes) (words : List ℕ) : Type 0 where
  pub sized : length words ≡ words_of sizes
  pub none_drawn : slice_index words drawn_place ≡ 0
  pub none_logged : slice_index words end_place ≡ 0
  pub all_free : (l : ℕ) → l < latches_of sizes → slice_index words (lock_place l) ≡ WORD_BIAS + X_LOCK_DECR
  pub none_waits : (l : ℕ) → l < latches_of sizes → slice_index words (waiters_place l) ≡ 0
  pub none_raised : (l : ℕ) → l < latches_of sizes → slice_index words (gen_place l) ≡ 0
  pub none_drained : (l : ℕ) → l < latches_of sizes → slice_index words (ex_gen_place l) ≡ 0
  pub opened : (q : ℕ) → q < page_places sizes → slice_index words (base sizes + q) ≡ by_place opening sizes.pages q
