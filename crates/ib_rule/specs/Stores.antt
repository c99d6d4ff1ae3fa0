-- The memory steps of an open append: what each does to the view, and what may be stored.
use Rattle.std.specs.Prelude.{◌≡◌, ◌≢◌, ℕ, ◌+◌, ◌*◌, ◌^◌, ◌<◌, ◌≤◌, true, false, List, [], ◌∷◌, ◌++◌, map, length, Option, Some, None}
use Rattle.std.specs.List.{AllByRecursion}
use mathlib.Core.List.{IsPrefix}
use Rattle.ib_map.specs.Keys.{least}
use Rattle.ib_map.specs.Writes.{writes_at}
use Rattle.ib_map.specs.declared.call.Change.TheVariants.{Delete}
use Rattle.ib_layout.specs.Geometry.{Sizes}
use Rattle.ib_logrec.specs.declared.entry.Entry.{Entry}
use Rattle.ib_logrec.specs.Words.{words_of_entry}
use Rattle.ib_logrec.specs.Log.{used}
use Rattle.ib_rule.specs.declared.memory.Since.{Since}
use Rattle.ib_rule.specs.declared.memory.Loaded.{Loaded}
use Rattle.ib_rule.specs.declared.memory.OpenAppend.{OpenAppend}
use Rattle.ib_rule.specs.declared.view.View.{View}
use Rattle.ib_rule.specs.Roles.{session_number_of}
use Rattle.ib_rule.specs.Views.{with_memory, is_watched}
use Rattle.ib_rule.specs.Memory.{conflicts, entries_of, has, SinceFact, LoadedFact, MayComeBehind}

-- the entry that is named where none is written
abbrev pub no_entry : Entry
no_entry = record { session = 0; number = 0; change = Delete least; structural = false; writes = [] }

-- no loaded word is fresh any more
abbrev pub stale : List Loaded → List Loaded
stale xs = map (λ x. record { place = x.place; value = x.value; is_fresh = false }) xs

-- the open append, or one that is about to begin
abbrev pub begun : Entry → Option OpenAppend → OpenAppend
begun e None = record { entry = e; places = []; words = [] }
begun e (Some o) = o

abbrev pub Begins : Entry → Option OpenAppend → Type 0
Begins e None = Unit {0}
Begins e (Some o) = o.entry ≡ e

abbrev pub with_place : ℕ → OpenAppend → OpenAppend
with_place q o = record { entry = o.entry; places = q ∷ o.places; words = o.words }

abbrev pub with_word : ℕ → OpenAppend → OpenAppend
with_word j o = record { entry = o.entry; places = o.places; words = j ∷ o.words }

-- the view with other loaded words and another open append
abbrev pub storing : List Loaded → Option OpenAppend → View → View
storing loaded append v = with_memory (record v.memory { loaded = loaded; append = append }) v

-- a page word is stored, and a word of the entry in the log
abbrev pub storing_page : Entry → ℕ → View → View
storing_page e q v = storing (stale v.memory.loaded) (Some (with_place q (begun e v.memory.append))) v

abbrev pub storing_word : Entry → ℕ → View → View
storing_word e j v = storing (stale v.memory.loaded) (Some (with_word j (begun e v.memory.append))) v

-- the append
abbrev pub appending : Entry → View → View
appending e v = with_memory (record v.memory { seen = v.memory.seen ++ e ∷ []; own = v.memory.own ++ e ∷ []; loaded = stale v.memory.loaded; append = None }) v

-- words of the entry may be stored: it may follow all that is seen, which is the whole log, since the log latch has a since
pub record IsReady (sizes : Sizes) (lawful : List Entry → Type 0) (v : View) (e : Entry) : Type 0 where
  pub fits : MayComeBehind sizes lawful (session_number_of v.role) (length v.memory.own) v.session v.memory.seen e
  pub watch : is_watched 0 v.memory.since ≡ true
  pub begins : Begins e v.memory.append

-- all words of the entry are stored
abbrev pub AllStored : Entry → Option OpenAppend → Type 0
AllStored e None = ⊥
AllStored e (Some o) = ((q : ℕ) → writes_at q e.writes ≡ true → has q o.places ≡ true) × ((j : ℕ) → j < length (words_of_entry e) → has j o.words ≡ true)

-- what a look at the log's end tells of the log, and of what the session knew before it
pub record ShowsWholeLog (sizes : Sizes) (lawful : List Entry → Type 0) (opening : ℕ → ℕ) (v : View) (found : ℕ) (log : List Entry) : Type 0 where
  pub longer : IsPrefix v.memory.seen log
  pub legal : lawful log
  pub end : found ≡ length log * 2 ^ 32 + used log
  pub few : length log ≤ used log
  pub room : used log ≤ sizes.log_words
  pub mine : (entries_of (session_number_of v.role) log ≡ v.memory.own) × (entries_of (session_number_of v.role) v.memory.seen ≡ v.memory.own)
  pub since : AllByRecursion (SinceFact (session_number_of v.role) v.session (length v.memory.seen) log) v.memory.since
  pub loaded : AllByRecursion (LoadedFact opening v.session log) v.memory.loaded

-- what a look at the table tells that loads no word of the log: whatever was met and is no longer than what is seen is a front of that, which is lawful, in the log's room, and has the session's own entries, and what the session holds with a since is stable there
pub record ShowsSeen (sizes : Sizes) (lawful : List Entry → Type 0) (v : View) : Type 0 where
  pub met : AllByRecursion (λ xs. length xs ≤ length v.memory.seen → IsPrefix xs v.memory.seen) v.memory.met
  pub legal : lawful v.memory.seen
  pub room : used v.memory.seen ≤ sizes.log_words
  pub mine : 0 < session_number_of v.role → entries_of (session_number_of v.role) v.memory.seen ≡ v.memory.own
  pub since : AllByRecursion (SinceFact (session_number_of v.role) v.session (length v.memory.seen) v.memory.seen) v.memory.since

-- an entry of another session that conflicts with no latch that has a since
abbrev pub IsHarmless : ℕ → List Since → Entry → Type 0
IsHarmless n since e = (e.session ≢ n) × AllByRecursion (λ s. conflicts e s ≡ false) since

-- a look at the log: the entries newly seen are harmless, and what is seen is lawful, in the log's room, and has the session's own entries
pub record IsLook (sizes : Sizes) (lawful : List Entry → Type 0) (v : View) (log : List Entry) : Type 0 where
  pub others : List Entry
  pub longer : v.memory.seen ++ others ≡ log
  pub harmless : AllByRecursion (IsHarmless (session_number_of v.role) v.memory.since) others
  pub legal : lawful log
  pub room : used log ≤ sizes.log_words
  pub mine : entries_of (session_number_of v.role) log ≡ v.memory.own
