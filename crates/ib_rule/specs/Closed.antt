-- A space that nobody shares any more: its words, and the log that they keep.
use Rattle.std.specs.Prelude.{◌≡◌, ℕ, ◌^◌, ◌%◌, ◌<◌, ◌≤◌, List, [], length, take, drop, slice_index}
use Rattle.std.specs.List.{AllByRecursion}
use Rattle.ib_map.specs.declared.TheConstants.{PAGE_WORDS}
use Rattle.ib_map.specs.Writes.{word_place}
use Rattle.ib_layout.specs.Geometry.{Sizes}
use Rattle.ib_layout.specs.Places.{log_place, page_place, words_of, end_place}
use Rattle.ib_logrec.specs.declared.entry.Entry.{Entry}
use Rattle.ib_logrec.specs.Law.{AreInGrammar}
use Rattle.ib_logrec.specs.Log.{log_words, memory_after, by_place}
use Rattle.ib_rule.specs.declared.view.Ended.{Ended}
use Rattle.ib_rule.specs.Room.{HadRoom}
use Rattle.ib_rule.specs.Memory.{entries_of, EndedFact}
use Rattle.ib_rule.specs.Space.{SpaceState}

-- the used words of the log
abbrev pub used_in : List ℕ → ℕ
used_in words = slice_index words end_place % 2 ^ 32

abbrev pub log_in : Sizes → List ℕ → List ℕ
log_in sizes words = take (used_in words) (drop (log_place sizes 0) words)

-- what contracts see of a closed space: its sizes, how many sessions it drew, and its words
pub record ClosedState : Type 0 where
  pub sizes : Sizes
  pub drawn : ℕ
  pub words : List ℕ

-- there are as many words as the sizes ask for, and the log's end lies within the log
pub record IsSized (sizes : Sizes) (words : List ℕ) : Type 0 where
  pub sized : length words ≡ words_of sizes
  pub room : used_in words ≤ sizes.log_words

-- the words are those of a lawful log, each entry of which was written where the longest one had room: the log words and the page words are its, and each session that has ended had seen a front of it, and has exactly its own entries in it
pub record IsClosed (lawful : ℕ → List Entry → Type 0) (opening : ℕ → ℕ → ℕ → ℕ) (sizes : Sizes) (words : List ℕ) (ended : List Ended) : Type 0 where
  pub log : List Entry
  pub legal : lawful sizes.pages log
  pub grammar : AreInGrammar sizes.pages log
  pub sized : length words ≡ words_of sizes
  pub room : used_in words ≤ sizes.log_words
  pub had_room : HadRoom sizes.log_words log
  pub logged : log_in sizes words ≡ log_words log
  pub paged : (page index : ℕ) → page < sizes.pages → index < PAGE_WORDS → slice_index words (page_place sizes page index) ≡ memory_after (by_place opening sizes.pages) log (word_place page index)
  pub sessions : AllByRecursion (EndedFact log) ended
  pub others : (n : ℕ) → length ended < n → entries_of n log ≡ []

-- the space was closed: what is left has its sizes, its number of sessions, and the words of a lawful log
abbrev pub HasClosed : (ℕ → List Entry → Type 0) → (ℕ → ℕ → ℕ → ℕ) → SpaceState → ClosedState → Type 0
HasClosed lawful opening old closed = (closed.sizes ≡ old.sizes) × (closed.drawn ≡ old.drawn) × IsClosed lawful opening old.sizes closed.words old.ended
