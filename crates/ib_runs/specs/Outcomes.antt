-- What the sessions of a script came to.
use Rattle.std.specs.Prelude.{◌≡◌, ◌⊎◌, ℕ, zero, suc, ◌+◌, ◌<◌, ◌≤◌, List, [], ◌∷◌, map, slice_index}
use Rattle.std.specs.List.{AllByRecursion}
use Rattle.ib_map.specs.Pairs.{Pairs}
use Rattle.ib_map.specs.History.{History}
use Rattle.ib_map.specs.Runs.{Runs, IsLegalRun}
use Rattle.ib_map.specs.Writes.{index_at, page_at, word_place}
use Rattle.ib_map.specs.declared.TheConstants.{PAGE_WORDS}
use Rattle.ib_map.specs.declared.call.Call.{Call}
use Rattle.ib_layout.specs.Geometry.{Sizes}
use Rattle.ib_layout.specs.Places.{page_place}
use Rattle.ib_logrec.specs.declared.entry.Entry.{Entry}
use Rattle.ib_logrec.specs.Log.{history_of, log_words, map_of, memory_after, used}
use Rattle.ib_walk.specs.Trees.{content_of}
use Rattle.ib_walk.specs.Words.{image_of}
use Rattle.ib_tree.specs.Logs.{pages_after}
use Rattle.ib_rule.specs.Closed.{log_in}
use Rattle.ib_rule.specs.Room.{HadRoom}
use Rattle.ib_leaf.specs.Calls.{CallLaw, tree_calls}
use Rattle.ib_runs.specs.declared.ran.Ran.{Ran}
use Rattle.ib_runs.specs.Alone.{AreNeverFull}
use Rattle.ib_runs.specs.Answers.{IsWhole, answers_of, calls_in}

-- The records of session n, which stand at place n - 1, are of its commands, in order. All of them are a legal run against one lawful
-- log, which fits the space, each entry of which was written where the longest one had room, and each record fits that at its place
pub record IsOutcomeUnder (law : CallLaw) (sizes : Sizes) (commands : List (List Call)) (runs : Runs) (log : List Entry) : Type 0 where
  pub same_calls : map calls_in runs ≡ commands
  pub kept : law.lawful log
  pub room : used log ≤ sizes.log_words
  pub had_room : HadRoom sizes.log_words log
  pub run : IsLegalRun (λ h. law.fits log) (history_of log) runs

-- .. of one tree: a kept log, and each record by the map and by the tree at its place
abbrev pub IsOutcome : Sizes → List (List Call) → Runs → List Entry → Type 0
IsOutcome sizes commands runs log = IsOutcomeUnder (tree_calls sizes) sizes commands runs log

-- the words of a closed space are those of a lawful log and of the pages after it
pub record HasLogUnder (law : CallLaw) (sizes : Sizes) (words : List ℕ) (log : List Entry) : Type 0 where
  pub kept : law.lawful log
  pub logged : log_in sizes words ≡ log_words log
  pub paged : (page index : ℕ) → page < sizes.pages → index < PAGE_WORDS → slice_index words (page_place sizes page index) ≡ memory_after law.start log (word_place page index)

-- .. of one tree
abbrev pub HasLog : Sizes → List ℕ → List Entry → Type 0
HasLog sizes words log = HasLogUnder (tree_calls sizes) sizes words log

-- the images of so many pages, from one on, among the words of all pages by place
abbrev pub images_at : (ℕ → ℕ) → ℕ → ℕ → List (List ℕ)
images_at words page zero = []
images_at words page (suc n) = image_of words page ∷ images_at words (page + 1) n

-- the images of the pages of a closed space
abbrev pub images_in : Sizes → List ℕ → List (List ℕ)
images_in sizes words = images_at (λ place. slice_index words (page_place sizes (page_at place) (index_at place))) 0 sizes.pages

-- a history is that of a log, and a map is what the walk of the first tree after it finds: the map of the log
pub record IsReadOff (law : CallLaw) (log : List Entry) (history : History) (pairs : Pairs) : Type 0 where
  pub history_is : history ≡ history_of log
  pub walked : pairs ≡ content_of (pages_after law.start log) 1
  pub map_is : pairs ≡ map_of log

-- A script's sessions were run on a space of as many pages, with a log that may be shorter: the outcome is one in the script's sizes, with the log
-- that the closed space has, and the history and the map are read off its words
pub record HasRanUnder (calls : Sizes → CallLaw) (sizes : Sizes) (commands : List (List Call)) (ran : Ran) : Type 0 where
  pub log : List Entry
  pub outcome : IsOutcomeUnder (calls sizes) sizes commands (map answers_of ran.sessions.items) log
  pub pages_are : ran.closed.sizes.pages ≡ sizes.pages
  pub words : HasLogUnder (calls ran.closed.sizes) ran.closed.sizes ran.closed.words log
  pub read_off : IsReadOff (calls sizes) log ran.history.items ran.map
  pub whole : AllByRecursion IsWhole ran.sessions.items

-- .. of one tree
abbrev pub HasRan : Sizes → List (List Call) → Ran → Type 0
HasRan sizes commands ran = HasRanUnder tree_calls sizes commands ran

-- .. and what stands beside the run holds of that log
pub record HasRanBeside (calls : Sizes → CallLaw) (holds : List Entry → Type 0) (sizes : Sizes) (commands : List (List Call)) (ran : Ran) : Type 0 where
  pub ran_is : HasRanUnder calls sizes commands ran
  pub beside : holds ran_is.log

-- the log that a run was made on is the script's own, or a shorter one that no reply tells to have got full
pub record IsSettled (sizes : Sizes) (ran : Ran) : Type 0 where
  pub within : ran.closed.sizes.log_words ≤ sizes.log_words
  pub settled : (ran.closed.sizes.log_words ≡ sizes.log_words) ⊎ AreNeverFull (map answers_of ran.sessions.items)
