-- What a reply must be by the tree, beside what the map says: a record fits a log.
use Rattle.std.specs.Prelude.{◌≡◌, ℕ, ◌+◌, ◌*◌, ◌<◌, ◌≤◌, Bool, true, false, List, take}
use Rattle.std.specs.List.{AllByRecursion}
use Rattle.ib_map.specs.Keys.{MapKey}
use Rattle.ib_map.specs.Replies.{Span, FullRecord, Fits}
use Rattle.ib_map.specs.declared.call.Call.{Call}
use Rattle.ib_map.specs.declared.call.Call.TheVariants.{Insert, Delete, Get, Scan}
use Rattle.ib_map.specs.declared.call.Reply.{Reply}
use Rattle.ib_map.specs.declared.call.Reply.TheVariants.{LogFull, SpaceFull, TooHigh}
use Rattle.ib_logrec.specs.declared.entry.Entry.{Entry}
use Rattle.ib_logrec.specs.declared.entry.TheConstants.{HEAD_WORDS, MOST_WRITES}
use Rattle.ib_logrec.specs.Log.{memory_after, history_of, used}
use Rattle.ib_walk.specs.Pages.{PageMemory}
use Rattle.ib_walk.specs.Chunk.{IsChunk}
use Rattle.ib_walk.specs.Full.{need_of, is_too_high, free_of}
use Rattle.ib_walk.specs.Words.{bits_of}
use Rattle.ib_tree.specs.Logs.{pages_after}

-- a space: how many pages and how many words of log it has, and the words of its pages at the start
pub record TreeSpace : Type 0 where
  pub pages : ℕ
  pub log_words : ℕ
  pub opening : ℕ → ℕ

-- its pages at a place of the log, and how many of them are free there
abbrev pub tree_at : TreeSpace → List Entry → ℕ → PageMemory
tree_at space log place = pages_after space.opening (take place log)

abbrev pub free_at : TreeSpace → List Entry → ℕ → ℕ
free_at space log place = free_of (bits_of space.pages (memory_after space.opening (take place log))) space.pages

-- whether the reply refuses a change
abbrev pub is_refused : Reply → Bool
is_refused (LogFull words cap) = true
is_refused (SpaceFull free need) = true
is_refused TooHigh = true
is_refused _ = false

-- so much of the log an append asks for: a word more than the longest entry has
abbrev pub entry_room : ℕ
entry_room = HEAD_WORDS + 2 * MOST_WRITES + 1

-- the log has less left behind the entries before the place than an append asks for
pub record IsLogFull (space : TreeSpace) (log : List Entry) (place words cap : ℕ) : Type 0 where
  pub words_are : words ≡ used (take place log)
  pub cap_is : cap ≡ space.log_words
  pub short : space.log_words < words + entry_room

-- an insert that was refused, which needs so many pages: what it grows cannot grow higher, else the space has too few free pages, else the log has no room
abbrev pub FitsInsert : Bool → ℕ → TreeSpace → List Entry → Reply → ℕ → Type 0
FitsInsert too_high pages space log TooHigh place = too_high ≡ true
FitsInsert too_high pages space log (SpaceFull free need) place = (too_high ≡ false) × (free ≡ free_at space log place) × (need ≡ pages) × (free < need)
FitsInsert too_high pages space log (LogFull words cap) place = (too_high ≡ false) × (pages ≤ free_at space log place) × IsLogFull space log place words cap
FitsInsert too_high pages space log _ place = Unit {0}

-- .. into the first tree alone
abbrev pub FitsTreeInsert : TreeSpace → List Entry → MapKey → Reply → ℕ → Type 0
FitsTreeInsert space log key reply place = FitsInsert (is_too_high 1 (tree_at space log place) key 1) (need_of (tree_at space log place) key 1) space log reply place

abbrev pub FitsDelete : TreeSpace → List Entry → Reply → ℕ → Type 0
FitsDelete space log (LogFull words cap) place = IsLogFull space log place words cap
FitsDelete space log _ place = Unit {0}

-- a chunk of a scan up to `high` is what the leaves have at its place
abbrev pub FitsLeaves : TreeSpace → List Entry → MapKey → Span → Type 0
FitsLeaves space log high span = IsChunk (tree_at space log span.place) 1 span.low high span.high span.pairs

abbrev pub FitsTree : TreeSpace → List Entry → Call → Reply → ℕ → List Span → Type 0
FitsTree space log (Insert key value) reply place spans = FitsTreeInsert space log key reply place
FitsTree space log (Delete key) reply place spans = FitsDelete space log reply place
FitsTree space log (Get key) reply place spans = Unit {0}
FitsTree space log (Scan low high) reply place spans = AllByRecursion (FitsLeaves space log high) spans

-- a record of a session that had seen `reach` entries fits the log of the space: by the map of the log, and by its first tree
pub record FitsLog (space : TreeSpace) (log : List Entry) (session reach : ℕ) (r : FullRecord) : Type 0 where
  pub map : Fits (history_of log) session reach r
  pub tree : FitsTree space log r.call r.reply r.place r.spans
