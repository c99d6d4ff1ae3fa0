-- What is asked of the law of what the sessions of a script share.
use Rattle.std.specs.Prelude.{◌≡◌, ℕ, ◌<◌, ◌≤◌, List, [], ◌++◌, length, take}
use Rattle.ib_map.specs.Keys.{MapKey, rank}
use Rattle.ib_map.specs.History.{History, map_after}
use Rattle.ib_map.specs.Replies.{Fits, FullRecord, Span, pair_count}
use Rattle.ib_map.specs.declared.call.Call.{Call}
use Rattle.ib_map.specs.declared.call.Call.TheVariants.{Scan}
use Rattle.ib_map.specs.declared.call.Reply.TheVariants.{Scanned}
use Rattle.ib_layout.specs.Geometry.{Sizes}
use Rattle.ib_logrec.specs.declared.entry.Entry.{Entry}
use Rattle.ib_logrec.specs.Law.{AreInGrammar}
use Rattle.ib_logrec.specs.Log.{by_place, history_of, map_of, memory_after}
use Rattle.ib_walk.specs.Trees.{content_of, free_page}
use Rattle.ib_walk.specs.Words.{IsLawfulMemory, pages_of}
use Rattle.ib_tree.specs.Fits.{TreeSpace}
use Rattle.ib_tree.specs.Logs.{pages_after}
use Rattle.ib_tree.specs.Scans.{AreWhole}
use Rattle.ib_cursor.specs.Spaces.{space_of}
use Rattle.ib_shared.specs.SharedLaw.{SharedLaw}
use Rattle.ib_leaf.specs.Calls.{CallLaw}
use Rattle.ib_runs.specs.Alone.{IsNotFull}

-- under what calls are answered in a space of these sizes
abbrev pub calls_under : SharedLaw → Sizes → CallLaw
calls_under law sizes = let start = by_place law.opening sizes.pages in record { fits = law.fits (space_of sizes start); lawful = law.lawful sizes.pages; start = start }

-- the call is no scan
abbrev pub IsNoScan : Call → Type 0
IsNoScan (Scan low high) = ⊥
IsNoScan _ = Unit {0}

-- a scan's record
abbrev pub scan_record : MapKey → MapKey → List Span → ℕ → FullRecord
scan_record low high spans place = record { call = Scan low high; reply = Scanned (length spans) (pair_count spans); place = place; spans = spans }

-- the tree of a root has at each place of a log what as many changes leave, of which there is one for each entry
pub record HasHistory (start : ℕ → ℕ) (root : ℕ) (log : List Entry) : Type 0 where
  pub changes : History
  pub count : length changes ≡ length log
  pub content : (n : ℕ) → n ≤ length log → content_of (pages_after start (take n log)) root ≡ map_after changes n

-- What lawful logs on so many pages say, of trees of which the one with this root is scanned: no entries are lawful; pages that the space does not
-- have are free; the memory has one tree or two, and the first of them has the map; the scanned one has as many changes as the log has entries; and
-- the record of a scan fits that has all chunks of that tree
pub record LogLaws (law : CallLaw) (root pages : ℕ) : Type 0 where
  pub none : law.lawful []
  pub grammar : (log : List Entry) → law.lawful log → AreInGrammar pages log
  pub free : (page : ℕ) → pages ≤ page → pages_of law.start page ≡ free_page
  pub roots : ℕ
  pub few : roots ≤ 2
  pub some : 1 ≤ root
  pub within : root ≤ roots
  pub memory : (log : List Entry) → law.lawful log → IsLawfulMemory pages roots (memory_after law.start log)
  pub content : (log : List Entry) → law.lawful log → content_of (pages_after law.start log) 1 ≡ map_of log
  pub scanned : (log : List Entry) → law.lawful log → HasHistory law.start root log
  pub whole : (log : List Entry) (session reach : ℕ) (low high : MapKey) (spans : List Span) → law.lawful log → rank low ≤ rank high
      → AreWhole law.start log root low high reach spans (length log) → law.fits log session reach (scan_record low high spans (length log))

-- What records that fit say: one fits each longer log; one of a call that is no scan fits the log's map; and that of a scan with no chunk fits from a
-- key to a lower one
pub record FitLaws (law : CallLaw) : Type 0 where
  pub longer : (log more : List Entry) (session reach : ℕ) (r : FullRecord) → law.fits log session reach r → law.fits (log ++ more) session reach r
  pub by_map : (log : List Entry) (session reach : ℕ) (r : FullRecord) → IsNoScan r.call → law.fits log session reach r → Fits (history_of log) session reach r
  pub empty : (log : List Entry) (session : ℕ) (low high : MapKey) → rank high < rank low → law.fits log session (length log) (scan_record low high [] (length log))

-- a record that does not tell of a full log fits beside a log of any length
pub record IsFreeOfLength (law : SharedLaw) : Type 0 where
  pub wider : (space : TreeSpace) (words : ℕ) (log : List Entry) (session reach : ℕ) (r : FullRecord) → IsNotFull r.reply
      → law.fits space log session reach r → law.fits (record space { log_words = words }) log session reach r
