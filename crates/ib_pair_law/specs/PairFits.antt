-- When a record fits the log of a space of two trees.
use Rattle.std.specs.Prelude.{◌≡◌, ◌⊎◌, ℕ, ◌+◌, ◌<◌, ◌≤◌, ◌||◌, Bool, List, [], length}
use Rattle.ib_map.specs.Keys.{MapKey, rank}
use Rattle.ib_map.specs.History.{map_after}
use Rattle.ib_map.specs.Map.{lookup_of}
use Rattle.ib_map.specs.Replies.{Span, FullRecord, FitsChange, pair_count}
use Rattle.ib_map.specs.declared.call.Call.{Call}
use Rattle.ib_map.specs.declared.call.Call.TheVariants.{Insert, Delete, Get, Scan}
use Rattle.ib_map.specs.declared.call.Change.TheVariants.{Insert as InsertChange, Delete as DeleteChange}
use Rattle.ib_map.specs.declared.call.Reply.{Reply}
use Rattle.ib_map.specs.declared.call.Reply.TheVariants.{Scanned}
use Rattle.ib_second_key.specs.SecondKeys.{second_key_of}
use Rattle.ib_logrec.specs.declared.entry.Entry.{Entry}
use Rattle.ib_logrec.specs.Log.{history_of}
use Rattle.ib_walk.specs.Full.{need_of, is_too_high}
use Rattle.ib_walk.specs.Pages.{PageMemory}
use Rattle.ib_tree.specs.Fits.{TreeSpace, tree_at, FitsInsert, FitsDelete}
use Rattle.ib_tree.specs.Scans.{AreWhole}

-- how many pages an insert of the pair takes: those of both trees
abbrev pub pair_need_of : PageMemory → MapKey → ℕ → ℕ
pair_need_of memory key value = need_of memory key 1 + need_of memory (second_key_of key value) 2

-- one of the two roots would be raised at the highest level that two trees may have
abbrev pub is_pair_too_high : PageMemory → MapKey → ℕ → Bool
is_pair_too_high memory key value = is_too_high 2 memory key 1 || is_too_high 2 memory (second_key_of key value) 2

-- a scan goes over the second tree, chunk by chunk as its leaves have them; from a key to a lower one it stands at what its session had seen
abbrev pub FitsSecondScan : TreeSpace → List Entry → ℕ → MapKey → MapKey → ℕ → List Span → Type 0
FitsSecondScan space log reach low high place spans =
    ((spans ≡ []) × (rank high < rank low) × (place ≡ reach)) ⊎ ((rank low ≤ rank high) × AreWhole space.opening log 2 low high reach spans place)

-- a change and a lookup are answered as the map of the log answers them, a change that is refused for want of room as the trees stand: too high is what either tree is, and the pages needed are those of both. A scan is answered as the second tree has it
abbrev pub FitsPairCall : TreeSpace → List Entry → ℕ → ℕ → Call → Reply → ℕ → List Span → Type 0
FitsPairCall space log session reach (Insert key value) reply place spans =
    FitsChange (history_of log) session (InsertChange key value) reply place
    × FitsInsert (is_pair_too_high (tree_at space log place) key value) (pair_need_of (tree_at space log place) key value) space log reply place × (spans ≡ [])
FitsPairCall space log session reach (Delete key) reply place spans =
    FitsChange (history_of log) session (DeleteChange key) reply place × FitsDelete space log reply place × (spans ≡ [])
FitsPairCall space log session reach (Get key) reply place spans = (reply ≡ lookup_of (map_after (history_of log) place) key) × (spans ≡ [])
FitsPairCall space log session reach (Scan low high) reply place spans =
    (reply ≡ Scanned (length spans) (pair_count spans)) × FitsSecondScan space log reach low high place spans

-- a record of a session that had seen `reach` entries fits the log
abbrev pub FitsPairLog : TreeSpace → List Entry → ℕ → ℕ → FullRecord → Type 0
FitsPairLog space log session reach r = (r.place ≤ length log) × FitsPairCall space log session reach r.call r.reply r.place r.spans
