-- A change of one page: the entry by which a session changes the leaf of a key and nothing else.
use Rattle.std.specs.Prelude.{◌≡◌, ℕ, ◌+◌, ◌<◌, ◌≤◌, ◌^◌, List, [], ◌∷◌, length}
use Rattle.ib_map.specs.Keys.{MapKey}
use Rattle.ib_map.specs.Pairs.{put, without}
use Rattle.ib_map.specs.History.{changes_of}
use Rattle.ib_map.specs.Writes.{spans_pages}
use Rattle.ib_map.specs.declared.call.Change.{Change}
use Rattle.ib_heap.specs.Heap.{read_heap}
use Rattle.ib_page.specs.Form.{page_of}
use Rattle.ib_page.specs.Image.{records_of}
use Rattle.ib_page.specs.Writes.{writes_of}
use Rattle.ib_logrec.specs.declared.entry.Entry.{Entry}
use Rattle.ib_logrec.specs.declared.entry.TheConstants.{MOST_SESSIONS}
use Rattle.ib_logrec.specs.Log.{memory_after, history_of, by_place}
use Rattle.ib_walk.specs.Pages.{PageState, PageMemory}
use Rattle.ib_walk.specs.Search.{leaf_for}
use Rattle.ib_walk.specs.Words.{image_of, state_of}
use Rattle.ib_plans.specs.Moves.{Move, IsMovedHeap}
use Rattle.ib_plans.specs.Split.{with_records}
use Rattle.ib_plans.specs.Agreement.{tick}
use Rattle.ib_tree.specs.Logs.{pages_after}
use Rattle.ib_tree.specs.TreeLog.{opening}

-- the pages of a space of so many after a log, and the leaf of a key there
abbrev pub kept_pages : ℕ → List Entry → PageMemory
kept_pages pages log = pages_after (by_place opening pages) log

abbrev pub leaf_after : ℕ → List Entry → MapKey → ℕ
leaf_after pages log key = leaf_for (kept_pages pages log) key 1

-- a page with a pair put in, and without the pair of a key, its clock one higher
abbrev pub with_pair : MapKey → ℕ → PageState → PageState
with_pair key value page = tick (with_records (put key value page.records) page)

abbrev pub without_pair : MapKey → PageState → PageState
without_pair key page = tick (with_records (without key page.records) page)

-- the next entry of its session behind the log: it makes the change, and writes the words of one page that differ, which is in this state then, its records moved so
pub record ChangesPage (pages : ℕ) (log : List Entry) (page : ℕ) (to : PageState) (move : Move) (change : Change) (e : Entry) : Type 0 where
  pub session : 1 ≤ e.session
  pub most_session : e.session ≤ MOST_SESSIONS
  pub number : e.number ≡ length (changes_of e.session (history_of log)) + 1
  pub most_number : e.number < 2 ^ 32
  pub change_is : e.change ≡ change
  pub changed : List ℕ
  pub writes_are : e.writes ≡ writes_of (record { page = page; before = image_of (memory_after (by_place opening pages) log) page; changed = changed } ∷ [])
  pub structural : e.structural ≡ spans_pages e.writes
  pub state : state_of (page_of changed) ≡ to
  pub moved : IsMovedHeap move (records_of (image_of (memory_after (by_place opening pages) log) page)) (read_heap (image_of (memory_after (by_place opening pages) log) page)) (read_heap changed)
