-- A change that was planned behind a kept log, and what its entry writes.
use Rattle.std.specs.Prelude.{◌≡◌, ℕ, ◌+◌, ◌/◌, ◌<◌, ◌≤◌, ◌^◌, true, false, List, [], ◌∷◌, ◌++◌, length, Some, None}
use Rattle.std.specs.List.{All}
use Rattle.ib_map.specs.History.{changes_of}
use Rattle.ib_map.specs.Map.{answer_of, is_made}
use Rattle.ib_map.specs.Writes.{spans_pages}
use Rattle.ib_map.specs.declared.TheConstants.{PAGE_WORDS}
use Rattle.ib_map.specs.declared.call.Change.{Change}
use Rattle.ib_logrec.specs.declared.entry.Entry.{Entry}
use Rattle.ib_logrec.specs.declared.entry.TheConstants.{MOST_SESSIONS, MOST_WRITES}
use Rattle.ib_logrec.specs.Log.{memory_after, history_of, map_of, by_place}
use Rattle.ib_page.specs.Work.{WorkPage, IsWork}
use Rattle.ib_page.specs.Writes.{writes_of}
use Rattle.ib_walk.specs.Words.{image_of}
use Rattle.ib_tree.specs.TreeLog.{opening}
use Rattle.ib_planned_log.specs.Kept.{IsKeptLog}
use Rattle.ib_planned_change.specs.declared.refused.Refused.{Refused}
use Rattle.ib_planned_change.specs.declared.refused.Refused.TheVariants.{Unmade, Full}
use Rattle.ib_planned_change.specs.Copies.{AreImagesAfter, IsBehind}
use Rattle.ib_planned_change.specs.Full.{full_behind}

-- the next entry of its session behind the log: it makes the change, and writes the words of the work set that differ
pub record IsNextEntry (log : List Entry) (change : Change) (work : List WorkPage) (e : Entry) : Type 0 where
  pub session : 1 ≤ e.session
  pub most_session : e.session ≤ MOST_SESSIONS
  pub number : e.number ≡ length (changes_of e.session (history_of log)) + 1
  pub most_number : e.number < 2 ^ 32
  pub change_is : e.change ≡ change
  pub writes_are : e.writes ≡ writes_of work
  pub structural : e.structural ≡ spans_pages e.writes

-- so many pages may have changed that all their words are no more than an entry has writes
abbrev pub most_changed : ℕ
most_changed = MOST_WRITES / PAGE_WORDS

-- the work set has what the change makes of pages of the memory behind the log: an entry that writes the words that differ may come behind it
pub record IsPlannedIn (log : List Entry) (images : List (List ℕ)) (change : Change) (work : List WorkPage) : Type 0 where
  pub made : is_made (answer_of (map_of log) change) ≡ true
  pub may : full_behind (length images) log change ≡ None
  pub work_is : IsWork work
  pub few : length work ≤ most_changed
  pub within : All (λ w. w.page < length images) work
  pub read : All (λ w. image_of (memory_after (by_place opening (length images)) log) w.page ≡ w.before) work
  pub kept : (e : Entry) → IsNextEntry log change work e → IsKeptLog (length images) (log ++ e ∷ [])

-- .. and the images are those behind that entry
pub record IsMade (log : List Entry) (change : Change) (work : List WorkPage) (old new : List (List ℕ)) : Type 0 where
  pub made : is_made (answer_of (map_of log) change) ≡ true
  pub may : full_behind (length old) log change ≡ None
  pub few : length (writes_of work) ≤ MOST_WRITES
  pub size : length new ≡ length old
  pub kept : (e : Entry) → IsNextEntry log change work e → IsKeptLog (length old) (log ++ e ∷ [])
  pub images_are : (e : Entry) → IsNextEntry log change work e → AreImagesAfter (length old) (log ++ e ∷ []) new

-- .. behind every kept log whose pages the images are
abbrev pub IsMadeForAll : Change → List WorkPage → List (List ℕ) → List (List ℕ) → Type 0
IsMadeForAll change work old new = (log : List Entry) → IsBehind log old → IsMade log change work old new

abbrev pub IsPlannedForAll : Change → List (List ℕ) → List WorkPage → Type 0
IsPlannedForAll change images work = (log : List Entry) → IsBehind log images → IsPlannedIn log images change work

-- why a change is refused: the map does not make it, or something is full
abbrev pub IsRefused : ℕ → List Entry → Change → Refused → Type 0
IsRefused pages log change Unmade = is_made (answer_of (map_of log) change) ≡ false
IsRefused pages log change (Full why) = (is_made (answer_of (map_of log) change) ≡ true) × (full_behind pages log change ≡ Some why)

abbrev pub IsRefusedForAll : Change → List (List ℕ) → Refused → Type 0
IsRefusedForAll change images refused = (log : List Entry) → IsBehind log images → IsRefused (length images) log change refused
