-- What the changes of an old log make when they are planned anew, and the first fault of its words.
use Rattle.std.specs.Prelude.{◌≡◌, ℕ, ◌+◌, ◌<◌, ◌==◌, List, ◌++◌, length, Option, Some, None}
use Rattle.ib_map.specs.Map.{answer_of, is_made}
use Rattle.ib_map.specs.Pairs.{Pairs}
use Rattle.ib_map.specs.History.{changes_of}
use Rattle.ib_map.specs.Writes.{spans_pages}
use Rattle.ib_map.specs.declared.call.LoggedChange.{LoggedChange}
use Rattle.ib_logrec.specs.declared.entry.Entry.{Entry}
use Rattle.ib_logrec.specs.declared.fault.FullKind.{FullKind}
use Rattle.ib_logrec.specs.declared.fault.LogFault.{LogFault}
use Rattle.ib_logrec.specs.declared.fault.LogFault.TheVariants.{Unlawful, CannotPlan, OutOfMemory}
use Rattle.ib_logrec.specs.declared.fault.UnlawfulKind.TheVariants.{Number, Change as BadChange}
use Rattle.ib_logrec.specs.Grammar.{unless, ◌or◌}
use Rattle.ib_logrec.specs.Log.{log_words, history_of, map_of}
use Rattle.ib_page.specs.Work.{WorkPage}
use Rattle.ib_page.specs.Writes.{writes_of}
use Rattle.ib_planned_log.specs.Kept.{IsKeptLog}
use Rattle.ib_planned_change.specs.Full.{full_behind}
use Rattle.ib_planned_change.specs.declared.refused.Refused.{Refused}
use Rattle.ib_planned_change.specs.declared.refused.Refused.TheVariants.{Unmade, Full}
use Rattle.ib_old_log.specs.OldEntries.{OldEntry, old_entry_in, old_log_words, old_used, brought, brought_history}
use Rattle.ib_old_log.specs.OldGrammar.{AreInOldGrammar, old_fault_at}

-- what is wrong with a change that is logged at a place, behind so many changes of its session and over a map: first its number, then whether the map makes it
abbrev pub logged_fault : ℕ → ℕ → Pairs → LoggedChange → Option LogFault
logged_fault place count map logged =
    unless (logged.number == count + 1) (Unlawful place Number)
    or unless (is_made (answer_of map logged.change)) (Unlawful place BadChange)

-- the fault that what is full makes of an entry at a place
abbrev pub plan_fault : ℕ → Option FullKind → Option LogFault
plan_fault place None = None
plan_fault place (Some why) = Some (CannotPlan place why)

-- the entry of a change that writes the words in which a work set differs
abbrev pub entry_of : LoggedChange → List WorkPage → Entry
entry_of logged work = record {
  session = logged.session;
  number = logged.number;
  change = logged.change;
  structural = spans_pages (writes_of work);
  writes = writes_of work;
}

-- the fault of an entry at a place whose change is refused
abbrev pub refused_fault : ℕ → Refused → LogFault
refused_fault place Unmade = Unlawful place BadChange
refused_fault place (Full why) = CannotPlan place why

-- these entries are kept, and make the changes of the old ones in their order, with their keys brought over
pub record IsPlannedAnew (pages : ℕ) (olds : List OldEntry) (log : List Entry) : Type 0 where
  pub kept : IsKeptLog pages log
  pub history : history_of log ≡ brought_history olds

-- what is wrong with a change that is logged at a place, behind so many changes of its session and a log that makes those before it: its number, its change, or that it cannot be planned there
abbrev pub entry_fault : ℕ → List Entry → ℕ → ℕ → LoggedChange → Option LogFault
entry_fault pages log place count logged = logged_fault place count (map_of log) logged or plan_fault place (full_behind pages log logged.change)

-- .. where the log has the changes of its session as well
abbrev pub change_fault_behind : ℕ → List Entry → ℕ → LoggedChange → Option LogFault
change_fault_behind pages log place logged = entry_fault pages log place (length (changes_of logged.session (history_of log))) logged

-- a fault of old words: what is wrong with those behind a front of them whose changes could all be planned, first with their grammar
pub record IsFirstOldFault (pages : ℕ) (words : List ℕ) (fault : LogFault) : Type 0 where
  pub front : List OldEntry
  pub rest : List ℕ
  pub log : List Entry
  pub grammar : AreInOldGrammar pages front
  pub parts : words ≡ old_log_words front ++ rest
  pub planned : IsPlannedAnew pages front log
  pub more : 0 < length rest
  pub found : (old_fault_at pages (old_used front) rest or change_fault_behind pages log (old_used front) (brought (old_entry_in rest))) ≡ Some fault

-- or want of memory
abbrev pub IsUpgradeFault : ℕ → List ℕ → LogFault → Type 0
IsUpgradeFault pages words OutOfMemory = Unit {0}
IsUpgradeFault pages words fault = IsFirstOldFault pages words fault

-- the words are those of a log that makes the changes of the old words' entries, planned anew
pub record IsUpgraded (pages : ℕ) (old new : List ℕ) : Type 0 where
  pub olds : List OldEntry
  pub log : List Entry
  pub grammar : AreInOldGrammar pages olds
  pub spelled : old ≡ old_log_words olds
  pub planned : IsPlannedAnew pages olds log
  pub words : new ≡ log_words log
