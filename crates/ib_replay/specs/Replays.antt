-- What a log's words make of the opening memory and of the empty map, and their first fault.
use Rattle.std.specs.Prelude.{◌≡◌, ℕ, ◌+◌, ◌*◌, ◌<◌, ◌==◌, List, [], ◌++◌, length, Option, Some, None}
use Rattle.ib_map.specs.Pairs.{Pairs}
use Rattle.ib_map.specs.Map.{answer_of, is_made}
use Rattle.ib_map.specs.History.{map_with, changes_of}
use Rattle.ib_map.specs.declared.TheConstants.{PAGE_WORDS}
use Rattle.ib_page.specs.Memory.{word_at}
use Rattle.ib_logrec.specs.declared.entry.Entry.{Entry}
use Rattle.ib_logrec.specs.declared.fault.LogFault.{LogFault}
use Rattle.ib_logrec.specs.declared.fault.LogFault.TheVariants.{Unlawful, OutOfMemory}
use Rattle.ib_logrec.specs.declared.fault.UnlawfulKind.TheVariants.{Number, Change, Tree}
use Rattle.ib_logrec.specs.Words.{entry_in}
use Rattle.ib_logrec.specs.Grammar.{unless, ◌or◌, fault_at}
use Rattle.ib_logrec.specs.Log.{log_words, used, memory_after, history_of}
use Rattle.ib_walk.specs.Opening.{opening_word}
use Rattle.ib_tree.specs.Logs.{IsTreeEntry}
use Rattle.ib_tree.specs.TreeLog.{IsTreeLog}

-- an image for each page, whose words are those after the entries
pub record IsMemory (pages : ℕ) (log : List Entry) (memory : List (List ℕ)) : Type 0 where
  pub size : length memory ≡ pages
  pub words : (place : ℕ) → place < pages * PAGE_WORDS → word_at memory place ≡ memory_after (opening_word 1) log place

-- What is wrong with an entry that begins at a place, behind so many entries of its session and over a
-- map: first its number, then its change.
abbrev pub change_fault : ℕ → ℕ → Pairs → Entry → Option LogFault
change_fault place count map e =
    unless (e.number == count + 1) (Unlawful place Number)
    or unless (is_made (answer_of map e.change)) (Unlawful place Change)

-- .. behind a log
abbrev pub change_fault_behind : List Entry → Entry → Option LogFault
change_fault_behind log e = change_fault (used log) (length (changes_of e.session (history_of log))) (map_with [] (history_of log)) e

-- what is wrong with the words behind a log, as far as it is computed: their grammar, then number and change
abbrev pub log_fault_behind : ℕ → List Entry → List ℕ → Option LogFault
log_fault_behind pages log words = fault_at pages (used log) words or change_fault_behind log (entry_in words)

-- the fault that an entry behind a log leaves no lawful tree
pub record IsTreeFault (pages : ℕ) (log : List Entry) (e : Entry) (fault : LogFault) : Type 0 where
  pub is : fault ≡ Unlawful (used log) Tree
  pub none : IsTreeEntry pages 1 (opening_word 1) log e → ⊥

-- the fault that was computed, or where there is none that of the tree
abbrev pub IsFirstOf : ℕ → List Entry → Entry → Option LogFault → LogFault → Type 0
IsFirstOf pages log e (Some found) fault = found ≡ fault
IsFirstOf pages log e None fault = IsTreeFault pages log e fault

-- a fault of a log's words: what is wrong with those behind a lawful front
pub record IsFirstFault (pages : ℕ) (words : List ℕ) (fault : LogFault) : Type 0 where
  pub front : List Entry
  pub rest : List ℕ
  pub lawful : IsTreeLog pages front
  pub parts : words ≡ log_words front ++ rest
  pub more : 0 < length rest
  pub found : IsFirstOf pages front (entry_in rest) (log_fault_behind pages front rest) fault

-- or want of memory
abbrev pub IsReplayFault : ℕ → List ℕ → LogFault → Type 0
IsReplayFault pages words OutOfMemory = Unit {0}
IsReplayFault pages words fault = IsFirstFault pages words fault
