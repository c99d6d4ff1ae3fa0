-- Raw logs: bytes that are the file of a lawful log, and what is wrong with bytes that are not.
use Rattle.std.specs.Prelude.{◌≡◌, ◌⊎◌, ℕ, List, Some, true}
use Rattle.ib_map.specs.Space.{has_pages}
use Rattle.ib_logrec.specs.declared.entry.Entry.{Entry}
use Rattle.ib_logrec.specs.declared.fault.LogFault.{LogFault}
use Rattle.ib_logrec.specs.Log.{log_words}
use Rattle.ib_replay.specs.Files.{AreWords, file_of, file_fault}
use Rattle.ib_replay.specs.Replays.{IsMemory, IsFirstFault}
use Rattle.ib_tree.specs.TreeLog.{IsTreeLog}

-- the bytes are the file of these entries, which are lawful, in a space of so many pages
pub record IsRawLog (bytes : List ℕ) (pages : ℕ) (log : List Entry) : Type 0 where
  pub space : has_pages pages ≡ true
  pub lawful : IsTreeLog pages log
  pub fits : AreWords (log_words log)
  pub file : bytes ≡ file_of pages (log_words log)

-- the bytes are the file of these entries, and the memory is the one after them
abbrev pub IsReplayed : List ℕ → List Entry → List (List ℕ) → Type 0
IsReplayed bytes log memory = (pages : ℕ) × IsRawLog bytes pages log × IsMemory pages log memory

-- the bytes are the file of words of which this is the first fault
pub record IsWordFault (bytes : List ℕ) (fault : LogFault) : Type 0 where
  pub pages : ℕ
  pub words : List ℕ
  pub space : has_pages pages ≡ true
  pub fits : AreWords words
  pub file : bytes ≡ file_of pages words
  pub first : IsFirstFault pages words fault

-- the first fault of bytes: that of the file, or else that of its words
abbrev pub IsRawFault : List ℕ → LogFault → Type 0
IsRawFault bytes fault = (file_fault bytes ≡ Some fault) ⊎ IsWordFault bytes fault
