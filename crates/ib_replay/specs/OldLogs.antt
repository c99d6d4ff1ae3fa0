-- Files of version 1: what they bring over, and their first fault.
use Rattle.std.specs.Prelude.{◌≡◌, ◌⊎◌, ℕ, List, Some, true, Option}
use Rattle.ib_map.specs.Space.{has_pages}
use Rattle.ib_logrec.specs.declared.fault.LogFault.{LogFault}
use Rattle.ib_upgrade.specs.Upgrades.{IsUpgraded, IsFirstOldFault}
use Rattle.ib_replay.specs.declared.file.TheConstants.{OLD_FILE_FORM}
use Rattle.ib_replay.specs.Files.{AreWords, file_with, file_fault_with}

-- the file of an old log of so many pages and these words, and the first fault of such a file
abbrev pub old_file_of : ℕ → List ℕ → List ℕ
old_file_of pages words = file_with OLD_FILE_FORM pages words

abbrev pub old_file_fault : List ℕ → Option LogFault
old_file_fault bytes = file_fault_with OLD_FILE_FORM bytes

-- the bytes are the file of an old log of so many pages, and the new words those of a log that makes its changes, planned anew
pub record IsBroughtOver (bytes : List ℕ) (pages : ℕ) (new : List ℕ) : Type 0 where
  pub words : List ℕ
  pub space : has_pages pages ≡ true
  pub fits : AreWords words
  pub file : bytes ≡ old_file_of pages words
  pub upgraded : IsUpgraded pages words new
  pub new_fits : AreWords new

-- the bytes are the file of old words of which this is the first fault
pub record IsOldWordFault (bytes : List ℕ) (fault : LogFault) : Type 0 where
  pub pages : ℕ
  pub words : List ℕ
  pub space : has_pages pages ≡ true
  pub fits : AreWords words
  pub file : bytes ≡ old_file_of pages words
  pub first : IsFirstOldFault pages words fault

-- the first fault of bytes as an old log: that of the file, or else that of its words
abbrev pub IsOldFault : List ℕ → LogFault → Type 0
IsOldFault bytes fault = (old_file_fault bytes ≡ Some fault) ⊎ IsOldWordFault bytes fault
