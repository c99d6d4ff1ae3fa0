-- A log as a file: numbers of 64 bits, the highest byte first.
use Rattle.std.specs.Prelude.{ℕ, ◌*◌, ◌%◌, ◌^◌, ◌<◌, ◌==◌, List, All, ◌∷◌, length, drop, nat_le, Option}
use Rattle.std.specs.List.{flat_map}
use Rattle.byteorder.specs.Endian.{big_bytes, big_number}
use Rattle.ib_map.specs.Space.{has_pages}
use Rattle.ib_logrec.specs.declared.fault.LogFault.{LogFault}
use Rattle.ib_logrec.specs.declared.fault.LogFault.TheVariants.{OddLength, Short, BadFile}
use Rattle.ib_logrec.specs.Grammar.{unless, ◌or◌}
use Rattle.ib_replay.specs.declared.file.TheConstants.{FILE_FORM}

-- how many pages a log's space has, and the log's words
pub record LogFile : Type 0 where
  pub pages : ℕ
  pub words : List ℕ

-- each has 64 bits at most
abbrev pub AreWords : List ℕ → Type 0
AreWords words = All (λ word. word < 2 ^ 64) words

abbrev pub word_bytes : List ℕ → List ℕ
word_bytes words = flat_map (big_bytes 8) words

-- a file's form, the pages, and the words of the entries
unfoldable pub file_with : ℕ → ℕ → List ℕ → List ℕ
file_with form pages words = word_bytes (form ∷ pages ∷ words)

-- a file of the form that is written today
abbrev pub file_of : ℕ → List ℕ → List ℕ
file_of pages words = file_with FILE_FORM pages words

-- number i of a file
abbrev pub file_number : List ℕ → ℕ → ℕ
file_number bytes i = big_number 8 (drop (8 * i) bytes)

-- the first fault of a file of a form
unfoldable pub file_fault_with : ℕ → List ℕ → Option LogFault
file_fault_with form bytes =
    unless (length bytes % 8 == 0) (OddLength (length bytes))
    or unless (nat_le 16 (length bytes)) (Short 0)
    or unless (file_number bytes 0 == form) (BadFile 0 (file_number bytes 0))
    or unless (has_pages (file_number bytes 1)) (BadFile 1 (file_number bytes 1))

abbrev pub file_fault : List ℕ → Option LogFault
file_fault bytes = file_fault_with FILE_FORM bytes
