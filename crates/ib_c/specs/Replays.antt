-- What the replay of a log's file comes to, and how C is told.
use Rattle.std.specs.Prelude.{◌≡◌, ◌⊎◌, ℕ, ◌*◌, ◌<◌, ◌≤◌, List, [], ◌∷◌, ◌++◌, length, drop, None}
use Rattle.std.specs.List.{flat_map}
use Rattle.ib_map.specs.Keys.{MapKey}
use Rattle.ib_map.specs.Pairs.{Pairs}
use Rattle.ib_logrec.specs.declared.entry.Entry.{Entry}
use Rattle.ib_logrec.specs.declared.fault.FullKind.{FullKind}
use Rattle.ib_logrec.specs.declared.fault.FullKind.TheVariants.{High, Space}
use Rattle.ib_logrec.specs.declared.fault.LogFault.{LogFault}
use Rattle.ib_logrec.specs.declared.fault.LogFault.TheVariants.{Short, BadHead, BadWrite, Outside, OddLength, BadFile, Unlawful, CannotPlan, OutOfMemory as NoMemory}
use Rattle.ib_logrec.specs.declared.fault.UnlawfulKind.{UnlawfulKind}
use Rattle.ib_logrec.specs.declared.fault.UnlawfulKind.TheVariants.{Number, Change, Tree}
use Rattle.ib_logrec.specs.Log.{map_of}
use Rattle.ib_replay.specs.Files.{file_fault}
use Rattle.ib_replay.specs.RawLogs.{IsRawFault, IsRawLog}
use Rattle.ib_c.specs.declared.replay.Replayed.{Replayed}
use Rattle.ib_c.specs.declared.status.Status.{Status}
use Rattle.ib_c.specs.declared.status.Status.TheVariants.{Done, BadRange, Faulty, OutOfMemory}
use Rattle.ib_c.specs.Statuses.{status_number}

-- a pair as three words: the two of its key, and its value
abbrev pub pair_words : MapKey × ℕ → List ℕ
pair_words pair = pair.0.first ∷ pair.0.second ∷ pair.1 ∷ []

-- .. and pairs one behind another
abbrev pub pairs_words : Pairs → List ℕ
pairs_words pairs = flat_map pair_words pairs

-- the pairs stand in front now, and all else is as before, or there is no room for them
abbrev pub HasPutPairs : Pairs → List ℕ → Status → List ℕ → Type 0
HasPutPairs pairs out Done into = (3 * length pairs ≤ length out) × (into ≡ pairs_words pairs ++ drop (3 * length pairs) out)
HasPutPairs pairs out BadRange into = (length out < 3 * length pairs) × (into ≡ out)
HasPutPairs pairs out other into = ⊥

-- the numbers of faults in C
abbrev pub fault_number : LogFault → ℕ
fault_number (Short place) = 1
fault_number (BadHead place word) = 2
fault_number (BadWrite place word) = 3
fault_number (Outside place word) = 4
fault_number (OddLength bytes) = 5
fault_number (BadFile at word) = 6
fault_number (Unlawful place kind) = 7
fault_number (CannotPlan place why) = 8
fault_number NoMemory = 9

-- the log word at which a faulty entry begins, or which number of the file is wrong
abbrev pub fault_place : LogFault → ℕ
fault_place (Short place) = place
fault_place (BadHead place word) = place
fault_place (BadWrite place word) = place
fault_place (Outside place word) = place
fault_place (OddLength bytes) = 0
fault_place (BadFile at word) = at
fault_place (Unlawful place kind) = place
fault_place (CannotPlan place why) = place
fault_place NoMemory = 0

abbrev pub rule_number : UnlawfulKind → ℕ
rule_number Number = 1
rule_number Change = 2
rule_number Tree = 3

abbrev pub full_number : FullKind → ℕ
full_number High = 1
full_number Space = 2

-- the word that is wrong, or how many bytes there are, or which rule is broken, or what is full
abbrev pub fault_word : LogFault → ℕ
fault_word (Short place) = 0
fault_word (BadHead place word) = word
fault_word (BadWrite place word) = word
fault_word (Outside place word) = word
fault_word (OddLength bytes) = bytes
fault_word (BadFile at word) = word
fault_word (Unlawful place kind) = rule_number kind
fault_word (CannotPlan place why) = full_number why
fault_word NoMemory = 0

-- a status alone
abbrev pub told_nothing : Status → Replayed
told_nothing s = record { status = status_number s; pages = 0; entries = 0; pairs = 0; fault = 0; place = 0; word = 0 }

-- a fault
abbrev pub told_fault : LogFault → Replayed
told_fault f = record { status = status_number Faulty; pages = 0; entries = 0; pairs = 0; fault = fault_number f; place = fault_place f; word = fault_word f }

-- .. where want of memory is none
abbrev pub told_refusal : LogFault → Replayed
told_refusal NoMemory = told_nothing OutOfMemory
told_refusal fault = told_fault fault

-- a log: its pages, and how many entries and pairs it has
abbrev pub told_counts : Status → ℕ → ℕ → ℕ → Replayed
told_counts s pages entries pairs = record { status = status_number s; pages = pages; entries = entries; pairs = pairs; fault = 0; place = 0; word = 0 }

abbrev pub told_log : Status → ℕ → List Entry → Replayed
told_log s pages log = told_counts s pages (length log) (length (map_of log))

-- a log is told, and its pairs stand in front, or there is no room for them
abbrev pub IsToldLog : ℕ → List Entry → List ℕ → Replayed → List ℕ → Type 0
IsToldLog pages log out r into = (s : Status) × (r ≡ told_log s pages log) × HasPutPairs (map_of log) out s into

-- a fault is told, and nothing was written
abbrev pub IsToldFault : LogFault → List ℕ → Replayed → List ℕ → Type 0
IsToldFault fault out r into = (r ≡ told_fault fault) × (into ≡ out)

-- a status alone is told, and nothing was written
abbrev pub IsToldNothing : Status → List ℕ → Replayed → List ℕ → Type 0
IsToldNothing s out r into = (r ≡ told_nothing s) × (into ≡ out)

-- the lawful log is told that the bytes are the file of, or their first fault, or that memory lacks, where the file itself has no fault
abbrev pub HasReplayed : List ℕ → List ℕ → Replayed → List ℕ → Type 0
HasReplayed bytes out r into =
    ((pages : ℕ) × (log : List Entry) × IsRawLog bytes pages log × IsToldLog pages log out r into)
    ⊎ (((fault : LogFault) × IsRawFault bytes fault × IsToldFault fault out r into)
    ⊎ ((file_fault bytes ≡ None) × IsToldNothing OutOfMemory out r into))
