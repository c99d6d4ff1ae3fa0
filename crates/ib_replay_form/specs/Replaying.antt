-- What is printed of a raw log: its log and its map, or its first fault.
use Rattle.std.specs.Prelude.{ℕ, List, ◌++◌, codes, decimal}
use Rattle.ib_logrec.specs.declared.entry.Entry.{Entry}
use Rattle.ib_logrec.specs.declared.fault.LogFault.{LogFault}
use Rattle.ib_logrec.specs.declared.fault.LogFault.TheVariants.{Short, BadHead, BadWrite, Outside, OddLength, BadFile, Unlawful, CannotPlan, OutOfMemory}
use Rattle.ib_logrec.specs.declared.fault.FullKind.{FullKind}
use Rattle.ib_logrec.specs.declared.fault.FullKind.TheVariants.{High, Space}
use Rattle.ib_logrec.specs.declared.fault.UnlawfulKind.{UnlawfulKind}
use Rattle.ib_logrec.specs.declared.fault.UnlawfulKind.TheVariants.{Number, Change, Tree}
use Rattle.ib_logrec.specs.Log.{history_of, map_of}
use Rattle.ib_text.specs.Output.{log_text, map_text}

-- the log, and the map after all of it
abbrev pub replay_output : List Entry → List ℕ
replay_output log = log_text (history_of log) ++ map_text (map_of log)

abbrev pub unlawful_text : UnlawfulKind → List ℕ
unlawful_text Number = codes " number"
unlawful_text Change = codes " change"
unlawful_text Tree = codes " tree"

abbrev pub full_text : FullKind → List ℕ
full_text High = codes " high"
full_text Space = codes " space"

-- a place, and the word that is wrong there
abbrev pub word_text : ℕ → ℕ → List ℕ
word_text place word = decimal place ++ codes " word " ++ decimal word

-- want of memory is no fault of the bytes
abbrev pub log_fault_text : LogFault → List ℕ
log_fault_text (OddLength bytes) = codes "odd length " ++ decimal bytes
log_fault_text (Short place) = codes "short at " ++ decimal place
log_fault_text (BadHead place word) = codes "head at " ++ word_text place word
log_fault_text (BadWrite place word) = codes "write at " ++ word_text place word
log_fault_text (Outside place word) = codes "outside at " ++ word_text place word
log_fault_text (BadFile at word) = codes "file at " ++ word_text at word
log_fault_text (Unlawful place kind) = codes "unlawful at " ++ decimal place ++ unlawful_text kind
log_fault_text (CannotPlan place why) = codes "cannot plan at " ++ decimal place ++ full_text why
log_fault_text OutOfMemory = codes "out of memory"

-- the line that tells a fault
abbrev pub bad_log_line : LogFault → List ℕ
bad_log_line fault = codes "bad log: " ++ log_fault_text fault ++ codes "\n"
