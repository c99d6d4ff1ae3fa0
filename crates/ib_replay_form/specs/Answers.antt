-- What is owed for the bytes of a raw log, and for those of an old one.
use Rattle.std.specs.Prelude.{◌≡◌, ◌⊎◌, ℕ, List}
use Rattle.ib_io.specs.Told.{Ending, ends}
use Rattle.ib_io.specs.declared.status.Status.TheVariants.{Done, BadLog}
use Rattle.ib_logrec.specs.declared.entry.Entry.{Entry}
use Rattle.ib_logrec.specs.declared.fault.LogFault.{LogFault}
use Rattle.ib_logrec.specs.declared.fault.LogFault.TheVariants.{OutOfMemory}
use Rattle.ib_replay_form.specs.Replaying.{replay_output, bad_log_line}
use Rattle.ib_replay.specs.Files.{file_of}
use Rattle.ib_replay.specs.OldLogs.{IsBroughtOver, IsOldFault}
use Rattle.ib_replay.specs.RawLogs.{IsRawLog, IsRawFault}

-- the log that the bytes are the file of is printed, or else their first fault is told
abbrev pub AnswersLog : List ℕ → Ending → Type 0
AnswersLog input e =
    ((pages : ℕ) × (log : List Entry) × IsRawLog input pages log × (e ≡ ends Done (replay_output log)))
    ⊎ ((fault : LogFault) × IsRawFault input fault × (e ≡ ends BadLog (bad_log_line fault)))

-- the file of a log that the bytes are brought over to is written, or else their first fault is told
abbrev pub AnswersUpgrade : List ℕ → Ending → Type 0
AnswersUpgrade input e =
    ((pages : ℕ) × (words : List ℕ) × IsBroughtOver input pages words × (e ≡ ends Done (file_of pages words)))
    ⊎ ((fault : LogFault) × IsOldFault input fault × (e ≡ ends BadLog (bad_log_line fault)))

-- what is owed for a fault: it is told, and want of memory is no ending that writes
abbrev pub OwesLogFault : LogFault → Ending → Type 0
OwesLogFault OutOfMemory e = ⊥
OwesLogFault fault e = e ≡ ends BadLog (bad_log_line fault)
