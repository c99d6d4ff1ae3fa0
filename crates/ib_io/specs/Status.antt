-- The statuses as numbers.
use Rattle.std.specs.Prelude.{ℕ}
use Rattle.ib_io.specs.declared.status.Status.{Status}
use Rattle.ib_io.specs.declared.status.Status.TheVariants.{Done, Usage, Script, ReadFault, WriteFault, Memory, TooLarge, BadLog}

-- the exit status of the process
abbrev pub status_number : Status → ℕ
status_number Done = 0
status_number Usage = 1
status_number Script = 2
status_number ReadFault = 3
status_number WriteFault = 4
status_number Memory = 5
status_number TooLarge = 6
status_number BadLog = 7
