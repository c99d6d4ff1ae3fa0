-- The numbers of statuses, as the header has them: below 16 what a call came to, from 16 on why it did nothing.
use Rattle.std.specs.Prelude.{ℕ}
use Rattle.ib_c.specs.declared.status.Status.{Status}
use Rattle.ib_c.specs.declared.status.Status.TheVariants.{Done, Busy, Raced, Next, NotReady, Asleep, NoHandle, InUse, BadLatch, BadLevel, BadMode, NotAllowed, TooManyGrants, NotHeld, WrongPhase, BadPages, BadLog, BadSessions, NoSessionLeft, Connected, WrongState, OutOfMemory, BadKey, BadRange, Faulty, InCall, NotConnected, NoRoom}

abbrev pub status_number : Status → ℕ
status_number Done = 0
status_number Busy = 1
status_number Raced = 2
status_number Next = 3
status_number NotReady = 4
status_number Asleep = 5
status_number NoRoom = 6
status_number NoHandle = 16
status_number InUse = 17
status_number BadLatch = 18
status_number BadLevel = 19
status_number BadMode = 20
status_number NotAllowed = 21
status_number TooManyGrants = 22
status_number NotHeld = 23
status_number WrongPhase = 24
status_number BadPages = 25
status_number BadLog = 26
status_number BadSessions = 27
status_number NoSessionLeft = 28
status_number Connected = 29
status_number WrongState = 30
status_number OutOfMemory = 31
status_number BadKey = 32
status_number BadRange = 33
status_number Faulty = 34
status_number InCall = 35
status_number NotConnected = 36
