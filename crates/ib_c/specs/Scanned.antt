-- What a scan came to, in C's words.
use Rattle.std.specs.Prelude.{length, Result, Ok, Err, pos}
use Rattle.ib_map.specs.Chunks.{HeldChunks}
use Rattle.ib_map.specs.Keys.{MapKey}
use Rattle.ib_map.specs.declared.call.Record.{Record}
use Rattle.ib_cursor.specs.declared.fault.NowaitFault.{NowaitFault}
use Rattle.ib_cursor.specs.declared.fault.NowaitFault.TheVariants.{Busy, Raced}
use Rattle.ib_scan_nowait.specs.declared.halt.Halt.{Halt}
use Rattle.ib_scan_nowait.specs.declared.halt.Halt.TheVariants.{NoRoom, Refused}
use Rattle.ib_c.specs.declared.scanned.Scanned.{Scanned}
use Rattle.ib_c.specs.declared.status.Status.{Status}
use Rattle.ib_c.specs.declared.status.Status.TheVariants.{Done, Busy as WasBusy, Raced as WasRaced, NoRoom as HadNoRoom}
use Rattle.ib_c.specs.Statuses.{status_number}

-- a status alone
abbrev pub scanned_only : Status → Scanned
scanned_only s = record { status = status_number s; chunks = 0; pairs = 0; place = 0; next_first = 0; next_second = 0; latch = 0; expected = pos 0; found = pos 0 }

-- .. with how many chunks and pairs there are
abbrev pub told_some : Status → HeldChunks → Scanned
told_some s held = record (scanned_only s) { chunks = length held.list; pairs = length held.pairs }

-- .. and the words of the key at which the next chunk begins
abbrev pub told_next : Status → MapKey → HeldChunks → Scanned
told_next s next held = record (told_some s held) { next_first = next.first; next_second = next.second }

-- .. and the latch that was not had, with the words of the looks
abbrev pub told_refused : MapKey → NowaitFault → HeldChunks → Scanned
told_refused next (Busy latch w) held = record (told_next WasBusy next held) { latch = latch.0; found = w.0 }
told_refused next (Raced latch w found) held = record (told_next WasRaced next held) { latch = latch.0; expected = w.0; found = found.0 }

-- why a scan ended before all was scanned
abbrev pub told_halt : Halt → HeldChunks → Scanned
told_halt (NoRoom next) held = told_next HadNoRoom next held
told_halt (Refused next fault) held = told_refused next fault held

-- what the scan came to, and the chunks that it left: the place of its record where all was scanned
abbrev pub told_scan : Result Record Halt → HeldChunks → Scanned
told_scan (Ok r) held = record (told_some Done held) { place = r.place }
told_scan (Err halt) held = told_halt halt held
