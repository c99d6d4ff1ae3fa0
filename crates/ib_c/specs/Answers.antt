-- What a call on the tree came to, in C's words.
use Rattle.std.specs.Prelude.{ℕ, ℤ, Result, Ok, Err, pos}
use Rattle.ib_map.specs.declared.call.Record.{Record}
use Rattle.ib_map.specs.declared.call.Reply.{Reply}
use Rattle.ib_map.specs.declared.call.Reply.TheVariants.{Found, NotFound, Inserted, Duplicate, Deleted, Missing, TooHigh, SpaceFull, LogFull, Scanned}
use Rattle.ib_levels.specs.declared.latch.Latch.{Latch}
use Rattle.ib_cursor.specs.declared.fault.NowaitFault.{NowaitFault}
use Rattle.ib_cursor.specs.declared.fault.NowaitFault.TheVariants.{Busy, Raced}
use Rattle.ib_c.specs.declared.answers.Answered.{Answered}
use Rattle.ib_c.specs.declared.status.Status.{Status}
use Rattle.ib_c.specs.declared.status.Status.TheVariants.{Done, Busy as WasBusy, Raced as WasRaced}
use Rattle.ib_c.specs.Statuses.{status_number}

-- the numbers of replies in C: 0 is none, and the last is told by scans alone
abbrev pub reply_number : Reply → ℕ
reply_number (Found v) = 1
reply_number NotFound = 2
reply_number Inserted = 3
reply_number Duplicate = 4
reply_number (Deleted v) = 5
reply_number Missing = 6
reply_number TooHigh = 7
reply_number (SpaceFull free need) = 8
reply_number (LogFull used cap) = 9
reply_number (Scanned chunks pairs) = 10

-- a status with no answer
abbrev pub answered_only : Status → Answered
answered_only s = record { status = status_number s; reply = 0; value = 0; place = 0; latch = 0; expected = pos 0; found = pos 0; used = 0; cap = 0; free = 0; need = 0 }

-- a reply of this number at a place of the log
abbrev pub replied : ℕ → ℕ → Answered
replied number place = record (answered_only Done) { reply = number; place = place }

-- .. with the value that was found or taken out, or with the numbers of what is full
abbrev pub told_reply : Reply → ℕ → Answered
told_reply (Found v) place = record (replied (reply_number (Found v)) place) { value = v }
told_reply (Deleted v) place = record (replied (reply_number (Deleted v)) place) { value = v }
told_reply (LogFull used cap) place = record (replied (reply_number (LogFull used cap)) place) { used = used; cap = cap }
told_reply (SpaceFull free need) place = record (replied (reply_number (SpaceFull free need)) place) { free = free; need = need }
told_reply other place = replied (reply_number other) place

-- a latch that was not had, and the words of the looks
abbrev pub refused_latch : Status → Latch → ℤ → ℤ → Answered
refused_latch s latch expected found = record (answered_only s) { latch = latch.0; expected = expected; found = found }

abbrev pub told_fault : NowaitFault → Answered
told_fault (Busy latch w) = refused_latch WasBusy latch (pos 0) w.0
told_fault (Raced latch w found) = refused_latch WasRaced latch w.0 found.0

-- what the index's call came to
abbrev pub told_call : Result Record NowaitFault → Answered
told_call (Ok r) = told_reply r.reply r.place
told_call (Err fault) = told_fault fault

-- .. or why none was made
abbrev pub told_answer : Result (Result Record NowaitFault) Status → Answered
told_answer (Ok answer) = told_call answer
told_answer (Err s) = answered_only s
