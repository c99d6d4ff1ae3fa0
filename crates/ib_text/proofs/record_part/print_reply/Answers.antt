use Rattle.ib_io.proofs.Writing.{puts_on}
use Rattle.ib_text.proofs.record_part.print_reply.Goals as goal

pub returns-in-LogFull : goal.returns-in-LogFull
returns-in-LogFull g c = record { puts = rw c.in-LogFull.is (rw (c.from.ensures, c.from-in-LogFull.ensures) at c.two_numbers.ensures.puts) }

pub returns-in-Scanned : goal.returns-in-Scanned
returns-in-Scanned g c = record { puts = rw c.in-Scanned.is (puts_on (rw c.from-in-Scanned.ensures at c.number-in-Scanned.ensures.puts) c.text-in-Scanned.ensures.puts) }
