use Rattle.ib_io.proofs.Writing.{puts_on}
use Rattle.ib_io.proofs.bad_line.BadLinePrinted.print.Goals as goal

pub returns : goal.returns
returns g c = record { puts = puts_on (puts_on (puts_on (rw c.from.ensures at c.word_and_number.ensures.puts) c.text.ensures.puts) c.print_kind.ensures.puts) c.byte.ensures.puts }
