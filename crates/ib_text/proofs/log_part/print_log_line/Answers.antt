use Rattle.ib_io.proofs.Writing.{puts_on}
use Rattle.ib_text.proofs.log_part.print_log_line.Goals as goal

pub returns : goal.returns
returns g c = record {
  puts =
      puts_on (puts_on (puts_on (puts_on (puts_on (rw c.from.ensures at c.number.ensures.puts) c.byte.ensures.puts) (rw c.from-2.ensures at c.number-2.ensures.puts)) c.byte-2.ensures.puts) c.print_change.ensures.puts) c.byte-3.ensures.puts;
}
