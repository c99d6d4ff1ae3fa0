use Rattle.ib_io.proofs.Writing.{puts_on}
use Rattle.ib_text.proofs.log_part.print_log.Goals as goal

pub returns : goal.returns
returns g c = record { puts = puts_on (puts_on (rw c.count.ensures at c.word_and_number.ensures.puts) c.byte.ensures.puts) c.print_log_lines.ensures.puts }
