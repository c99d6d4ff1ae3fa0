use Rattle.ib_io.proofs.Writing.{puts_on}
use Rattle.ib_pair_form.proofs.value_part.print_second.Goals as goal

pub returns : goal.returns
returns g c = record { puts = puts_on (puts_on c.word_and_number.ensures.puts c.byte.ensures.puts) c.print_second_lines.ensures.puts }
