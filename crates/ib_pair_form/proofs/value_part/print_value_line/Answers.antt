use Rattle.ib_io.proofs.Writing.{puts_on}
use Rattle.ib_pair_form.proofs.value_part.print_value_line.Goals as goal

pub returns : goal.returns
returns g c = record { puts = puts_on (rw (c.value_of.ensures, c.from.ensures) at c.two_numbers.ensures.puts) c.text.ensures.puts }
