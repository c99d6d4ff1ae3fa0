use Rattle.ib_io.proofs.Writing.{puts_on}
use Rattle.ib_pair_form.proofs.value_part.print_key_line.Goals as goal

pub returns : goal.returns
returns g c = record { puts = puts_on (puts_on c.text.ensures.puts (rw c.found_key.ensures at c.print_key.ensures.puts)) c.byte.ensures.puts }
