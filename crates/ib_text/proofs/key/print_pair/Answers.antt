use Rattle.ib_io.proofs.Writing.{puts_on}
use Rattle.ib_text.proofs.key.print_pair.Goals as goal

pub returns : goal.returns
returns g c = record { puts = puts_on (puts_on c.print_key.ensures.puts c.byte.ensures.puts) c.number.ensures.puts }
