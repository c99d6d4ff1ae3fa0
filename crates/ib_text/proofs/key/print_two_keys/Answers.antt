use Rattle.ib_io.proofs.Writing.{puts_on}
use Rattle.ib_text.proofs.key.print_two_keys.Goals as goal

pub returns : goal.returns
returns g c = record { puts = puts_on (puts_on c.print_word_and_key.ensures.puts c.text.ensures.puts) c.print_key.ensures.puts }
