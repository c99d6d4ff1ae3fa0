use Rattle.ib_io.proofs.Writing.{puts_on}
use Rattle.ib_text.proofs.chunk_text.print_pair_line.Goals as goal

pub returns : goal.returns
returns g c = record { puts = puts_on c.print_word_and_pair.ensures.puts c.byte.ensures.puts }
