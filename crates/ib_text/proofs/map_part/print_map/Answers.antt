use Rattle.ib_io.proofs.Writing.{puts_on}
use Rattle.ib_text.proofs.map_part.print_map.Goals as goal

pub returns : goal.returns
returns g c = record { puts = puts_on (puts_on c.word_and_number.ensures.puts c.byte.ensures.puts) c.print_map_lines.ensures.puts }
