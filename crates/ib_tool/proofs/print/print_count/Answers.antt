use Rattle.ib_io.proofs.Writing.{puts_on}
use Rattle.ib_tool.proofs.print.print_count.Goals as goal

pub returns : goal.returns
returns g c = record { puts = puts_on c.word_and_number.ensures.puts c.byte.ensures.puts }
