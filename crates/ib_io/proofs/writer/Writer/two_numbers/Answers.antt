use Rattle.ib_io.proofs.Writing.{puts_on}
use Rattle.ib_io.proofs.writer.Writer.two_numbers.Goals as goal

pub returns : goal.returns
returns g c = record { puts = puts_on (puts_on (puts_on c.text.ensures.puts c.number.ensures.puts) c.text-2.ensures.puts) c.number-2.ensures.puts }
