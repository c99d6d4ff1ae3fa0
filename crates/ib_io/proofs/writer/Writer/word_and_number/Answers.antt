use Rattle.ib_io.proofs.Writing.{puts_on}
use Rattle.ib_io.proofs.writer.Writer.word_and_number.Goals as goal

pub returns : goal.returns
returns g c = record { puts = puts_on c.text.ensures.puts c.number.ensures.puts }
