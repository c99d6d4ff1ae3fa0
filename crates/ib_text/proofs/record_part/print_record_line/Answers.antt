use Rattle.ib_io.proofs.Writing.{puts_on}
use Rattle.ib_text.proofs.record_part.print_record_line.Goals as goal

pub returns : goal.returns
returns g c = record { puts = puts_on (puts_on (puts_on (puts_on c.print_call.ensures.puts c.text.ensures.puts) c.print_reply.ensures.puts) c.print_place.ensures.puts) c.byte.ensures.puts }
