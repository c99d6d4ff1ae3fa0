use Rattle.ib_io.proofs.Writing.{puts_on}
use Rattle.ib_latch_form.proofs.event_part.print_at_level.Goals as goal

pub returns : goal.returns
returns g c = record { puts = puts_on (puts_on c.print_on_latch.ensures.puts c.byte.ensures.puts) c.print_level.ensures.puts }
