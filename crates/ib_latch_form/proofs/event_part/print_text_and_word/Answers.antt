use Rattle.ib_io.proofs.Writing.{puts_on}
use Rattle.ib_latch_form.proofs.event_part.print_text_and_word.Goals as goal

pub returns : goal.returns
returns g c = record { puts = puts_on c.text.ensures.puts c.print_lock_word.ensures.puts }
