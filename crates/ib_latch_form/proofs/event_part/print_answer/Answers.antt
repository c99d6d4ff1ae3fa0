use Rattle.ib_io.proofs.Writing.{puts_on}
use Rattle.ib_latch_form.proofs.event_part.print_answer.Goals as goal

pub returns-in-Refused : goal.returns-in-Refused
returns-in-Refused g c = record { puts = rw c.in-Refused.is (puts_on c.text-in-Refused.ensures.puts c.print_refusal.ensures.puts) }
