use Rattle.ib_io.proofs.Writing.{puts_on}
use Rattle.ib_latch_form.proofs.event_part.print_event_line.Goals as goal

pub returns : goal.returns
returns g c = record {
  puts =
      puts_on (puts_on (puts_on (puts_on (puts_on (puts_on (puts_on (rw c.from.ensures at c.number.ensures.puts) c.byte.ensures.puts) c.print_step.ensures.puts) c.text.ensures.puts) c.print_answer.ensures.puts) c.text-2.ensures.puts) c.print_lock_word.ensures.puts) c.byte-2.ensures.puts;
}
