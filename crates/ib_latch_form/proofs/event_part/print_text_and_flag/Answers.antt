use Rattle.ib_io.proofs.Writing.{puts_on}
use Rattle.ib_latch_form.proofs.event_part.print_text_and_flag.Goals as goal
use Rattle.ib_latch_form.proofs.event_part.print_text_and_flag.Goals.{then-is_set, else-is_set}

pub returns : goal.returns
returns g c = elim c.if-is_set.branch [
  | then-is_set w ↦ record { puts = rw w.if-is_set.true (puts_on c.text.ensures.puts (rw w.byte-is at c.byte.ensures.puts)) }
  | else-is_set w ↦ record { puts = rw w.if-is_set.false (puts_on c.text.ensures.puts (rw w.byte-is at c.byte.ensures.puts)) }
]
