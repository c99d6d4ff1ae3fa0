use Rattle.ib_io.proofs.Writing.{puts_on}
use Rattle.ib_latch_form.proofs.event_part.print_refusal.Goals as goal

pub returns-in-OutOfTurn : goal.returns-in-OutOfTurn
returns-in-OutOfTurn g c = record { puts = rw c.in-OutOfTurn.is c.text.ensures.puts }

pub returns-in-Against : goal.returns-in-Against
returns-in-Against g c = record {
  puts = rw c.in-Against.is (puts_on (puts_on (puts_on c.text-in-Against.ensures.puts c.print_level.ensures.puts) c.byte.ensures.puts) c.print_level-in-Against.ensures.puts);
}
