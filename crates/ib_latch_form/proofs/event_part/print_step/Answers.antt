use Rattle.ib_io.proofs.Writing.{puts_on}
use Rattle.ib_latch_form.proofs.event_part.print_step.Goals as goal

pub returns-in-Arm : goal.returns-in-Arm
returns-in-Arm g c = record {
  puts =
      rw c.in-Arm.is (puts_on (puts_on (puts_on (puts_on c.print_on_latch-in-Arm.ensures.puts c.byte.ensures.puts) c.print_mode.ensures.puts) c.byte-in-Arm.ensures.puts) c.print_level.ensures.puts);
}
