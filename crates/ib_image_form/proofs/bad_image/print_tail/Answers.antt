use Rattle.ib_io.proofs.Writing.{puts_on}
use Rattle.ib_image_form.proofs.bad_image.print_tail.Goals as goal

pub returns : goal.returns
returns g c = record { puts = puts_on c.text.ensures.puts c.print_fault.ensures.puts }
