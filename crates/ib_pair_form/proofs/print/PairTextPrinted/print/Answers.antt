use Rattle.ib_io.proofs.Writing.{puts_on}
use Rattle.ib_pair_form.proofs.print.PairTextPrinted.print.Goals as goal

pub returns : goal.returns
returns g c = record {
  puts =
      puts_on (puts_on (puts_on (rw c.deref.ensures.value at c.print_sessions.ensures.puts) c.print_log.ensures.puts) (rw c.all_pairs.ensures at c.print_map.ensures.puts)) (rw c.all_pairs-2.ensures at c.print_second.ensures.puts);
}
