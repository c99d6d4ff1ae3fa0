use Rattle.ib_io.proofs.Writing.{puts_on}
use Rattle.ib_tool.proofs.print.RunTextPrinted.print.Goals as goal

pub returns : goal.returns
returns g c = record {
  puts = puts_on (puts_on (rw c.deref.ensures.value at c.print_sessions.ensures.puts) c.print_log.ensures.puts) (rw c.all_pairs.ensures at c.print_map.ensures.puts);
}
