use Rattle.ib_io.proofs.Writing.{puts_on}
use Rattle.ib_replay_form.proofs.replaying.ShownPrinted.print.Goals as goal

pub returns : goal.returns
returns g c = record { puts = puts_on c.print_log.ensures.puts (rw (c.all_pairs.ensures, c.args.self.map_is) at c.print_map.ensures.puts) }
