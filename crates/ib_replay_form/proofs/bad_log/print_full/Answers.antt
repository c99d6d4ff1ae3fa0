use Rattle.ib_io.proofs.Writing.{puts_on}
use Rattle.ib_replay_form.proofs.bad_log.print_full.Goals as goal

pub returns : goal.returns
returns g c = record { puts = puts_on (rw c.from.ensures at c.word_and_number.ensures.puts) (rw c.full_word.ensures at c.text.ensures.puts) }
