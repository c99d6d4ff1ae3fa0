use Rattle.ib_io.proofs.Writing.{puts_none, puts_on}
use Rattle.ib_text.proofs.NextItem.{puts_item}
use Rattle.ib_pair_form.specs.PairOutput.{second_line}
use Rattle.ib_pair_form.proofs.value_part.print_second_lines.Goals as goal

pub loop-pair-init : goal.loop-pair-init
loop-pair-init g c = puts_none _

pub loop-pair-preserved : goal.loop-pair-preserved
loop-pair-preserved g c = puts_item second_line c.args.pairs.now c.loop-pair.pair-index c.pair-item.result c.loop-pair-test.true c.pair-item.is c.loop-pair.invariant (puts_on c.print_key.ensures.puts c.byte.ensures.puts)
