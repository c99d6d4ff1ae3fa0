use Rattle.ib_text.specs.Output.{pair_line}
use Rattle.ib_io.proofs.Writing.{puts_none}
use Rattle.ib_text.proofs.NextItem.{puts_item}
use Rattle.ib_text.proofs.chunk_text.print_pair_lines.Goals as goal

pub loop-pair-init : goal.loop-pair-init
loop-pair-init g c = puts_none _

pub loop-pair-preserved : goal.loop-pair-preserved
loop-pair-preserved g c = puts_item pair_line c.args.pairs.now c.loop-pair.pair-index c.pair-item.result c.loop-pair-test.true c.pair-item.is c.loop-pair.invariant c.print_pair_line.ensures.puts
