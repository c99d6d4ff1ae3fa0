use Rattle.std.proofs.Common.{ℕ}
use Rattle.ib_map.specs.Keys.{MapKey}
use Rattle.ib_io.proofs.Writing.{puts_none}
use Rattle.ib_text.proofs.NextItem.{puts_item}
use Rattle.ib_pair_form.specs.PairOutput.{key_line}
use Rattle.ib_pair_form.proofs.value_part.print_key_lines.Goals as goal

pub loop-pair-init : goal.loop-pair-init
loop-pair-init g c = puts_none _

pub loop-pair-preserved : goal.loop-pair-preserved
loop-pair-preserved g c = puts_item (λ (pair : MapKey × ℕ). key_line pair.0) c.args.pairs.now c.loop-pair.pair-index c.pair-item.result c.loop-pair-test.true c.pair-item.is c.loop-pair.invariant c.print_key_line.ensures.puts
