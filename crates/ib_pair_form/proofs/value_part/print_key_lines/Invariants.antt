use Rattle.std.proofs.Common.{take}
use Rattle.std.specs.Prelude.{flat_map}
use Rattle.ib_io.specs.Writer.{Puts}
use Rattle.ib_pair_form.specs.PairOutput.{key_line}
use Rattle.ib_pair_form.proofs.value_part.print_key_lines.Given as goal

abbrev pub invariant-loop-pair : goal.invariant-loop-pair
invariant-loop-pair g l = Puts g.K.Sink.written g.K.Sink.faults l.fn.writer l.writer (flat_map (λ pair. key_line pair.0) (take l.pair-index l.pairs))
