use Rattle.std.proofs.Common.{take}
use Rattle.std.specs.Prelude.{flat_map}
use Rattle.ib_text.specs.Output.{pair_line}
use Rattle.ib_io.specs.Writer.{Puts}
use Rattle.ib_text.proofs.chunk_text.print_pair_lines.Given as goal

abbrev pub invariant-loop-pair : goal.invariant-loop-pair
invariant-loop-pair g l = Puts g.K.Sink.written g.K.Sink.faults l.fn.writer l.writer (flat_map pair_line (take l.pair-index l.pairs))
