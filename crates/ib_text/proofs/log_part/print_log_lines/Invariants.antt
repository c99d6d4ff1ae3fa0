use Rattle.std.proofs.Common.{take}
use Rattle.std.specs.Prelude.{flat_map}
use Rattle.ib_io.specs.Writer.{Puts}
use Rattle.ib_text.specs.Output.{log_line}
use Rattle.ib_text.proofs.log_part.print_log_lines.Given as goal

abbrev pub invariant-loop-place : goal.invariant-loop-place
invariant-loop-place g l = Puts g.K.Sink.written g.K.Sink.faults l.fn.writer l.writer (flat_map log_line (take l.place (g.L.ChangeLog.changes l.log)))
