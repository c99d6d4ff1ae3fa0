use Rattle.std.proofs.Common.{take}
use Rattle.ib_io.specs.Writer.{Puts}
use Rattle.ib_io.proofs.writer.Writer.each_byte.Given as goal

abbrev pub invariant-loop-byte : goal.invariant-loop-byte
invariant-loop-byte g l = Puts g.K.Sink.written g.K.Sink.faults l.fn.self l.self (take l.byte-index l.bytes)
