use Rattle.ib_io.proofs.Writing.{puts_byte, puts_none}
use Rattle.ib_io.proofs.writer.Writer.each_byte.Goals as goal

pub loop-byte-init : goal.loop-byte-init
loop-byte-init g c = puts_none _

pub loop-byte-preserved : goal.loop-byte-preserved
loop-byte-preserved g c = puts_byte c.args.bytes.now c.loop-byte.byte-index c.loop-byte-test.true c.loop-byte.invariant c.byte.ensures.puts
