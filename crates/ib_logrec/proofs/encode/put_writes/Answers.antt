use Rattle.std.proofs.Common.{arith}
use Rattle.ib_logrec.proofs.Written.{write_words-put}
use Rattle.ib_logrec.proofs.encode.put_writes.Goals as goal

pub loop-i-preserved : goal.loop-i-preserved
loop-i-preserved c = rw (c.loop-i.invariant, c.from.ensures) (write_words-put c.args.writes.now c.args.out.now c.loop-i.i (record { place = 0; value = 0 }) (omega arith) (omega arith))
