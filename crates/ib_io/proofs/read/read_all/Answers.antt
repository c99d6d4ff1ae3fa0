use Rattle.std.proofs.Common.{◌≤◌, ◌++◌, length, length-append, take, arith, rules}
use Rattle.std.proofs.KnownBytes.{Consumes-trans}
use Rattle.ib_io.specs.declared.read.TheConstants.{PIECE_BYTES}
use Rattle.ib_io.proofs.read.read_all.Goals as goal

pub returns-then-is_err-clause-within : goal.returns-then-is_err-clause-within
returns-then-is_err-clause-within g c =
    let short : length (take c.in-Ok-read.count c.read.new.buf) ≤ PIECE_BYTES = search rules in (
      c.loop-source.bytes.items ++ take c.in-Ok-read.count c.read.new.buf,
      Consumes-trans _ _ _ c.loop-source.bytes.items (take c.in-Ok-read.count c.read.new.buf) c.loop-source.invariant.all c.in-Ok-read.ensures.bytes.0,
      omega (arith, short, c.loop-source-test.true, length-append c.loop-source.bytes.items (take c.in-Ok-read.count c.read.new.buf)),
    )
