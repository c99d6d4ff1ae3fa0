use Rattle.std.proofs.Common.{◌-◌, ◌≡◌, ◌+◌, ◌≤◌, vec_len}
use Rattle.std.specs.Io.KnownBytes.{Consumes}
use Rattle.ib_io.specs.declared.read.TheConstants.{PIECE_BYTES}
use Rattle.ib_io.proofs.read.read_all.Given as goal

abbrev pub invariant-loop-source : goal.invariant-loop-source
invariant-loop-source g l = record {
  all : Consumes (g.S.Source.left l.fn.source) (g.S.Source.left l.source) l.bytes.items;
  within : vec_len l.bytes ≤ l.limit + PIECE_BYTES;
  calm : g.S.Source.faults l.source ≡ g.S.Source.faults l.fn.source;
  piece : vec_len l.piece ≡ PIECE_BYTES;
}

abbrev pub decreases-loop-source : goal.decreases-loop-source
decreases-loop-source g l = l.limit + 1 - vec_len l.bytes
