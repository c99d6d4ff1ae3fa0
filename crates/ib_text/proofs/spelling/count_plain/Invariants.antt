use Rattle.std.proofs.Common.{◌≡◌, take}
use Rattle.std.specs.Prelude.{count_by}
use Rattle.ib_text.specs.Keys.{is_plain}
use Rattle.ib_text.proofs.spelling.count_plain.Given as goal

abbrev pub invariant-loop-byte : goal.invariant-loop-byte
invariant-loop-byte l = l.count ≡ count_by is_plain (take l.byte-index l.bytes)
