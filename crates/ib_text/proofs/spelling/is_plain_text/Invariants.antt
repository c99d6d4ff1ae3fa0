use Rattle.std.proofs.Common.{◌≡◌, take, true}
use Rattle.std.specs.List.{list_all}
use Rattle.ib_text.specs.Keys.{is_plain}
use Rattle.ib_text.proofs.spelling.is_plain_text.Given as goal

abbrev pub invariant-loop-byte : goal.invariant-loop-byte
invariant-loop-byte l = list_all is_plain (take l.byte-index l.bytes) ≡ true
