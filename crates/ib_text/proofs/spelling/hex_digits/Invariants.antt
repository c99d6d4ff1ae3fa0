use Rattle.std.proofs.Common.{◌≡◌, ◌*◌, length, take}
use Rattle.std.specs.Prelude.{flat_map}
use Rattle.ib_text.specs.Keys.{hex_byte}
use Rattle.ib_text.proofs.spelling.hex_digits.Given as goal

abbrev pub invariant-loop-i : goal.invariant-loop-i
invariant-loop-i l = record {
  made : take (2 * l.i) l.digits ≡ flat_map hex_byte (take l.i l.bytes);
  whole : length l.digits ≡ 32;
}
