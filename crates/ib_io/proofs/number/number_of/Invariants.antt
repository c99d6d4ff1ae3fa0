use Rattle.std.proofs.Common.{◌≡◌, ◌<◌, ◌^◌, take, true}
use Rattle.std.specs.List.{list_all}
use Rattle.ib_io.specs.Numbers.{is_digit, value_of}
use Rattle.ib_io.proofs.number.number_of.Given as goal

abbrev pub invariant-loop-byte : goal.invariant-loop-byte
invariant-loop-byte l = record {
  digits : list_all is_digit (take l.byte-index l.field) ≡ true;
  value : l.number ≡ value_of (take l.byte-index l.field);
  fits : l.number < 2 ^ 64;
}
