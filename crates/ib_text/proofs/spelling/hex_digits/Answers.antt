-- All bytes have their digits.
use Rattle.std.proofs.Common.{◌∙◌, ◌*◌, ap, arith, sym}
use Rattle.std.proofs.lemmas.List.{take_all}
use Rattle.std.specs.Prelude.{flat_map}
use Rattle.ib_text.specs.Keys.{hex_byte}
use Rattle.ib_text.proofs.spelling.hex_digits.Goals as goal

pub returns : goal.returns
returns c =
    sym (take_all (2 * c.loop-i.i) c.loop-i.digits (omega arith)) ∙ c.loop-i.invariant.made ∙ ap (flat_map hex_byte) (take_all c.loop-i.i c.args.bytes.now (omega arith))
