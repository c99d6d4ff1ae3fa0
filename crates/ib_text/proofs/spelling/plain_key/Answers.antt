-- Bytes that are written as they are, 15 at most.
use Rattle.std.proofs.Common.{◌≡◌, ◌≤◌, ◌∙◌, Ok, true, false, ap, arith, length, refl, sym}
use Rattle.std.proofs.lemmas.Bool.{le-leb}
use Rattle.ib_text.proofs.PaddedKeys.{padded-key, plain-padded}
use Rattle.ib_text.specs.Keys.{is_plain_text}
use Rattle.ib_text.proofs.spelling.plain_key.Goals as goal

pub returns-then-not-is_plain_padded : goal.returns-then-not-is_plain_padded
returns-then-not-is_plain_padded c =
    let field = c.args.field.now in
    let few : length field ≤ 15 = omega arith in
    let test = plain-padded field c.with_zeros-bytes.result (length field) c.with_zeros-bytes.ensures refl few in
    let other : is_plain_text field ≡ false = sym test ∙ sym c.is_plain_padded.ensures ∙ c.if-not-is_plain_padded.true in
    rw (le-leb (length field) 15 few, other) refl

pub returns : goal.returns
returns c =
    let field = c.args.field.now in
    let few : length field ≤ 15 = omega arith in
    let test = plain-padded field c.with_zeros-bytes.result (length field) c.with_zeros-bytes.ensures refl few in
    let plain : is_plain_text field ≡ true = sym test ∙ sym c.is_plain_padded.ensures ∙ c.if-not-is_plain_padded.false in
    rw (le-leb (length field) 15 few, plain) (ap Ok (c.padded_key.ensures ∙ padded-key field c.with_zeros-bytes.result c.with_zeros-bytes.ensures))
