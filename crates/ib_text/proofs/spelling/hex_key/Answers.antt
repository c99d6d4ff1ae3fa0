-- Too many digits, or an odd number of them; bytes that are written as they are; and a key.
use Rattle.std.proofs.Common.{◌≡◌, ◌≤◌, ◌∙◌, ◌/◌, Ok, Some, false, ap, arith, inl, inr, length, set, sym, take}
use Rattle.std.proofs.lemmas.Bool.{le-leb}
use Rattle.std.proofs.lemmas.List.{length-take-le}
use Rattle.ib_text.proofs.PaddedKeys.{front-padded, padded-key, zeros-at}
use Rattle.ib_text.proofs.SpellingLaws.{hex-refused}
use Rattle.ib_text.specs.Keys.{hex_bytes, is_plain_text}
use Rattle.ib_text.proofs.spelling.hex_key.Goals as goal
use Rattle.ib_text.proofs.spelling.hex_key.Goals.{then-digits-ne0-via-then-digits-ne0, then-digits-ne0-via-else-digits-ne0+then-len-gt-MOST_KEY_BYTES}

pub returns-then-digits-ne0 : goal.returns-then-digits-ne0
returns-then-digits-ne0 c = elim c.then-digits-ne0.branch [
  | then-digits-ne0-via-then-digits-ne0 w ↦ sym (hex-refused c.args.digits.now (inl (λ e. omega (arith, w.if-digits-ne0.true))))
  | then-digits-ne0-via-else-digits-ne0+then-len-gt-MOST_KEY_BYTES w ↦ sym (hex-refused c.args.digits.now (inr (omega (arith, w.if-len-gt-MOST_KEY_BYTES.true))))
]

pub returns : goal.returns
returns c =
    let digits = c.args.digits.now in
    let len = length digits / 2 in
    let bytes = c.in-Some.bytes in
    let few : len ≤ 15 = omega arith in
    let zeros = c.in-Some.ensures.zeros in
    let count = length-take-le len bytes (omega arith) in
    let are = front-padded bytes len (omega arith) few (λ k le. zeros k le ∙ sym (zeros-at 0 16 k)) in
    let found : hex_bytes digits ≡ Some (take len bytes) = c.in-Some.ensures.some in
    let other : is_plain_text (take len bytes) ≡ false = sym c.is_plain_text.ensures ∙ c.if-is_plain_text.false in
    rw (found, le-leb (length (take len bytes)) 15 (omega (arith, count)), other) (ap Ok (c.padded_key.ensures ∙ padded-key (take len bytes) (set bytes 15 len) are))
