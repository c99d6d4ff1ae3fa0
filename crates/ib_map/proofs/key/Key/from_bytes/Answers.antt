-- The bytes stand in front of the words.
use Rattle.std.proofs.Common.{ℕ, ◌≡◌, ◌<◌, ◌≤◌, ◌∙◌, ap, sym, get_or, length, arith}
use Rattle.std.specs.Int.{w64, from_be_bytes}
use Rattle.ib_map.specs.KeyBytes.{first_bytes, key_of_bytes, second_bytes}
use Rattle.ib_map.proofs.ByteLaws.{key_of_bytes-bytes, words-of_bytes}
use Rattle.ib_map.proofs.key.Key.from_bytes.Goals as goal

pub invariant_of-result : goal.invariant_of-result
invariant_of-result c =
    let bs = c.args.bytes.now in
    let le : length bs ≤ 15 = let short = c.if-len-gt-MOST_KEY_BYTES.false in omega arith in
    let small : (i : ℕ) → get_or bs i 0 < 256 = λ i. (c.type_inv.bytes i).fits in
    let first : c.from_be_bytes-first.result ≡ from_be_bytes w64 (first_bytes bs) = omega (arith, c.from_be_bytes-first.ensures, c.byte_at.ensures, c.byte_at-2.ensures, c.byte_at-3.ensures, c.byte_at-4.ensures, c.byte_at-5.ensures, c.byte_at-6.ensures, c.byte_at-7.ensures, c.byte_at-8.ensures) in
    let second : c.from_be_bytes-second.result ≡ from_be_bytes w64 (second_bytes bs) = omega (arith, c.from_be_bytes-second.ensures, c.byte_at-9.ensures, c.byte_at-10.ensures, c.byte_at-11.ensures, c.byte_at-12.ensures, c.byte_at-13.ensures, c.byte_at-14.ensures, c.byte_at-15.ensures) in
    record { is_key = (words-of_bytes bs c.from_be_bytes-first.result c.from_be_bytes-second.result le small (omega arith) (omega arith) first second).is_key }

pub returns-clause-bytes : goal.returns-clause-bytes
returns-clause-bytes c =
    let bs = c.args.bytes.now in
    let le : length bs ≤ 15 = let short = c.if-len-gt-MOST_KEY_BYTES.false in omega arith in
    let small : (i : ℕ) → get_or bs i 0 < 256 = λ i. (c.type_inv.bytes i).fits in
    let first : c.from_be_bytes-first.result ≡ from_be_bytes w64 (first_bytes bs) = omega (arith, c.from_be_bytes-first.ensures, c.byte_at.ensures, c.byte_at-2.ensures, c.byte_at-3.ensures, c.byte_at-4.ensures, c.byte_at-5.ensures, c.byte_at-6.ensures, c.byte_at-7.ensures, c.byte_at-8.ensures) in
    let second : c.from_be_bytes-second.result ≡ from_be_bytes w64 (second_bytes bs) = omega (arith, c.from_be_bytes-second.ensures, c.byte_at-9.ensures, c.byte_at-10.ensures, c.byte_at-11.ensures, c.byte_at-12.ensures, c.byte_at-13.ensures, c.byte_at-14.ensures, c.byte_at-15.ensures) in
    (words-of_bytes bs c.from_be_bytes-first.result c.from_be_bytes-second.result le small (omega arith) (omega arith) first second).bytes

pub returns-clause-key : goal.returns-clause-key
returns-clause-key c = sym (key_of_bytes-bytes _) ∙ ap key_of_bytes (returns-clause-bytes c)
