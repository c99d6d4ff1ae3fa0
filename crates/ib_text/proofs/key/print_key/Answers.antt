-- A key that is not written as it is has `x:` in front of its digits.
use Rattle.std.proofs.Common.{◌≡◌, ◌∙◌, ◌*◌, List, ℕ, true, false, ap, subst, sym, take}
use Rattle.std.specs.Prelude.{flat_map}
use Rattle.ib_io.proofs.Writing.{puts_on}
use Rattle.ib_io.specs.Writer.{Puts}
use Rattle.ib_map.proofs.ByteLaws.{key-few}
use Rattle.ib_map.specs.KeyBytes.{bytes_of}
use Rattle.ib_text.proofs.PaddedKeys.{digits-front, key-front, key-padded, plain-padded}
use Rattle.ib_text.specs.Keys.{hex_byte, is_plain_text, key_text}
use Rattle.ib_text.proofs.key.print_key.Goals as goal

pub returns-then-is_plain_padded : goal.returns-then-is_plain_padded
unfolding key_text
returns-then-is_plain_padded g c =
    let key = c.args.key in
    let padded = c.padded_bytes-bytes.result in
    let len = c.len-len.result in
    let front = key-front key padded len c.padded_bytes-bytes.ensures c.len-len.ensures.count in
    let test = plain-padded (bytes_of key) padded len (c.padded_bytes-bytes.ensures ∙ key-padded key) c.len-len.ensures.count (key-few key) in
    let plain : is_plain_text (bytes_of key) ≡ true = sym test ∙ sym c.is_plain_padded.ensures ∙ c.if-is_plain_padded.true in
    record { puts = rw plain (subst (λ (bs : List ℕ). Puts g.K.Sink.written g.K.Sink.faults c.args.writer.now c.text.new.self bs) front c.text.ensures.puts) }

pub returns-else-is_plain_padded : goal.returns-else-is_plain_padded
unfolding key_text
returns-else-is_plain_padded g c =
    let key = c.args.key in
    let padded = c.padded_bytes-bytes.result in
    let len = c.len-len.result in
    let front = key-front key padded len c.padded_bytes-bytes.ensures c.len-len.ensures.count in
    let test = plain-padded (bytes_of key) padded len (c.padded_bytes-bytes.ensures ∙ key-padded key) c.len-len.ensures.count (key-few key) in
    let other : is_plain_text (bytes_of key) ≡ false = sym test ∙ sym c.is_plain_padded.ensures ∙ c.if-is_plain_padded.false in
    let digits : take (2 * len) c.hex_digits.result ≡ flat_map hex_byte (bytes_of key) =
    ap (take (2 * len)) c.hex_digits.ensures ∙ digits-front len padded ∙ ap (flat_map hex_byte) front in
    record {
      puts = rw other (puts_on c.text-else-is_plain_padded.ensures.puts
          (subst (λ (bs : List ℕ). Puts g.K.Sink.written g.K.Sink.faults c.text-else-is_plain_padded.new.self c.text-else-is_plain_padded-2.new.self bs) digits c.text-else-is_plain_padded-2.ensures.puts));
    }
