-- The zero bytes of the second word, and of the first where all of the second are.
use Rattle.std.proofs.Common.{arith, ◌∙◌, ◌≡◌, ◌+◌, ◌/◌, ap, sym}
use Rattle.ib_map.specs.KeyWords.{zero_bytes}
use Rattle.ib_map.proofs.ZeroBytes.{words-short, words-full}
use Rattle.ib_map.proofs.key.order.zero_bytes_of.Goals as goal

pub returns-then-low-lt7-clause-zeros : goal.returns-then-low-lt7-clause-zeros
returns-then-low-lt7-clause-zeros c =
    let zeros = c.zero_bytes-low.ensures.zeros in
    let short = c.if-low-lt7.true in
    zeros ∙ sym (words-short c.args.first c.args.second (omega arith))

pub returns-clause-zeros : goal.returns-clause-zeros
returns-clause-zeros c =
    let zeros = c.zero_bytes-low.ensures.zeros in
    let few = c.zero_bytes-low.ensures.few in
    let full = c.if-low-lt7.false in
    let all : zero_bytes 7 (c.args.second / 256) ≡ 7 = omega arith in
    ap (λ n. 7 + n) c.zero_bytes.ensures.zeros ∙ sym (words-full c.args.first c.args.second (omega arith) all)
