-- A byte that is no digit's spoils all; digits are the bytes of their numbers, and zeros are behind them.
use Rattle.std.proofs.Common.{◌∙◌, Some, ap, arith, get_or, sym, take, List, ℕ}
use Rattle.ib_text.proofs.HexLanes.{all-read, back-spoiled, front-spoiled, zeros-behind}
use Rattle.ib_text.proofs.spelling.read_hex.Goals as goal
use Rattle.ib_text.proofs.spelling.read_hex.Goals.{then-not-are_numbers-via-then-not-are_numbers, then-not-are_numbers-via-else-not-are_numbers+then-not-are_numbers-2}

pub returns-then-not-are_numbers-clause-none : goal.returns-then-not-are_numbers-clause-none
returns-then-not-are_numbers-clause-none c none =
    let padded = c.with_zero_digits-padded in
    let front = c.digit_numbers-front in
    let back = c.digit_numbers-back in
    elim c.then-not-are_numbers.branch [
      | then-not-are_numbers-via-then-not-are_numbers w ↦
          front-spoiled c.args.digits.now padded.result front.result back.result c.args.len c.requires.pairs c.requires.few (omega arith) padded.ensures.own padded.ensures.others front.ensures back.ensures (c.are_numbers.ensures.no w.if-not-are_numbers.true)
      | then-not-are_numbers-via-else-not-are_numbers+then-not-are_numbers-2 w ↦
          back-spoiled c.args.digits.now padded.result front.result back.result c.args.len c.requires.pairs c.requires.few (omega arith) padded.ensures.own padded.ensures.others front.ensures back.ensures
          (w.are_numbers-else-not-are_numbers.ensures.no w.if-not-are_numbers-2.true)
    ]

pub returns-clause-some : goal.returns-clause-some
returns-clause-some c =
    let padded = c.with_zero_digits-padded in
    let front = c.digit_numbers-front in
    let back = c.digit_numbers-back in
    all-read c.args.digits.now padded.result front.result back.result c.args.len c.requires.pairs c.requires.few (omega arith) padded.ensures.own padded.ensures.others front.ensures back.ensures
    (c.are_numbers.ensures.yes c.if-not-are_numbers.false) (c.are_numbers-else-not-are_numbers.ensures.yes c.if-not-are_numbers-2.false)
    ∙ ap (λ (bs : List ℕ). Some (take c.args.len bs)) (sym c.joined.ensures)

pub returns-clause-zeros : goal.returns-clause-zeros
returns-clause-zeros c k le =
    let padded = c.with_zero_digits-padded in
    let front = c.digit_numbers-front in
    let back = c.digit_numbers-back in
    ap (λ (bs : List ℕ). get_or bs k 0) c.joined.ensures
    ∙ zeros-behind c.args.digits.now padded.result front.result back.result c.args.len c.requires.pairs c.requires.few (omega arith) padded.ensures.own padded.ensures.others front.ensures back.ensures k le
