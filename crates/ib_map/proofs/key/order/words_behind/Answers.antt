-- A zero byte more, or a higher front.
use Rattle.std.proofs.Common.{arith, refl}
use Rattle.ib_map.proofs.KeyLaws.{number-le, key_few, raised-number}
use Rattle.ib_map.proofs.key.order.words_behind.Goals as goal

pub returns-in_err-first-clause-none : goal.returns-in_err-first-clause-none
returns-in_err-first-clause-none c =
    let none = c.in_err-first.ensures.none.0 refl in
    let most = number-le c.args.key in
    (λ _. omega arith, λ _. rw c.from_residual.ensures refl)

pub returns-clause-number : goal.returns-clause-number
returns-clause-number c =
    let full = c.if-key-lt15.false in
    raised-number c.args.key.first c.args.key.second c.in_ok-first.first c.in_ok-first.second c.zero_bytes_of.result (omega arith) (key_few c.args.key) c.in_ok-first.ensures.number c.zero_bytes_of.ensures.zeros
