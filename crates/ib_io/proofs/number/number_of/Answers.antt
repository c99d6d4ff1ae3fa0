use Rattle.std.proofs.Common.{ap, sym, arith, ◌∙◌, inl, inr}
use Rattle.std.specs.Prelude.{Some}
use Rattle.ib_io.proofs.Spelling.{number-other, number-large, number-whole}
use Rattle.ib_io.proofs.number.number_of.Goals as goal

pub returns-in_err-number : goal.returns-in_err-number
returns-in_err-number c = c.from_residual.ensures ∙ sym (elim c.in_err-number.ensures.none [
  | inl other ↦ number-other c.args.field.now c.loop-byte.byte-index c.loop-byte-test.true other
  | inr large ↦
      let value = c.loop-byte.invariant.value in
      number-large c.args.field.now c.loop-byte.byte-index c.loop-byte-test.true (omega arith)
])

pub returns : goal.returns
returns c =
    let value = c.loop-byte.invariant.value in
    ap Some value ∙ sym (number-whole c.args.field.now c.loop-byte.byte-index c.loop-byte-test.false (sym c.is_headed.ensures ∙ c.if-not-is_headed.false)
    c.loop-byte.invariant.digits (omega arith))
