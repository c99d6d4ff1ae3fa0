use Rattle.std.proofs.Common.{sym, refl}
use Rattle.std.specs.Prelude.{Err}
use Rattle.ib_latch_form.specs.Events.{latch_in_mode}
use Rattle.ib_io.specs.Lines.{fields_behind}
use Rattle.ib_io.specs.declared.line_kind.LineKind.TheVariants.{Fields}
use Rattle.ib_io.proofs.Fields.{three-more}
use Rattle.ib_latch_form.proofs.event_line.latch_in_mode.Goals as goal

pub returns-in-Some : goal.returns-in-Some
returns-in-Some c = sym (three-more latch_in_mode (Err Fields) (λ a b d e more. refl) (fields_behind c.args.fields) c.first_field.result.0.now c.in_ok-ok_or-2.field-0.now c.first_field-2.result.0.now c.in_ok-ok_or-3.field-0.now
    c.first_field-3.result.0.now c.in-Some.field-0.now
    (rw c.in_ok-ok_or.ensures.ok_part (rw c.in_ok-ok_or-2.ensures.ok_part at c.first_field.ensures)) (rw c.in_ok-ok_or-3.ensures.ok_part at c.first_field-2.ensures) (rw c.in-Some.is at c.first_field-3.ensures))
