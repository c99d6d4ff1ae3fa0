use Rattle.std.proofs.Common.{sym, refl}
use Rattle.std.specs.Prelude.{Err}
use Rattle.ib_io.proofs.Fields.{one-more}
use Rattle.ib_io.specs.Fields.{number_in, one_field}
use Rattle.ib_io.specs.Lines.{fields_behind}
use Rattle.ib_io.specs.declared.line_kind.LineKind.TheVariants.{Fields}
use Rattle.ib_script.proofs.pair_line.one_value.Goals as goal

pub returns-in-Some : goal.returns-in-Some
returns-in-Some c = sym (one-more (one_field number_in) (Err Fields) (λ a b more. refl) (fields_behind c.args.fields) c.first_field.result.0.now c.in-Some.field-0.now
    (rw c.in_ok-ok_or.ensures.ok_part (rw c.in-Some.is at c.first_field.ensures)))
