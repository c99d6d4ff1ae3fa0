use Rattle.std.proofs.Common.{sym, refl}
use Rattle.std.specs.Prelude.{Err}
use Rattle.ib_io.proofs.Fields.{two-more}
use Rattle.ib_io.specs.Fields.{number_in, two_fields}
use Rattle.ib_io.specs.Lines.{fields_behind}
use Rattle.ib_io.specs.declared.line_kind.LineKind.TheVariants.{Fields}
use Rattle.ib_script.specs.PairScript.{primary_key_in}
use Rattle.ib_script.proofs.pair_line.primary_key_and_value.Goals as goal

pub returns-in-Some : goal.returns-in-Some
returns-in-Some c = sym (two-more (two_fields primary_key_in number_in) (Err Fields) (λ a b d more. refl) (fields_behind c.args.fields) c.first_field.result.0.now c.in_ok-ok_or-2.field-0.now c.first_field-2.result.0.now c.in-Some.field-0.now
    (rw c.in_ok-ok_or.ensures.ok_part (rw c.in_ok-ok_or-2.ensures.ok_part at c.first_field.ensures)) (rw c.in-Some.is at c.first_field-2.ensures))
