use Rattle.std.proofs.Common.{refl, sym, ap, ◌∙◌}
use Rattle.std.specs.Prelude.{Ok, not}
use Rattle.std.proofs.lemmas.List.Sums.{fold_push}
use Rattle.ib_script.specs.Script.{is_command, is_scan}
use Rattle.ib_script.specs.Building.{session_then}
use Rattle.ib_script.specs.declared.script_line.ScriptLine.TheVariants.{Skipped}
use Rattle.ib_script.proofs.Readings.{nothing-more, sizes-kept, same-lists, count-other}
use Rattle.ib_script.proofs.builder.Builder.take_reading.Goals as goal

pub returns-in-Skipped : goal.returns-in-Skipped
returns-in-Skipped c = rw c.in-Skipped.is (λ before built.
    let reading = Ok Skipped in (
      refl,
      record {
        started = built.started ∙ ap not (nothing-more before reading refl);
        sizes = built.sizes ∙ sizes-kept before reading refl;
        session = built.session ∙ sym (fold_push session_then 1 before reading);
        lists = same-lists reading built.lists refl refl;
        commands = built.commands ∙ count-other is_command before reading refl;
        scans = built.scans ∙ count-other is_scan before reading refl;
      },
    ))
