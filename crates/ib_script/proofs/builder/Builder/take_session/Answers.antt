use Rattle.std.proofs.Common.{refl, sym, ◌∙◌}
use Rattle.std.specs.Prelude.{Ok}
use Rattle.std.proofs.lemmas.List.Sums.{fold_push}
use Rattle.ib_script.specs.Script.{is_command, is_scan}
use Rattle.ib_script.specs.Building.{session_then}
use Rattle.ib_script.specs.declared.script_line.ScriptLine.TheVariants.{Session}
use Rattle.ib_script.proofs.Readings.{something, sizes-kept, same-lists, count-other}
use Rattle.ib_script.proofs.builder.Builder.take_session.Goals as goal

pub returns : goal.returns
returns c = λ before built.
    let reading = Ok (Session c.args.number) in
    record {
      started = something before reading refl;
      sizes = built.sizes ∙ sizes-kept before reading refl;
      session = sym (fold_push session_then 1 before reading);
      lists = same-lists reading built.lists refl refl;
      commands = built.commands ∙ count-other is_command before reading refl;
      scans = built.scans ∙ count-other is_scan before reading refl;
    }
