use Rattle.std.proofs.Common.{refl, ◌∙◌}
use Rattle.std.specs.Prelude.{Ok}
use Rattle.ib_script.specs.Script.{is_command, is_scan}
use Rattle.ib_script.specs.declared.script_line.ScriptLine.TheVariants.{Session}
use Rattle.ib_script.proofs.Readings.{something, count-other}
use Rattle.ib_script.proofs.tally.Tally.count_session.Goals as goal

pub returns : goal.returns
returns c = λ number before tallied.
    let reading = Ok (Session number) in
    record {
      started = something before reading refl;
      commands = tallied.commands ∙ count-other is_command before reading refl;
      scans = tallied.scans ∙ count-other is_scan before reading refl;
    }
