use Rattle.std.proofs.Common.{◌≡◌, ◌+◌, true, refl, ◌∙◌, ap}
use Rattle.std.specs.Prelude.{Ok, not, Some, None, if◌then◌else◌}
use Rattle.ib_script.specs.Script.{has_room, is_command, is_scan}
use Rattle.ib_io.specs.declared.line_kind.LineKind.TheVariants.{Many}
use Rattle.ib_script.specs.declared.script_line.ScriptLine.TheVariants.{Command}
use Rattle.ib_script.proofs.Readings.{something, count-one, count-more}
use Rattle.ib_script.proofs.tally.Tally.count_command.Goals as goal

pub returns : goal.returns
returns c = λ before tallied.
    let reading = Ok (Command c.args.call) in
    let room : has_room before (is_scan reading) ≡ true = c.is_full.ensures.full before tallied ∙ ap not c.if-is_full.false in (
      ap (λ b. if b then None else Some Many) room,
      record {
        started = something before reading refl;
        commands = ap (λ n. n + 1) tallied.commands ∙ count-one is_command before reading refl;
        scans = count-more is_scan before reading c.is_scan.result _ _ c.is_scan.ensures tallied.scans c.from.ensures;
      },
    )
