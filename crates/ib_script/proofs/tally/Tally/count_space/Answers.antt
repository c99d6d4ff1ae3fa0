use Rattle.std.proofs.Common.{◌≡◌, true, refl, sym, ◌∙◌, ap}
use Rattle.std.specs.Prelude.{Ok, Some, None, if◌then◌else◌}
use Rattle.std.specs.List.{list_all}
use Rattle.ib_script.specs.Script.{says_nothing, is_command, is_scan}
use Rattle.ib_io.specs.declared.line_kind.LineKind.TheVariants.{Space as SpaceKind}
use Rattle.ib_script.specs.declared.script_line.ScriptLine.TheVariants.{Space}
use Rattle.ib_script.proofs.Readings.{not-false, something, count-other}
use Rattle.ib_script.proofs.tally.Tally.count_space.Goals as goal

pub returns : goal.returns
returns c = λ sizes before tallied.
    let reading = Ok (Space sizes) in
    let first : list_all says_nothing before ≡ true = not-false (list_all says_nothing before) (sym tallied.started ∙ c.if-self.false) in (
      ap (λ b. if b then None else Some SpaceKind) first,
      record {
        started = something before reading refl;
        commands = tallied.commands ∙ count-other is_command before reading refl;
        scans = tallied.scans ∙ count-other is_scan before reading refl;
      },
    )
