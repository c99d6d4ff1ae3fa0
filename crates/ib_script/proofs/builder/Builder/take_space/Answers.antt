use Rattle.std.proofs.Common.{◌≡◌, true, refl, sym, ◌∙◌, ap}
use Rattle.std.specs.Prelude.{Ok, Some, None, if◌then◌else◌}
use Rattle.std.specs.List.{list_all}
use Rattle.std.proofs.lemmas.List.Sums.{fold_push}
use Rattle.ib_script.specs.Script.{says_nothing, is_command, is_scan}
use Rattle.ib_script.specs.Building.{session_then}
use Rattle.ib_io.specs.declared.line_kind.LineKind.TheVariants.{Space as SpaceKind}
use Rattle.ib_script.specs.declared.script_line.ScriptLine.TheVariants.{Space}
use Rattle.ib_script.proofs.Readings.{not-false, something, sizes-first, same-lists, count-other}
use Rattle.ib_script.proofs.builder.Builder.take_space.Goals as goal

pub returns : goal.returns
returns c = λ before built.
    let reading = Ok (Space c.args.geometry) in
    let first : list_all says_nothing before ≡ true = not-false (list_all says_nothing before) (sym built.started ∙ c.if-self.false) in (
      ap (λ b. if b then None else Some SpaceKind) first,
      record {
        started = something before reading refl;
        sizes = sizes-first before reading first;
        session = built.session ∙ sym (fold_push session_then 1 before reading);
        lists = same-lists reading built.lists refl refl;
        commands = built.commands ∙ count-other is_command before reading refl;
        scans = built.scans ∙ count-other is_scan before reading refl;
      },
    )
