use Rattle.std.proofs.Common.{◌≡◌, ◌+◌, true, refl, sym, ◌∙◌, ap, arith}
use Rattle.std.specs.Prelude.{Ok, not, Some, None, if◌then◌else◌}
use Rattle.std.proofs.lemmas.List.Sums.{fold_push}
use Rattle.std.proofs.lemmas.Result.{err_from_is_err_and}
use Rattle.ib_script.specs.Script.{has_room, is_command, is_scan}
use Rattle.ib_script.specs.Building.{session_then}
use Rattle.ib_io.specs.declared.line_kind.LineKind.TheVariants.{Many}
use Rattle.ib_script.specs.declared.script_line.ScriptLine.TheVariants.{Command}
use Rattle.ib_script.proofs.Readings.{something, sizes-kept, lists-push, count-one, count-more}
use Rattle.ib_script.proofs.builder.Builder.take_command.Goals as goal

pub returns : goal.returns
returns c = λ before built.
    let reading = Ok (Command c.args.call) in
    let room : has_room before (is_scan reading) ≡ true = c.is_full.ensures.full before built ∙ ap not c.if-is_full.false in (
      ap (λ b. if b then None else Some Many) room,
      record {
        started = something before reading refl;
        sizes = built.sizes ∙ sizes-kept before reading refl;
        session = built.session ∙ sym (fold_push session_then 1 before reading);
        lists = rw c.in_ok-add_command.ensures.lists (lists-push c.args.self.now.session c.args.call (omega arith) built.session built.lists);
        commands = ap (λ n. n + 1) built.commands ∙ count-one is_command before reading refl;
        scans = count-more is_scan before reading c.is_scan.result _ _ c.is_scan.ensures built.scans c.from.ensures;
      },
    )

pub returns-in_err-add_command : goal.returns-in_err-add_command
returns-in_err-add_command c =
    let fault = err_from_is_err_and c.from_residual.result c.from_residual.ensures.1 in
    rw (fault.1, fault.2) (λ before built.
    let room : has_room before (is_scan (Ok (Command c.args.call))) ≡ true = c.is_full.ensures.full before built ∙ ap not c.if-is_full.false in
    (ap (λ b. if b then None else Some Many) room, refl))
