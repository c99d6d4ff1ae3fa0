use Rattle.std.proofs.Common.{◌≡◌, get_or, subst, sym}
use Rattle.std.proofs.lemmas.Option.{get_or_from_slice_get, slice_get_within}
use Rattle.ib_io.proofs.Writing.{puts_each, puts_none}
use Rattle.ib_io.specs.Writer.{Puts}
use Rattle.ib_map.specs.History.{History}
use Rattle.ib_map.specs.declared.call.LoggedChange.{LoggedChange}
use Rattle.ib_text.specs.Output.{log_line}
use Rattle.ib_text.proofs.log_part.print_log_lines.Goals as goal

pub loop-place-init : goal.loop-place-init
loop-place-init g c = puts_none _

pub loop-place-preserved : goal.loop-place-preserved
loop-place-preserved g c =
    let log : History = g.L.ChangeLog.changes c.args.log.now in
    let i = c.loop-place.place in
    let entry : LoggedChange = c.change.result in
    let here : get_or log i entry ≡ entry = get_or_from_slice_get log i entry entry c.change.ensures in
    puts_each log_line log i entry (slice_get_within log i entry c.change.ensures) c.loop-place.invariant
    (subst (λ (e : LoggedChange). Puts g.K.Sink.written g.K.Sink.faults c.loop-place.writer c.print_log_line.new.writer (log_line e)) (sym here) c.print_log_line.ensures.puts)
