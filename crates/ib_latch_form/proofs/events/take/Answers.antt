use Rattle.std.proofs.Common.{◌∙◌, ap, sym, arith}
use Rattle.std.specs.Prelude.{Ok}
use Rattle.std.proofs.lemmas.Result.{err_from_is_err_and}
use Rattle.ib_latch_form.specs.Events.{event_reading_of}
use Rattle.ib_latch_form.proofs.EventsTaken.{good_event, taken_skipped, taken_event}
use Rattle.ib_latch_form.proofs.events.take.Goals as goal

pub returns-in-Skipped-clause-takes : goal.returns-in-Skipped-clause-takes
returns-in-Skipped-clause-takes c before are =
    taken_skipped (event_reading_of c.args.line.now) c.args.list.now.items (sym c.event_reading_of.ensures ∙ c.in_ok-event_reading_of.was ∙ ap Ok c.in-Skipped.is) before are

pub returns-in_ok-add-in-Event-clause-takes : goal.returns-in_ok-add-in-Event-clause-takes
returns-in_ok-add-in-Event-clause-takes c before are =
    taken_event (event_reading_of c.args.line.now) c.args.list.now.items c.add.new.list.items c.in-Event.session c.in-Event.event
    (sym c.event_reading_of.ensures ∙ c.in_ok-event_reading_of.was ∙ ap Ok c.in-Event.is) (omega (arith, c.requires, c.len.ensures, c.if-len.false)) c.in_ok-add-in-Event.ensures.added before are

pub returns-in_err-add-in-Event-clause-takes : goal.returns-in_err-add-in-Event-clause-takes
returns-in_err-add-in-Event-clause-takes c =
    let fault = err_from_is_err_and c.from_residual-in_err-add-in-Event.result c.from_residual-in_err-add-in-Event.ensures.1 in
    rw (fault.1, fault.2) (good_event (event_reading_of c.args.line.now) c.args.list.now.items c.in-Event.session c.in-Event.event
    (sym c.event_reading_of.ensures ∙ c.in_ok-event_reading_of.was ∙ ap Ok c.in-Event.is) (omega (arith, c.requires, c.len.ensures, c.if-len.false)))
