use Rattle.std.proofs.Common.{◌∙◌, ap, sym, arith}
use Rattle.std.specs.Prelude.{Ok}
use Rattle.ib_latch_form.specs.Events.{event_reading_of}
use Rattle.ib_latch_form.proofs.EventsTaken.{counted_skipped, counted_event}
use Rattle.ib_latch_form.proofs.events.count_with.Goals as goal

pub returns-in-Skipped-clause-counts : goal.returns-in-Skipped-clause-counts
returns-in-Skipped-clause-counts c before are =
    counted_skipped (event_reading_of c.args.line.now) c.args.events (sym c.event_reading_of.ensures ∙ c.in_ok-event_reading_of.was ∙ ap Ok c.in-Skipped.is) before are

pub returns-else-events-eq-MOST_EVENTS-clause-counts : goal.returns-else-events-eq-MOST_EVENTS-clause-counts
returns-else-events-eq-MOST_EVENTS-clause-counts c before are =
    counted_event (event_reading_of c.args.line.now) c.args.events c.in-Event.session c.in-Event.event
    (sym c.event_reading_of.ensures ∙ c.in_ok-event_reading_of.was ∙ ap Ok c.in-Event.is) (omega (arith, c.requires, c.if-events-eq-MOST_EVENTS.false)) before are
