use Rattle.std.proofs.Common.{ℕ, List, arith, rules, subst, sym}
use Rattle.std.specs.List.{AllByRecursion}
use Rattle.ib_core.specs.declared.event.Event.{Event}
use Rattle.ib_latch_form.specs.Events.{AreEvents, IsEventInRange, event_fault_behind, event_reading_of}
use Rattle.ib_io.proofs.Reached.{reached-none, reached-more, reached-fault, reached-all, lines-cut, lines-end}
use Rattle.ib_io.specs.Lines.{lines_of, readings_by}
use Rattle.ib_latch_form.proofs.EventsInRange.{events-in-range}
use Rattle.ib_latch_form.proofs.events.read_events.Goals as goal

pub loop-rest-init : goal.loop-rest-init
loop-rest-init c = record {
  reached = reached-none event_fault_behind AreEvents _ _ c.new-list.ensures.items;
  fewer = omega arith;
  few = omega (arith, c.new-list.ensures.len);
}

pub loop-rest-preserved : goal.loop-rest-preserved
loop-rest-preserved c =
    let line = c.first_line.result.0.now in
    let after = c.first_line.result.1.now in
    record {
      reached = reached-more event_fault_behind AreEvents (event_reading_of line) (readings_by event_reading_of after) c.take.new.list.items
          (lines-cut event_reading_of c.loop-rest.rest.now line after c.first_line.ensures.line) c.loop-rest.invariant.reached c.in-Ok.ensures.takes;
      fewer = omega (arith, c.first_line.ensures.shorter, c.loop-rest.invariant.fewer);
      few = c.in-Ok.ensures.few;
    }

pub returns-in-Err-Bad-clause-bad : goal.returns-in-Err-Bad-clause-bad
returns-in-Err-Bad-clause-bad c = λ line kind e.
    let at = c.first_line.result.0.now in
    let after = c.first_line.result.1.now in
    reached-fault event_fault_behind AreEvents (event_reading_of at) (readings_by event_reading_of after) c.in-Err-Bad.kind line kind
    (lines-cut event_reading_of c.loop-rest.rest.now at after c.first_line.ensures.line) c.loop-rest.invariant.reached (rw c.in-Err-Bad.field-0-is at c.in-Err-Bad.ensures.takes) cc

pub returns-clause-good : goal.returns-clause-good
returns-clause-good c = (reached-all event_fault_behind AreEvents (lines-end event_reading_of c.loop-rest.rest.now (search rules)) c.loop-rest.invariant.reached).0

pub returns-clause-events : goal.returns-clause-events
returns-clause-events c = (reached-all event_fault_behind AreEvents (lines-end event_reading_of c.loop-rest.rest.now (search rules)) c.loop-rest.invariant.reached).1

pub invariant_of-result : goal.invariant_of-result
invariant_of-result c = (
  c.loop-rest.invariant.few,
  subst (λ (events : List (ℕ × Event)). AllByRecursion IsEventInRange events) (sym (reached-all event_fault_behind AreEvents (lines-end event_reading_of c.loop-rest.rest.now (search rules)) c.loop-rest.invariant.reached).1)
      (events-in-range (lines_of c.args.bytes.now)),
)
