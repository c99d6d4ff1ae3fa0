use Rattle.std.proofs.Common.{◌+◌, ◌≤◌, length}
use Rattle.ib_latch_form.specs.Events.{AreMany, event_fault_behind, event_reading_of}
use Rattle.ib_latch_form.specs.declared.event_line.TheConstants.{MOST_EVENTS}
use Rattle.ib_io.specs.Lines.{readings_by}
use Rattle.ib_io.proofs.Reached.{Reached}
use Rattle.ib_latch_form.proofs.events.refusal.Given as goal

abbrev pub invariant-loop-rest : goal.invariant-loop-rest
invariant-loop-rest l = record {
  reached : Reached event_fault_behind AreMany (readings_by event_reading_of l.bytes) l.count l.events (readings_by event_reading_of l.rest);
  fewer : l.count + length l.rest ≤ length l.bytes;
  few : l.events ≤ MOST_EVENTS;
}

abbrev pub decreases-loop-rest : goal.decreases-loop-rest
decreases-loop-rest l = length l.rest
