use Rattle.std.proofs.Common.{arith, refl, rules}
use Rattle.ib_latch_form.specs.Events.{AreMany, event_fault_behind, event_reading_of}
use Rattle.ib_io.proofs.Reached.{reached-none, reached-more, reached-fault, reached-all, lines-cut, lines-end}
use Rattle.ib_io.specs.Lines.{readings_by}
use Rattle.ib_latch_form.proofs.events.refusal.Goals as goal

pub loop-rest-init : goal.loop-rest-init
loop-rest-init c = record { reached = reached-none event_fault_behind AreMany _ _ refl; fewer = omega arith; few = omega arith }

pub loop-rest-preserved : goal.loop-rest-preserved
loop-rest-preserved c =
    let line = c.first_line.result.0.now in
    let after = c.first_line.result.1.now in
    record {
      reached = reached-more event_fault_behind AreMany (event_reading_of line) (readings_by event_reading_of after) c.in-Ok.more
          (lines-cut event_reading_of c.loop-rest.rest.now line after c.first_line.ensures.line) c.loop-rest.invariant.reached c.in-Ok.ensures.counts;
      fewer = omega (arith, c.first_line.ensures.shorter, c.loop-rest.invariant.fewer);
      few = c.in-Ok.ensures.few;
    }

pub returns-in-Err-clause-bad : goal.returns-in-Err-clause-bad
returns-in-Err-clause-bad c = λ line kind e.
    let at = c.first_line.result.0.now in
    let after = c.first_line.result.1.now in
    reached-fault event_fault_behind AreMany (event_reading_of at) (readings_by event_reading_of after) c.in-Err.kind line kind
    (lines-cut event_reading_of c.loop-rest.rest.now at after c.first_line.ensures.line) c.loop-rest.invariant.reached c.in-Err.ensures.counts e

pub returns-clause-memory : goal.returns-clause-memory
returns-clause-memory c = λ e. (reached-all event_fault_behind AreMany (lines-end event_reading_of c.loop-rest.rest.now (search rules)) c.loop-rest.invariant.reached).0
