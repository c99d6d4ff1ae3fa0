use Rattle.std.proofs.Common.{◌≡◌, ◌+◌, length, take}
use Rattle.std.specs.Prelude.{fold}
use Rattle.ib_io.specs.Writer.{Puts}
use Rattle.ib_latch_form.specs.declared.event_line.TheConstants.{MOST_LATCH}
use Rattle.ib_io.specs.declared.line_kind.TheConstants.{MOST_SCRIPT_SESSIONS}
use Rattle.ib_latch_form.specs.Latching.{lines_from}
use Rattle.ib_latch_form.proofs.EventLines.{state_with}
use Rattle.ib_latch_form.proofs.latching.print_events.Given as goal

abbrev pub invariant-loop-session : goal.invariant-loop-session
invariant-loop-session g l = record {
  puts : Puts g.K.Sink.written g.K.Sink.faults l.fn.writer l.writer (lines_from l.fn.core.state (take l.session-index l.events));
  state : l.core.state ≡ fold state_with l.fn.core.state (take l.session-index l.events);
  steps : l.core.steps ≡ l.fn.core.steps + l.session-index;
  sessions : length l.core.state.sessions ≡ MOST_SCRIPT_SESSIONS;
  latches : length l.core.state.marks ≡ MOST_LATCH + 1;
}
