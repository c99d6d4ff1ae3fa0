-- What is printed of events: each answered by the latch machine, from all latches free.
use Rattle.std.specs.Prelude.{ℕ, ◌+◌, ◌-◌, List, [], ◌∷◌, ◌++◌}
use Rattle.ib_core.specs.Machine.{CoreState, opening_state, outcome_of}
use Rattle.ib_core.specs.Sessions.{word_on}
use Rattle.ib_core.specs.Responses.{latch_of}
use Rattle.ib_core.specs.declared.event.Event.{Event}
use Rattle.ib_latch_form.specs.EventText.{event_line}
use Rattle.ib_latch_form.specs.declared.event_line.TheConstants.{MOST_LATCH}
use Rattle.ib_io.specs.declared.line_kind.TheConstants.{MOST_SCRIPT_SESSIONS}

-- the lines of events one after another: what each is answered in its state, and its latch's word afterwards; session n stands
-- at place n - 1 of the machine
abbrev pub lines_from : CoreState → List (ℕ × Event) → List ℕ
lines_from state [] = []
lines_from state (at ∷ events) =
    let outcome = outcome_of state (at.0 - 1) at.1 in
    event_line at.0 at.1 outcome.answer (word_on (latch_of at.1) outcome.state.sessions) ++ lines_from outcome.state events

-- the same, from the machine of 64 sessions and 16 latches where all latches are free
abbrev pub latch_output : List (ℕ × Event) → List ℕ
latch_output events = lines_from (opening_state MOST_SCRIPT_SESSIONS (MOST_LATCH + 1)) events
