-- One more event is printed behind the others.
use Rattle.std.proofs.Common.{◌≡◌, ◌∙◌, ℕ, ◌+◌, ◌-◌, ◌<◌, List, [], ◌∷◌, ◌++◌, length, take, get_or, ap, sym, append_assoc}
use Rattle.std.specs.Prelude.{fold}
use Rattle.std.proofs.lemmas.List.{append-nil, take_more}
use Rattle.ib_core.specs.Machine.{CoreState, outcome_of}
use Rattle.ib_core.specs.Responses.{latch_of}
use Rattle.ib_core.specs.Sessions.{word_on}
use Rattle.ib_core.specs.declared.event.Event.{Event}
use Rattle.ib_latch_form.specs.EventText.{event_line}
use Rattle.ib_latch_form.specs.Latching.{lines_from}

-- the state after one event
abbrev pub state_with : CoreState → ℕ × Event → CoreState
state_with state at = (outcome_of state (at.0 - 1) at.1).state

-- the line of an event
abbrev pub line_of : CoreState → ℕ × Event → List ℕ
line_of state at = event_line at.0 at.1 (outcome_of state (at.0 - 1) at.1).answer (word_on (latch_of at.1) (state_with state at).sessions)

lines_from-push : (state : CoreState) (events : List (ℕ × Event)) (at : ℕ × Event) → lines_from state (events ++ at ∷ []) ≡ lines_from state events ++ line_of (fold state_with state events) at
lines_from-push state [] at = append-nil (line_of state at)
lines_from-push state (e ∷ events) at =
    ap (λ z. line_of state e ++ z) (lines_from-push (state_with state e) events at)
    ∙ sym (append_assoc (line_of state e) (lines_from (state_with state e) events) (line_of (fold state_with (state_with state e) events) at))

-- the lines of the first events, and then of the next, which is made in the state behind them
pub lines_from-more : (state : CoreState) (events : List (ℕ × Event)) (i : ℕ) (at : ℕ × Event) → i < length events
    → lines_from state (take (i + 1) events) ≡ lines_from state (take i events) ++ line_of (fold state_with state (take i events)) (get_or events i at)
lines_from-more state events i at lt = ap (lines_from state) (take_more events i at lt) ∙ lines_from-push state (take i events) (get_or events i at)
