-- Lists of events, and the states that they lead to.
use Rattle.std.specs.Prelude.{ℕ, ◌<◌, List, [], ◌∷◌, length}
use Rattle.ib_core.specs.declared.event.Event.{Event}
use Rattle.ib_core.specs.Responses.{latch_of}
use Rattle.ib_core.specs.Machine.{CoreState, outcome_of}

-- an event of the session at a place
pub record Action : Type 0 where
  pub index : ℕ
  pub event : Event

-- there are such a session and such a latch
pub record IsAmong (state : CoreState) (action : Action) : Type 0 where
  pub session : action.index < length state.sessions
  pub latch : latch_of action.event < length state.marks

abbrev pub AllAmong : CoreState → List Action → Type 0
AllAmong state [] = Unit {0}
AllAmong state (action ∷ actions) = IsAmong state action × AllAmong state actions

-- the state after the events
abbrev pub state_after : CoreState → List Action → CoreState
state_after state [] = state
state_after state (action ∷ actions) =
    state_after (outcome_of state action.index action.event).state actions
