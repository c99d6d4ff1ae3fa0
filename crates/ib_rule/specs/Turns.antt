-- What a step on a latch is to its pass: the turn of an event, or an exchange that is one where it was won.
use Rattle.std.specs.Prelude.{◌≡◌, ◌≢◌, ℕ, ◌<◌, Result, IsTrue, IsOk, IfErr, pos, ◌-ℤ◌}
use Rattle.ib_word.specs.Word.{cell_of}
use Rattle.ib_word.specs.declared.word.LockWord.{LockWord}
use Rattle.ib_levels.specs.declared.level.Level.{Level}
use Rattle.ib_levels.specs.declared.level.Mode.{Mode}
use Rattle.ib_layout.specs.Places.{latches_of}
use Rattle.ib_core.specs.declared.phase.Phase.{Phase}
use Rattle.ib_core.specs.declared.event.Event.{Event}
use Rattle.ib_core.specs.Takings.{first_response, first_weight, holding_too, is_given_at}
use Rattle.ib_core.specs.Turns.{turn_at}
use Rattle.ib_rule.specs.declared.kind.StepKind.TheVariants.{Turn, Try}
use Rattle.ib_rule.specs.Steps.{view_after}
use Rattle.ib_rule.specs.Told.{IsEvent}
use Rattle.ib_rule.specs.Afterwards.{granted, tried_on}
use Rattle.ib_rule.specs.Conditions.{MayGrow, MayTry, found_by, try_event}
use Rattle.ib_rule.specs.Pass.{PassState, IsOf, with_view}
use Rattle.ib_rule.specs.Space.{SpaceState}

-- the step was the event on the word found, and the view is the one after it
abbrev pub IsTurn : Event → ℕ → PassState → PassState → Type 0
IsTurn e n p q = (q ≡ with_view p (view_after (Turn e) n p.view)) × IsEvent e p.view.session (turn_at e n p.view.session).answer q.view.session

-- the exchange was the event on the word expected where it was won, and else found another word
pub record IsTry (e : Event) (expected : LockWord) (result : Result (Unit {0}) LockWord) (p q : PassState) : Type 0 where
  pub view : q ≡ with_view p (view_after (Try e (cell_of expected.0)) (found_by result expected) p.view)
  pub event : IsOk result → IsEvent e p.view.session (turn_at e (cell_of expected.0) p.view.session).answer q.view.session
  pub lost : IfErr result (λ found. found.0 ≢ expected.0)

-- a pass of the space, whose session is in this phase, and a latch of it
pub record IsInPhase (space : SpaceState) (l : ℕ) (f : Phase) (p : PassState) : Type 0 where
  pub own : IsOf space p
  pub latch : l < latches_of space.sizes
  pub phase : p.view.session.phase ≡ f

-- a first try for the mode may be made on a latch of the space, at the level and the word expected, which gives it
pub record MayTryAt (space : SpaceState) (mode : Mode) (l : ℕ) (v : Level) (expected : LockWord) (p : PassState) : Type 0 where
  pub own : IsOf space p
  pub latch : l < latches_of space.sizes
  pub may : MayTry mode l v p.view.session p.view.session.phase
  pub grows : MayGrow p.view
  pub given : IsTrue (is_given_at mode expected.0)

-- what a first try for the mode came to: the exchange of its event, which took the grant or reserved it where it was won, and else changed nothing but the looks
pub record IsTryFor (mode : Mode) (l : ℕ) (v : Level) (expected : LockWord) (result : Result (Unit {0}) LockWord) (p q : PassState) : Type 0 where
  pub tried : IsTry (try_event mode l v p.view.session.phase) expected result p q
  pub taken : IsOk result → q ≡ with_view p (granted mode (first_response mode l v (expected.0 -ℤ pos (first_weight mode)) (holding_too mode l v p.view.session.held)).session (tried_on l expected expected p.view))
  pub lost : IfErr result (λ found. q ≡ with_view p (tried_on l expected found p.view))
