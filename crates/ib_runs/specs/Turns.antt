-- The turns of all sessions.
use Rattle.std.specs.Prelude.{◌≡◌, ℕ, ◌+◌, ◌-◌, ◌<◌, ◌≤◌, ⊤, All, List, [], ◌∷◌, ◌++◌, length, map, IfSome, slice_index_or}
use Rattle.ib_map.specs.declared.call.Call.{Call}
use Rattle.ib_layout.specs.Geometry.{Sizes}
use Rattle.ib_rule.specs.declared.view.Role.TheVariants.{Session}
use Rattle.ib_rule.specs.Pass.{PassState}
use Rattle.ib_rule.specs.Space.{SpaceState}
use Rattle.ib_rule.specs.Views.{ended_as, seated}
use Rattle.ib_leaf.specs.Calls.{CallLaw}
use Rattle.ib_script.specs.Script.{IsSmall, ScriptValue}
use Rattle.ib_runs.specs.declared.turns.Turn.{Turn}
use Rattle.ib_runs.specs.Answers.{KeptAnswers, IsWhole, answers_of}
use Rattle.ib_rule.specs.Pass.{IsAtRest}
use Rattle.ib_runs.specs.Guests.{AreGuests}
use Rattle.ib_runs.specs.Sessions.{AreTaken, HasAnswered}

-- a session that has done nothing yet, one of so many
pub record HasNotBegun (space : SpaceState) (sessions : ℕ) (p : PassState) : Type 0 where
  pub rest : IsAtRest space p
  pub some : 1 ≤ p.number
  pub most : p.number ≤ sessions
  pub view : p.view ≡ seated (Session p.number)

-- it is the same session, and holds nothing; with answers all its commands were answered
pub record HasTurned {S : Type 0} (calls : Sizes → CallLaw) (space : SpaceState) (commands : List (List Call)) (old new : Turn S) : Type 0 where
  pub rest : IsAtRest space new.pass
  pub number : new.pass.number ≡ old.pass.number
  pub role : new.pass.view.role ≡ Session new.pass.number
  pub answered : IfSome new.answers (λ out. IsWhole out × HasAnswered (calls space.sizes) space.sizes (slice_index_or commands (old.pass.number - 1) []) (answers_of out) old.pass new.pass)

-- a script's sessions may have their turns on a space: its calls are such as are taken, they have done nothing yet, and each has a seat of what serves the space
pub record MayTurn {S : Type 0} (takes : Call → Type 0) (sits : S → Type 0) (serves : Type 0) (space : SpaceState) (script : ScriptValue) (turns : List (Turn S)) : Type 0 where
  pub small : IsSmall script
  pub taken : AreTaken takes script.commands
  pub served : serves
  pub seated : All (λ t. sits t.seat) turns
  pub ready : All (λ t. HasNotBegun space (length script.commands) t.pass) turns

-- .. and afterwards each has had its own
pub record HaveTurned {S : Type 0} (calls : Sizes → CallLaw) (sits : S → Type 0) (space : SpaceState) (commands : List (List Call)) (old new : List (Turn S)) : Type 0 where
  pub len : length new ≡ length old
  pub seated : All (λ t. sits t.seat) new
  pub turned : (i : ℕ) (d : Turn S) → i < length old → HasTurned calls space commands (slice_index_or old i d) (slice_index_or new i d)

-- the numbers go up from n
abbrev pub AreNumbered : ℕ → List PassState → Type 0
AreNumbered n [] = ⊤
AreNumbered n (p ∷ ps) = (p.number ≡ n) × AreNumbered (n + 1) ps

-- the session of this number was answered, from the state in which it had its turn
pub record IsDone (law : CallLaw) (sizes : Sizes) (commands : List Call) (n : ℕ) (out : KeptAnswers) (q : PassState) : Type 0 where
  pub number : q.number ≡ n
  pub role : q.view.role ≡ Session q.number
  pub whole : IsWhole out
  pub start : PassState
  pub answered : HasAnswered law sizes commands (answers_of out) start q

-- the sessions from n on were
abbrev pub AreDone : CallLaw → Sizes → (ℕ → List Call) → ℕ → List PassState → List KeptAnswers → Type 0
AreDone law sizes commands n [] [] = ⊤
AreDone law sizes commands n [] (out ∷ outs) = ⊥
AreDone law sizes commands n (q ∷ qs) [] = ⊥
AreDone law sizes commands n (q ∷ qs) (out ∷ outs) = IsDone law sizes (commands n) n out q × AreDone law sizes commands (n + 1) qs outs

-- the sessions of a space, of which there are as many as lists of commands, have all had their turn, and have ended, and so have those beside them
pub record AllDone (calls : Sizes → CallLaw) (commands : List (List Call)) (outs : List KeptAnswers) (space : SpaceState) : Type 0 where
  pub passes : List PassState
  pub guests : List PassState
  pub count : length passes ≡ length commands
  pub done : AreDone (calls space.sizes) space.sizes (λ n. slice_index_or commands (n - 1) []) 1 passes outs
  pub beside : AreGuests (length passes + 1) guests
  pub drawn : space.drawn ≡ length passes + length guests
  pub ended : space.ended ≡ map (λ p. ended_as p.view) (passes ++ guests)
