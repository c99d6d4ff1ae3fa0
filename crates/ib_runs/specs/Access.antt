-- What a call of a session asks for, and what it comes to, however it reaches its leaf.
use Rattle.std.specs.Prelude.{◌≡◌, ℕ, ◌+◌, ◌≤◌, Bool, [], ◌∷◌}
use Rattle.ib_map.specs.declared.call.Call.{Call}
use Rattle.ib_map.specs.declared.call.Record.{Record}
use Rattle.ib_layout.specs.Geometry.{Sizes}
use Rattle.ib_rule.specs.Conditions.{HasGrantsLeft}
use Rattle.ib_rule.specs.declared.readers.TheConstants.{CALL_GRANTS}
use Rattle.ib_rule.specs.Pass.{PassState, IsAtRest}
use Rattle.ib_rule.specs.Space.{SpaceState}
use Rattle.ib_rule.specs.Views.{total}
use Rattle.ib_leaf.specs.Calls.{CallLaw, HasCalledBy}
use Rattle.ib_runs.specs.Sessions.{IsRead, TakesGrants}

-- a call that is taken may be made by a seat that was drawn from what serves the space: the pass is at rest, and may take as many grants more as a call of the index takes at most, and the one of a guess
pub record MayAccess (taken sits serves : Type 0) (space : SpaceState) (p : PassState) : Type 0 where
  pub is_taken : taken
  pub seat : sits
  pub pages : serves
  pub rest : IsAtRest space p
  pub room : HasGrantsLeft (CALL_GRANTS + 1) p.view

-- a call that asks for no change takes no grant but of S; any other claims the index once at most
pub record TakesByMode (call : Call) (p q : PassState) : Type 0 where
  pub reads : IsRead call → (q.view.grants.sx ≡ p.view.grants.sx) × (q.view.grants.x ≡ p.view.grants.x)
  pub claims : q.view.grants.sx ≤ p.view.grants.sx + 1

-- the call was answered under this law. It took as many grants as such a call does, no more than `most` has for it, and of such modes. The seat is one of the same still, and nothing is held
pub record HasAccessed (calls : Sizes → CallLaw) (guesses : Bool) (most : Call → ℕ) (sits : Type 0) (space : SpaceState) (call : Call) (answer : Record) (p q : PassState) : Type 0 where
  pub seat : sits
  pub rest : IsAtRest space q
  pub called : HasCalledBy (calls space.sizes).fits space.sizes (calls space.sizes).lawful call answer p q
  pub takes : TakesGrants guesses (call ∷ []) p q
  pub within : total q.view.grants ≤ total p.view.grants + most call
  pub modes : TakesByMode call p q
