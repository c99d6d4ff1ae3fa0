-- What contracts see of a space: open, with the passes that no session has, or closed.
use Rattle.std.specs.Prelude.{◌≡◌, ℕ, ◌+◌, ◌≤◌, List, [], ◌∷◌, ◌++◌, length, map}
use Rattle.ib_rule.specs.declared.view.Role.TheVariants.{Session}
use Rattle.ib_rule.specs.Pass.{PassState, IsAtRest}
use Rattle.ib_rule.specs.Space.{SpaceState}
use Rattle.ib_rule.specs.Views.{ended_as, seated}

pub record OpenState : Type 0 where
  pub space : SpaceState
  pub pool : List PassState

-- each of the passes is at rest
abbrev pub AreAtRest : SpaceState → List PassState → Type 0
AreAtRest space [] = Unit {0}
AreAtRest space (p ∷ ps) = IsAtRest space p × AreAtRest space ps

-- the passes that were drawn and have not ended are those of the pool
abbrev pub IsWhole : SpaceState → List PassState → Type 0
IsWhole space pool = length space.ended + length pool ≡ space.drawn

-- the space in which the sessions of these passes have ended besides, the first pass's last, with what each had seen and made
abbrev pub ended_with : List PassState → SpaceState → SpaceState
ended_with pool space = record space { ended = map (λ p. ended_as p.view) pool ++ space.ended }

-- the passes of a pool are at rest, and no more than were drawn and have not ended; and it has a place for each that was drawn
pub record IsPool (space : SpaceState) (pool : List PassState) (places : ℕ) : Type 0 where
  pub rest : AreAtRest space pool
  pub few : length space.ended + length pool ≤ space.drawn
  pub room : space.drawn ≤ places

-- the pass of this number, which has seen, holds and was granted nothing
pub record IsUnused (n : ℕ) (p : PassState) : Type 0 where
  pub number : p.number ≡ n
  pub view : p.view ≡ seated (Session n)

-- passes that nobody used, with the numbers from this one on
abbrev pub AreUnused : ℕ → List PassState → Type 0
AreUnused n [] = Unit {0}
AreUnused n (p ∷ ps) = IsUnused n p × AreUnused (n + 1) ps
