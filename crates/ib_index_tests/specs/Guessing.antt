-- What a call by guesses asks of a session here.
use Rattle.std.specs.Prelude.{◌≡◌}
use Rattle.ib_rule.specs.Pass.{PassState, IsAtRest}
use Rattle.ib_rule.specs.Space.{SpaceState}
use Rattle.ib_hash.specs.Guesses.{GuessesState, IsPassOf}
use Rattle.ib_hash.specs.Pass.{GuessPassState}

-- a session is ready: its pass is at rest, and its pass on guesses was drawn from the table, which is one for the space
pub record IsReady (guesses : GuessesState) (space : SpaceState) (gp : GuessPassState) (p : PassState) : Type 0 where
  pub own : IsPassOf guesses gp
  pub pages : guesses.pages ≡ space.sizes.pages
  pub rest : IsAtRest space p
