-- What a call by guesses asks for.
use Rattle.std.specs.Prelude.{◌≡◌, ◌≢◌, ℕ, ◌<◌}
use Rattle.ib_rule.specs.Pass.{PassState}
use Rattle.ib_rule.specs.Space.{SpaceState}
use Rattle.ib_leaf.specs.Calls.{MayCall}
use Rattle.ib_hash.specs.Guesses.{GuessesState, IsPassOf}
use Rattle.ib_hash.specs.Pass.{GuessPassState}

-- a call by guesses may be made: the pass on guesses was drawn from the table, which is one for the space, and a call of the index may be made
pub record MayGuess (guesses : GuessesState) (space : SpaceState) (gp : GuessPassState) (p : PassState) : Type 0 where
  pub own : IsPassOf guesses gp
  pub pages : guesses.pages ≡ space.sizes.pages
  pub call : MayCall space p

-- a page that was guessed may be tried: there is a guess, and its page is one of the space
pub record MayTry (space : SpaceState) (page : ℕ) (p : PassState) : Type 0 where
  pub call : MayCall space p
  pub some : page ≢ 0
  pub inside : page < space.sizes.pages
