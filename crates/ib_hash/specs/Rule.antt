-- The rule of the table of guesses, and what its steps leave of a view.
use Rattle.std.specs.Prelude.{ℕ, ◌+◌, ◌<◌, List, slice_index, Some, None}
use Rattle.ib_hash.specs.declared.view.GuessSteps.{GuessSteps}

-- each word is 0, or a page from 1 up to the last
abbrev pub AreGuesses : ℕ → List ℕ → Type 0
AreGuesses pages words = (slot : ℕ) → slice_index words slot < pages

-- no step was made
abbrev pub no_steps : GuessSteps
no_steps = record { looks = 0; stores = 0; looked = None; stored = None }

-- a load more, and a store more, at this slot, of this word
abbrev pub looking : ℕ → ℕ → GuessSteps → GuessSteps
looking slot word v = record v { looks = v.looks + 1; looked = Some (slot, word) }

abbrev pub storing : ℕ → ℕ → GuessSteps → GuessSteps
storing slot word v = record v { stores = v.stores + 1; stored = Some (slot, word) }
