-- A try that was refused, as the looks tell that it made.
use Rattle.std.specs.Prelude.{◌≡◌, ◌≢◌, ℕ, ◌+◌, ◌<◌, ℤ, Bool, true, false, List, ◌∷◌, Some, None, Result}
use Rattle.ib_word.specs.Word.{cell_of}
use Rattle.ib_word.specs.declared.word.LockWord.{LockWord}
use Rattle.ib_levels.specs.declared.level.Level.{Level}
use Rattle.ib_levels.specs.declared.level.Mode.{Mode}
use Rattle.ib_levels.specs.declared.level.Mode.TheVariants.{S, Sx, X}
use Rattle.ib_core.specs.Takings.{is_given_at}
use Rattle.ib_rule.specs.declared.looks.Look.{Look}
use Rattle.ib_rule.specs.declared.looks.Looks.{Looks}
use Rattle.ib_rule.specs.Pass.{PassState}
use Rattle.ib_latch.specs.declared.tries.TryFault.{TryFault}
use Rattle.ib_latch.specs.declared.tries.TryFault.TheVariants.{Busy, Raced}
use Rattle.ib_latch.specs.Tries.{IsTryOf, first_session, is_free_word}

-- whether a first grant of the mode is had by a try at this word: S above 0, SX above HALF, and X at the word of a free latch alone, since elsewhere it would have to be waited for
abbrev pub is_had_at : Mode → ℤ → Bool
is_had_at S w = is_given_at S w
is_had_at Sx w = is_given_at Sx w
is_had_at X w = is_free_word w

-- one try for a first grant of the mode
abbrev pub IsOneTry : Mode → ℕ → Level → PassState → Result (Unit {0}) TryFault → PassState → Type 0
IsOneTry mode l v p result q = IsTryOf (is_had_at mode) mode l (first_session mode l v p.view.session.held) p result q

-- the last look found this word of the latch, of which the session held nothing, and at the word the mode is not had
pub record FoundBusy (mode : Mode) (l : ℕ) (word : LockWord) (first last : Looks) : Type 0 where
  pub count : first.count < last.count
  pub low : is_had_at mode word.0 ≡ false
  pub at : ℕ
  pub before : List Look
  pub is : last.all ≡ record { latch = l; found = cell_of word.0; expected = None; at = at; held = 0 } ∷ before

-- the last two looks, with no step on a lock word between them, at a latch of which the session held nothing: one of a word at which the mode is had, and an exchange that found another
pub record FoundRaced (mode : Mode) (l : ℕ) (expected found : LockWord) (first last : Looks) : Type 0 where
  pub count : first.count + 1 < last.count
  pub high : is_had_at mode expected.0 ≡ true
  pub other : found.0 ≢ expected.0
  pub at : ℕ
  pub before : List Look
  pub is : last.all ≡ record { latch = l; found = cell_of found.0; expected = Some (cell_of expected.0); at = at + 1; held = 0 } ∷ record { latch = l; found = cell_of expected.0; expected = None; at = at; held = 0 } ∷ before

-- a try for the mode on the latch was refused in the steps between, and no lock word was looked at since
abbrev pub WasRefusedFor : Mode → ℕ → TryFault → Looks → Looks → Type 0
WasRefusedFor mode l (Busy word) first last = FoundBusy mode l word first last
WasRefusedFor mode l (Raced expected found) first last = FoundRaced mode l expected found first last
