-- The equation of the lock word over its counts, and the word as a cell of the shared table.
use Rattle.std.specs.Prelude.{◌≡◌, ◌↔◌, ℕ, suc, ◌+◌, ◌-◌, ◌<◌, ◌≤◌, Bool, ◌||◌, ℤ, pos, negsuc, neg_ℤ, ◌-ℤ◌}
use Rattle.std.specs.Ordering.{int_eq}
use Rattle.ib_word.specs.declared.word.TheConstants.{X_LOCK_DECR, X_LOCK_HALF_DECR, WORD_BIAS, MOST_READERS, MOST_X}
use Rattle.ib_word.specs.Weight.{weight}

-- the word of a latch off which this much was taken
abbrev pub word_less : ℕ → ℤ
word_less taken = pos X_LOCK_DECR -ℤ pos taken

-- the equation: the word of a latch with s readers, sx grants of SX and x grants of X. A next
-- writer counts as one X
abbrev pub word_of : ℕ → ℕ → ℕ → ℤ
word_of s sx x = word_less (weight s sx x)

-- a next writer owns X at the word, which is 0 or minus HALF: no reader is left
abbrev pub is_drained : ℤ → Bool
is_drained w = int_eq w (pos 0) || int_eq w (neg_ℤ (pos X_LOCK_HALF_DECR))

-- the counts that a latch can have: a session reads once at most, and nobody reads beside a
-- second X
pub record IsWithin (s sx x : ℕ) : Type 0 where
  pub few_readers : s ≤ MOST_READERS
  pub few_grants : x ≤ MOST_X
  pub alone : 1 < x → s ≡ 0

-- the cell of a word: WORD_BIAS added, so that no cell is negative
abbrev pub cell_of : ℤ → ℕ
cell_of (pos n) = WORD_BIAS + n
cell_of (negsuc n) = WORD_BIAS - suc n

-- the word of a cell
abbrev pub word_in : ℕ → ℤ
word_in cell = pos cell -ℤ pos WORD_BIAS

-- the equation in numbers that are never negative: the cell and all that was taken off are the
-- cell of the free word
abbrev pub IsCell : ℕ → ℕ → Type 0
IsCell taken cell = cell + taken ≡ WORD_BIAS + X_LOCK_DECR

-- it is the word of counts that a latch can have
pub record IsCounted (w : ℤ) : Type 0 where
  pub s : ℕ
  pub sx : ℕ
  pub x : ℕ
  pub within : IsWithin s sx x
  pub is : w ≡ word_of s sx x

-- the counts are the same, of SX as far as the word knows it: owned or not
pub record SameCounts (s sx x s' sx' x' : ℕ) : Type 0 where
  pub readers : s ≡ s'
  pub owned : 0 < sx ↔ 0 < sx'
  pub grants : x ≡ x'
