-- Laws that lead between a lock word and its cell of the shared table.
use Rattle.std.proofs.Common.{◌≡◌, ℕ, ◌+◌, ◌≤◌, ℤ, pos, negsuc, ◌+ℤ◌, ◌≤ℤ◌, arith}
use Rattle.std.proofs.lemmas.Int.{ints}
use Rattle.ib_word.specs.declared.word.TheConstants.{X_LOCK_DECR, WORD_BIAS}
use Rattle.ib_word.specs.Word.{word_less, cell_of, word_in, IsCell}

pub cell_of-word_in : (cell : ℕ) → cell_of (word_in cell) ≡ cell
cell_of-word_in cell = grind (arith, ints)

-- at a word of 32 bits
pub word_in-cell_of : (w : ℤ) → pos 0 ≤ℤ (w +ℤ pos WORD_BIAS) → word_in (cell_of w) ≡ w
word_in-cell_of (pos n) fits = omega (arith, ints)
word_in-cell_of (negsuc n) fits = omega (arith, ints)

-- a cell that the equation gives holds the word that the equation gives
pub word_in-cell : (taken cell : ℕ) → IsCell taken cell → word_in cell ≡ word_less taken
word_in-cell taken cell is = omega (arith, ints)

-- and the other way round
pub IsCell-from_word : (taken cell : ℕ) → word_in cell ≡ word_less taken → IsCell taken cell
IsCell-from_word taken cell is = omega (arith, ints)

-- the cell of a word that the equation gives
pub IsCell-cell_of : (taken : ℕ) → taken ≤ WORD_BIAS + X_LOCK_DECR → IsCell taken (cell_of (word_less taken))
IsCell-cell_of taken fits = grind (arith, ints)

-- one cell holds one word
pub IsCell-unique : (taken cell cell' : ℕ) → IsCell taken cell → IsCell taken cell' → cell ≡ cell'
IsCell-unique taken cell cell' is is' = omega arith
