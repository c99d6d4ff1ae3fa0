-- The twelve states of a lock word, as a function of its counts.
use Rattle.std.specs.Prelude.{ℕ, zero, suc}
use Rattle.ib_word.specs.declared.state.WordState.{WordState}
use Rattle.ib_word.specs.declared.state.WordState.TheVariants.{Free, Readers, Sx, SxReaders, X, NextReaders, XSx, NextSxReaders, X2, Xn, X2Sx, XnSx}

-- the state of s readers, sx grants of SX and x grants of X. Beside a second X nobody reads
abbrev pub word_state_of : ℕ → ℕ → ℕ → WordState
word_state_of zero zero zero = Free
word_state_of (suc s) zero zero = Readers (suc s)
word_state_of zero (suc sx) zero = Sx
word_state_of (suc s) (suc sx) zero = SxReaders (suc s)
word_state_of zero zero (suc zero) = X
word_state_of (suc s) zero (suc zero) = NextReaders (suc s)
word_state_of zero (suc sx) (suc zero) = XSx
word_state_of (suc s) (suc sx) (suc zero) = NextSxReaders (suc s)
word_state_of s zero (suc (suc zero)) = X2
word_state_of s (suc sx) (suc (suc zero)) = X2Sx
word_state_of s zero (suc (suc (suc x))) = Xn (suc (suc (suc x)))
word_state_of s (suc sx) (suc (suc (suc x))) = XnSx (suc (suc (suc x)))
