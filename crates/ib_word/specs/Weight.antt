-- What grants take off a lock word.
use Rattle.std.specs.Prelude.{ℕ, zero, suc, ◌+◌, ◌*◌}
use Rattle.ib_word.specs.declared.word.TheConstants.{X_LOCK_DECR, X_LOCK_HALF_DECR}

-- what sx grants of SX take off: HALF for one and for many
abbrev pub sx_weight : ℕ → ℕ
sx_weight zero = 0
sx_weight (suc sx) = X_LOCK_HALF_DECR

-- what x grants of X take off: X_LOCK_DECR for each of the first two, and 1 for each further one
abbrev pub x_weight : ℕ → ℕ
x_weight zero = 0
x_weight (suc zero) = X_LOCK_DECR
x_weight (suc (suc more)) = 2 * X_LOCK_DECR + more

-- what s grants of S, sx of SX and x of X take off together
abbrev pub weight : ℕ → ℕ → ℕ → ℕ
weight s sx x = s + sx_weight sx + x_weight x
