-- What the tests of a lock word say of what is taken off it.
use Rattle.std.proofs.Common.{◌≡◌, ℕ, zero, suc, ◌+◌, ◌<◌, ◌≤◌, ◌⊎◌, Bool, true, false, cond, pos, ◌+ℤ◌, ◌-ℤ◌, arith}
use Rattle.std.specs.Prelude.{nat_lt, neg_ℤ}
use Rattle.std.specs.Ordering.{int_eq}
use Rattle.std.proofs.lemmas.Int.{ints}
use Rattle.std.proofs.lemmas.Bool.Decides.{nat_tests}
use Rattle.ib_word.specs.declared.word.TheConstants.{X_LOCK_DECR, X_LOCK_HALF_DECR}
use Rattle.ib_word.specs.Word.{word_less, is_drained}
use Rattle.ib_core.specs.Responses.{is_above_0, is_above_half}
use Rattle.ib_core.specs.Table.{owns_x_at}
use Rattle.ib_word.specs.Weight.{sx_weight}

pub above_0 : (t : ℕ) → is_above_0 (word_less t) ≡ true → t < X_LOCK_DECR
above_0 t is = grind (arith, ints)

pub not_above_0 : (t : ℕ) → is_above_0 (word_less t) ≡ false → X_LOCK_DECR ≤ t
not_above_0 t is = grind (arith, ints)

pub above_half : (t : ℕ) → is_above_half (word_less t) ≡ true → t < X_LOCK_HALF_DECR
above_half t is = grind (arith, ints)

pub not_above_half : (t : ℕ) → is_above_half (word_less t) ≡ false → X_LOCK_HALF_DECR ≤ t
not_above_half t is = grind (arith, ints)

pub more_taken : (t n : ℕ) → (word_less t -ℤ pos n) ≡ word_less (t + n)
more_taken t n = omega (arith, ints)

pub less_taken : (t n : ℕ) → (word_less (t + n) +ℤ pos n) ≡ word_less t
less_taken t n = omega (arith, ints)

pub drained : (t : ℕ) → is_drained (word_less t) ≡ true → (t ≡ X_LOCK_DECR) ⊎ (t ≡ X_LOCK_DECR + X_LOCK_HALF_DECR)
drained t is = grind (arith, ints)

pub not_drained : (t : ℕ) → is_drained (word_less t) ≡ false → (t ≡ X_LOCK_DECR) ⊎ (t ≡ X_LOCK_DECR + X_LOCK_HALF_DECR) → ⊥
not_drained t is at = grind (arith, ints)

-- the next writer with this many SX owns X exactly where its own grants are all that is taken
pub owns_x : (sx t : ℕ) → owns_x_at sx (word_less t) ≡ true → t ≡ sx_weight sx + X_LOCK_DECR
owns_x zero t is = grind (arith, ints, nat_tests)
owns_x (suc sx) t is = owns_with_sx t (nat_lt 0 (suc sx)) (grind (arith, nat_tests)) is
  where
    owns_with_sx : (t : ℕ) (b : Bool) → b ≡ true → cond b (int_eq (word_less t) (neg_ℤ (pos X_LOCK_HALF_DECR))) (int_eq (word_less t) (pos 0)) ≡ true → t ≡ X_LOCK_HALF_DECR + X_LOCK_DECR
    owns_with_sx t true with_sx e = grind (arith, ints)
    owns_with_sx t false with_sx e = absurd (cc)

pub not_owns_x : (sx t : ℕ) → owns_x_at sx (word_less t) ≡ false → t ≡ sx_weight sx + X_LOCK_DECR → ⊥
not_owns_x zero t is at = grind (arith, ints, nat_tests)
not_owns_x (suc sx) t is at = not_with_sx t (nat_lt 0 (suc sx)) (grind (arith, nat_tests)) is at
  where
    not_with_sx : (t : ℕ) (b : Bool) → b ≡ true → cond b (int_eq (word_less t) (neg_ℤ (pos X_LOCK_HALF_DECR))) (int_eq (word_less t) (pos 0)) ≡ false → t ≡ X_LOCK_HALF_DECR + X_LOCK_DECR → ⊥
    not_with_sx t true with_sx e at = grind (arith, ints)
    not_with_sx t false with_sx e at = absurd (cc)
