-- Laws of the equation of the lock word, for this crate and those above it.
use Rattle.std.proofs.Common.{◌≡◌, ◌↔◌, ℕ, zero, suc, ◌+◌, ◌*◌, ◌<◌, ◌≤◌, ◌⊎◌, inl, inr, refl, arith}
use Rattle.std.proofs.lemmas.Int.{ints}
use Rattle.ib_word.specs.declared.word.TheConstants.{X_LOCK_DECR, X_LOCK_HALF_DECR, WORD_BIAS}
use Rattle.ib_word.specs.Weight.{sx_weight, x_weight, weight}
use Rattle.ib_word.specs.Word.{IsWithin, SameCounts, word_of}

-- SX takes off nothing or HALF
pub sx_weight_cases : (sx : ℕ) → ((sx ≡ 0) × (sx_weight sx ≡ 0)) ⊎ ((0 < sx) × (sx_weight sx ≡ X_LOCK_HALF_DECR))
sx_weight_cases zero = inl (refl, refl)
sx_weight_cases (suc sx) = inr (omega arith, refl)

-- X takes off nothing, X_LOCK_DECR once, or it twice and 1 for each grant after the second
pub x_weight_cases : (x : ℕ) → ((x ≡ 0) × (x_weight x ≡ 0)) ⊎ (((x ≡ 1) × (x_weight x ≡ X_LOCK_DECR)) ⊎ ((1 < x) × (x_weight x + 2 ≡ 2 * X_LOCK_DECR + x)))
x_weight_cases zero = inl (refl, refl)
x_weight_cases (suc zero) = inr (inl (refl, refl))
x_weight_cases (suc (suc more)) = inr (inr (omega arith, omega arith))

-- who has X, or is the next writer, takes off X_LOCK_DECR at least
pub x_weight_least : (x : ℕ) → 0 < x → X_LOCK_DECR ≤ x_weight x
x_weight_least x has = let a = x_weight_cases x in grind arith

-- who has SX or X takes off HALF at least
pub claim_least : (sx x : ℕ) → 0 < sx + x → X_LOCK_HALF_DECR ≤ sx_weight sx + x_weight x
claim_least sx x has = let a = sx_weight_cases sx in let b = x_weight_cases x in grind arith

-- who has neither takes off what it reads
pub weight-reader : (s sx x : ℕ) → sx + x ≡ 0 → weight s sx x ≡ s
weight-reader s sx x none = let a = sx_weight_cases sx in let b = x_weight_cases x in grind arith

-- what two sessions take off together, of which one at most has SX and one at most has X
pub weight-add : (s sx x s' sx' x' : ℕ) → (sx ≡ 0) ⊎ (sx' ≡ 0) → (x ≡ 0) ⊎ (x' ≡ 0) → weight (s + s') (sx + sx') (x + x') ≡ weight s sx x + weight s' sx' x'
weight-add s sx x s' sx' x' one_sx one_x =
    let a = sx_weight_cases sx in let b = sx_weight_cases sx' in let c = sx_weight_cases (sx + sx') in
    let d = x_weight_cases x in let e = x_weight_cases x' in let f = x_weight_cases (x + x') in grind arith

-- S is grantable exactly where nobody has X
pub weight_below_full : (s sx x : ℕ) → IsWithin s sx x → (weight s sx x < X_LOCK_DECR) ↔ (x ≡ 0)
weight_below_full s sx x within = let a = sx_weight_cases sx in let b = x_weight_cases x in (λ below. grind arith, λ none. grind arith)

-- SX and X are grantable to a newcomer exactly where nobody has either
pub weight_below_half : (s sx x : ℕ) → IsWithin s sx x → (weight s sx x < X_LOCK_HALF_DECR) ↔ ((sx ≡ 0) × (x ≡ 0))
weight_below_half s sx x within = let a = sx_weight_cases sx in let b = x_weight_cases x in (λ below. (grind arith, grind arith), λ none. grind arith)

-- the words 0 and minus HALF are those of one X with no reader beside it
pub weight_drained : (s sx x : ℕ) → IsWithin s sx x → ((weight s sx x ≡ X_LOCK_DECR) ⊎ (weight s sx x ≡ X_LOCK_DECR + X_LOCK_HALF_DECR)) ↔ ((s ≡ 0) × (x ≡ 1))
weight_drained s sx x within = let a = sx_weight_cases sx in let b = x_weight_cases x in (λ is. (grind arith, grind arith), λ alone. grind arith)

-- no cell is negative, so no taking wraps
pub weight_bound : (s sx x : ℕ) → IsWithin s sx x → weight s sx x < WORD_BIAS
weight_bound s sx x within = let a = sx_weight_cases sx in let b = x_weight_cases x in grind arith

-- counts that a latch can have are told by what they take off
pub weight_unique : (s sx x s' sx' x' : ℕ) → IsWithin s sx x → IsWithin s' sx' x' → weight s sx x ≡ weight s' sx' x' → SameCounts s sx x s' sx' x'
weight_unique s sx x s' sx' x' within within' same =
    let a = sx_weight_cases sx in let b = sx_weight_cases sx' in let c = x_weight_cases x in let d = x_weight_cases x' in
    record { readers = grind arith; owned = (λ (has : 0 < sx). grind arith, λ (has : 0 < sx'). grind arith); grants = grind arith }

-- .. and so by the word
pub counts_unique : (s sx x s' sx' x' : ℕ) → IsWithin s sx x → IsWithin s' sx' x' → word_of s sx x ≡ word_of s' sx' x' → SameCounts s sx x s' sx' x'
counts_unique s sx x s' sx' x' within within' same = weight_unique s sx x s' sx' x' within within' (omega (arith, ints))
