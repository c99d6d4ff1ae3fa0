-- Lists of records: their bounds, their first rank, and the two halves of one.
use Rattle.std.proofs.Common.{◌≡◌, ℕ, zero, suc, ◌+◌, ◌<◌, ◌≤◌, true, false, cond, [], ◌∷◌, ◌++◌, length, take, drop, refl, ap, arith, eqb}
use Rattle.ib_map.specs.Keys.{MapKey, rank}
use Rattle.ib_map.specs.Pairs.{Pairs, Rises, without, first_rank}
use Rattle.ib_map.proofs.RiseLaws.{Rises-le}

-- a list rises from any bound that its first rank keeps
pub Rises-from : (low mid : ℕ) (xs : Pairs) (high : ℕ) → Rises low xs high → mid ≤ first_rank xs high → Rises mid xs high
Rises-from low mid [] high h le = le
Rises-from low mid (x ∷ xs) high h le = (le, h.1)

-- what rises within two pairs of bounds rises from the lower one of the first to the upper one of the second
pub Rises-between : (a b c d : ℕ) (xs : Pairs) → Rises a xs b → Rises c xs d → a ≤ d → Rises a xs d
Rises-between a b c d [] h k le = le
Rises-between a b c d (x ∷ xs) h k le = (h.0, k.1)

-- the bounds of a list with a record lie apart
pub Rises-apart : (low : ℕ) (xs : Pairs) (high : ℕ) → Rises low xs high → 0 < length xs → low < high
Rises-apart low [] high h some = absurd (omega arith)
Rises-apart low (x ∷ xs) high h some = let rest = Rises-le (rank x.0 + 1) xs high h.1 in omega arith

-- the first rank is that of the first record, whatever stands behind it and wherever the range ends
pub first_rank-some : (xs : Pairs) (a b : ℕ) → 0 < length xs → first_rank xs a ≡ first_rank xs b
first_rank-some [] a b some = absurd (omega arith)
first_rank-some (x ∷ xs) a b some = refl

pub first_rank-left : (xs ys : Pairs) (a b : ℕ) → 0 < length xs → first_rank (xs ++ ys) a ≡ first_rank xs b
first_rank-left [] ys a b some = absurd (omega arith)
first_rank-left (x ∷ xs) ys a b some = refl

pub first_rank-middle : (xs : Pairs) (x : MapKey × ℕ) (a b : Pairs) (high : ℕ) → first_rank (xs ++ x ∷ a) high ≡ first_rank (xs ++ x ∷ b) high
first_rank-middle [] x a b high = refl
first_rank-middle (y ∷ xs) x a b high = refl

-- a rank below the first one of a range and below another end is below the first one of the range that ends there
pub first_rank-above : (xs : Pairs) (a b n : ℕ) → n < first_rank xs a → n < b → n + 1 ≤ first_rank xs b
first_rank-above [] a b n h k = omega arith
first_rank-above (x ∷ xs) a b n h k = omega arith

-- a list with a record has one still when others stand beside it
pub length-left : (xs ys : Pairs) → 0 < length xs → 0 < length (xs ++ ys)
length-left [] ys some = absurd (omega arith)
length-left (x ∷ xs) ys some = omega arith

pub length-middle : (xs : Pairs) (x : MapKey × ℕ) (ys : Pairs) → 0 < length (xs ++ x ∷ ys)
length-middle [] x ys = omega arith
length-middle (y ∷ xs) x ys = omega arith

-- without a key a list is no longer than before
pub length-without_le : (key : MapKey) (xs : Pairs) → length (without key xs) ≤ length xs
length-without_le key [] = omega arith
length-without_le key (x ∷ xs) = let rest = length-without_le key xs in
    elim (eqb (rank x.0) (rank key)) as (λ b. length (cond b xs (x ∷ without key xs)) ≤ length (x ∷ xs)) [ true ↦ omega arith | false ↦ omega arith ]

-- the first n records of a longer list, and those behind them
pub record Halves (n : ℕ) (xs : Pairs) : Type 0 where
  pub first : MapKey × ℕ
  pub rest : Pairs
  pub right : drop n xs ≡ first ∷ rest
  pub both : xs ≡ take n xs ++ first ∷ rest
  pub left : length (take n xs) ≡ n
  pub count : length (first ∷ rest) + n ≡ length xs

pub Halves-of : (n : ℕ) (xs : Pairs) → n < length xs → Halves n xs
Halves-of zero [] h = absurd (omega arith)
Halves-of zero (x ∷ xs) h = record { first = x; rest = xs; right = refl; both = refl; left = refl; count = omega arith }
Halves-of (suc n) [] h = absurd (omega arith)
Halves-of (suc n) (x ∷ xs) h = let r = Halves-of n xs (omega arith) in
    record { first = r.first; rest = r.rest; right = r.right; both = ap (λ zs. x ∷ zs) r.both; left = let e = r.left in omega arith; count = let e = r.count in omega arith }
