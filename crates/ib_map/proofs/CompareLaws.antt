-- The order of keys is that of their pairs of words.
use Rattle.std.proofs.Common.{◌≡◌, ℕ, ◌<◌, ◌⊎◌, ◌↔◌, true, arith, inl, inr}
use Rattle.std.proofs.lemmas.Bool.{cases_lt, cases_eq}
use Rattle.ib_map.specs.KeyWords.{is_key_words}
use Rattle.ib_map.specs.Keys.{MapKey, rank, key_in}
use Rattle.ib_map.proofs.KeyLaws.{AreWords-from, key_second, rank-key_in}

-- the first words decide where they differ
pub first_below : (first second : ℕ) (key : MapKey) → is_key_words first second ≡ true → first < key.first → rank (key_in first second) < rank key
unfolding rank
first_below first second key is lt = rw (rank-key_in first second is) (omega (arith, (AreWords-from first second is).second))

pub first_above : (first second : ℕ) (key : MapKey) → is_key_words first second ≡ true → key.first < first → rank key < rank (key_in first second)
unfolding rank
first_above first second key is gt = rw (rank-key_in first second is) (omega (arith, key_second key))

-- .. and the second ones where they do not
pub second_below : (first second : ℕ) (key : MapKey) → is_key_words first second ≡ true → first ≡ key.first → second < key.second → rank (key_in first second) < rank key
unfolding rank
second_below first second key is same lt = rw (rank-key_in first second is) (omega arith)

pub second_above : (first second : ℕ) (key : MapKey) → is_key_words first second ≡ true → first ≡ key.first → key.second < second → rank key < rank (key_in first second)
unfolding rank
second_above first second key is same gt = rw (rank-key_in first second is) (omega arith)

-- so the lower pair is that of the lower key
pub rank-pairs : (a b : MapKey) → (rank a < rank b) ↔ ((a.first < b.first) ⊎ ((a.first ≡ b.first) × (a.second < b.second)))
unfolding rank
rank-pairs a b = (
  λ lt. elim (cases_lt a.first b.first) [
    | inl below ↦ inl below
    | inr from ↦ elim (cases_eq a.first b.first) [
      | inl same ↦ inr (same, omega arith)
      | inr differ ↦ absurd (omega (arith, key_second a, key_second b))
    ]
  ],
  λ pair. elim pair [
    | inl below ↦ omega (arith, key_second a, key_second b)
    | inr both ↦ let same = both.0 in let lt = both.1 in omega arith
  ],
)
