-- What the comparison of two numbers answers, test by test.
use Rattle.std.proofs.Common.{◌≡◌, ℕ, ◌<◌, not, refl, sym, arith, leb, eqb, inl, inr}
use Rattle.std.specs.Ordering.{nat_cmp, is_eq, is_le, is_lt}
use Rattle.std.specs.declared.cmp.Ordering.TheVariants.{Less}
use Rattle.std.proofs.lemmas.Bool.{cases_lt, cases_eq, lt-ltb, le-ltb, eq-eqb, ne_eqb, lt-leb, le-leb}
use Rattle.std.proofs.lemmas.Cmp.{ranked}

pub lt-from_Less : (m n : ℕ) → nat_cmp m n ≡ Less → m < n
lt-from_Less m n less = ranked m n Less (sym less)

pub is_eq-same : (m n : ℕ) → is_eq (nat_cmp m n) ≡ eqb n m
is_eq-same m n = elim (cases_lt m n) [
  | inl lt ↦ rw (lt-ltb m n lt, ne_eqb n m (λ e. omega arith)) refl
  | inr ge ↦ elim (cases_eq m n) [
    | inl e ↦ rw (le-ltb m n ge, eq-eqb m n e, eq-eqb n m (sym e)) refl
    | inr ne ↦ rw (le-ltb m n ge, ne_eqb m n ne, ne_eqb n m (λ e. ne (sym e))) refl
  ]
]

pub is_le-same : (m n : ℕ) → is_le (nat_cmp m n) ≡ leb m n
is_le-same m n = elim (cases_lt m n) [
  | inl lt ↦ rw (lt-ltb m n lt, le-leb m n (omega arith)) refl
  | inr ge ↦ elim (cases_eq m n) [
    | inl e ↦ rw (le-ltb m n ge, eq-eqb m n e, le-leb m n (omega arith)) refl
    | inr ne ↦ rw (le-ltb m n ge, ne_eqb m n ne, lt-leb m n (omega (arith, ne))) refl
  ]
]

pub not_is_lt-same : (m n : ℕ) → not (is_lt (nat_cmp m n)) ≡ leb n m
not_is_lt-same m n = elim (cases_lt m n) [
  | inl lt ↦ rw (lt-ltb m n lt, lt-leb n m lt) refl
  | inr ge ↦ elim (cases_eq m n) [
    | inl e ↦ rw (le-ltb m n ge, eq-eqb m n e, le-leb n m ge) refl
    | inr ne ↦ rw (le-ltb m n ge, ne_eqb m n ne, le-leb n m ge) refl
  ]
]
