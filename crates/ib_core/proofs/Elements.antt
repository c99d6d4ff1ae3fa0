-- Lists in which the element at one place changes, and sums over them.
use Rattle.std.proofs.Common.{◌≡◌, ◌≢◌, ℕ, zero, suc, ◌+◌, ◌<◌, ◌≤◌, List, [], ◌∷◌, ◌++◌, set, length, refl, sym, ap, ◌∙◌, subst, arith}
use Rattle.std.specs.List.{sum_by}
use Rattle.std.proofs.lemmas.List.Sums.{sum_by-cons}
use mathlib.Core.Option.{some, some-ne-none, some-injective}
use lib.ListN.{get_elem?}

module _ {A : Type 0} (f : A → ℕ) where
  pub sum_at : (xs : List A) (i : ℕ) (v w : A) → get_elem? xs i ≡ some v → sum_by f (set xs i w) + f v ≡ sum_by f xs + f w
  sum_at [] i v w e = absurd (some-ne-none v (sym e))
  sum_at (x ∷ xs) zero v w e =
      let p : f x ≡ f v = ap f (some-injective x v e) in
      let a = sum_by-cons f x xs in let b = sum_by-cons f w xs in omega arith
  sum_at (x ∷ xs) (suc i) v w e =
      let a = sum_by-cons f x xs in let b = sum_by-cons f x (set xs i w) in let h = sum_at xs i v w e in omega arith

  pub one_of : (xs : List A) (i : ℕ) (v : A) → get_elem? xs i ≡ some v → f v ≤ sum_by f xs
  one_of [] i v e = absurd (some-ne-none v (sym e))
  one_of (x ∷ xs) zero v e = let p : f x ≡ f v = ap f (some-injective x v e) in let a = sum_by-cons f x xs in omega arith
  one_of (x ∷ xs) (suc i) v e = let a = sum_by-cons f x xs in let h = one_of xs i v e in omega arith

  pub two_of : (xs : List A) (i j : ℕ) (v w : A) → get_elem? xs i ≡ some v → get_elem? xs j ≡ some w → i ≢ j → f v + f w ≤ sum_by f xs
  two_of [] i j v w e d n = absurd (some-ne-none v (sym e))
  two_of (x ∷ xs) zero zero v w e d n = absurd (n refl)
  two_of (x ∷ xs) zero (suc j) v w e d n =
      let p : f x ≡ f v = ap f (some-injective x v e) in let a = sum_by-cons f x xs in let h = one_of xs j w d in omega arith
  two_of (x ∷ xs) (suc i) zero v w e d n =
      let p : f x ≡ f w = ap f (some-injective x w d) in let a = sum_by-cons f x xs in let h = one_of xs i v e in omega arith
  two_of (x ∷ xs) (suc i) (suc j) v w e d n =
      let a = sum_by-cons f x xs in let h = two_of xs i j v w e d (λ q. n (ap suc q)) in omega arith

  pub all_zero : (xs : List A) → ((i : ℕ) (v : A) → get_elem? xs i ≡ some v → f v ≡ 0) → sum_by f xs ≡ 0
  all_zero [] z = refl
  all_zero (x ∷ xs) z =
      let a = sum_by-cons f x xs in let h = all_zero xs (λ i v e. z (suc i) v e) in let p : f x ≡ 0 = z zero x refl in omega arith

  pub only_one : (xs : List A) (j : ℕ) (w : A) → get_elem? xs j ≡ some w → ((i : ℕ) (v : A) → get_elem? xs i ≡ some v → i ≢ j → f v ≡ 0) → sum_by f xs ≡ f w
  only_one [] j w e z = absurd (some-ne-none w (sym e))
  only_one (x ∷ xs) zero w e z =
      let a = sum_by-cons f x xs in
      let h = all_zero xs (λ i v d. z (suc i) v d (λ q. omega arith)) in
      let p : f x ≡ f w = ap f (some-injective x w e) in omega arith
  only_one (x ∷ xs) (suc j) w e z =
      let a = sum_by-cons f x xs in
      let h = only_one xs j w e (λ i v d n. z (suc i) v d (λ q. n (omega arith))) in
      let p : f x ≡ 0 = z zero x refl (λ q. omega arith) in omega arith

  pub sum_more : (g : A → ℕ) (xs : List A) → ((i : ℕ) (v : A) → get_elem? xs i ≡ some v → f v ≤ g v) → sum_by f xs ≤ sum_by g xs
  sum_more g [] m = omega arith
  sum_more g (x ∷ xs) m =
      let a = sum_by-cons f x xs in let b = sum_by-cons g x xs in
      let h = sum_more g xs (λ i v e. m (suc i) v e) in let p : f x ≤ g x = m zero x refl in omega arith

module _ {A : Type 0} where
  -- what stands at j after a change at i
  pub at_set : (P : ℕ → A → Type 0) (xs : List A) (i : ℕ) (a : A) → P i a → ((j : ℕ) (b : A) → get_elem? xs j ≡ some b → i ≢ j → P j b)
      → (j : ℕ) (b : A) → get_elem? (set xs i a) j ≡ some b → P j b
  at_set P [] i a mine others j b e = absurd (some-ne-none b (sym e))
  at_set P (x ∷ xs) zero a mine others zero b e = subst (P zero) (some-injective a b e) mine
  at_set P (x ∷ xs) zero a mine others (suc j) b e = others (suc j) b e (λ q. omega arith)
  at_set P (x ∷ xs) (suc i) a mine others zero b e = others zero b e (λ q. omega arith)
  at_set P (x ∷ xs) (suc i) a mine others (suc j) b e = at_set (λ k c. P (suc k) c) xs i a mine (λ k c d n. others (suc k) c d (λ q. n (omega arith))) j b e

  pub set_here : (xs : List A) (i : ℕ) (a b : A) → get_elem? xs i ≡ some a → get_elem? (set xs i b) i ≡ some b
  set_here [] i a b e = absurd (some-ne-none a (sym e))
  set_here (x ∷ xs) zero a b e = refl
  set_here (x ∷ xs) (suc i) a b e = set_here xs i a b e

  pub set_else : (xs : List A) (i j : ℕ) (a : A) → i ≢ j → get_elem? (set xs i a) j ≡ get_elem? xs j
  set_else [] i j a n = refl
  set_else (x ∷ xs) zero zero a n = absurd (n refl)
  set_else (x ∷ xs) zero (suc j) a n = refl
  set_else (x ∷ xs) (suc i) zero a n = refl
  set_else (x ∷ xs) (suc i) (suc j) a n = set_else xs i j a (λ e. n (ap suc e))

  -- one list has one thing at a place
  pub same_at : (xs : List A) (i : ℕ) (a b : A) → get_elem? xs i ≡ some a → get_elem? xs i ≡ some b → a ≡ b
  same_at xs i a b e d = some-injective a b (sym e ∙ d)

  pub set_again : (xs : List A) (i : ℕ) (a : A) → get_elem? xs i ≡ some a → set xs i a ≡ xs
  set_again [] i a e = refl
  set_again (x ∷ xs) zero a e = λ k. sym (some-injective x a e) k ∷ xs
  set_again (x ∷ xs) (suc i) a e = λ k. x ∷ set_again xs i a e k

  pub at_snoc : (P : ℕ → A → Type 0) (xs : List A) (a : A) → P (length xs) a → ((j : ℕ) (b : A) → get_elem? xs j ≡ some b → P j b) → (j : ℕ) (b : A) → get_elem? (xs ++ a ∷ []) j ≡ some b → P j b
  at_snoc P [] a mine others zero b e = subst (P zero) (some-injective a b e) mine
  at_snoc P [] a mine others (suc j) b e = absurd (some-ne-none b (sym e))
  at_snoc P (x ∷ xs) a mine others zero b e = others zero b e
  at_snoc P (x ∷ xs) a mine others (suc j) b e = at_snoc (λ k c. P (suc k) c) xs a mine (λ k c d. others (suc k) c d) j b e

  pub at_longer : (xs ys : List A) (i : ℕ) (a : A) → get_elem? xs i ≡ some a → get_elem? (xs ++ ys) i ≡ some a
  at_longer [] ys i a e = absurd (some-ne-none a (sym e))
  at_longer (x ∷ xs) ys zero a e = e
  at_longer (x ∷ xs) ys (suc i) a e = at_longer xs ys i a e

  pub at_below : (xs : List A) (i : ℕ) (a : A) → get_elem? xs i ≡ some a → i < length xs
  at_below [] i a e = absurd (some-ne-none a (sym e))
  at_below (x ∷ xs) zero a e = omega arith
  at_below (x ∷ xs) (suc i) a e = let h = at_below xs i a e in omega arith
