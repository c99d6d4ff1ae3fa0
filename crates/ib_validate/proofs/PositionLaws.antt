-- The positions and marks of a list, and what a write of the list does.
use Rattle.std.proofs.Common.{◌≡◌, ℕ, zero, suc, ◌<◌, ◌≤◌, ◌≢◌, Bool, true, false, List, [], ◌∷◌, ◌++◌, length, get_or, set, replicate, Option, Some, None, refl, sym, ap, ◌∙◌, arith, inl, inr}
use Rattle.std.proofs.lemmas.Bool.{cases_eq, cases_lt}
use Rattle.ib_validate.specs.declared.position.PagePosition.{PagePosition}
use Rattle.ib_walk.proofs.ChoiceLaws.{cond-eq, cond-ne}
use Rattle.ib_validate.specs.PatchTest.{Position, Positions, set_at, same_position}
use Rattle.ib_validate.specs.Positions.{position_if, positions_of, marks_of}

pub positions-same : (a b : Positions) → ((n : ℕ) → a n ≡ b n) → a ≡ b
positions-same a b e = λ i n. e n i

pub positions_of-at : (xs : List (Option PagePosition)) (i : ℕ) (d : Option PagePosition) → i < length xs → positions_of xs i ≡ position_if (get_or xs i d)
positions_of-at [] i d lt = absurd (omega arith)
positions_of-at (x ∷ xs) zero d lt = refl
positions_of-at (x ∷ xs) (suc i) d lt = positions_of-at xs i d (omega arith)

pub positions_of-past : (xs : List (Option PagePosition)) (i : ℕ) → length xs ≤ i → positions_of xs i ≡ None
positions_of-past [] i le = refl
positions_of-past (x ∷ xs) zero le = absurd (omega arith)
positions_of-past (x ∷ xs) (suc i) le = positions_of-past xs i (omega arith)

pub marks_of-at : (xs : List Bool) (i : ℕ) (d : Bool) → i < length xs → marks_of xs i ≡ get_or xs i d
marks_of-at [] i d lt = absurd (omega arith)
marks_of-at (x ∷ xs) zero d lt = refl
marks_of-at (x ∷ xs) (suc i) d lt = marks_of-at xs i d (omega arith)

pub marks_of-past : (xs : List Bool) (i : ℕ) → length xs ≤ i → marks_of xs i ≡ false
marks_of-past [] i le = refl
marks_of-past (x ∷ xs) zero le = absurd (omega arith)
marks_of-past (x ∷ xs) (suc i) le = marks_of-past xs i (omega arith)

positions_of-set-at : (xs : List (Option PagePosition)) (i : ℕ) (x : Option PagePosition) → i < length xs → (n : ℕ) → positions_of (set xs i x) n ≡ set_at (positions_of xs) i (position_if x) n
positions_of-set-at [] i x lt n = absurd (omega arith)
positions_of-set-at (y ∷ ys) zero x lt zero = refl
positions_of-set-at (y ∷ ys) zero x lt (suc n) = sym (cond-ne (suc n) 0 (position_if x) (positions_of ys n) (λ e. omega arith))
positions_of-set-at (y ∷ ys) (suc i) x lt zero = sym (cond-ne 0 (suc i) (position_if x) (position_if y) (λ e. omega arith))
positions_of-set-at (y ∷ ys) (suc i) x lt (suc n) =
    positions_of-set-at ys i x (omega arith) n ∙ elim (cases_eq n i) [
      | inl e ↦ cond-eq n i (position_if x) (positions_of ys n) e ∙ sym (cond-eq (suc n) (suc i) (position_if x) (positions_of ys n) (ap suc e))
      | inr ne ↦ cond-ne n i (position_if x) (positions_of ys n) ne ∙ sym (cond-ne (suc n) (suc i) (position_if x) (positions_of ys n) (λ e. ne (omega arith)))
    ]

pub positions_of-set : (xs : List (Option PagePosition)) (i : ℕ) (x : Option PagePosition) → i < length xs → positions_of (set xs i x) ≡ set_at (positions_of xs) i (position_if x)
positions_of-set xs i x lt = positions-same (positions_of (set xs i x)) (set_at (positions_of xs) i (position_if x)) (positions_of-set-at xs i x lt)

pub set_at-past : (xs : List (Option PagePosition)) (i : ℕ) → length xs ≤ i → set_at (positions_of xs) i None ≡ positions_of xs
set_at-past xs i le = positions-same (set_at (positions_of xs) i None) (positions_of xs) (λ n. elim (cases_eq n i) [
  | inl e ↦ cond-eq n i None (positions_of xs n) e ∙ sym (positions_of-past xs n (omega arith))
  | inr ne ↦ cond-ne n i None (positions_of xs n) ne
])

-- what is met, and what has a mark, is in the list
pub marks_of-within : (xs : List Bool) (i : ℕ) → marks_of xs i ≡ true → i < length xs
marks_of-within xs i e = elim (cases_lt i (length xs)) [ inl lt ↦ lt | inr le ↦ absurd (let x = marks_of-past xs i le in cc) ]

pub positions_of-within : (xs : List (Option PagePosition)) (i : ℕ) (e : Position) → positions_of xs i ≡ Some e → i < length xs
positions_of-within xs i e h = elim (cases_lt i (length xs)) [ inl lt ↦ lt | inr le ↦ absurd (let x = positions_of-past xs i le in cc) ]

pub same_position-within : (xs : List (Option PagePosition)) (i : ℕ) (e : Position) → same_position (positions_of xs i) e ≡ true → i < length xs
same_position-within xs i e h = elim (cases_lt i (length xs)) [ inl lt ↦ lt | inr le ↦ absurd (let x = sym (ap (λ o. same_position o e) (positions_of-past xs i le)) ∙ h in cc) ]

pub marks_of-set_same : (xs : List Bool) (i : ℕ) (b : Bool) → i < length xs → marks_of (set xs i b) i ≡ b
marks_of-set_same [] i b lt = absurd (omega arith)
marks_of-set_same (x ∷ xs) zero b lt = refl
marks_of-set_same (x ∷ xs) (suc i) b lt = marks_of-set_same xs i b (omega arith)

pub marks_of-set_other : (xs : List Bool) (i : ℕ) (b : Bool) (n : ℕ) → n ≢ i → marks_of (set xs i b) n ≡ marks_of xs n
marks_of-set_other [] i b n ne = refl
marks_of-set_other (x ∷ xs) zero b zero ne = absurd (ne refl)
marks_of-set_other (x ∷ xs) zero b (suc n) ne = refl
marks_of-set_other (x ∷ xs) (suc i) b zero ne = refl
marks_of-set_other (x ∷ xs) (suc i) b (suc n) ne = marks_of-set_other xs i b n (λ e. ne (ap suc e))

pub positions_of-set_same : (xs : List (Option PagePosition)) (i : ℕ) (x : Option PagePosition) → i < length xs → positions_of (set xs i x) i ≡ position_if x
positions_of-set_same xs i x lt = positions_of-set-at xs i x lt i ∙ cond-eq i i (position_if x) (positions_of xs i) refl

pub positions_of-set_other : (xs : List (Option PagePosition)) (i : ℕ) (x : Option PagePosition) (n : ℕ) → i < length xs → n ≢ i → positions_of (set xs i x) n ≡ positions_of xs n
positions_of-set_other xs i x n lt ne = positions_of-set-at xs i x lt n ∙ cond-ne n i (position_if x) (positions_of xs n) ne

-- no mark, and no position
pub marks_of-replicate : (n i : ℕ) → marks_of (replicate n false) i ≡ false
marks_of-replicate zero i = refl
marks_of-replicate (suc n) zero = refl
marks_of-replicate (suc n) (suc i) = marks_of-replicate n i

-- one more position
pub positions_of-push_before : (xs : List (Option PagePosition)) (x : Option PagePosition) (i : ℕ) → i < length xs → positions_of (xs ++ x ∷ []) i ≡ positions_of xs i
positions_of-push_before [] x i lt = absurd (omega arith)
positions_of-push_before (y ∷ ys) x zero lt = refl
positions_of-push_before (y ∷ ys) x (suc i) lt = positions_of-push_before ys x i (omega arith)

pub positions_of-push_at : (xs : List (Option PagePosition)) (x : Option PagePosition) (i : ℕ) → i ≡ length xs → positions_of (xs ++ x ∷ []) i ≡ position_if x
positions_of-push_at [] x zero e = refl
positions_of-push_at [] x (suc i) e = absurd (omega arith)
positions_of-push_at (y ∷ ys) x zero e = absurd (omega arith)
positions_of-push_at (y ∷ ys) x (suc i) e = positions_of-push_at ys x i (omega arith)
