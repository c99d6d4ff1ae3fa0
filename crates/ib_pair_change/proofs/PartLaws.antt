-- A list in two parts.
use Rattle.std.specs.Prelude.{take}
use Rattle.std.proofs.Common.{◌≡◌, ℕ, suc, zero, List, [], ◌∷◌, ◌++◌, ◌∙◌, length, refl, ap, arith}

-- two ways to part a list at one place are one
pub parts-same : (xs ys fs bs : List ℕ) → xs ++ ys ≡ fs ++ bs → length xs ≡ length fs → (xs ≡ fs) × (ys ≡ bs)
parts-same [] ys [] bs e l = (refl, e)
parts-same [] ys (f ∷ fs) bs e l = cc
parts-same (x ∷ xs) ys [] bs e l = cc
parts-same (x ∷ xs) ys (f ∷ fs) bs e l =
    let first : x ≡ f = cc in
    let rest : xs ++ ys ≡ fs ++ bs = cc in
    let long : length xs ≡ length fs = omega arith in
    let r = parts-same xs ys fs bs rest long in
    (ap (λ n. n ∷ xs) first ∙ ap (λ ns. f ∷ ns) r.0, r.1)

-- all of a list
pub take-whole : (xs : List ℕ) (n : ℕ) → n ≡ length xs → take n xs ≡ xs
take-whole [] zero e = refl
take-whole [] (suc n) e = refl
take-whole (x ∷ xs) zero e = absurd (omega arith)
take-whole (x ∷ xs) (suc n) e = ap (λ ns. x ∷ ns) (take-whole xs n (omega arith))
