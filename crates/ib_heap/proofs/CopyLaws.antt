-- The records between two keys, one after another.
use Rattle.std.proofs.Common.{◌≡◌, ℕ, zero, suc, ◌+◌, ◌<◌, ◌≤◌, true, false, cond, ◌∙◌, [], ◌∷◌, ◌++◌, List, Some, slice_get, length, take, drop, set, refl, ap, arith, inl, inr, append-nil}
use Rattle.std.proofs.lemmas.Option.{slice_get_within, get_or_from_slice_get}
use Rattle.std.proofs.lemmas.List.{take_more}
use Rattle.std.proofs.lemmas.Bool.{cases_lt}
use Rattle.ib_map.specs.Keys.{MapKey, rank}
use Rattle.ib_map.specs.Pairs.{Pairs, cut}
use Rattle.ib_map.proofs.CutLaws.{is_within, is_within-inside, is_within-below, is_within-above, cut-append}

pub length-cut : (xs : Pairs) (low high : MapKey) → length (cut xs low high) ≤ length xs
length-cut [] low high = omega arith
length-cut (x ∷ xs) low high =
    let rest = length-cut xs low high in
    elim (is_within low high x) as (λ b. length (cond b (x ∷ cut xs low high) (cut xs low high)) ≤ length (x ∷ xs)) [ true ↦ omega arith | false ↦ omega arith ]

take-one_more : (xs : Pairs) (i : ℕ) (r : MapKey × ℕ) → slice_get xs i ≡ Some r → take (i + 1) xs ≡ take i xs ++ r ∷ []
take-one_more xs i r at = take_more xs i r (slice_get_within xs i r at) ∙ ap (λ (y : MapKey × ℕ). take i xs ++ y ∷ []) (get_or_from_slice_get xs i r r at)

-- a record that lies between the keys, and one that does not
pub cut_inside : (xs : Pairs) (low high : MapKey) (i : ℕ) (r : MapKey × ℕ) → slice_get xs i ≡ Some r → (rank low ≤ rank r.0) × (rank r.0 ≤ rank high) → cut (take (i + 1) xs) low high ≡ cut (take i xs) low high ++ r ∷ []
cut_inside xs low high i r at within =
    ap (λ ys. cut ys low high) (take-one_more xs i r at)
    ∙ (cut-append (take i xs) (r ∷ []) low high ∙ ap (λ b. cut (take i xs) low high ++ cond b (r ∷ []) []) (is_within-inside low high r within.0 within.1))

pub cut_outside : (xs : Pairs) (low high : MapKey) (i : ℕ) (r : MapKey × ℕ) → slice_get xs i ≡ Some r → ((rank low ≤ rank r.0) × (rank r.0 ≤ rank high) → ⊥) → cut (take (i + 1) xs) low high ≡ cut (take i xs) low high
cut_outside xs low high i r at outside =
    ap (λ ys. cut ys low high) (take-one_more xs i r at)
    ∙ (cut-append (take i xs) (r ∷ []) low high ∙ (ap (λ b. cut (take i xs) low high ++ cond b (r ∷ []) []) none ∙ append-nil (cut (take i xs) low high)))
  where
    none : is_within low high r ≡ false
    none = elim (cases_lt (rank r.0) (rank low)) [
      | inl below ↦ is_within-below low high r below
      | inr above ↦ elim (cases_lt (rank high) (rank r.0)) [
        | inl over ↦ is_within-above low high r over
        | inr within ↦ absurd (outside (above, within))
      ]
    ]

-- one more element behind those that were put in front
pub set_next : {X : Type 0} (front out : List X) (n : ℕ) (r : X) → length front ≡ n → n < length out → set (front ++ drop n out) n r ≡ (front ++ r ∷ []) ++ drop (n + 1) out
set_next [] [] n r long lt = absurd (omega arith)
set_next [] (y ∷ ys) zero r long lt = refl
set_next [] (y ∷ ys) (suc n) r long lt = absurd (omega arith)
set_next (x ∷ xs) [] n r long lt = absurd (omega arith)
set_next (x ∷ xs) (y ∷ ys) zero r long lt = absurd (omega arith)
set_next (x ∷ xs) (y ∷ ys) (suc n) r long lt =
    ap (λ zs. x ∷ zs) (set_next xs ys n r (omega arith) (omega arith))
    ∙ ap (λ k. (x ∷ (xs ++ r ∷ [])) ++ drop k (y ∷ ys)) (let e : suc (n + 1) ≡ suc n + 1 = omega arith in e)
