-- The pairs of a range, and a page's records beside them one by one.
use Rattle.std.proofs.Common.{◌≡◌, ◌↔◌, ℕ, zero, suc, ◌+◌, ◌<◌, ◌≤◌, Bool, true, false, IsTrue, cond, ◌&&◌, [], ◌∷◌, length, drop, drop_of_length-le, length-drop, Some, refl, sym, ap, ◌∙◌, arith, inl, inr, leb, ltb, nat_eq}
use Rattle.std.specs.Prelude.{filter}
use Rattle.std.specs.List.{slice_get}
use Rattle.std.proofs.lemmas.Bool.{cases_Bool, cond-true, cond-false, lt-ltb, le-ltb, ltb-true, le-leb, eq-eqb, eqb-true}
use Rattle.ib_map.specs.Keys.{MapKey, rank}
use Rattle.ib_map.specs.Pairs.{Pairs, cut}
use Rattle.ib_validate.specs.Patch.{slice}
use Rattle.ib_validate.specs.Contents.{pairs_inside}
use Rattle.ib_validate.proofs.ChildLaws.{drop-slice_get}

filter-cond : (p : MapKey × ℕ → Bool) (x : MapKey × ℕ) (ys : Pairs) (a b : Bool) → (p x ≡ true → b ≡ true) → filter p (cond (a && b) (x ∷ ys) ys) ≡ cond (a && p x) (x ∷ filter p ys) (filter p ys)
filter-cond p x ys false b h = refl
filter-cond p x ys true true h = refl
filter-cond p x ys true false h = elim (cases_Bool (p x)) [
  | inl t ↦ absurd (let e = h t in cc)
  | inr f ↦ sym (cond-false (p x) (x ∷ filter p ys) (filter p ys) f)
]

-- what a cut up to a key at the end or above has inside of a range is the range's slice
pub pairs_inside-cut : (m : Pairs) (low top : MapKey) (high : ℕ) → high ≤ rank top + 1 → pairs_inside high (cut m low top) ≡ slice m (rank low) high
pairs_inside-cut [] low top high le = refl
pairs_inside-cut (x ∷ xs) low top high le =
    filter-cond (λ p. ltb (rank p.0) high) x (cut xs low top) (leb (rank low) (rank x.0)) (leb (rank x.0) (rank top)) (λ t. let under = ltb-true (rank x.0) high t in le-leb (rank x.0) (rank top) (omega arith))
    ∙ ap (λ ys. cond (leb (rank low) (rank x.0) && ltb (rank x.0) high) (x ∷ ys) ys) (pairs_inside-cut xs low top high le)

slice_get-drop : (xs : Pairs) (i : ℕ) (x : MapKey × ℕ) (rest : Pairs) → drop i xs ≡ x ∷ rest → slice_get xs i ≡ Some x
slice_get-drop [] zero x rest e = absurd (cc)
slice_get-drop [] (suc i) x rest e = absurd (cc)
slice_get-drop (y ∷ ys) zero x rest e = cc
slice_get-drop (y ∷ ys) (suc i) x rest e = slice_get-drop ys i x rest e

module _ (xs rest left : Pairs) (place high : ℕ) (pair : MapKey × ℕ) (next : rest ≡ pair ∷ left) (A : Type 0) (so_far : A ↔ (drop place xs ≡ pairs_inside high rest)) where
  inside : rank pair.0 < high → pairs_inside high rest ≡ pair ∷ pairs_inside high left
  inside under = ap (pairs_inside high) next ∙ cond-true (ltb (rank pair.0) high) _ _ (lt-ltb (rank pair.0) high under)

  -- a pair outside is left out
  pub pair-outside : high ≤ rank pair.0 → A ↔ (drop place xs ≡ pairs_inside high left)
  pair-outside over =
      let e : pairs_inside high rest ≡ pairs_inside high left = ap (pairs_inside high) next ∙ cond-false (ltb (rank pair.0) high) _ _ (le-ltb (rank pair.0) high over) in
      (λ a. so_far.0 a ∙ e, λ h. so_far.1 (h ∙ sym e))

  -- a pair inside stands at the place, or the lists differ
  pub pair-inside : rank pair.0 < high → slice_get xs place ≡ Some pair → A ↔ (drop (place + 1) xs ≡ pairs_inside high left)
  pair-inside under at =
      let e = inside under in let f = drop-slice_get xs place pair at in
      (λ a. let whole = sym f ∙ (so_far.0 a ∙ e) in cc, λ h. so_far.1 (f ∙ (ap (λ zs. pair ∷ zs) h ∙ sym e)))

  pub pair-differs : rank pair.0 < high → (slice_get xs place ≡ Some pair → ⊥) → IsTrue false ↔ A
  pair-differs under other = (λ t. absurd (let x = t in cc), λ a. absurd (other (slice_get-drop xs place pair _ (so_far.0 a ∙ inside under))))

-- behind the last pair no record may be left
pub pairs-end : (xs rest : Pairs) (place high n : ℕ) (A : Type 0) → rest ≡ [] → place ≤ length xs → n ≡ length xs → A ↔ (drop place xs ≡ pairs_inside high rest) → IsTrue (nat_eq place n) ↔ A
pairs-end xs rest place high n A none far count so_far =
    let e : pairs_inside high rest ≡ [] = ap (pairs_inside high) none in (
      λ t. let same = eqb-true place n t in so_far.1 (drop_of_length-le xs (omega arith) ∙ sym e),
      λ a. let long = ap (length {A = MapKey × ℕ}) (so_far.0 a ∙ e) in let left = length-drop place xs in eq-eqb place n (omega arith),
    )

-- the loop is at no place behind the records
pub within-slice_get : (xs : Pairs) (place : ℕ) (x : MapKey × ℕ) → slice_get xs place ≡ Some x → place + 1 ≤ length xs
within-slice_get [] place x e = absurd (cc)
within-slice_get (y ∷ ys) zero x e = omega arith
within-slice_get (y ∷ ys) (suc place) x e = let r = within-slice_get ys place x e in omega arith
