-- The records beside the key's child, by their places.
use Rattle.std.proofs.Common.{◌≡◌, ◌∙◌, ℕ, zero, suc, ◌+◌, ◌-◌, ◌<◌, ◌≤◌, [], ◌∷◌, true, refl, sym, ap, subst, inl, inr, arith, leb, Option, Some, None}
use Rattle.std.specs.Prelude.{slice_get, IsSomeAnd}
use Rattle.std.proofs.lemmas.Bool.{cases_lt, lt-ltb, le-ltb, le-leb, lt-leb}
use Rattle.ib_map.specs.Keys.{MapKey, rank}
use Rattle.ib_map.specs.Pairs.{Pairs, index_after}
use Rattle.ib_walk.proofs.ChoiceLaws.{Some-same}
use Rattle.ib_plans.specs.Merge.{Siblings, siblings_from, siblings_of}

-- the records at these places are those beside the key's child
pub record IsBeside (xs : Pairs) (place : ℕ) (left : Option (MapKey × ℕ)) (t : Siblings) : Type 0 where
  pub first : place ≡ 0 → t.left ≡ left
  pub left_is : 0 < place → slice_get xs (place - 1) ≡ t.left
  pub here_is : slice_get xs place ≡ Some t.here
  pub right_is : slice_get xs (suc place) ≡ t.right

pub IsBeside-from : (key : MapKey) (left : Option (MapKey × ℕ)) (here : MapKey × ℕ) (xs : Pairs) → IsBeside (here ∷ xs) (index_after key xs) left (siblings_from key left here xs)
IsBeside-from key left here [] = record { first = λ e. refl; left_is = λ lt. absurd (omega arith); here_is = refl; right_is = refl }
IsBeside-from key left here (x ∷ xs) = elim (cases_lt (rank key) (rank x.0)) [
  | inl lt ↦
      let yes = lt-ltb (rank key) (rank x.0) lt in let no = lt-leb (rank x.0) (rank key) lt in
      rw (yes, no) (record { first = λ e. refl; left_is = λ l. absurd (omega arith); here_is = refl; right_is = refl })
  | inr le ↦
      let no = le-ltb (rank key) (rank x.0) le in let yes = le-leb (rank x.0) (rank key) le in
      let r = IsBeside-from key (Some here) x xs in
      let e : suc (index_after key xs) ≡ 1 + index_after key xs = omega arith in
      rw (no, yes) (subst (λ p. IsBeside (here ∷ x ∷ xs) p left (siblings_from key (Some here) x xs)) e (shifted key left here x xs (index_after key xs) (siblings_from key (Some here) x xs) r))
]
  where
    shifted : (key : MapKey) (left : Option (MapKey × ℕ)) (here x : MapKey × ℕ) (xs : Pairs) (place : ℕ) (t : Siblings) → IsBeside (x ∷ xs) place (Some here) t → IsBeside (here ∷ x ∷ xs) (suc place) left t
    shifted key left here x xs zero t b = record { first = λ e. absurd (omega arith); left_is = λ l. sym (b.first refl); here_is = b.here_is; right_is = b.right_is }
    shifted key left here x xs (suc place) t b = record { first = λ e. absurd (omega arith); left_is = λ l. let e : suc (suc place) - 1 ≡ suc place = omega arith in let f : place ≡ suc place - 1 = omega arith in ap (slice_get (here ∷ x ∷ xs)) e ∙ (ap (slice_get (x ∷ xs)) f ∙ b.left_is (omega arith)); here_is = b.here_is; right_is = b.right_is }

siblings-same : (t : Siblings) (left : Option (MapKey × ℕ)) (here : MapKey × ℕ) (right : Option (MapKey × ℕ)) → t.left ≡ left → t.here ≡ here → t.right ≡ right
    → t ≡ record { left = left; here = here; right = right }
siblings-same t left here right l h r =
    ap (λ (x : Option (MapKey × ℕ)). record { left = x; here = t.here; right = t.right }) l
    ∙ (ap (λ (x : MapKey × ℕ). record { left = left; here = x; right = t.right }) h ∙ ap (λ (x : Option (MapKey × ℕ)). record { left = left; here = here; right = x }) r)

-- so the siblings are the records before, at and behind the place of the key's child
pub siblings-at : (key : MapKey) (xs : Pairs) (place : ℕ) (left : Option (MapKey × ℕ)) (here : MapKey × ℕ) (right : Option (MapKey × ℕ))
    → place + 1 ≡ index_after key xs → IsSomeAnd (slice_get xs 0) (λ r. rank r.0 ≤ rank key) → (place ≡ 0 → left ≡ None) → (0 < place → slice_get xs (place - 1) ≡ left)
    → slice_get xs place ≡ Some here → slice_get xs (place + 1) ≡ right → siblings_of key xs ≡ record { left = left; here = here; right = right }
siblings-at key [] place left here right is first none some at behind = absurd first
siblings-at key (x ∷ xs) place left here right is first none some at behind =
    let yes : leb (rank x.0) (rank key) ≡ true = le-leb (rank x.0) (rank key) first in
    let count : index_after key (x ∷ xs) ≡ 1 + index_after key xs = rw yes refl in
    let e : index_after key xs ≡ place = omega arith in
    let b = subst (λ p. IsBeside (x ∷ xs) p None (siblings_from key None x xs)) e (IsBeside-from key None x xs) in
    let next : suc place ≡ place + 1 = omega arith in
    siblings-same (siblings_from key None x xs) left here right
    (elim (cases_lt 0 place) [
      | inl lt ↦ sym (b.left_is lt) ∙ some lt
      | inr le ↦ let z : place ≡ 0 = omega arith in b.first z ∙ sym (none z)
    ])
    (Some-same (siblings_from key None x xs).here here (sym b.here_is ∙ at))
    (sym b.right_is ∙ (ap (slice_get (x ∷ xs)) next ∙ behind))
