-- Where a key stands tells whether it is within the records.
use Rattle.std.proofs.Common.{◌≡◌, ◌≢◌, ℕ, zero, suc, ◌-◌, ◌<◌, ◌≤◌, ◌↔◌, [], ◌∷◌, length, slice_get, Option, Some, None, IsSomeAnd, inl, inr, refl, sym, ap, subst, ◌∙◌, arith}
use Rattle.std.proofs.lemmas.Bool.{cases_eq, cases_lt, eq-eqb, ne_eqb}
use Rattle.std.proofs.lemmas.Option.{slice_get_past}
use Rattle.ib_map.specs.Keys.{MapKey, rank}
use Rattle.ib_map.specs.Pairs.{Pairs, Rises, index_of, value_at}
use Rattle.ib_map.proofs.IndexLaws.{index_of-le, value_at-differs, value_at-past}
use Rattle.ib_heap.specs.Standing.{IsWithin, standing_of}
use Rattle.ib_heap.specs.declared.search.KeyStanding.{KeyStanding}
use Rattle.ib_heap.specs.declared.search.KeyStanding.TheVariants.{Between, Found, Outside}
use Rattle.ib_heap.proofs.RouteLaws.{absent_at, higher_from_index, lower_before_index}

there : (xs : Pairs) (i : ℕ) → i < length xs → (r : MapKey × ℕ) × (slice_get xs i ≡ Some r)
there [] i lt = absurd (omega arith)
there (x ∷ xs) zero lt = (x, refl)
there (x ∷ xs) (suc i) lt = there xs i (omega arith)

of-some : (P : MapKey × ℕ → Type 0) (o : Option (MapKey × ℕ)) (r : MapKey × ℕ) → o ≡ Some r → IsSomeAnd o P → P r
of-some P o r is holds = subst (λ (x : Option (MapKey × ℕ)). IsSomeAnd x P) is holds

to-some : (P : MapKey × ℕ → Type 0) (o : Option (MapKey × ℕ)) (r : MapKey × ℕ) → o ≡ Some r → P r → IsSomeAnd o P
to-some P o r is holds = subst (λ (x : Option (MapKey × ℕ)). IsSomeAnd x P) (sym is) holds

none-within : (key : MapKey) (xs : Pairs) → length xs ≤ 0 → IsWithin key xs → ⊥
none-within key [] le within = within.first
none-within key (x ∷ xs) le within = absurd (omega arith)

module _ (key : MapKey) (low : ℕ) (xs : Pairs) (high : ℕ) (rises : Rises low xs high) where
  -- between the first and the last
  inside : 0 < index_of key xs → index_of key xs < length xs → IsWithin key xs
  inside some less =
      let first = there xs 0 (omega arith) in let last = there xs (length xs - 1) (omega arith) in
      let below = lower_before_index key xs 0 first.0 some first.1 in
      let above = higher_from_index key low xs high (length xs - 1) last.0 rises (omega arith) last.1 in
      record { first = to-some (λ r. rank r.0 ≤ rank key) (slice_get xs 0) first.0 first.1 (omega arith); last = to-some (λ r. rank key ≤ rank r.0) (slice_get xs (length xs - 1)) last.0 last.1 above }

  -- in front of the first, or behind the last
  outside-first : value_at key xs ≡ None → index_of key xs ≡ 0 → IsWithin key xs → ⊥
  outside-first none first within = elim (cases_lt 0 (length xs)) [
    | inl some ↦
        let r = there xs 0 some in
        let below : rank r.0.0 ≤ rank key = of-some (λ r. rank r.0 ≤ rank key) (slice_get xs 0) r.0 r.1 within.first in
        let above = higher_from_index key low xs high 0 r.0 rises (omega arith) r.1 in
        absent_at key xs 0 r.0 none r.1 (omega arith)
    | inr empty ↦ none-within key xs empty within
  ]

  outside-last : index_of key xs ≡ length xs → IsWithin key xs → ⊥
  outside-last last within = elim (cases_lt 0 (length xs)) [
    | inl some ↦
        let r = there xs (length xs - 1) (omega arith) in
        let above : rank key ≤ rank r.0.0 = of-some (λ r. rank key ≤ rank r.0) (slice_get xs (length xs - 1)) r.0 r.1 within.last in
        let below = lower_before_index key xs (length xs - 1) r.0 (omega arith) r.1 in absurd (omega arith)
    | inr empty ↦ none-within key xs empty within
  ]

  -- with a record of its own
  inside-found : (value : ℕ) → value_at key xs ≡ Some value → IsWithin key xs
  inside-found value found = elim (cases_lt (index_of key xs) (length xs)) [
    | inl less ↦
        let r = there xs (index_of key xs) less in
        let last = there xs (length xs - 1) (omega arith) in
        let above = higher_from_index key low xs high (length xs - 1) last.0 rises (omega arith) last.1 in
        let here : rank r.0.0 ≡ rank key = elim (cases_eq (rank r.0.0) (rank key)) [
          | inl same ↦ same
          | inr differs ↦ absurd (let none = value_at-differs key low xs high (index_of key xs) r.0 rises refl r.1 differs in let z : Some value ≡ None = sym found ∙ none in cc)
        ] in
        let front : IsSomeAnd (slice_get xs 0) (λ r. rank r.0 ≤ rank key) = elim (cases_lt 0 (index_of key xs)) [
          | inl some ↦ let first = there xs 0 (omega arith) in let below = lower_before_index key xs 0 first.0 some first.1 in to-some (λ r. rank r.0 ≤ rank key) (slice_get xs 0) first.0 first.1 (omega arith)
          | inr none ↦ let zero_is : index_of key xs ≡ 0 = omega arith in to-some (λ r. rank r.0 ≤ rank key) (slice_get xs 0) r.0 (sym (ap (slice_get xs) zero_is) ∙ r.1) (omega arith)
        ] in
        record { first = front; last = to-some (λ r. rank key ≤ rank r.0) (slice_get xs (length xs - 1)) last.0 last.1 above }
    | inr past ↦ absurd (let none = value_at-past key low xs high (index_of key xs) rises refl (slice_get_past xs (index_of key xs) past) in let z : Some value ≡ None = sym found ∙ none in cc)
  ]

  -- the key is outside, or within
  stands : (standing_of key xs ≢ Outside) ↔ IsWithin key xs
  stands = go (value_at key xs) refl
    where
      go : (o : Option ℕ) → value_at key xs ≡ o → (standing_of key xs ≢ Outside) ↔ IsWithin key xs
      go (Some value) found = rw found (λ _. inside-found value found, λ _ is. let z : Found value ≡ Outside = is in cc)
      go None none = elim (cases_eq (index_of key xs) 0) [
        | inl first ↦ rw (none, eq-eqb (index_of key xs) 0 first) (λ other. absurd (other refl), λ within. absurd (outside-first none first within))
        | inr some ↦ elim (cases_eq (index_of key xs) (length xs)) [
          | inl last ↦ rw (none, ne_eqb (index_of key xs) 0 some, eq-eqb (index_of key xs) (length xs) last) (λ other. absurd (other refl), λ within. absurd (outside-last last within))
          | inr less ↦
              let le = index_of-le key xs in
              rw (none, ne_eqb (index_of key xs) 0 some, ne_eqb (index_of key xs) (length xs) less) (λ _. inside (omega (arith, some)) (omega (arith, less)), λ _ is. let z : Between ≡ Outside = is in cc)
        ]
      ]

  pub within-by : (result : KeyStanding) → result ≡ standing_of key xs → (result ≢ Outside) ↔ IsWithin key xs
  within-by result is = subst (λ (s : KeyStanding). (s ≢ Outside) ↔ IsWithin key xs) (sym is) stands
