-- What the second tree's map has of one value.
use Rattle.std.proofs.Common.{◌≡◌, ◌≢◌, ℕ, ◌+◌, ◌<◌, ◌≤◌, ◌^◌, ◌⊎◌, ◌∙◌, List, [], ◌∷◌, ◌++◌, refl, sym, ap, subst, arith, inl, inr}
use Rattle.std.specs.Prelude.{◌==◌, map, filter}
use Rattle.std.specs.Int.{w64, to_be_bytes}
use Rattle.std.proofs.lemmas.Bool.{cases_eq, cases_lt, eq-eqb, ne_eqb, le-ltb}
use Rattle.ib_map.specs.Keys.{MapKey, rank, end_rank}
use Rattle.ib_map.specs.KeyBytes.{Precedes, bytes_of}
use Rattle.ib_map.specs.Map.{IsMap}
use Rattle.ib_map.specs.Pairs.{Pairs, Rises, put, cut}
use Rattle.ib_map.proofs.ByteLaws.{rank-bytes}
use Rattle.ib_map.proofs.CutLaws.{cut-put, cut-put_outside}
use Rattle.ib_map.proofs.RiseLaws.{Rises-lower}
use Rattle.ib_second_key.specs.SecondKeys.{IsPrimaryPair, ArePrimary, second_key_of, second_of, primary_of, least_of_value, greatest_of_value}
use Rattle.ib_second_key.proofs.SecondKeyLaws.{bytes-second, primary-second, second-between}
use Rattle.ib_second_key.proofs.SecondMapLaws.{IsMap-second}

-- behind the same front, bytes stand in their order
Precedes-front : (front xs ys : List ℕ) → Precedes xs ys → Precedes (front ++ xs) (front ++ ys)
Precedes-front [] xs ys before = before
Precedes-front (b ∷ bs) xs ys before = inr (refl, Precedes-front bs xs ys before)

-- the second keys of one value stand in the order of the keys
second-rises : (a b : MapKey) (value : ℕ) → IsPrimaryPair a value → IsPrimaryPair b value → rank a < rank b → rank (second_key_of a value) < rank (second_key_of b value)
second-rises a b value one two lt =
    let P : List ℕ → List ℕ → Type 0 = λ xs ys. Precedes xs ys in
    let before = Precedes-front (to_be_bytes w64 value) (bytes_of a) (bytes_of b) ((rank-bytes a b).0 lt) in
    (rank-bytes (second_key_of a value) (second_key_of b value)).1
    (subst (λ xs. P xs (bytes_of (second_key_of b value))) (sym (bytes-second a value one.0))
    (subst (λ ys. P (to_be_bytes w64 value ++ bytes_of a) ys) (sym (bytes-second b value two.0)) before))

module _ (value : ℕ) (lt : value < 2 ^ 64) where
  abbrev seconds : Pairs → Pairs
  seconds xs = map (λ x. (second_key_of x.0 x.1, 0)) (filter (λ x. x.1 == value) xs)

  -- a pair of the value goes before those of the value that are behind it
  put-seconds : (x : MapKey × ℕ) (low : ℕ) (xs : Pairs) → x.1 ≡ value → IsPrimaryPair x.0 x.1 → ArePrimary xs → rank x.0 < low → Rises low xs end_rank
      → put (second_key_of x.0 x.1) 0 (seconds xs) ≡ (second_key_of x.0 x.1, 0) ∷ seconds xs
  put-seconds x low [] is one are below rises = refl
  put-seconds x low (y ∷ ys) is one are below rises = elim (cases_eq y.1 value) [
    | inl same ↦
        let yes = eq-eqb y.1 value same in
        let a : IsPrimaryPair x.0 value = subst (IsPrimaryPair x.0) is one in
        let b : IsPrimaryPair y.0 value = subst (IsPrimaryPair y.0) same are.0 in
        let first = second-rises x.0 y.0 value a b (let l = rises.0 in omega arith) in
        let here : rank (second_key_of x.0 x.1) ≤ rank (second_key_of y.0 y.1) =
        subst (λ v. rank (second_key_of x.0 v) ≤ rank (second_key_of y.0 y.1)) (sym is) (subst (λ v. rank (second_key_of x.0 value) ≤ rank (second_key_of y.0 v)) (sym same) (omega arith)) in
        let no = le-ltb (rank (second_key_of y.0 y.1)) (rank (second_key_of x.0 x.1)) here in
        rw yes (rw no refl)
    | inr ne ↦
        let no = ne_eqb y.1 value ne in
        rw no (put-seconds x low ys is one are.1 below (Rises-lower low (rank y.0 + 1) ys end_rank (let l = rises.0 in omega arith) rises.1))
  ]

  -- a second key of another value stands outside the ends
  outside : (x : MapKey × ℕ) → IsPrimaryPair x.0 x.1 → x.1 ≢ value
      → (rank (second_key_of x.0 x.1) < rank (least_of_value value)) ⊎ (rank (greatest_of_value value) < rank (second_key_of x.0 x.1))
  outside x is ne = elim (cases_lt (rank (second_key_of x.0 x.1)) (rank (least_of_value value))) [
    | inl below ↦ inl below
    | inr low ↦ elim (cases_lt (rank (greatest_of_value value)) (rank (second_key_of x.0 x.1))) [
      | inl above ↦ inr above
      | inr high ↦ absurd (ne ((second-between x.0 x.1 value is lt).0 (low, high)))
    ]
  ]

  cut-second : (low : ℕ) (xs : Pairs) → Rises low xs end_rank → ArePrimary xs → cut (second_of xs) (least_of_value value) (greatest_of_value value) ≡ seconds xs
  cut-second low [] rises are = refl
  cut-second low (x ∷ xs) rises are =
      let rest = cut-second (rank x.0 + 1) xs rises.1 are.1 in
      elim (cases_eq x.1 value) [
        | inl same ↦
            let yes = eq-eqb x.1 value same in
            let inside = (second-between x.0 x.1 value are.0 lt).1 same in
            cut-put (second_key_of x.0 x.1) 0 0 (second_of xs) end_rank (least_of_value value) (greatest_of_value value) (IsMap-second (rank x.0 + 1) xs rises.1 are.1) inside.0 inside.1
            ∙ (ap (put (second_key_of x.0 x.1) 0) rest ∙ (put-seconds x (rank x.0 + 1) xs same are.0 are.1 (omega arith) rises.1 ∙ rw yes refl))
        | inr ne ↦
            let no = ne_eqb x.1 value ne in
            cut-put_outside (second_key_of x.0 x.1) 0 (second_of xs) (least_of_value value) (greatest_of_value value) (outside x are.0 ne)
            ∙ (rest ∙ rw no refl)
      ]

  primary-seconds : (xs : Pairs) → ArePrimary xs → map (λ x. primary_of x.0) (seconds xs) ≡ map (λ x. x.0) (filter (λ x. x.1 == value) xs)
  primary-seconds [] are = refl
  primary-seconds (x ∷ xs) are = elim (cases_eq x.1 value) [
    | inl same ↦ let yes = eq-eqb x.1 value same in let p = primary-second x.0 x.1 are.0 in rw yes (rw p (ap (λ (ys : List MapKey). x.0 ∷ ys) (primary-seconds xs are.1)))
    | inr ne ↦ let no = ne_eqb x.1 value ne in rw no (primary-seconds xs are.1)
  ]

  pub keys-of_value : (m : Pairs) → IsMap m → ArePrimary m
      → map (λ x. primary_of x.0) (cut (second_of m) (least_of_value value) (greatest_of_value value)) ≡ map (λ x. x.0) (filter (λ x. x.1 == value) m)
  keys-of_value m is are = ap (map (λ (x : MapKey × ℕ). primary_of x.0)) (cut-second 0 m is are) ∙ primary-seconds m are
