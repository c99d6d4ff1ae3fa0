-- A byte's first place, found a part at a time.
use Rattle.std.proofs.Common.{◌≡◌, ◌≢◌, ◌∙◌, ℕ, ◌+◌, ◌-◌, ◌*◌, ◌%◌, ◌^◌, ◌<◌, ◌≤◌, List, [], ◌∷◌, Some, None, Bool, true, false, cond, ap, sym, refl, length, take, drop, drop-drop, replicate, map, arith, eqb, not, w8}
use Rattle.std.specs.List.{position_or_len}
use Rattle.std.specs.Simd.Lanes.{zip2, mask_l, top}
use Rattle.std.proofs.lemmas.Bool.{eq-eqb, ne_eqb}
use Rattle.std.proofs.lemmas.List.{length-drop, length-take-le, take-append-drop, take_rest}
use Rattle.std.proofs.lemmas.List.Folds.{prefix_len-append}
use Rattle.std.proofs.lemmas.List.Sums.{prefix_len-le-length}
use Rattle.std.proofs.lemmas.Simd.{bitmask_splat, leading_from_mask_l, trailing_mask_l}
use lib.Count.{count_trailing_zeros}
use Rattle.ib_io.specs.Places.{IsFirstPlace}

-- how many bytes stand before the byte
abbrev pub before : ℕ → List ℕ → ℕ
before byte text = position_or_len (λ b. eqb b byte) text

-- the lanes that hold the byte, as bits
abbrev pub marks_of : ℕ → ℕ → List ℕ → ℕ
marks_of lanes byte text = mask_l (map (top 7) (zip2 (λ a b. cond (eqb a b) 255 0) (take lanes text) (replicate lanes byte))) % 2 ^ 64

-- where one of them does, there is a first
pub some-lane : (p : ℕ → Bool) (xs : List ℕ) → 0 < mask_l (map p xs) → position_or_len p xs < length xs
some-lane p [] some = absurd (omega arith)
some-lane p (x ∷ xs) some =
    elim (p x) as (λ b. 0 < cond {A = ℕ} b 1 0 + 2 * mask_l (map p xs) → cond {A = ℕ} (not b) (1 + position_or_len p xs) 0 < length (x ∷ xs)) [
      | true ↦ λ k. omega arith
      | false ↦ λ k. omega (arith, some-lane p xs (omega arith))
    ] some

module _ (lanes byte : ℕ) (text : List ℕ) (le : lanes ≤ length text) (few : lanes ≤ 64) where
  -- none of them does
  pub no-mark : marks_of lanes byte text ≡ 0 → IsFirstPlace byte (take lanes text) None
  no-mark none =
      let mask = bitmask_splat w8 eqb (take lanes text) lanes byte (length-take-le lanes text le) few in
      let all = leading_from_mask_l (λ b. eqb b byte) (take lanes text) (omega (arith, mask, none)) in
      omega (arith, all)

  -- the lowest bit is where it stands first
  pub lowest-mark : marks_of lanes byte text ≢ 0 → IsFirstPlace byte (take lanes text) (Some (count_trailing_zeros 64 (marks_of lanes byte text)))
  lowest-mark some =
      let long = length-take-le lanes text le in
      let mask = bitmask_splat w8 eqb (take lanes text) lanes byte long few in
      let first : count_trailing_zeros 64 (marks_of lanes byte text) ≡ before byte (take lanes text) =
      ap (count_trailing_zeros 64) mask ∙ trailing_mask_l (λ b. eqb b byte) 64 (take lanes text) (omega (arith, long)) (omega (arith, mask, some)) in
      (first, omega (arith, first, some-lane (λ b. eqb b byte) (take lanes text) (omega (arith, mask, some))))

module _ (byte : ℕ) where
  before-front : (n : ℕ) (xs : List ℕ)
      → before byte xs ≡ cond (eqb (before byte (take n xs)) (length (take n xs))) (length (take n xs) + before byte (drop n xs)) (before byte (take n xs))
  before-front n xs = ap (before byte) (sym (take-append-drop n xs)) ∙ prefix_len-append (λ b. not (eqb b byte)) (take n xs) (drop n xs)

  -- where it stands in a front
  front-has : (n place : ℕ) (xs : List ℕ) → n ≤ length xs → IsFirstPlace byte (take n xs) (Some place) → IsFirstPlace byte xs (Some place)
  front-has n place xs le found =
      let long = length-take-le n xs le in
      let same : before byte xs ≡ before byte (take n xs) = before-front n xs ∙ rw (ne_eqb (before byte (take n xs)) (length (take n xs)) (λ e. omega (arith, found.0, found.1))) refl in
      (omega (arith, same, found.0), omega (arith, found.1, long))

  -- .. and where it does not
  front-lacks : (n : ℕ) (xs : List ℕ) → n ≤ length xs → IsFirstPlace byte (take n xs) None → before byte xs ≡ n + before byte (drop n xs)
  front-lacks n xs le none =
      let long = length-take-le n xs le in
      let all : before byte (take n xs) ≡ length (take n xs) = omega (arith, none, prefix_len-le-length (λ b. not (eqb b byte)) (take n xs)) in
      before-front n xs ∙ rw (eq-eqb _ _ all, long) refl

  -- the same of what stands behind places where it does not stand
  module _ (at : ℕ) (text : List ℕ) (le : at ≤ length text) (passed : before byte text ≡ at + before byte (drop at text)) where
    pub part-has : (n place : ℕ) → n ≤ length text - at → IsFirstPlace byte (take n (take (length text - at) (drop at text))) (Some place) → IsFirstPlace byte text (Some (at + place))
    part-has n place room found =
        let here : IsFirstPlace byte (take n (drop at text)) (Some place) = rw take_rest at found in
        let first = front-has n place (drop at text) (omega (arith, length-drop at text)) here in
        (omega (arith, passed, first.0), omega (arith, first.1, length-drop at text))

    pub part-lacks : (n : ℕ) → n ≤ length text - at → IsFirstPlace byte (take n (take (length text - at) (drop at text))) None → before byte text ≡ at + n + before byte (drop (at + n) text)
    part-lacks n room none =
        let here : IsFirstPlace byte (take n (drop at text)) None = rw take_rest at none in
        let on = front-lacks n (drop at text) (omega (arith, length-drop at text)) here in
        let behind : drop n (drop at text) ≡ drop (at + n) text = drop-drop n at text in
        let all : before byte text ≡ at + n + before byte (drop n (drop at text)) = omega (arith, passed, on) in
        rw behind at all
