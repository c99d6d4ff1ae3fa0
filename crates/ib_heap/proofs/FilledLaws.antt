-- The heap of a page that was filled: its offsets in order, and none that is free.
use Rattle.std.proofs.Common.{◌≡◌, ℕ, zero, suc, ◌+◌, ◌-◌, ◌*◌, ◌<◌, ◌≤◌, [], ◌∷◌, ◌++◌, ◌∙◌, List, length, drop, take, refl, ap, arith, inl, inr, length-append, length-drop}
use Rattle.std.specs.List.{concat}
use Rattle.std.proofs.lemmas.Bool.{cases_lt, le-leb, lt-leb, lt-ltb, le-ltb}
use Rattle.std.proofs.lemmas.List.{length-take-le}
use Rattle.std.proofs.lemmas.List.Folds.{concat-append}
use Rattle.ib_heap.specs.Heap.{Heap, used_offsets, read_heap}
use Rattle.ib_heap.specs.Put.{offset_for, split, put_before, put_in}
use Rattle.ib_heap.specs.Filled.{filled, empty_heap}
use Rattle.ib_heap.specs.Kept.{IsKept}

pub filled-none : filled 0 ≡ empty_heap
unfolding filled
filled-none = refl

pub filled-more : (n : ℕ) → put_in n (filled n) ≡ filled (n + 1)
unfolding filled
filled-more n = ap filled (let e : suc n ≡ n + 1 = omega arith in e)

-- a split keeps the records
split-long : (slot : List ℕ) → length (concat (split slot)) ≡ length slot
split-long slot = elim (cases_lt 8 (length slot)) [
  | inl lt ↦ (
      let a = length-take-le 4 slot (omega arith) in let b = length-drop 4 slot in
      rw (lt-leb (length slot) 8 lt) (length-append (take 4 slot) (drop 4 slot ++ []) ∙ (let c = length-append (drop 4 slot) [] in omega arith)))
  | inr le ↦ rw (le-leb (length slot) 8 le) (let c = length-append slot [] in omega arith)
]

put-long : (k p : ℕ) (slots : List (List ℕ)) → k < length (concat slots) → length (concat (put_before k p slots)) ≡ length (concat slots) + 1
put-long k p [] lt = absurd (omega arith)
put-long k p (slot ∷ slots) lt = let long = length-append slot (concat slots) in elim (cases_lt k (length slot)) [
  | inl here ↦ (
      let new = take k slot ++ p ∷ drop k slot in
      let a = length-append (take k slot) (p ∷ drop k slot) in let b = length-take-le k slot (omega arith) in let c = length-drop k slot in
      let d = split-long new in let e = length-append (concat (split new)) (concat slots) in let f = ap length (concat-append (split new) slots) in
      rw (lt-ltb k (length slot) here) (omega arith))
  | inr there ↦ (
      let r = put-long (k - length slot) p slots (omega arith) in
      let a = length-append slot (concat (put_before (k - length slot) p slots)) in
      rw (le-ltb k (length slot) there) (omega arith))
]

-- as many records as were put in, beside the supremum, and no free offset
pub record IsFilled (n : ℕ) (h : Heap) : Type 0 where
  pub long : length (concat h.slots) ≡ n + 1
  pub free : h.free ≡ []

is-filled : (n : ℕ) → IsFilled n (filled n)
unfolding filled
is-filled zero = record { long = refl; free = refl }
is-filled (suc n) =
    let h = is-filled n in
    let long = h.long in
    let more = put-long n (offset_for (filled n)) (filled n).slots (omega arith) in
    record { long = omega arith; free = ap (λ (ps : List ℕ). drop 1 ps) h.free }

pub filled-used : (n : ℕ) → used_offsets (filled n) ≡ n
filled-used n = let h = is-filled n in let a = h.long in let b = ap length h.free in omega arith

offset-without : (slots : List (List ℕ)) (free : List ℕ) → free ≡ [] → offset_for (record { slots = slots; free = free }) ≡ 20 + 4 * (length (concat slots) - 1)
offset-without slots [] none = let e : 20 + 4 * (length (concat slots) - 1 + 0) ≡ 20 + 4 * (length (concat slots) - 1) = omega arith in e
offset-without slots (p ∷ ps) none = cc

pub filled-offset : (n : ℕ) → offset_for (filled n) ≡ 20 + 4 * n
filled-offset n = let h = is-filled n in let a = h.long in offset-without (filled n).slots (filled n).free h.free ∙ (let e : 20 + 4 * (length (concat (filled n).slots) - 1) ≡ 20 + 4 * n = omega arith in e)

-- what stands behind the records of a filled page is kept
pub behind-kept : (ws : List ℕ) (n i : ℕ) → read_heap ws ≡ filled n → 20 + 4 * n ≤ i → IsKept (used_offsets (read_heap ws)) i
behind-kept ws n i is le =
    let u : used_offsets (read_heap ws) ≡ n = ap used_offsets is ∙ filled-used n in
    inr (inr (omega arith, inr (omega arith)))
