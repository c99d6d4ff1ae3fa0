-- The heap that a put leaves.
use Rattle.std.proofs.Common.{◌≡◌, ℕ, zero, suc, ◌+◌, ◌-◌, ◌<◌, ◌≤◌, ◌⊎◌, [], ◌∷◌, ◌∙◌, List, length, take, drop, refl, ap, sym, arith, inl, inr, subst}
use Rattle.std.proofs.lemmas.Bool.{cases_eq, eq-eqb, ne_eqb, le-leb, lt-leb, cond-true, cond-false}
use Rattle.ib_heap.specs.Chain.{Node, Chain, owners, up_to}
use Rattle.ib_heap.specs.ChainPut.{put_node, put_last, give_slot, give_slot_last, chain_offset, rest_of, owned_by, put_in_chain}
use Rattle.ib_heap.proofs.SeekLaws.{owners-some}
use Rattle.ib_heap.proofs.SplitLaws.{InSlot}

-- an offset's slot, by the slots before it
pub slot-number : (j k : ℕ) (xs : List Node) → InSlot j k xs → k ≤ length xs → length (owners (take k xs)) ≡ j + 1
slot-number zero zero xs within le = refl
slot-number (suc j) zero [] within le = absurd (let b = within.1.1 in omega arith)
slot-number (suc j) zero (x ∷ xs) within le = absurd (let b = within.0 in omega arith)
slot-number j (suc k) [] within le = absurd (omega arith)
slot-number zero (suc k) (x ∷ xs) within le = elim (cases_eq x.owned 0) [
  | inl f ↦ (
      let e = eq-eqb x.owned 0 f in
      let high : (suc k < 1 + up_to 1 xs) ⊎ (1 ≡ length (owners xs)) = rw e at within.1.0 in
      let slots : 0 < length (owners xs) = rw e at within.1.1 in
      rw e (slot-number 0 k xs (omega arith, (elim high [ inl b ↦ inl (omega arith) | inr b ↦ inr b ], slots)) (omega arith)))
  | inr f ↦ absurd (
      let e = ne_eqb x.owned 0 f in
      let w : (suc k < 1 + up_to 0 xs) ⊎ (1 ≡ length (x.offset ∷ owners xs)) = rw e at within.1.0 in
      let some = owners-some xs in
      elim w [ inl b ↦ omega arith | inr b ↦ omega arith ])
]
slot-number (suc j) (suc k) (x ∷ xs) within le = elim (cases_eq x.owned 0) [
  | inl f ↦ (
      let e = eq-eqb x.owned 0 f in
      let low : 1 + up_to (suc j) xs ≤ suc k = rw e at within.0 in
      let high : (suc k < 1 + up_to (suc (suc j)) xs) ⊎ (suc (suc j) ≡ length (owners xs)) = rw e at within.1.0 in
      let slots : suc j < length (owners xs) = rw e at within.1.1 in
      rw e (slot-number (suc j) k xs (omega arith, (elim high [ inl b ↦ inl (omega arith) | inr b ↦ inr b ], slots)) (omega arith)))
  | inr f ↦ (
      let e = ne_eqb x.owned 0 f in
      let low : 1 + up_to j xs ≤ suc k = rw e at within.0 in
      let high : (suc k < 1 + up_to (suc j) xs) ⊎ (suc (suc j) ≡ length (x.offset ∷ owners xs)) = rw e at within.1.0 in
      let slots : suc j < length (x.offset ∷ owners xs) = rw e at within.1.1 in
      let r = slot-number j k xs (omega arith, (elim high [ inl b ↦ inl (omega arith) | inr b ↦ inr (omega arith) ], omega arith)) (omega arith) in
      rw e (omega arith))
]

module _ (k p slot : ℕ) (h : Chain) (offset : p ≡ chain_offset h) where
  abbrev made : ℕ → Chain
  made q = record { nodes = put_node k q h.nodes; last = put_last k h.nodes h.last; free = rest_of h.free }

  abbrev split : ℕ → ℕ → Chain
  split q j = record { nodes = give_slot (up_to j (put_node k q h.nodes) + 3) (put_node k q h.nodes); last = give_slot_last (up_to j (put_node k q h.nodes) + 3) (put_node k q h.nodes) (put_last k h.nodes h.last); free = rest_of h.free }

  pub put-in-plain : owned_by (drop k (put_node k p h.nodes)) (put_last k h.nodes h.last) ≤ 8 → made p ≡ put_in_chain k h
  put-in-plain room =
      let r = subst (λ (q : ℕ). owned_by (drop k (put_node k q h.nodes)) (put_last k h.nodes h.last) ≤ 8) offset room in
      ap made offset ∙ sym (cond-true _ _ _ (le-leb (owned_by (drop k (put_node k (chain_offset h) h.nodes)) (put_last k h.nodes h.last)) 8 (omega arith)))

  pub put-in-split : 8 < owned_by (drop k (put_node k p h.nodes)) (put_last k h.nodes h.last) → InSlot (slot - 1) k h.nodes → k ≤ length h.nodes → split p (slot - 1) ≡ put_in_chain k h
  put-in-split full within le =
      let r = subst (λ (q : ℕ). 8 < owned_by (drop k (put_node k q h.nodes)) (put_last k h.nodes h.last)) offset full in
      let n = slot-number (slot - 1) k h.nodes within le in
      ap (λ q. split q (slot - 1)) offset ∙ (ap (λ j. split (chain_offset h) j) (let f : slot - 1 ≡ length (owners (take k h.nodes)) - 1 = omega arith in f)
      ∙ sym (cond-false _ _ _ (lt-leb (owned_by (drop k (put_node k (chain_offset h) h.nodes)) (put_last k h.nodes h.last)) 8 (omega arith))))
