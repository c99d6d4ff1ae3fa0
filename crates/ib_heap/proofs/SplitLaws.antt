-- The chain after a slot of nine is split.
use Rattle.std.proofs.Common.{◌≡◌, ℕ, zero, suc, ◌+◌, ◌<◌, ◌≤◌, ◌⊎◌, false, [], ◌∷◌, ◌∙◌, List, length, drop, get_or, refl, ap, sym, arith, eqb, inl, inr, subst}
use Rattle.std.proofs.lemmas.Bool.{cases_eq, eq-eqb, ne_eqb}
use Rattle.ib_heap.specs.Chain.{Node, first_of, owners, offsets_of, up_to}
use Rattle.ib_heap.specs.ChainPut.{owned_by, owner_from, put_node, own_four_fewer, last_four_fewer, give_slot, give_slot_last}
use Rattle.ib_heap.proofs.HeapLaws.{Owned}
use Rattle.ib_heap.proofs.SeekLaws.{owners-some, owner-first}
use Rattle.ib_heap.proofs.PutLaws.{Over, OverAt}

-- the slot behind the fourth
owned-own_four_fewer : (n m : ℕ) (xs : List Node) (last : ℕ) → m ≡ n + 4 → Over m xs last → owned_by xs last ≡ 9 → Owned n (own_four_fewer xs) (last_four_fewer xs last)
owned-own_four_fewer n m [] last e h nine = let a = h.0 in (omega arith, omega arith)
owned-own_four_fewer n m (x ∷ xs) last e (inl h) nine =
    let rest = rw (eq-eqb x.owned 0 h.0) at nine in
    rw (eq-eqb x.owned 0 h.0) (inl (h.0, owned-own_four_fewer (n + 1) (m + 1) xs last (omega arith) h.1 rest))
owned-own_four_fewer n m (x ∷ xs) last e (inr h) nine =
    let a = h.0.0 in let b = h.0.1.0 in
    let is : x.owned ≡ 9 = rw (ne_eqb x.owned 0 (λ z. omega arith)) at nine in
    rw (ne_eqb x.owned 0 (λ z. omega arith)) (inr ((omega arith, (omega arith, omega arith)), h.1))

owned-give_slot : (n m : ℕ) (xs : List Node) (last : ℕ) → n + m ≡ 3 → Over n xs last → owned_by xs last ≡ 9 → Owned n (give_slot m xs) (give_slot_last m xs last)
owned-give_slot n m [] last e h nine = absurd (let a = h.0 in let b : last ≡ 9 = nine in omega arith)
owned-give_slot n zero (x ∷ xs) last e (inl h) nine =
    let rest = rw (eq-eqb x.owned 0 h.0) at nine in
    inr ((omega arith, (omega arith, omega arith)), owned-own_four_fewer 0 (n + 1) xs last (omega arith) h.1 rest)
owned-give_slot n zero (x ∷ xs) last e (inr h) nine = absurd (let a = h.0.0 in let is : x.owned ≡ 9 = rw (ne_eqb x.owned 0 (λ z. omega arith)) at nine in omega arith)
owned-give_slot n (suc m) (x ∷ xs) last e (inl h) nine =
    let rest = rw (eq-eqb x.owned 0 h.0) at nine in
    inl (h.0, owned-give_slot (n + 1) m xs last (omega arith) h.1 rest)
owned-give_slot n (suc m) (x ∷ xs) last e (inr h) nine = absurd (let a = h.0.0 in let is : x.owned ≡ 9 = rw (ne_eqb x.owned 0 (λ z. omega arith)) at nine in omega arith)

-- the slot of an offset is the one behind j others
abbrev pub InSlot : ℕ → ℕ → List Node → Type 0
InSlot j k xs = (up_to j xs ≤ k) × (((k < up_to (suc j) xs) ⊎ (suc j ≡ length (owners xs))) × (j < length (owners xs)))

-- no record has a slot in the first k
pub first_slot : (n k : ℕ) (xs : List Node) (last : ℕ) → OverAt k n xs last → (k < up_to 1 xs) ⊎ (1 ≡ length (owners xs)) → Over n xs last × ((owned_by (drop k xs) last ≡ owned_by xs last) × (owner_from (drop k xs) ≡ owner_from xs))
first_slot n zero xs last h within = (h, (refl, refl))
first_slot n (suc k) [] last h within = absurd h
first_slot n (suc k) (x ∷ xs) last (inl h) within =
    let e = eq-eqb x.owned 0 h.0 in
    let inner : (k < up_to 1 xs) ⊎ (1 ≡ length (owners xs)) = (let w = rw e at within in elim w [ inl a ↦ inl (omega arith) | inr a ↦ inr a ]) in
    let r = first_slot (n + 1) k xs last h.1 inner in
    (inl (h.0, r.0), (rw e r.1.0, rw e r.1.1))
first_slot n (suc k) (x ∷ xs) last (inr h) within = absurd (
    let a = h.0.0 in let e : eqb x.owned 0 ≡ false = ne_eqb x.owned 0 (λ z. omega arith) in
    let w : (suc k < 1 + up_to 0 xs) ⊎ (1 ≡ length (x.offset ∷ owners xs)) = rw e at within in
    let some = owners-some xs in
    elim w [ inl b ↦ omega arith | inr b ↦ omega arith ])

pub split-owned : (j k n : ℕ) (xs : List Node) (last : ℕ) → (j ≡ 0 → n ≡ 0) → OverAt k n xs last → owned_by (drop k xs) last ≡ 9 → InSlot j k xs → Owned n (give_slot (up_to j xs + 3) xs) (give_slot_last (up_to j xs + 3) xs last)
split-owned zero k n xs last none h nine within =
    let r = first_slot n k xs last h within.1.0 in
    let e = none refl in
    let t : up_to 0 xs + 3 ≡ 3 = omega arith in
    subst (λ (m : ℕ). Owned n (give_slot m xs) (give_slot_last m xs last)) (sym t) (owned-give_slot n 3 xs last (omega arith) r.0 (sym r.1.0 ∙ nine))
split-owned (suc j) k n [] last none h nine within = absurd (let b = within.1.1 in omega arith)
split-owned (suc j) zero n (x ∷ xs) last none h nine within = absurd (let b = within.0 in omega arith)
split-owned (suc j) (suc k) n (x ∷ xs) last none (inl h) nine within =
    let e = eq-eqb x.owned 0 h.0 in
    let low : 1 + up_to (suc j) xs ≤ suc k = rw e at within.0 in
    let high : (suc k < 1 + up_to (suc (suc j)) xs) ⊎ (suc (suc j) ≡ length (owners xs)) = rw e at within.1.0 in
    let slots : suc j < length (owners xs) = rw e at within.1.1 in
    let rest = split-owned (suc j) k (n + 1) xs last (λ z. absurd (omega arith)) h.1 nine (omega arith, (elim high [ inl a ↦ inl (omega arith) | inr a ↦ inr a ], slots)) in
    let t : up_to (suc j) (x ∷ xs) + 3 ≡ suc (up_to (suc j) xs + 3) = rw e (omega arith) in
    subst (λ (m : ℕ). Owned n (give_slot m (x ∷ xs)) (give_slot_last m (x ∷ xs) last)) (sym t) (inl (h.0, rest))
split-owned (suc j) (suc k) n (x ∷ xs) last none (inr h) nine within =
    let a = h.0.0 in
    let e : eqb x.owned 0 ≡ false = ne_eqb x.owned 0 (λ z. omega arith) in
    let low : 1 + up_to j xs ≤ suc k = rw e at within.0 in
    let high : (suc k < 1 + up_to (suc j) xs) ⊎ (suc (suc j) ≡ length (x.offset ∷ owners xs)) = rw e at within.1.0 in
    let slots : suc j < length (x.offset ∷ owners xs) = rw e at within.1.1 in
    let rest = split-owned j k 0 xs last (λ z. refl) h.1 nine (omega arith, (elim high [ inl b ↦ inl (omega arith) | inr b ↦ inr (omega arith) ], omega arith)) in
    let t : up_to (suc j) (x ∷ xs) + 3 ≡ suc (up_to j xs + 3) = rw e (omega arith) in
    subst (λ (m : ℕ). Owned n (give_slot m (x ∷ xs)) (give_slot_last m (x ∷ xs) last)) (sym t) (inr (h.0, rest))

-- the owner of an offset's slot, by the directory
pub owner-slot : (p j k : ℕ) (xs : List Node) → InSlot j k xs → k ≤ length xs → get_or (p ∷ owners xs) (suc j) 0 ≡ owner_from (drop k xs)
owner-slot p zero zero xs within le = owner-first xs
owner-slot p j (suc k) [] within le = absurd (omega arith)
owner-slot p (suc j) zero [] within le = absurd (let b = within.1.1 in omega arith)
owner-slot p (suc j) zero (x ∷ xs) within le = absurd (let b = within.0 in omega arith)
owner-slot p zero (suc k) (x ∷ xs) within le = elim (cases_eq x.owned 0) [
  | inl f ↦
      let e = eq-eqb x.owned 0 f in
      let high : (suc k < 1 + up_to 1 xs) ⊎ (1 ≡ length (owners xs)) = rw e at within.1.0 in
      let slots : 0 < length (owners xs) = rw e at within.1.1 in
      rw e (owner-slot p 0 k xs (omega arith, (elim high [ inl b ↦ inl (omega arith) | inr b ↦ inr b ], slots)) (omega arith))
  | inr f ↦ absurd (
      let e = ne_eqb x.owned 0 f in
      let w : (suc k < 1 + up_to 0 xs) ⊎ (1 ≡ length (x.offset ∷ owners xs)) = rw e at within.1.0 in
      let some = owners-some xs in
      elim w [ inl b ↦ omega arith | inr b ↦ omega arith ])
]
owner-slot p (suc j) (suc k) (x ∷ xs) within le = elim (cases_eq x.owned 0) [
  | inl f ↦
      let e = eq-eqb x.owned 0 f in
      let low : 1 + up_to (suc j) xs ≤ suc k = rw e at within.0 in
      let high : (suc k < 1 + up_to (suc (suc j)) xs) ⊎ (suc (suc j) ≡ length (owners xs)) = rw e at within.1.0 in
      let slots : suc j < length (owners xs) = rw e at within.1.1 in
      rw e (owner-slot p (suc j) k xs (omega arith, (elim high [ inl b ↦ inl (omega arith) | inr b ↦ inr b ], slots)) (omega arith))
  | inr f ↦
      let e = ne_eqb x.owned 0 f in
      let low : 1 + up_to j xs ≤ suc k = rw e at within.0 in
      let high : (suc k < 1 + up_to (suc j) xs) ⊎ (suc (suc j) ≡ length (x.offset ∷ owners xs)) = rw e at within.1.0 in
      let slots : suc j < length (x.offset ∷ owners xs) = rw e at within.1.1 in
      rw e (owner-slot x.offset j k xs (omega arith, (elim high [ inl b ↦ inl (omega arith) | inr b ↦ inr (omega arith) ], omega arith)) (omega arith))
]

-- a put leaves an offset's slot
pub slot-put : (j k p : ℕ) (xs : List Node) → InSlot j k xs → k ≤ length xs → up_to j (put_node k p xs) ≡ up_to j xs
slot-put zero k p xs within le = refl
slot-put (suc j) k p [] within le = absurd (let b = within.1.1 in omega arith)
slot-put (suc j) zero p (x ∷ xs) within le = absurd (let b = within.0 in omega arith)
slot-put (suc j) (suc k) p (x ∷ xs) within le = elim (cases_eq x.owned 0) [
  | inl f ↦
      let e = eq-eqb x.owned 0 f in
      let low : 1 + up_to (suc j) xs ≤ suc k = rw e at within.0 in
      let high : (suc k < 1 + up_to (suc (suc j)) xs) ⊎ (suc (suc j) ≡ length (owners xs)) = rw e at within.1.0 in
      let slots : suc j < length (owners xs) = rw e at within.1.1 in
      let r = slot-put (suc j) k p xs (omega arith, (elim high [ inl b ↦ inl (omega arith) | inr b ↦ inr b ], slots)) (omega arith) in
      rw e (ap (λ n. 1 + n) r)
  | inr f ↦
      let e = ne_eqb x.owned 0 f in
      let low : 1 + up_to j xs ≤ suc k = rw e at within.0 in
      let high : (suc k < 1 + up_to (suc j) xs) ⊎ (suc (suc j) ≡ length (x.offset ∷ owners xs)) = rw e at within.1.0 in
      let slots : suc j < length (x.offset ∷ owners xs) = rw e at within.1.1 in
      let r = slot-put j k p xs (omega arith, (elim high [ inl b ↦ inl (omega arith) | inr b ↦ inr (omega arith) ], omega arith)) (omega arith) in
      rw e (ap (λ n. 1 + n) r)
]

-- offsets and records are as before
pub offsets-own_four_fewer : (xs : List Node) → offsets_of (own_four_fewer xs) ≡ offsets_of xs
offsets-own_four_fewer [] = refl
offsets-own_four_fewer (x ∷ xs) = elim (cases_eq x.owned 0) [
  | inl e ↦ rw (eq-eqb x.owned 0 e) (ap (λ (ps : List ℕ). x.offset ∷ ps) (offsets-own_four_fewer xs))
  | inr ne ↦ rw (ne_eqb x.owned 0 ne) refl
]

pub offsets-give_slot : (t : ℕ) (xs : List Node) → offsets_of (give_slot t xs) ≡ offsets_of xs
offsets-give_slot t [] = refl
offsets-give_slot zero (x ∷ xs) = ap (λ (ps : List ℕ). x.offset ∷ ps) (offsets-own_four_fewer xs)
offsets-give_slot (suc t) (x ∷ xs) = ap (λ (ps : List ℕ). x.offset ∷ ps) (offsets-give_slot t xs)

pub first-offsets : (xs ys : List Node) → offsets_of xs ≡ offsets_of ys → first_of xs ≡ first_of ys
first-offsets [] [] e = refl
first-offsets [] (y ∷ ys) e = cc
first-offsets (x ∷ xs) [] e = cc
first-offsets (x ∷ xs) (y ∷ ys) e = cc
