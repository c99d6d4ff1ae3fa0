-- The slots after a record is taken out, and after a short slot is balanced.
use Rattle.std.proofs.Common.{◌≡◌, ℕ, zero, suc, ◌+◌, ◌<◌, ◌≤◌, ◌⊎◌, [], ◌∷◌, List, length, refl, ap, sym, arith, inl, inr, subst}
use Rattle.std.proofs.lemmas.Bool.{cases_eq, eq-eqb, ne_eqb, cases_lt, le-leb, lt-leb}
use Rattle.ib_heap.specs.Chain.{Node, offsets_of}
use Rattle.ib_heap.specs.ChainPut.{owned_by}
use Rattle.ib_heap.specs.ChainTake.{own_one_fewer, last_one_fewer, unlink_node, unlink_last, own_three_more, last_three_more, lend, lend_last, balance, balance_last}
use Rattle.ib_heap.proofs.HeapLaws.{Owned, IsOwner}

-- slots of which one, that of a record, may own three
abbrev pub Under : ℕ → List Node → ℕ → Type 0
Under n [] last = (last ≡ n + 1) × (last ≤ 8)
Under n (x ∷ xs) last = ((x.owned ≡ 0) × Under (n + 1) xs last) ⊎ (((IsOwner n x.owned) × Under 0 xs last) ⊎ (((x.owned ≡ n + 1) × (x.owned ≡ 3)) × Owned 0 xs last))

under-owned : (n : ℕ) (xs : List Node) (last : ℕ) → Owned n xs last → Under n xs last
under-owned n [] last h = h
under-owned n (x ∷ xs) last (inl h) = inl (h.0, under-owned (n + 1) xs last h.1)
under-owned n (x ∷ xs) last (inr h) = inr (inl (h.0, under-owned 0 xs last h.1))

-- the slot of a record that is taken out owns one fewer
under-own_one_fewer : (n : ℕ) (xs : List Node) (last : ℕ) → Owned (n + 1) xs last → Under n (own_one_fewer xs) (last_one_fewer xs last)
under-own_one_fewer n [] last h = let a = h.0 in let b = h.1 in (omega arith, omega arith)
under-own_one_fewer n (x ∷ xs) last (inl h) = rw (eq-eqb x.owned 0 h.0) (inl (h.0, under-own_one_fewer (n + 1) xs last h.1))
under-own_one_fewer n (x ∷ xs) last (inr h) =
    let a = h.0.0 in let b = h.0.1.0 in let d = h.0.1.1 in
    rw (ne_eqb x.owned 0 (λ z. omega arith)) (elim (cases_eq x.owned 4) [
      | inl e ↦ inr (inr ((omega arith, omega arith), h.1))
      | inr ne ↦ inr (inl ((omega arith, (omega (arith, ne), omega arith)), under-owned 0 xs last h.1))
    ])

pub under-unlink : (k n : ℕ) (xs : List Node) (last : ℕ) → k < length xs → (k ≡ 0 → n ≤ 2) → Owned n xs last → Under n (unlink_node k xs) (unlink_last k xs last)
under-unlink k n [] last lt low h = absurd (omega arith)
under-unlink zero n (x ∷ xs) last lt low (inl h) = under-own_one_fewer n xs last h.1
under-unlink zero n (x ∷ xs) last lt low (inr h) = absurd (let a = h.0.0 in let b = h.0.1.0 in let l = low refl in omega arith)
under-unlink (suc zero) n (y ∷ []) last lt low h = absurd (omega arith)
under-unlink (suc zero) n (y ∷ x ∷ xs) last lt low (inl (inside)) = elim inside.1 [
  | inl g ↦ rw (eq-eqb x.owned 0 g.0) (inl (inside.0, under-own_one_fewer (n + 1) xs last g.1))
  | inr g ↦ (
      let a = g.0.0 in let b = g.0.1.0 in let d = g.0.1.1 in
      rw (ne_eqb x.owned 0 (λ z. omega arith)) (elim (cases_eq x.owned 4) [
        | inl e ↦ inr (inr ((omega arith, omega arith), g.1))
        | inr ne ↦ inr (inl ((omega arith, (omega (arith, ne), omega arith)), under-owned 0 xs last g.1))
      ]))
]
under-unlink (suc zero) n (y ∷ x ∷ xs) last lt low (inr (owner)) = elim owner.1 [
  | inl g ↦ rw (eq-eqb x.owned 0 g.0) (inr (inl (owner.0, under-own_one_fewer 0 xs last g.1)))
  | inr g ↦ absurd (let a = g.0.0 in let b = g.0.1.0 in omega arith)
]
under-unlink (suc (suc k)) n (x ∷ xs) last lt low (inl h) = inl (h.0, under-unlink (suc k) (n + 1) xs last (omega arith) (λ z. absurd (omega arith)) h.1)
under-unlink (suc (suc k)) n (x ∷ xs) last lt low (inr h) = inr (inl (h.0, under-unlink (suc k) 0 xs last (omega arith) (λ z. absurd (omega arith)) h.1))

-- a slot that gives one away
owned-own_one_fewer : (n : ℕ) (xs : List Node) (last : ℕ) → Owned (n + 1) xs last → 5 ≤ owned_by xs last → Owned n (own_one_fewer xs) (last_one_fewer xs last)
owned-own_one_fewer n [] last h five = let a = h.0 in let b = h.1 in (omega arith, omega arith)
owned-own_one_fewer n (x ∷ xs) last (inl h) five = let f = rw (eq-eqb x.owned 0 h.0) at five in rw (eq-eqb x.owned 0 h.0) (inl (h.0, owned-own_one_fewer (n + 1) xs last h.1 f))
owned-own_one_fewer n (x ∷ xs) last (inr h) five =
    let a = h.0.0 in let b = h.0.1.0 in let d = h.0.1.1 in
    let e = ne_eqb x.owned 0 (λ z. omega arith) in
    let f : 5 ≤ x.owned = rw e at five in
    rw e (inr ((omega arith, (omega arith, omega arith)), h.1))

-- a slot that takes three in
owned-own_three_more : (n m : ℕ) (xs : List Node) (last : ℕ) → m ≡ n + 3 → Owned n xs last → owned_by xs last ≤ 4 → Owned m (own_three_more xs) (last_three_more xs last)
owned-own_three_more n m [] last e h four = let a = h.0 in let f : last ≤ 4 = four in (omega arith, omega arith)
owned-own_three_more n m (x ∷ xs) last e (inl h) four = let f = rw (eq-eqb x.owned 0 h.0) at four in rw (eq-eqb x.owned 0 h.0) (inl (h.0, owned-own_three_more (n + 1) (m + 1) xs last (omega arith) h.1 f))
owned-own_three_more n m (x ∷ xs) last e (inr h) four =
    let a = h.0.0 in let b = h.0.1.0 in
    let z = ne_eqb x.owned 0 (λ y. omega arith) in
    let f : x.owned ≤ 4 = rw z at four in
    rw z (inr ((omega arith, (omega arith, omega arith)), h.1))

owned-lend : (xs : List Node) (last : ℕ) → Owned 0 xs last → 5 ≤ owned_by xs last → Owned 3 (lend xs) (lend_last xs last)
owned-lend [] last h five = absurd (let a = h.0 in let f : 5 ≤ last = five in omega arith)
owned-lend (x ∷ xs) last (inl h) five = let f = rw (eq-eqb x.owned 0 h.0) at five in inr ((omega arith, (omega arith, omega arith)), owned-own_one_fewer 0 xs last h.1 f)
owned-lend (x ∷ xs) last (inr h) five = absurd (let a = h.0.0 in let b = h.0.1.0 in omega arith)

-- after the balance all slots are well
pub owned-balance : (n : ℕ) (xs : List Node) (last : ℕ) → Under n xs last → Owned n (balance xs last) (balance_last xs last)
owned-balance n [] last h = h
owned-balance n (x ∷ xs) last (inl h) = let a = h.0 in rw (ne_eqb x.owned 3 (λ z. absurd (omega arith))) (inl (h.0, owned-balance (n + 1) xs last h.1))
owned-balance n (x ∷ xs) last (inr (inl h)) = let b = h.0.1.0 in rw (ne_eqb x.owned 3 (λ z. absurd (omega arith))) (inr (h.0, owned-balance 0 xs last h.1))
owned-balance n (x ∷ xs) last (inr (inr h)) =
    let a = h.0.0 in let b = h.0.1 in
    let two : n + 1 ≡ 3 = omega arith in
    rw (eq-eqb x.owned 3 b) (elim (cases_lt (owned_by xs last) 5) [
      | inl lt ↦ rw (lt-leb 5 (owned_by xs last) lt) (inl (refl, owned-own_three_more 0 (n + 1) xs last (omega arith) h.1 (omega arith)))
      | inr ge ↦ rw (le-leb 5 (owned_by xs last) ge) (inl (refl, subst (λ (m : ℕ). Owned m (lend xs) (lend_last xs last)) (sym two) (owned-lend xs last h.1 ge)))
    ])

-- offsets are those of the chain without the record
pub offsets-own_one_fewer : (xs : List Node) → offsets_of (own_one_fewer xs) ≡ offsets_of xs
offsets-own_one_fewer [] = refl
offsets-own_one_fewer (x ∷ xs) = elim (cases_eq x.owned 0) [
  | inl e ↦ rw (eq-eqb x.owned 0 e) (ap (λ (ps : List ℕ). x.offset ∷ ps) (offsets-own_one_fewer xs))
  | inr ne ↦ rw (ne_eqb x.owned 0 ne) refl
]
