-- The words that are kept are no header of a record in use, and none of the words that count and order the records.
use Rattle.std.proofs.Common.{◌≡◌, ◌≢◌, ℕ, ◌+◌, ◌*◌, ◌<◌, ◌≤◌, ◌⊎◌, arith, inl, inr}
use Rattle.std.proofs.lemmas.Bool.{cases_lt}
use Rattle.ib_heap.specs.Kept.{IsKept, IsOutside}
use Rattle.ib_heap.proofs.HeapLaws.{IsOffset}

pub kept-apart : (n i : ℕ) → IsKept n i → (i < 2) ⊎ (((2 < i) × (i < 6)) ⊎ (20 ≤ i))
kept-apart n i kept = elim kept [ inl low ↦ inl low | inr f ↦ elim f [ inl header ↦ inr (inl header) | inr g ↦ inr (inr g.0) ] ]

pub kept-far : (n i : ℕ) → IsKept n i → (i < 7) ⊎ (18 < i)
kept-far n i kept = elim (kept-apart n i kept) [ inl low ↦ inl (omega arith) | inr f ↦ elim f [ inl header ↦ inl (let u = header.1 in omega arith) | inr high ↦ inr (omega arith) ] ]

pub kept-fixed : (n i j : ℕ) → IsKept n i → (j ≡ 2) ⊎ ((6 ≤ j) × (j < 20)) → i ≢ j
kept-fixed n i j kept fixed z = elim (kept-apart n i kept) [
  | inl low ↦ elim fixed [ inl e ↦ omega arith | inr e ↦ (let u = e.0 in omega arith) ]
  | inr f ↦ elim f [
    | inl header ↦ (let a = header.0 in let b = header.1 in elim fixed [ inl e ↦ omega arith | inr e ↦ (let u = e.0 in omega arith) ])
    | inr high ↦ elim fixed [ inl e ↦ omega arith | inr e ↦ (let u = e.1 in omega arith) ]
  ]
]

pub kept-offset : (n i q : ℕ) → IsKept n i → IsOffset n q → i ≢ q
kept-offset n i q kept offset z =
    let a = offset.is in let b = offset.below in
    elim kept [
      | inl low ↦ omega arith
      | inr f ↦ elim f [ inl header ↦ (let u = header.1 in omega arith) | inr g ↦ elim g.1 [ inl other ↦ other (omega arith) | inr far ↦ omega arith ] ]
    ]

-- what is outside an offset is none of its words
pub outside-apart : (p i j : ℕ) → IsOutside p i → p ≤ j → j < p + 4 → i ≢ j
outside-apart p i j out low high z = elim out [ inl lt ↦ omega arith | inr ge ↦ omega arith ]

-- the words of one offset are outside another
pub outside-other : (p q i a b : ℕ) → p ≡ 20 + 4 * a → q ≡ 20 + 4 * b → q ≢ p → q ≤ i → i < q + 4 → IsOutside p i
outside-other p q i a b p_is q_is ne low high = elim (cases_lt q p) [ inl lt ↦ inl (omega arith) | inr ge ↦ inr (omega (arith, ne)) ]
