-- The slot from which a record was taken.
use Rattle.std.proofs.Common.{◌≡◌, ℕ, zero, suc, ◌+◌, ◌-◌, ◌<◌, ◌≤◌, ◌≢◌, ◌⊎◌, [], ◌∷◌, ◌∙◌, List, length, take, drop, get_or, refl, ap, arith, inl, inr}
use Rattle.std.proofs.lemmas.Bool.{cases_eq, eq-eqb, ne_eqb}
use Rattle.ib_heap.specs.Chain.{Node, first_of, owners}
use Rattle.ib_heap.specs.ChainPut.{owned_by, owner_from}
use Rattle.ib_heap.specs.ChainTake.{own_one_fewer, last_one_fewer, unlink_node, unlink_last}
use Rattle.ib_heap.proofs.HeapLaws.{Owned}
use Rattle.ib_heap.proofs.PutLaws.{Apart, apart-rest, apart-offset}
use Rattle.ib_heap.proofs.UnlinkLaws.{length-unlink}
use Rattle.ib_heap.proofs.SeekLaws.{owner-first, header_owned, owners-some}

-- how many slots stand up to the first m records, that of the infimum with them
abbrev pub count : ℕ → List Node → ℕ
count m xs = length (owners (take m xs))

pub owner-count : (p m : ℕ) (xs : List Node) → m ≤ length xs → get_or (p ∷ owners xs) (count m xs) 0 ≡ owner_from (drop m xs)
owner-count p zero xs le = owner-first xs
owner-count p (suc m) [] le = absurd (omega arith)
owner-count p (suc m) (x ∷ xs) le = elim (cases_eq x.owned 0) [
  | inl e ↦ rw (eq-eqb x.owned 0 e) (owner-count p m xs (omega arith))
  | inr ne ↦ rw (ne_eqb x.owned 0 ne) (owner-count x.offset m xs (omega arith))
]

pub count-le : (m : ℕ) (xs : List Node) → count m xs ≤ length (owners xs)
count-le zero xs = owners-some xs
count-le (suc m) [] = omega arith
count-le (suc m) (x ∷ xs) = let r = count-le m xs in elim (cases_eq x.owned 0) [ inl e ↦ rw (eq-eqb x.owned 0 e) r | inr ne ↦ rw (ne_eqb x.owned 0 ne) (omega arith) ]

pub count-step : (t : ℕ) (xs : List Node) → t < length xs → (header_owned (drop t xs) ≡ 0 → ⊥) → count (suc t) xs ≡ count t xs + 1
count-step t [] lt some = absurd (omega arith)
count-step zero (x ∷ xs) lt some = rw (ne_eqb x.owned 0 some) refl
count-step (suc t) (x ∷ xs) lt some = let r = count-step t xs (omega arith) some in elim (cases_eq x.owned 0) [ inl e ↦ rw (eq-eqb x.owned 0 e) r | inr ne ↦ rw (ne_eqb x.owned 0 ne) (omega arith) ]

pub owner-skip : (t : ℕ) (xs : List Node) → t < length xs → header_owned (drop t xs) ≡ 0 → owner_from (drop t xs) ≡ owner_from (drop (suc t) xs)
owner-skip t [] lt none = absurd (omega arith)
owner-skip zero (x ∷ xs) lt none = rw (eq-eqb x.owned 0 none) refl
owner-skip (suc t) (x ∷ xs) lt none = owner-skip t xs (omega arith) none

pub owner-here : (t : ℕ) (xs : List Node) → t < length xs → (header_owned (drop t xs) ≡ 0 → ⊥) → owner_from (drop t xs) ≡ first_of (drop t xs)
owner-here t [] lt some = absurd (omega arith)
owner-here zero (x ∷ xs) lt some = rw (ne_eqb x.owned 0 some) refl
owner-here (suc t) (x ∷ xs) lt some = owner-here t xs (omega arith) some

-- the owner of a slot, by its number
pub record Stand (m : ℕ) (xs : List Node) (last : ℕ) : Type 0 where
  pub at : ℕ
  pub below : at < length xs
  pub first : first_of (drop at xs) ≡ owner_from (drop m xs)
  pub header : header_owned (drop at xs) ≡ owned_by (drop m xs) last
  pub some : header_owned (drop at xs) ≡ 0 → ⊥
  pub slots : count at xs ≡ count m xs

pub stand : (m : ℕ) (xs : List Node) (last : ℕ) → m ≤ length xs → owner_from (drop m xs) ≢ 19 → Stand m xs last
stand zero [] last le ne = absurd (ne refl)
stand (suc m) [] last le ne = absurd (omega arith)
stand zero (x ∷ xs) last le ne = elim (cases_eq x.owned 0) [
  | inl e ↦ (
      let z = eq-eqb x.owned 0 e in
      let ne1 : owner_from xs ≢ 19 = rw z at ne in
      let r = stand zero xs last (omega arith) ne1 in
      record { at = suc r.at; below = (let b = r.below in omega arith); first = rw z r.first; header = rw z r.header; some = r.some; slots = rw z r.slots })
  | inr f ↦ (let z = ne_eqb x.owned 0 f in record { at = 0; below = omega arith; first = rw z refl; header = rw z refl; some = f; slots = refl })
]
stand (suc m) (x ∷ xs) last le ne =
    let r = stand m xs last (omega arith) ne in
    record { at = suc r.at; below = (let b = r.below in omega arith); first = r.first; header = r.header; some = r.some; slots = (let s = r.slots in elim (cases_eq x.owned 0) [ inl e ↦ rw (eq-eqb x.owned 0 e) s | inr f ↦ rw (ne_eqb x.owned 0 f) (ap suc s) ]) }

-- the slot after the record is taken out
pub record UnlinkSlot (ys : List Node) (l slot : ℕ) : Type 0 where
  pub number : ℕ
  pub within : number ≤ length ys
  pub slots : count number ys ≡ slot
  pub well : Owned 0 ys l ⊎ ((owned_by (drop number ys) l ≡ 3) × (owner_from (drop number ys) ≢ 19))

own_one_fewer-well : (n : ℕ) (xs : List Node) (last : ℕ) → Owned (n + 1) xs last → Apart xs → Owned n (own_one_fewer xs) (last_one_fewer xs last) ⊎ ((owned_by (own_one_fewer xs) (last_one_fewer xs last) ≡ 3) × (owner_from (own_one_fewer xs) ≢ 19))
own_one_fewer-well n [] last h apart = let a = h.0 in let b = h.1 in inl (omega arith, omega arith)
own_one_fewer-well n (x ∷ xs) last (inl h) apart =
    let e = eq-eqb x.owned 0 h.0 in
    elim (own_one_fewer-well (n + 1) xs last h.1 (apart-rest x xs apart)) [ inl g ↦ inl (rw e (inl (h.0, g))) | inr g ↦ inr (rw e (rw e g.0), rw e (rw e g.1)) ]
own_one_fewer-well n (x ∷ xs) last (inr h) apart =
    let a = h.0.0 in let b = h.0.1.0 in let d = h.0.1.1 in
    let e = ne_eqb x.owned 0 (λ z. absurd (omega arith)) in
    let f = ne_eqb (x.owned - 1) 0 (λ z. absurd (omega arith)) in
    elim (cases_eq x.owned 4) [
      | inl four ↦ inr (rw e (rw f (omega arith)), rw e (rw f (λ z. absurd (let p = apart-offset x xs apart in omega arith))))
      | inr ne ↦ inl (rw e (inr ((omega arith, (omega (arith, ne), omega arith)), h.1)))
    ]

plain-well : (k n : ℕ) (xs : List Node) (last : ℕ) → k < length xs → Owned n xs last → Apart xs → header_owned (drop k xs) ≡ 0
    → Owned n (unlink_node k xs) (unlink_last k xs last) ⊎ ((owned_by (drop k (unlink_node k xs)) (unlink_last k xs last) ≡ 3) × (owner_from (drop k (unlink_node k xs)) ≢ 19))
plain-well k n [] last lt h apart none = absurd (omega arith)
plain-well zero n (x ∷ xs) last lt (inl h) apart none = own_one_fewer-well n xs last h.1 (apart-rest x xs apart)
plain-well zero n (x ∷ xs) last lt (inr h) apart none = absurd (let b = h.0.1.0 in let z : x.owned ≡ 0 = none in omega arith)
plain-well (suc zero) n (y ∷ []) last lt h apart none = absurd (omega arith)
plain-well (suc zero) n (y ∷ x ∷ xs) last lt (inl h) apart none =
    elim (plain-well 0 (n + 1) (x ∷ xs) last (omega arith) h.1 (apart-rest y (x ∷ xs) apart) none) [ inl g ↦ inl (rw (eq-eqb x.owned 0 none) (inl (h.0, g))) | inr g ↦ inr (rw (eq-eqb x.owned 0 none) g.0, rw (eq-eqb x.owned 0 none) g.1) ]
plain-well (suc zero) n (y ∷ x ∷ xs) last lt (inr h) apart none =
    elim (plain-well 0 0 (x ∷ xs) last (omega arith) h.1 (apart-rest y (x ∷ xs) apart) none) [ inl g ↦ inl (rw (eq-eqb x.owned 0 none) (inr (h.0, g))) | inr g ↦ inr (rw (eq-eqb x.owned 0 none) g.0, rw (eq-eqb x.owned 0 none) g.1) ]
plain-well (suc (suc k)) n (x ∷ xs) last lt (inl h) apart none =
    elim (plain-well (suc k) (n + 1) xs last (omega arith) h.1 (apart-rest x xs apart) none) [ inl g ↦ inl (inl (h.0, g)) | inr g ↦ inr g ]
plain-well (suc (suc k)) n (x ∷ xs) last lt (inr h) apart none =
    elim (plain-well (suc k) 0 xs last (omega arith) h.1 (apart-rest x xs apart) none) [ inl g ↦ inl (inr (h.0, g)) | inr g ↦ inr g ]

plain-count : (k : ℕ) (xs : List Node) → k < length xs → header_owned (drop k xs) ≡ 0 → count k (unlink_node k xs) ≡ count k xs
plain-count k [] lt none = absurd (omega arith)
plain-count zero (x ∷ xs) lt none = refl
plain-count (suc zero) (y ∷ []) lt none = absurd (omega arith)
plain-count (suc zero) (y ∷ x ∷ xs) lt none = rw (eq-eqb x.owned 0 none) refl
plain-count (suc (suc k)) (x ∷ xs) lt none = let r = plain-count (suc k) xs (omega arith) none in elim (cases_eq x.owned 0) [ inl e ↦ rw (eq-eqb x.owned 0 e) r | inr f ↦ rw (ne_eqb x.owned 0 f) (ap suc r) ]

-- before the owner of a slot stands a record that owns none
pub owner-before : (j n : ℕ) (xs : List Node) (last : ℕ) → Owned n xs last → suc j < length xs → (header_owned (drop (suc j) xs) ≡ 0 → ⊥) → header_owned (drop j xs) ≡ 0
owner-before j n [] last h lt some = absurd (omega arith)
owner-before zero n (y ∷ []) last h lt some = absurd (omega arith)
owner-before zero n (y ∷ x ∷ xs) last (inl h) lt some = h.0
owner-before zero n (y ∷ x ∷ xs) last (inr h) lt some = elim h.1 [ inl g ↦ absurd (some g.0) | inr g ↦ absurd (let a = g.0.0 in let b = g.0.1.0 in omega arith) ]
owner-before (suc j) n (x ∷ xs) last (inl h) lt some = owner-before j (n + 1) xs last h.1 (omega arith) some
owner-before (suc j) n (x ∷ xs) last (inr h) lt some = owner-before j 0 xs last h.1 (omega arith) some

pub first-none : (xs : List Node) (last : ℕ) → Owned 0 xs last → header_owned xs ≡ 0
first-none [] last h = refl
first-none (x ∷ xs) last (inl h) = h.0
first-none (x ∷ xs) last (inr h) = absurd (let a = h.0.0 in let b = h.0.1.0 in omega arith)

owner-well : (j n : ℕ) (xs : List Node) (last : ℕ) → suc j < length xs → Owned n xs last → Apart xs → (header_owned (drop (suc j) xs) ≡ 0 → ⊥) → header_owned (drop j xs) ≡ 0
    → Owned n (unlink_node (suc j) xs) (unlink_last (suc j) xs last) ⊎ ((owned_by (drop j (unlink_node (suc j) xs)) (unlink_last (suc j) xs last) ≡ 3) × (owner_from (drop j (unlink_node (suc j) xs)) ≢ 19))
owner-well j n [] last lt h apart some none = absurd (omega arith)
owner-well zero n (y ∷ []) last lt h apart some none = absurd (omega arith)
owner-well zero n (y ∷ x ∷ xs) last lt (inr h) apart some none = absurd (let b = h.0.1.0 in let z : y.owned ≡ 0 = none in omega arith)
owner-well zero n (y ∷ x ∷ xs) last lt (inl h) apart some none = elim h.1 [
  | inl g ↦ absurd (some g.0)
  | inr g ↦ (
      let a = g.0.0 in let b = g.0.1.0 in let d = g.0.1.1 in
      let e = ne_eqb x.owned 0 some in
      let f = ne_eqb (x.owned - 1) 0 (λ z. absurd (omega arith)) in
      elim (cases_eq x.owned 4) [
        | inl four ↦ inr (rw e (rw f (omega arith)), rw e (rw f (λ z. absurd (let p = apart-offset y (x ∷ xs) apart in omega arith))))
        | inr ne ↦ inl (rw e (inr ((omega arith, (omega (arith, ne), omega arith)), g.1)))
      ])
]
owner-well (suc j) n (x ∷ xs) last lt (inl h) apart some none =
    elim (owner-well j (n + 1) xs last (omega arith) h.1 (apart-rest x xs apart) some none) [ inl g ↦ inl (inl (h.0, g)) | inr g ↦ inr g ]
owner-well (suc j) n (x ∷ xs) last lt (inr h) apart some none =
    elim (owner-well j 0 xs last (omega arith) h.1 (apart-rest x xs apart) some none) [ inl g ↦ inl (inr (h.0, g)) | inr g ↦ inr g ]

owner-slots : (j : ℕ) (xs : List Node) → suc j < length xs → (header_owned (drop (suc j) xs) ≡ 0 → ⊥) → header_owned (drop j xs) ≡ 0 → count j (unlink_node (suc j) xs) ≡ count (suc j) xs
owner-slots j [] lt some none = absurd (omega arith)
owner-slots zero (y ∷ []) lt some none = absurd (omega arith)
owner-slots zero (y ∷ x ∷ xs) lt some none = rw (eq-eqb y.owned 0 none) refl
owner-slots (suc j) (x ∷ xs) lt some none = let r = owner-slots j xs (omega arith) some none in elim (cases_eq x.owned 0) [ inl e ↦ rw (eq-eqb x.owned 0 e) r | inr f ↦ rw (ne_eqb x.owned 0 f) (ap suc r) ]

pub unlink-slot : (k slot : ℕ) (xs : List Node) (last : ℕ) → k < length xs → Owned 0 xs last → Apart xs → count k xs ≡ slot → UnlinkSlot (unlink_node k xs) (unlink_last k xs last) slot
unlink-slot k slot xs last lt h apart at = elim (cases_eq (header_owned (drop k xs)) 0) [
  | inl none ↦ record { number = k; within = (let l = length-unlink k xs lt in omega arith); slots = plain-count k xs lt none ∙ at; well = plain-well k 0 xs last lt h apart none }
  | inr some ↦ go k lt some at
]
  where
    go : (i : ℕ) → i < length xs → (header_owned (drop i xs) ≡ 0 → ⊥) → count i xs ≡ slot → UnlinkSlot (unlink_node i xs) (unlink_last i xs last) slot
    go zero l some e = absurd (some (first-none xs last h))
    go (suc j) l some e =
        let none = owner-before j 0 xs last h l some in
        record { number = j; within = (let m = length-unlink (suc j) xs l in omega arith); slots = owner-slots j xs l some none ∙ e; well = owner-well j 0 xs last l h apart some none }
