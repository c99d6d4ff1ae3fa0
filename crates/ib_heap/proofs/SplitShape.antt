-- The page after a slot of nine is split, by what was written.
use Rattle.std.proofs.Common.{◌≡◌, ℕ, zero, suc, ◌+◌, ◌-◌, ◌*◌, ◌<◌, ◌≤◌, ◌≢◌, ◌⊎◌, false, [], ◌∷◌, ◌∙◌, List, length, drop, get_or, refl, ap, sym, arith, eqb, inl, inr, subst}
use Rattle.std.specs.List.{insert}
use Rattle.std.proofs.lemmas.Bool.{cases_eq, eq-eqb, ne_eqb}
use Rattle.ib_heap.specs.Chain.{Node, first_of, owners, times, offsets_of, up_to}
use Rattle.ib_heap.specs.ChainPut.{owned_by, owner_from, own_four_fewer, last_four_fewer, give_slot, give_slot_last}
use Rattle.ib_heap.proofs.HeapLaws.{Chained, Owned, Directory}
use Rattle.ib_heap.proofs.SeekLaws.{directory-at, header_owned}
use Rattle.ib_heap.proofs.PutLaws.{one-same, Over, OverAt, Apart, SameAt, apart-rest, apart-first, apart-offset, apart-owner, chain-same, first-member, times-apart}
use Rattle.ib_heap.proofs.SplitLaws.{InSlot, offsets-own_four_fewer, offsets-give_slot, first-offsets, first_slot}

-- what is known of the group of nine
pub record Group (j k t : ℕ) (xs : List Node) (last : ℕ) : Type 0 where
  pub in_range : t < length xs
  pub header : header_owned (drop t xs) ≡ 0
  pub owner : owner_from (drop (suc t) xs) ≡ owner_from (drop k xs)
  pub owned : owned_by (drop (suc t) xs) last ≡ 9
  pub slots : owners (give_slot t xs) ≡ insert (owners xs) j (first_of (drop t xs))

owners-own_four_fewer : (xs : List Node) (last : ℕ) → owned_by xs last ≡ 9 → owners (own_four_fewer xs) ≡ owners xs
owners-own_four_fewer [] last nine = refl
owners-own_four_fewer (x ∷ xs) last nine = elim (cases_eq x.owned 0) [
  | inl f ↦ (let e = eq-eqb x.owned 0 f in let rest = rw e at nine in rw e (rw e (owners-own_four_fewer xs last rest)))
  | inr f ↦ (let e = ne_eqb x.owned 0 f in let is : x.owned ≡ 9 = rw e at nine in rw e (rw (ne_eqb (x.owned - 4) 0 (λ z. absurd (omega arith))) refl))
]

first_group : (n m : ℕ) (xs : List Node) (last : ℕ) → n + m ≡ 3 → Over n xs last → owned_by xs last ≡ 9
    → (m < length xs) × ((header_owned (drop m xs) ≡ 0) × ((owner_from (drop (suc m) xs) ≡ owner_from xs) × ((owned_by (drop (suc m) xs) last ≡ 9) × (owners (give_slot m xs) ≡ first_of (drop m xs) ∷ owners xs))))
first_group n m [] last e h nine = absurd (let a = h.0 in let b : last ≡ 9 = nine in omega arith)
first_group n zero (x ∷ xs) last e (inl h) nine =
    let z = eq-eqb x.owned 0 h.0 in
    let rest = rw z at nine in
    (omega arith, (h.0, (rw z refl, (rest, rw z (ap (λ (os : List ℕ). x.offset ∷ os) (owners-own_four_fewer xs last rest))))))
first_group n zero (x ∷ xs) last e (inr h) nine = absurd (let a = h.0.0 in let is : x.owned ≡ 9 = rw (ne_eqb x.owned 0 (λ z. omega arith)) at nine in omega arith)
first_group n (suc m) (x ∷ xs) last e (inl h) nine =
    let z = eq-eqb x.owned 0 h.0 in
    let rest = rw z at nine in
    let r = first_group (n + 1) m xs last (omega arith) h.1 rest in
    (omega arith, (r.1.0, (rw z r.1.1.0, (r.1.1.1.0, rw z r.1.1.1.1))))
first_group n (suc m) (x ∷ xs) last e (inr h) nine = absurd (let a = h.0.0 in let is : x.owned ≡ 9 = rw (ne_eqb x.owned 0 (λ z. omega arith)) at nine in omega arith)

pub group : (j k n : ℕ) (xs : List Node) (last : ℕ) → (j ≡ 0 → n ≡ 0) → OverAt k n xs last → owned_by (drop k xs) last ≡ 9 → InSlot j k xs → Group j k (up_to j xs + 3) xs last
group zero k n xs last none h nine within =
    let r = first_slot n k xs last h within.1.0 in
    let e = none refl in
    let t : up_to 0 xs + 3 ≡ 3 = omega arith in
    let f = first_group n 3 xs last (omega arith) r.0 (sym r.1.0 ∙ nine) in
    subst (λ (m : ℕ). Group 0 k m xs last) (sym t) (record { in_range = f.0; header = f.1.0; owner = f.1.1.0 ∙ sym r.1.1; owned = f.1.1.1.0; slots = f.1.1.1.1 })
group (suc j) k n [] last none h nine within = absurd (let b = within.1.1 in omega arith)
group (suc j) zero n (x ∷ xs) last none h nine within = absurd (let b = within.0 in omega arith)
group (suc j) (suc k) n (x ∷ xs) last none (inl h) nine within =
    let e = eq-eqb x.owned 0 h.0 in
    let low : 1 + up_to (suc j) xs ≤ suc k = rw e at within.0 in
    let high : (suc k < 1 + up_to (suc (suc j)) xs) ⊎ (suc (suc j) ≡ length (owners xs)) = rw e at within.1.0 in
    let slots : suc j < length (owners xs) = rw e at within.1.1 in
    let r = group (suc j) k (n + 1) xs last (λ z. absurd (omega arith)) h.1 nine (omega arith, (elim high [ inl a ↦ inl (omega arith) | inr a ↦ inr a ], slots)) in
    let t : up_to (suc j) (x ∷ xs) + 3 ≡ suc (up_to (suc j) xs + 3) = rw e (omega arith) in
    subst (λ (m : ℕ). Group (suc j) (suc k) m (x ∷ xs) last) (sym t) (record { in_range = (let i = r.in_range in omega arith); header = r.header; owner = r.owner; owned = r.owned; slots = rw e r.slots })
group (suc j) (suc k) n (x ∷ xs) last none (inr h) nine within =
    let a = h.0.0 in
    let e : eqb x.owned 0 ≡ false = ne_eqb x.owned 0 (λ z. omega arith) in
    let low : 1 + up_to j xs ≤ suc k = rw e at within.0 in
    let high : (suc k < 1 + up_to (suc j) xs) ⊎ (suc (suc j) ≡ length (x.offset ∷ owners xs)) = rw e at within.1.0 in
    let slots : suc j < length (x.offset ∷ owners xs) = rw e at within.1.1 in
    let r = group j k 0 xs last (λ z. refl) h.1 nine (omega arith, (elim high [ inl b ↦ inl (omega arith) | inr b ↦ inr (omega arith) ], omega arith)) in
    let t : up_to (suc j) (x ∷ xs) + 3 ≡ suc (up_to j xs + 3) = rw e (omega arith) in
    subst (λ (m : ℕ). Group (suc j) (suc k) m (x ∷ xs) last) (sym t) (record { in_range = (let i = r.in_range in omega arith); header = r.header; owner = r.owner; owned = r.owned; slots = rw e (ap (λ (os : List ℕ). x.offset ∷ os) r.slots) })

-- there is room for one more slot
owned-count : (n : ℕ) (xs : List Node) (last : ℕ) → Owned n xs last → 4 * length (owners xs) ≤ n + length xs + 4
owned-count n [] last h = omega arith
owned-count n (x ∷ xs) last (inl h) = let r = owned-count (n + 1) xs last h.1 in rw (eq-eqb x.owned 0 h.0) (omega arith)
owned-count n (x ∷ xs) last (inr h) = let r = owned-count 0 xs last h.1 in let a = h.0.0 in let b = h.0.1.0 in rw (ne_eqb x.owned 0 (λ z. omega arith)) (omega arith)

over-count : (n : ℕ) (xs : List Node) (last : ℕ) → Over n xs last → owned_by xs last ≡ 9 → 4 * length (owners xs) + 1 ≤ n + length xs
over-count n [] last h nine = let a = h.0 in let b : last ≡ 9 = nine in omega arith
over-count n (x ∷ xs) last (inl h) nine = let e = eq-eqb x.owned 0 h.0 in let rest = rw e at nine in let r = over-count (n + 1) xs last h.1 rest in rw e (omega arith)
over-count n (x ∷ xs) last (inr h) nine = let a = h.0.0 in let b = h.0.1.0 in let e = ne_eqb x.owned 0 (λ z. omega arith) in let is : x.owned ≡ 9 = rw e at nine in let r = owned-count 0 xs last h.1 in rw e (omega arith)

pub slots-room : (k n : ℕ) (xs : List Node) (last : ℕ) → OverAt k n xs last → owned_by (drop k xs) last ≡ 9 → 4 * length (owners xs) + 1 ≤ n + length xs
slots-room zero n xs last h nine = over-count n xs last h nine
slots-room (suc k) n [] last h nine = absurd h
slots-room (suc k) n (x ∷ xs) last (inl h) nine = let r = slots-room k (n + 1) xs last h.1 nine in rw (eq-eqb x.owned 0 h.0) (omega arith)
slots-room (suc k) n (x ∷ xs) last (inr h) nine = let r = slots-room k 0 xs last h.1 nine in let a = h.0.0 in let b = h.0.1.0 in rw (ne_eqb x.owned 0 (λ z. omega arith)) (omega arith)

-- the chain
chain-own_four_fewer : (ws vs : List ℕ) (xs : List Node) (last b : ℕ) → Chained ws xs last → Apart xs → owned_by xs last ≡ 9 → get_or vs (owner_from xs) 0 + 1024 ≡ get_or ws (owner_from xs) 0 → (20 ≤ b) × (times b (offsets_of xs) ≡ 0)
    → SameAt ws vs xs b (owner_from xs) → Chained vs (own_four_fewer xs) (last_four_fewer xs last)
chain-own_four_fewer ws vs [] last b h apart nine low off same = let c : get_or ws 19 0 ≡ last * 256 = h in let d : get_or vs 19 0 + 1024 ≡ get_or ws 19 0 = low in let e : last ≡ 9 = nine in omega arith
chain-own_four_fewer ws vs (x ∷ xs) last b h apart nine low off same = elim (cases_eq x.owned 0) [
  | inl e ↦
      let none = eq-eqb x.owned 0 e in
      let is : owner_from (x ∷ xs) ≡ owner_from xs = rw none refl in
      let rest_nine = rw none at nine in
      let here : 0 < times x.offset (offsets_of (x ∷ xs)) = let o = one-same x.offset in omega arith in
      let differs : x.offset ≢ owner_from xs = apart-owner x xs 0 apart in
      let first : get_or vs x.offset 0 ≡ get_or ws x.offset 0 = same x.offset (inl here) (not_b x.offset here) (λ z. differs (z ∙ is)) in
      let rest : Chained vs (own_four_fewer xs) (last_four_fewer xs last) = chain-own_four_fewer ws vs xs last b h.1 (apart-rest x xs apart) rest_nine
      (subst (λ (q : ℕ). get_or vs q 0 + 1024 ≡ get_or ws q 0) is low) (off.0, let t = off.1 in omega arith)
      (λ q m ne nf. same q (elim m [ inl lt ↦ inl (omega arith) | inr z ↦ inr z ]) ne (λ z. nf (z ∙ is))) in
      rw none (first ∙ (h.0 ∙ ap (λ n. x.owned * 256 + n) (first-offsets xs (own_four_fewer xs) (sym (offsets-own_four_fewer xs)))), rest)
  | inr ne ↦
      let some = ne_eqb x.owned 0 ne in
      let is : owner_from (x ∷ xs) ≡ x.offset = rw some refl in
      let nine_here : x.owned ≡ 9 = rw some at nine in
      let down : get_or vs x.offset 0 + 1024 ≡ get_or ws x.offset 0 = subst (λ (q : ℕ). get_or vs q 0 + 1024 ≡ get_or ws q 0) is low in
      let word = h.0 in
      let rest : Chained vs xs last = chain-same ws vs xs last h.1 (λ q m. same q (elim m [ inl lt ↦ inl (omega arith) | inr z ↦ inr z ])
      (elim m [ inl lt ↦ not_b q (omega arith) | inr t ↦ (λ z. absurd (let l = off.0 in omega arith)) ])
      (elim m [ inl lt ↦ (λ z. apart-first x xs q apart lt (sym (z ∙ is))) | inr t ↦ (λ z. absurd (let l = apart-offset x xs apart in let y : q ≡ x.offset = z ∙ is in omega arith)) ])) in
      rw some (let e : get_or vs x.offset 0 ≡ (x.owned - 4) * 256 + first_of xs = omega arith in e, rest)
]
  where
    not_b : (q : ℕ) → 0 < times q (offsets_of (x ∷ xs)) → q ≢ b
    not_b q lt z = times-apart b q (offsets_of (x ∷ xs)) off.1 lt (sym z)

pub chain-give_slot : (ws vs : List ℕ) (t : ℕ) (xs : List Node) (last : ℕ) → t < length xs → Chained ws xs last → Apart xs → header_owned (drop t xs) ≡ 0 → owned_by (drop (suc t) xs) last ≡ 9
    → get_or vs (first_of (drop t xs)) 0 ≡ get_or ws (first_of (drop t xs)) 0 + 1024
    → get_or vs (owner_from (drop (suc t) xs)) 0 + 1024 ≡ get_or ws (owner_from (drop (suc t) xs)) 0
    → SameAt ws vs xs (first_of (drop t xs)) (owner_from (drop (suc t) xs))
    → Chained vs (give_slot t xs) (give_slot_last t xs last)
chain-give_slot ws vs t [] last lt h apart header nine up down same = absurd (omega arith)
chain-give_slot ws vs zero (x ∷ xs) last lt h apart header nine up down same =
    let word = h.0 in
    let first = first-offsets xs (own_four_fewer xs) (sym (offsets-own_four_fewer xs)) in
    let none : times x.offset (offsets_of xs) ≡ 0 = let r = apart.once x.offset in let o = one-same x.offset in omega arith in
    let rest = chain-own_four_fewer ws vs xs last x.offset h.1 (apart-rest x xs apart) nine down (apart-offset x xs apart, none)
    (λ q m nb nw. same q (elim m [ inl l ↦ inl (omega arith) | inr z ↦ inr z ]) nb nw) in
    (let e : get_or vs x.offset 0 ≡ 4 * 256 + first_of (own_four_fewer xs) = omega arith in e, rest)
chain-give_slot ws vs (suc t) (x ∷ xs) last lt h apart header nine up down same =
    let rest = chain-give_slot ws vs t xs last (omega arith) h.1 (apart-rest x xs apart) header nine up down (λ q m nb nw. same q (elim m [ inl l ↦ inl (omega arith) | inr z ↦ inr z ]) nb nw) in
    let here : get_or vs x.offset 0 ≡ get_or ws x.offset 0 = same x.offset (inl (let o = one-same x.offset in omega arith))
    (apart-first x xs (first_of (drop t xs)) apart (first-member t xs (omega arith))) (apart-owner x xs (suc t) apart) in
    (here ∙ (h.0 ∙ ap (λ n. x.owned * 256 + n) (first-offsets xs (give_slot t xs) (sym (offsets-give_slot t xs)))), rest)

-- a directory with one slot more
pub directory-from : (ws : List ℕ) (n i : ℕ) (slots : List ℕ) → length slots ≤ n → ((m : ℕ) → m < n → get_or ws (i + m) 0 ≡ get_or slots m 0) → Directory ws n i slots
directory-from ws zero i slots le each = omega arith
directory-from ws (suc n) i [] le each = (
  ap (λ k. get_or ws k 0) (let e : i ≡ i + 0 = omega arith in e) ∙ each 0 (omega arith),
  directory-from ws n (i + 1) [] (omega arith) (λ m lt. ap (λ k. get_or ws k 0) (let e : i + 1 + m ≡ i + suc m = omega arith in e) ∙ each (suc m) (omega arith)),
)
directory-from ws (suc n) i (s ∷ slots) le each = (
  ap (λ k. get_or ws k 0) (let e : i ≡ i + 0 = omega arith in e) ∙ each 0 (omega arith),
  directory-from ws n (i + 1) slots (omega arith) (λ m lt. ap (λ k. get_or ws k 0) (let e : i + 1 + m ≡ i + suc m = omega arith in e) ∙ each (suc m) (omega arith)),
)

pub directory-insert : (ws vs : List ℕ) (n i j o : ℕ) (slots : List ℕ) → Directory ws n i slots → j ≤ length slots → length slots < n
    → ((m : ℕ) → m < j → get_or vs (i + m) 0 ≡ get_or ws (i + m) 0) → get_or vs (i + j) 0 ≡ o → ((m : ℕ) → j ≤ m → m + 1 < n → get_or vs (i + (m + 1)) 0 ≡ get_or ws (i + m) 0)
    → Directory vs n i (insert slots j o)
directory-insert ws vs zero i j o slots h le lt front here back = absurd (omega arith)
directory-insert ws vs (suc n) i zero o slots h le lt front here back = (
  ap (λ k. get_or vs k 0) (let e : i ≡ i + 0 = omega arith in e) ∙ here,
  directory-from vs n (i + 1) slots (omega arith) (λ m l. ap (λ k. get_or vs k 0) (let e : i + 1 + m ≡ i + (m + 1) = omega arith in e) ∙ (back m (omega arith) (omega arith) ∙ directory-at ws (suc n) i slots m h (omega arith))),
)
directory-insert ws vs (suc n) i (suc j) o [] h le lt front here back = absurd (omega arith)
directory-insert ws vs (suc n) i (suc j) o (s ∷ slots) h le lt front here back = (
  ap (λ k. get_or vs k 0) (let e : i ≡ i + 0 = omega arith in e) ∙ (front 0 (omega arith) ∙ (ap (λ k. get_or ws k 0) (let e : i + 0 ≡ i = omega arith in e) ∙ h.0)),
  directory-insert ws vs n (i + 1) j o slots h.1 (omega arith) (omega arith)
      (λ m l. ap (λ k. get_or vs k 0) (let e : i + 1 + m ≡ i + suc m = omega arith in e) ∙ (front (suc m) (omega arith) ∙ ap (λ k. get_or ws k 0) (let e : i + suc m ≡ i + 1 + m = omega arith in e)))
      (ap (λ k. get_or vs k 0) (let e : i + 1 + j ≡ i + suc j = omega arith in e) ∙ here)
      (λ m l b. ap (λ k. get_or vs k 0) (let e : i + 1 + (m + 1) ≡ i + (suc m + 1) = omega arith in e) ∙ (back (suc m) (omega arith) (omega arith) ∙ ap (λ k. get_or ws k 0) (let e : i + suc m ≡ i + 1 + m = omega arith in e))),
)
