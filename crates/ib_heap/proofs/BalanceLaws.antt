-- The chain after a slot of three is balanced.
use Rattle.std.proofs.Common.{◌≡◌, ℕ, zero, suc, ◌+◌, ◌-◌, ◌*◌, ◌<◌, ◌≤◌, ◌≢◌, ◌⊎◌, false, [], ◌∷◌, ◌∙◌, List, length, take, drop, get_or, refl, ap, sym, arith, eqb, inl, inr, subst}
use Rattle.std.proofs.lemmas.Bool.{cases_eq, eq-eqb, ne_eqb, cases_lt, le-leb, lt-leb}
use Rattle.ib_heap.specs.Chain.{Node, first_of, owners, times, offsets_of}
use Rattle.ib_heap.specs.ChainPut.{owner_from, owned_by}
use Rattle.ib_heap.specs.ChainTake.{own_one_fewer, own_three_more, last_three_more, lend, lend_last, balance, balance_last}
use Rattle.ib_heap.proofs.HeapLaws.{Chained, Owned}
use Rattle.ib_heap.proofs.PutLaws.{one-same, Apart, apart-rest, apart-first, apart-owner, chain-same, first-member}
use Rattle.ib_heap.proofs.SplitLaws.{first-offsets}
use Rattle.ib_heap.proofs.CountLaws.{Under, offsets-own_one_fewer}
use Rattle.ib_heap.proofs.UnlinkLaws.{At, at-more, not-first, SameBut, chain-own_one_fewer, owners-own_one_fewer, SetAt, set-first, set-cons}
use Rattle.ib_heap.proofs.SeekLaws.{header_owned, owners-some}

pub offsets-own_three_more : (xs : List Node) → offsets_of (own_three_more xs) ≡ offsets_of xs
offsets-own_three_more [] = refl
offsets-own_three_more (x ∷ xs) = elim (cases_eq x.owned 0) [
  | inl e ↦ rw (eq-eqb x.owned 0 e) (ap (λ (ps : List ℕ). x.offset ∷ ps) (offsets-own_three_more xs))
  | inr ne ↦ rw (ne_eqb x.owned 0 ne) refl
]

pub offsets-lend : (xs : List Node) → offsets_of (lend xs) ≡ offsets_of xs
offsets-lend [] = refl
offsets-lend (x ∷ xs) = ap (λ (ps : List ℕ). x.offset ∷ ps) (offsets-own_one_fewer xs)

pub offsets-balance : (xs : List Node) (last : ℕ) → offsets_of (balance xs last) ≡ offsets_of xs
offsets-balance [] last = refl
offsets-balance (x ∷ xs) last = elim (cases_eq x.owned 3) [
  | inl e ↦ elim (cases_lt (owned_by xs last) 5) [
    | inl lt ↦ rw (eq-eqb x.owned 3 e) (rw (lt-leb 5 (owned_by xs last) lt) (ap (λ (ps : List ℕ). x.offset ∷ ps) (offsets-own_three_more xs)))
    | inr ge ↦ rw (eq-eqb x.owned 3 e) (rw (le-leb 5 (owned_by xs last) ge) (ap (λ (ps : List ℕ). x.offset ∷ ps) (offsets-lend xs)))
  ]
  | inr ne ↦ rw (ne_eqb x.owned 3 ne) (ap (λ (ps : List ℕ). x.offset ∷ ps) (offsets-balance xs last))
]

-- where all slots are well nothing changes
pub balance-well : (n : ℕ) (xs : List Node) (last : ℕ) → Owned n xs last → (balance xs last ≡ xs) × (balance_last xs last ≡ last)
balance-well n [] last h = (refl, refl)
balance-well n (x ∷ xs) last (inl h) = let a = h.0 in let r = balance-well (n + 1) xs last h.1 in let e = ne_eqb x.owned 3 (λ z. absurd (omega arith)) in (rw e (ap (λ (ys : List Node). x ∷ ys) r.0), rw e r.1)
balance-well n (x ∷ xs) last (inr h) = let b = h.0.1.0 in let r = balance-well 0 xs last h.1 in let e = ne_eqb x.owned 3 (λ z. absurd (omega arith)) in (rw e (ap (λ (ys : List Node). x ∷ ys) r.0), rw e r.1)

pub chain-own_three_more : (ws vs : List ℕ) (xs : List Node) (last : ℕ) → Chained ws xs last → Apart xs → get_or vs (owner_from xs) 0 ≡ get_or ws (owner_from xs) 0 + 768 → SameBut ws vs xs (owner_from xs) → Chained vs (own_three_more xs) (last_three_more xs last)
chain-own_three_more ws vs [] last h apart low same = let c : get_or ws 19 0 ≡ last * 256 = h in let d : get_or vs 19 0 ≡ get_or ws 19 0 + 768 = low in omega arith
chain-own_three_more ws vs (x ∷ xs) last h apart low same = elim (cases_eq x.owned 0) [
  | inl e ↦
      let none = eq-eqb x.owned 0 e in
      let is : owner_from (x ∷ xs) ≡ owner_from xs = rw none refl in
      let here : 0 < times x.offset (offsets_of (x ∷ xs)) = let o = one-same x.offset in omega arith in
      let differs : x.offset ≢ owner_from xs = apart-owner x xs 0 apart in
      let first : get_or vs x.offset 0 ≡ get_or ws x.offset 0 = same x.offset (inl here) (λ z. differs (z ∙ is)) in
      let rest : Chained vs (own_three_more xs) (last_three_more xs last) = chain-own_three_more ws vs xs last h.1 (apart-rest x xs apart)
      (subst (λ (q : ℕ). get_or vs q 0 ≡ get_or ws q 0 + 768) is low)
      (λ q m nf. same q (at-more q x xs m) (λ z. nf (z ∙ is))) in
      rw none (first ∙ (h.0 ∙ ap (λ n. x.owned * 256 + n) (first-offsets xs (own_three_more xs) (sym (offsets-own_three_more xs)))), rest)
  | inr ne ↦
      let some = ne_eqb x.owned 0 ne in
      let is : owner_from (x ∷ xs) ≡ x.offset = rw some refl in
      let up : get_or vs x.offset 0 ≡ get_or ws x.offset 0 + 768 = subst (λ (q : ℕ). get_or vs q 0 ≡ get_or ws q 0 + 768) is low in
      let word = h.0 in
      let rest : Chained vs xs last = chain-same ws vs xs last h.1 (λ q m. same q (at-more q x xs m) (λ z. not-first q x xs apart m (z ∙ is))) in
      rw some (let e : get_or vs x.offset 0 ≡ (x.owned + 3) * 256 + first_of xs = omega arith in e, rest)
]

-- the short slot, behind the first t records
pub under-rest : (n t : ℕ) (x : Node) (xs : List Node) (last : ℕ) → Under n (x ∷ xs) last → t < length xs → header_owned (drop t xs) ≡ 3
    → (x.owned ≢ 3) × (((x.owned ≡ 0) × Under (n + 1) xs last) ⊎ ((4 ≤ x.owned) × Under 0 xs last))
under-rest n t x xs last (inl h) lt three = (λ z. absurd (let a = h.0 in omega arith), inl h)
under-rest n t x xs last (inr (inl h)) lt three = (λ z. absurd (let a = h.0.1.0 in omega arith), inr (h.0.1.0, h.1))
under-rest n t x xs last (inr (inr h)) lt three = absurd (not-three 0 t xs h.1 lt three)
  where
    not-three : (m i : ℕ) (ys : List Node) → Owned m ys last → i < length ys → header_owned (drop i ys) ≡ 3 → ⊥
    not-three m i [] o l e = absurd (omega arith)
    not-three m zero (y ∷ ys) (inl o) l e = let a = o.0 in let z : y.owned ≡ 3 = e in absurd (omega arith)
    not-three m zero (y ∷ ys) (inr o) l e = let a = o.0.1.0 in let z : y.owned ≡ 3 = e in absurd (omega arith)
    not-three m (suc i) (y ∷ ys) (inl o) l e = not-three (m + 1) i ys o.1 (omega arith) e
    not-three m (suc i) (y ∷ ys) (inr o) l e = not-three 0 i ys o.1 (omega arith) e

pub under-here : (n : ℕ) (x : Node) (xs : List Node) (last : ℕ) → Under n (x ∷ xs) last → x.owned ≡ 3 → Owned 0 xs last
under-here n x xs last (inl h) e = absurd (let a = h.0 in omega arith)
under-here n x xs last (inr (inl h)) e = absurd (let a = h.0.1.0 in omega arith)
under-here n x xs last (inr (inr h)) e = h.1

-- a slot of five or more does not end at its first record
five-more : (xs : List Node) (last : ℕ) → Owned 0 xs last → 5 ≤ owned_by xs last → (0 < length xs) × (header_owned xs ≡ 0)
five-more [] last h five = absurd (let a = h.0 in let f : 5 ≤ last = five in omega arith)
five-more (x ∷ xs) last (inl h) five = (omega arith, h.0)
five-more (x ∷ xs) last (inr h) five = absurd (let a = h.0.0 in let b = h.0.1.0 in omega arith)

pub lend-some : (n t : ℕ) (xs : List Node) (last : ℕ) → Under n xs last → t < length xs → header_owned (drop t xs) ≡ 3 → 5 ≤ owned_by (drop (suc t) xs) last → (suc t < length xs) × (header_owned (drop (suc t) xs) ≡ 0)
lend-some n t [] last u lt three five = absurd (omega arith)
lend-some n zero (x ∷ xs) last u lt three five = let r = five-more xs last (under-here n x xs last u three) five in (let a = r.0 in omega arith, r.1)
lend-some n (suc t) (x ∷ xs) last u lt three five = elim (under-rest n t x xs last u (omega arith) three).1 [
  | inl h ↦ (let r = lend-some (n + 1) t xs last h.1 (omega arith) three five in (let a = r.0 in omega arith, r.1))
  | inr h ↦ (let r = lend-some 0 t xs last h.1 (omega arith) three five in (let a = r.0 in omega arith, r.1))
]

lend-chain : (ws vs : List ℕ) (xs : List Node) (last : ℕ) → 0 < length xs → header_owned xs ≡ 0 → Chained ws xs last → Apart xs → get_or vs (first_of xs) 0 ≡ get_or ws (first_of xs) 0 + 1024
    → get_or vs (owner_from (drop 1 xs)) 0 + 256 ≡ get_or ws (owner_from (drop 1 xs)) 0
    → ((q : ℕ) → At q xs → q ≢ first_of xs → q ≢ owner_from (drop 1 xs) → get_or vs q 0 ≡ get_or ws q 0) → Chained vs (lend xs) (lend_last xs last)
lend-chain ws vs [] last lt none h apart up down same = absurd (omega arith)
lend-chain ws vs (x ∷ xs) last lt none h apart up down same =
    let word = h.0 in let z : x.owned ≡ 0 = none in
    let f : first_of (own_one_fewer xs) ≡ first_of xs = sym (first-offsets xs (own_one_fewer xs) (sym (offsets-own_one_fewer xs))) in
    let u : get_or vs x.offset 0 ≡ get_or ws x.offset 0 + 1024 = up in (
      let e : get_or vs x.offset 0 ≡ 4 * 256 + first_of (own_one_fewer xs) = omega arith in e,
      chain-own_one_fewer ws vs xs last h.1 (apart-rest x xs apart) down (λ q m no. same q (at-more q x xs m) (not-first q x xs apart m) no),
    )

pub chain-lend : (ws vs : List ℕ) (n t : ℕ) (xs : List Node) (last : ℕ) → Under n xs last → t < length xs → header_owned (drop t xs) ≡ 3 → 5 ≤ owned_by (drop (suc t) xs) last → Chained ws xs last → Apart xs
    → get_or vs (first_of (drop t xs)) 0 + 768 ≡ get_or ws (first_of (drop t xs)) 0
    → get_or vs (first_of (drop (suc t) xs)) 0 ≡ get_or ws (first_of (drop (suc t) xs)) 0 + 1024
    → get_or vs (owner_from (drop (suc (suc t)) xs)) 0 + 256 ≡ get_or ws (owner_from (drop (suc (suc t)) xs)) 0
    → ((q : ℕ) → At q xs → q ≢ first_of (drop t xs) → q ≢ first_of (drop (suc t) xs) → q ≢ owner_from (drop (suc (suc t)) xs) → get_or vs q 0 ≡ get_or ws q 0)
    → Chained vs (balance xs last) (balance_last xs last)
chain-lend ws vs n t [] last u lt three five h apart short up down same = absurd (omega arith)
chain-lend ws vs n zero (x ∷ xs) last u lt three five h apart short up down same =
    let owned = under-here n x xs last u three in
    let r = five-more xs last owned five in
    let word = h.0 in let e : x.owned ≡ 3 = three in
    let f : first_of (lend xs) ≡ first_of xs = sym (first-offsets xs (lend xs) (sym (offsets-lend xs))) in
    let s : get_or vs x.offset 0 + 768 ≡ get_or ws x.offset 0 = short in
    let rest = lend-chain ws vs xs last r.0 r.1 h.1 (apart-rest x xs apart) up down (λ q m na no. same q (at-more q x xs m) (not-first q x xs apart m) na no) in
    rw (eq-eqb x.owned 3 three) (rw (le-leb 5 (owned_by xs last) five) (let g : get_or vs x.offset 0 ≡ 0 * 256 + first_of (lend xs) = omega arith in g, rest))
chain-lend ws vs n (suc t) (x ∷ xs) last u lt three five h apart short up down same =
    let here : get_or vs x.offset 0 ≡ get_or ws x.offset 0 = same x.offset (inl (let o = one-same x.offset in omega arith))
    (apart-first x xs (first_of (drop t xs)) apart (first-member t xs (omega arith)))
    (apart-first x xs (first_of (drop (suc t) xs)) apart (first-member (suc t) xs (let l = (lend-some n (suc t) (x ∷ xs) last u lt three five).0 in omega arith)))
    (apart-owner x xs (suc (suc t)) apart) in
    let more : (q : ℕ) → At q xs → q ≢ first_of (drop t xs) → q ≢ first_of (drop (suc t) xs) → q ≢ owner_from (drop (suc (suc t)) xs) → get_or vs q 0 ≡ get_or ws q 0 = λ q m na nb no. same q (at-more q x xs m) na nb no in
    let ur = under-rest n t x xs last u (omega arith) three in
    let rest : Chained vs (balance xs last) (balance_last xs last) = elim ur.1 [
      | inl g ↦ chain-lend ws vs (n + 1) t xs last g.1 (omega arith) three five h.1 (apart-rest x xs apart) short up down more
      | inr g ↦ chain-lend ws vs 0 t xs last g.1 (omega arith) three five h.1 (apart-rest x xs apart) short up down more
    ] in
    rw (ne_eqb x.owned 3 ur.0) (here ∙ (h.0 ∙ ap (λ n. x.owned * 256 + n) (first-offsets xs (balance xs last) (sym (offsets-balance xs last)))), rest)

pub chain-join : (ws vs : List ℕ) (n t : ℕ) (xs : List Node) (last : ℕ) → Under n xs last → t < length xs → header_owned (drop t xs) ≡ 3 → owned_by (drop (suc t) xs) last < 5 → Chained ws xs last → Apart xs
    → get_or vs (first_of (drop t xs)) 0 + 768 ≡ get_or ws (first_of (drop t xs)) 0
    → get_or vs (owner_from (drop (suc t) xs)) 0 ≡ get_or ws (owner_from (drop (suc t) xs)) 0 + 768
    → ((q : ℕ) → At q xs → q ≢ first_of (drop t xs) → q ≢ owner_from (drop (suc t) xs) → get_or vs q 0 ≡ get_or ws q 0)
    → Chained vs (balance xs last) (balance_last xs last)
chain-join ws vs n t [] last u lt three few h apart short up same = absurd (omega arith)
chain-join ws vs n zero (x ∷ xs) last u lt three few h apart short up same =
    let word = h.0 in let e : x.owned ≡ 3 = three in
    let f : first_of (own_three_more xs) ≡ first_of xs = sym (first-offsets xs (own_three_more xs) (sym (offsets-own_three_more xs))) in
    let s : get_or vs x.offset 0 + 768 ≡ get_or ws x.offset 0 = short in
    let rest = chain-own_three_more ws vs xs last h.1 (apart-rest x xs apart) up (λ q m no. same q (at-more q x xs m) (not-first q x xs apart m) no) in
    rw (eq-eqb x.owned 3 three) (rw (lt-leb 5 (owned_by xs last) few) (let g : get_or vs x.offset 0 ≡ 0 * 256 + first_of (own_three_more xs) = omega arith in g, rest))
chain-join ws vs n (suc t) (x ∷ xs) last u lt three few h apart short up same =
    let here : get_or vs x.offset 0 ≡ get_or ws x.offset 0 = same x.offset (inl (let o = one-same x.offset in omega arith))
    (apart-first x xs (first_of (drop t xs)) apart (first-member t xs (omega arith)))
    (apart-owner x xs (suc t) apart) in
    let more : (q : ℕ) → At q xs → q ≢ first_of (drop t xs) → q ≢ owner_from (drop (suc t) xs) → get_or vs q 0 ≡ get_or ws q 0 = λ q m na no. same q (at-more q x xs m) na no in
    let ur = under-rest n t x xs last u (omega arith) three in
    let rest : Chained vs (balance xs last) (balance_last xs last) = elim ur.1 [
      | inl g ↦ chain-join ws vs (n + 1) t xs last g.1 (omega arith) three few h.1 (apart-rest x xs apart) short up more
      | inr g ↦ chain-join ws vs 0 t xs last g.1 (omega arith) three few h.1 (apart-rest x xs apart) short up more
    ] in
    rw (ne_eqb x.owned 3 ur.0) (here ∙ (h.0 ∙ ap (λ n. x.owned * 256 + n) (first-offsets xs (balance xs last) (sym (offsets-balance xs last)))), rest)

-- the slots
lend-slots : (xs : List Node) (last : ℕ) → 0 < length xs → header_owned xs ≡ 0 → Owned 0 xs last → owners (lend xs) ≡ first_of xs ∷ owners xs
lend-slots [] last lt none h = absurd (omega arith)
lend-slots (x ∷ xs) last lt none (inl h) = rw (eq-eqb x.owned 0 none) (ap (λ (os : List ℕ). x.offset ∷ os) (owners-own_one_fewer 1 xs last h.1))
lend-slots (x ∷ xs) last lt none (inr h) = absurd (let b = h.0.1.0 in let z : x.owned ≡ 0 = none in omega arith)

pub slots-lend : (n t s : ℕ) (xs : List Node) (last : ℕ) → Under n xs last → t < length xs → header_owned (drop t xs) ≡ 3 → 5 ≤ owned_by (drop (suc t) xs) last → length (owners (take t xs)) ≡ suc s
    → SetAt s (first_of (drop (suc t) xs)) (owners xs) (owners (balance xs last))
slots-lend n t s [] last u lt three five e = absurd (omega arith)
slots-lend n zero s (x ∷ xs) last u lt three five e =
    let owned = under-here n x xs last u three in
    let r = five-more xs last owned five in
    let z0 : 0 ≡ s = omega arith in
    let ne = ne_eqb x.owned 0 (λ z. absurd (let y : x.owned ≡ 3 = three in omega arith)) in
    subst (λ (i : ℕ). SetAt i (first_of xs) (owners (x ∷ xs)) (owners (balance (x ∷ xs) last))) z0
    (rw (eq-eqb x.owned 3 three) (rw (le-leb 5 (owned_by xs last) five) (rw (ne, lend-slots xs last r.0 r.1 owned) (set-first (first_of xs) x.offset (owners xs)))))
slots-lend n (suc t) s (x ∷ xs) last u lt three five e =
    let ur = under-rest n t x xs last u (omega arith) three in
    elim ur.1 [
      | inl g ↦ (
          let z = eq-eqb x.owned 0 g.0 in
          let e1 : length (owners (take t xs)) ≡ suc s = rw z at e in
          rw (ne_eqb x.owned 3 ur.0) (rw z (slots-lend (n + 1) t s xs last g.1 (omega arith) three five e1)))
      | inr g ↦ (
          let b = g.0 in
          let z : eqb x.owned 0 ≡ false = ne_eqb x.owned 0 (λ q. absurd (omega arith)) in
          let e1 : length (x.offset ∷ owners (take t xs)) ≡ suc s = rw z at e in
          let pos = owners-some (take t xs) in
          let e2 : length (owners (take t xs)) ≡ suc (s - 1) = omega arith in
          let r = slots-lend 0 t (s - 1) xs last g.1 (omega arith) three five e2 in
          let e3 : suc (s - 1) ≡ s = omega arith in
          subst (λ (i : ℕ). SetAt i (first_of (drop (suc t) xs)) (owners (x ∷ xs)) (owners (balance (x ∷ xs) last))) e3
          (rw (ne_eqb x.owned 3 ur.0) (rw z (set-cons (s - 1) (first_of (drop (suc t) xs)) x.offset (owners xs) (owners (balance xs last)) r))))
    ]

-- one of these is no more
pub record GoneAt (s : ℕ) (os ps : List ℕ) : Type 0 where
  pub front : (m : ℕ) → m < s → get_or ps m 0 ≡ get_or os m 0
  pub back : (m : ℕ) → s ≤ m → get_or ps m 0 ≡ get_or os (m + 1) 0
  pub long : length ps + 1 ≡ length os

gone-first : (p : ℕ) (os : List ℕ) → GoneAt 0 (p ∷ os) os
gone-first p os = record { front = λ m lt. absurd (omega arith); back = λ m le. ap (λ i. get_or (p ∷ os) i 0) (let e : suc m ≡ m + 1 = omega arith in e); long = omega arith }

gone-cons : (s p : ℕ) (os ps : List ℕ) → GoneAt s os ps → GoneAt (suc s) (p ∷ os) (p ∷ ps)
gone-cons s p os ps h = record { front = go; back = back; long = let l = h.long in omega arith }
  where
    go : (m : ℕ) → m < suc s → get_or (p ∷ ps) m 0 ≡ get_or (p ∷ os) m 0
    go zero lt = refl
    go (suc m) lt = h.front m (omega arith)

    back : (m : ℕ) → suc s ≤ m → get_or (p ∷ ps) m 0 ≡ get_or (p ∷ os) (m + 1) 0
    back zero le = absurd (omega arith)
    back (suc m) le = h.back m (omega arith) ∙ ap (λ i. get_or (p ∷ os) i 0) (let e : suc (m + 1) ≡ suc m + 1 = omega arith in e)

owners-own_three_more : (xs : List Node) → owners (own_three_more xs) ≡ owners xs
owners-own_three_more [] = refl
owners-own_three_more (x ∷ xs) = elim (cases_eq x.owned 0) [
  | inl e ↦ rw (eq-eqb x.owned 0 e) (rw (eq-eqb x.owned 0 e) (owners-own_three_more xs))
  | inr ne ↦ rw (ne_eqb x.owned 0 ne) (rw (ne_eqb (x.owned + 3) 0 (λ e. omega arith)) refl)
]

pub slots-join : (n t s : ℕ) (xs : List Node) (last : ℕ) → Under n xs last → t < length xs → header_owned (drop t xs) ≡ 3 → owned_by (drop (suc t) xs) last < 5 → length (owners (take t xs)) ≡ suc s
    → GoneAt s (owners xs) (owners (balance xs last))
slots-join n t s [] last u lt three few e = absurd (omega arith)
slots-join n zero s (x ∷ xs) last u lt three few e =
    let z0 : 0 ≡ s = omega arith in
    let ne = ne_eqb x.owned 0 (λ z. absurd (let y : x.owned ≡ 3 = three in omega arith)) in
    subst (λ (i : ℕ). GoneAt i (owners (x ∷ xs)) (owners (balance (x ∷ xs) last))) z0
    (rw (eq-eqb x.owned 3 three) (rw (lt-leb 5 (owned_by xs last) few) (rw (ne, owners-own_three_more xs) (gone-first x.offset (owners xs)))))
slots-join n (suc t) s (x ∷ xs) last u lt three few e =
    let ur = under-rest n t x xs last u (omega arith) three in
    elim ur.1 [
      | inl g ↦ (
          let z = eq-eqb x.owned 0 g.0 in
          let e1 : length (owners (take t xs)) ≡ suc s = rw z at e in
          rw (ne_eqb x.owned 3 ur.0) (rw z (slots-join (n + 1) t s xs last g.1 (omega arith) three few e1)))
      | inr g ↦ (
          let b = g.0 in
          let z : eqb x.owned 0 ≡ false = ne_eqb x.owned 0 (λ q. absurd (omega arith)) in
          let e1 : length (x.offset ∷ owners (take t xs)) ≡ suc s = rw z at e in
          let pos = owners-some (take t xs) in
          let e2 : length (owners (take t xs)) ≡ suc (s - 1) = omega arith in
          let r = slots-join 0 t (s - 1) xs last g.1 (omega arith) three few e2 in
          let e3 : suc (s - 1) ≡ s = omega arith in
          subst (λ (i : ℕ). GoneAt i (owners (x ∷ xs)) (owners (balance (x ∷ xs) last))) e3
          (rw (ne_eqb x.owned 3 ur.0) (rw z (gone-cons (s - 1) x.offset (owners xs) (owners (balance xs last)) r))))
    ]
