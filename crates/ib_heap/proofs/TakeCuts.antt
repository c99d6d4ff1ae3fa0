-- A record taken out of the chain is taken out of the heap that the chain is cut into.
use Rattle.std.proofs.Common.{◌≡◌, ◌≢◌, ℕ, zero, suc, ◌+◌, ◌-◌, ◌<◌, ◌≤◌, [], ◌∷◌, ◌++◌, ◌∙◌, List, length, take, drop, refl, ap, sym, arith, inl, inr, subst, cond, ltb, eqb}
use Rattle.std.proofs.lemmas.Bool.{cases_eq, eq-eqb, ne_eqb, cases_lt, le-leb, lt-leb, lt-ltb, le-ltb}
use Rattle.ib_heap.specs.Chain.{Node, Chain, first_of}
use Rattle.ib_heap.specs.ChainPut.{owned_by}
use Rattle.ib_heap.specs.ChainTake.{own_one_fewer, own_three_more, unlink_node, unlink_last, lend, balance, remove_from_chain}
use Rattle.ib_heap.specs.Heap.{Heap, begin_with, slots_of, heap_of}
use Rattle.ib_heap.specs.Take.{balanced, take_at, remove_in}
use Rattle.ib_heap.proofs.HeapLaws.{Owned}
use Rattle.ib_heap.proofs.CountLaws.{Under, under-unlink}
use Rattle.ib_heap.proofs.CutLaws.{slots-inside, slots-owner, is-cut, cut-inside, concat-at, owned-first}

-- a record taken out with no balance
abbrev without : ℕ → List (List ℕ) → List (List ℕ)
without k [] = []
without k (s ∷ ss) = cond (ltb k (length s)) ((take k s ++ drop (k + 1) s) ∷ ss) (s ∷ without (k - length s) ss)

-- the first slot of three with others behind it is filled by the next one; n records of the first slot stand before these
abbrev level : ℕ → List (List ℕ) → List (List ℕ)
level n [] = []
level n (s ∷ []) = s ∷ []
level n (s ∷ t ∷ ss) = cond (eqb (n + length s) 3) (cond (ltb 4 (length t)) ((s ++ take 1 t) ∷ drop 1 t ∷ ss) ((s ++ t) ∷ ss)) (s ∷ level 0 (t ∷ ss))

-- each slot with others behind it has four or more
abbrev AreFour : ℕ → List (List ℕ) → Type 0
AreFour n [] = Unit {0}
AreFour n (s ∷ []) = Unit {0}
AreFour n (s ∷ t ∷ ss) = (4 ≤ n + length s) × AreFour 0 (t ∷ ss)

level-well : (n : ℕ) (ss : List (List ℕ)) → AreFour n ss → level n ss ≡ ss
level-well n [] h = refl
level-well n (s ∷ []) h = refl
level-well n (s ∷ t ∷ ss) h = let a = h.0 in rw (ne_eqb (n + length s) 3 (λ e. omega arith)) (ap (λ (rest : List (List ℕ)). s ∷ rest) (level-well 0 (t ∷ ss) h.1))

level-behind : (n : ℕ) (s : List ℕ) (ss : List (List ℕ)) → n + length s ≢ 3 → level n (s ∷ ss) ≡ s ∷ level 0 ss
level-behind n s [] ne = refl
level-behind n s (t ∷ ss) ne = rw (ne_eqb (n + length s) 3 ne) refl

level-here : (s : List ℕ) (ss : List (List ℕ)) → AreFour 0 ss → balanced s ss ≡ level 0 (s ∷ ss)
level-here s [] h = refl
level-here s (t ∷ ss) h = let e : 0 + length s ≡ length s = omega arith in
    rw e (ap (λ (rest : List (List ℕ)). cond (eqb (length s) 3) (cond (ltb 4 (length t)) ((s ++ take 1 t) ∷ drop 1 t ∷ ss) ((s ++ t) ∷ ss)) (s ∷ rest)) (sym (level-well 0 (t ∷ ss) h)))

four-rest : (n : ℕ) (s : List ℕ) (ss : List (List ℕ)) → AreFour n (s ∷ ss) → AreFour 0 ss
four-rest n s [] h = tt
four-rest n s (t ∷ ss) h = h.1

level-after : (k : ℕ) (s : List ℕ) (ss : List (List ℕ)) → AreFour 0 (s ∷ ss) → take_at k ss ≡ level 0 (without k ss) → s ∷ take_at k ss ≡ level 0 (s ∷ without k ss)
level-after k s [] h is = refl
level-after k s (t ∷ ss) h is = let a = h.0 in ap (λ (rest : List (List ℕ)). s ∷ rest) is ∙ sym (level-behind 0 s (without k (t ∷ ss)) (λ e. omega arith))

-- a removal takes the record out, and then balances
take-level : (k : ℕ) (ss : List (List ℕ)) → AreFour 0 ss → take_at k ss ≡ level 0 (without k ss)
take-level k [] h = refl
take-level k (s ∷ ss) h = elim (cases_lt k (length s)) [
  | inl lt ↦ (let e = lt-ltb k (length s) lt in rw e (level-here (take k s ++ drop (k + 1) s) ss (four-rest 0 s ss h)))
  | inr ge ↦ (let e = le-ltb k (length s) ge in rw e (level-after (k - length s) s ss h (take-level (k - length s) ss (four-rest 0 s ss h))))
]

-- the slots of a chain
are-four : (n : ℕ) (xs : List Node) (last : ℕ) → Owned n xs last → AreFour n (slots_of xs)
are-four n [] last h = tt
are-four n (x ∷ xs) last (inl h) =
    let r = is-cut xs in
    subst (λ (ss : List (List ℕ)). AreFour n ss) (sym (cut-inside x xs r.slot r.slots h.0 r.is)) (inside r.slot r.slots (subst (λ (ss : List (List ℕ)). AreFour (n + 1) ss) r.is (are-four (n + 1) xs last h.1)))
  where
    inside : (s : List ℕ) (ss : List (List ℕ)) → AreFour (n + 1) (s ∷ ss) → AreFour n ((x.offset ∷ s) ∷ ss)
    inside s [] a = tt
    inside s (t ∷ ss) a = (let b = a.0 in omega arith, a.1)
are-four n (x ∷ xs) last (inr h) =
    let a = h.0.0 in let b = h.0.1.0 in
    subst (λ (ss : List (List ℕ)). AreFour n ss) (sym (slots-owner x xs (λ z. omega arith))) (owner (slots_of xs) (are-four 0 xs last h.1) (omega arith))
  where
    owner : (ss : List (List ℕ)) → AreFour 0 ss → 4 ≤ n + 1 → AreFour n ((x.offset ∷ []) ∷ ss)
    owner [] f four = tt
    owner (t ∷ ss) f four = (four, f)

-- a slot that owns one fewer, or three more, is a slot
slots-own_one_fewer : (n : ℕ) (xs : List Node) (last : ℕ) → Owned (n + 1) xs last → slots_of (own_one_fewer xs) ≡ slots_of xs
slots-own_one_fewer n [] last h = refl
slots-own_one_fewer n (x ∷ xs) last (inl h) = let z = eq-eqb x.owned 0 h.0 in rw z (rw z (ap (begin_with x.offset) (slots-own_one_fewer (n + 1) xs last h.1)))
slots-own_one_fewer n (x ∷ xs) last (inr h) = let a = h.0.1.0 in rw (ne_eqb x.owned 0 (λ e. omega arith)) (rw (ne_eqb (x.owned - 1) 0 (λ e. omega arith)) refl)

slots-own_three_more : (xs : List Node) → slots_of (own_three_more xs) ≡ slots_of xs
slots-own_three_more [] = refl
slots-own_three_more (x ∷ xs) = elim (cases_eq x.owned 0) [
  | inl e ↦ (let z = eq-eqb x.owned 0 e in rw z (rw z (ap (begin_with x.offset) (slots-own_three_more xs))))
  | inr ne ↦ rw (ne_eqb x.owned 0 ne) (rw (ne_eqb (x.owned + 3) 0 (λ e. omega arith)) refl)
]

-- the chain without the record
without-begin : (k q : ℕ) (s : List ℕ) (ss : List (List ℕ)) → without (suc k) ((q ∷ s) ∷ ss) ≡ begin_with q (without k (s ∷ ss))
without-begin k q s ss = elim (cases_lt k (length s)) [
  | inl lt ↦ rw (lt-ltb k (length s) lt) (rw (lt-ltb (suc k) (suc (length s)) (omega arith)) (let e : suc k + 1 ≡ suc (k + 1) = omega arith in rw e refl))
  | inr ge ↦ rw (le-ltb k (length s) ge) (rw (le-ltb (suc k) (suc (length s)) (omega arith)) (let e : suc k - suc (length s) ≡ k - length s = omega arith in rw e refl))
]

without-first : (q : ℕ) (s : List ℕ) (ss : List (List ℕ)) → without 0 ((q ∷ s) ∷ ss) ≡ s ∷ ss
without-first q s ss = rw (lt-ltb 0 (suc (length s)) (omega arith)) refl

without-owner : (k q : ℕ) (ss : List (List ℕ)) → without (suc k) ((q ∷ []) ∷ ss) ≡ (q ∷ []) ∷ without k ss
without-owner k q ss = rw (le-ltb (suc k) 1 (omega arith)) (let e : suc k - 1 ≡ k = omega arith in rw e refl)

slots-unlink : (k n : ℕ) (xs : List Node) (last : ℕ) → k < length xs → (k ≡ 0 → n ≤ 2) → Owned n xs last → slots_of (unlink_node k xs) ≡ without k (slots_of xs)
slots-unlink k n [] last lt low h = absurd (omega arith)
slots-unlink zero n (x ∷ xs) last lt low (inl h) =
    let r = is-cut xs in
    slots-own_one_fewer n xs last h.1 ∙ (r.is ∙ (sym (without-first x.offset r.slot r.slots) ∙ ap (without 0) (sym (cut-inside x xs r.slot r.slots h.0 r.is))))
slots-unlink zero n (x ∷ xs) last lt low (inr h) = absurd (let a = h.0.0 in let b = h.0.1.0 in let l = low refl in omega arith)
slots-unlink (suc zero) n (y ∷ []) last lt low h = absurd (omega arith)
slots-unlink (suc zero) n (y ∷ x ∷ xs) last lt low (inl h) = elim h.1 [
  | inl g ↦ (
      let r = is-cut xs in
      let both = cut-inside y (x ∷ xs) (x.offset ∷ r.slot) r.slots h.0 (cut-inside x xs r.slot r.slots g.0 r.is) in
      let one : unlink_node 1 (y ∷ x ∷ xs) ≡ y ∷ own_one_fewer xs = rw (eq-eqb x.owned 0 g.0) refl in
      ap slots_of one ∙ (slots-inside y (own_one_fewer xs) h.0 ∙ (ap (begin_with y.offset) (slots-own_one_fewer (n + 1) xs last g.1 ∙ r.is)
      ∙ (sym (without-begin 0 y.offset (x.offset ∷ r.slot) r.slots ∙ ap (begin_with y.offset) (without-first x.offset r.slot r.slots)) ∙ ap (without 1) (sym both)))))
  | inr g ↦ (
      let a = g.0.1.0 in
      let some : x.owned ≢ 0 = λ z. omega arith in
      let both = cut-inside y (x ∷ xs) (x.offset ∷ []) (slots_of xs) h.0 (slots-owner x xs some) in
      let one : slots_of (unlink_node 1 (y ∷ x ∷ xs)) ≡ (y.offset ∷ []) ∷ slots_of xs = rw (ne_eqb x.owned 0 some) (rw (ne_eqb (x.owned - 1) 0 (λ z. omega arith)) refl) in
      one ∙ ap (without 1) (sym both))
]
slots-unlink (suc zero) n (y ∷ x ∷ xs) last lt low (inr h) = elim h.1 [
  | inl g ↦ (
      let a = h.0.1.0 in
      let some : y.owned ≢ 0 = λ z. omega arith in
      let r = is-cut xs in
      let both : slots_of (y ∷ x ∷ xs) ≡ (y.offset ∷ []) ∷ (x.offset ∷ r.slot) ∷ r.slots = slots-owner y (x ∷ xs) some ∙ ap (λ (ss : List (List ℕ)). (y.offset ∷ []) ∷ ss) (cut-inside x xs r.slot r.slots g.0 r.is) in
      let one : unlink_node 1 (y ∷ x ∷ xs) ≡ y ∷ own_one_fewer xs = rw (eq-eqb x.owned 0 g.0) refl in
      ap slots_of one ∙ (slots-owner y (own_one_fewer xs) some ∙ (ap (λ (ss : List (List ℕ)). (y.offset ∷ []) ∷ ss) (slots-own_one_fewer 0 xs last g.1 ∙ r.is)
      ∙ (sym (without-owner 0 y.offset ((x.offset ∷ r.slot) ∷ r.slots) ∙ ap (λ (ss : List (List ℕ)). (y.offset ∷ []) ∷ ss) (without-first x.offset r.slot r.slots)) ∙ ap (without 1) (sym both)))))
  | inr g ↦ absurd (let a = g.0.0 in let b = g.0.1.0 in omega arith)
]
slots-unlink (suc (suc k)) n (x ∷ xs) last lt low (inl h) =
    let r = is-cut xs in
    slots-inside x (unlink_node (suc k) xs) h.0 ∙ (ap (begin_with x.offset) (slots-unlink (suc k) (n + 1) xs last (omega arith) (λ z. absurd (omega arith)) h.1 ∙ ap (without (suc k)) r.is)
    ∙ (sym (without-begin (suc k) x.offset r.slot r.slots) ∙ ap (without (suc (suc k))) (sym (cut-inside x xs r.slot r.slots h.0 r.is))))
slots-unlink (suc (suc k)) n (x ∷ xs) last lt low (inr h) =
    let a = h.0.1.0 in
    let some : x.owned ≢ 0 = λ z. omega arith in
    slots-owner x (unlink_node (suc k) xs) some ∙ (ap (λ (ss : List (List ℕ)). (x.offset ∷ []) ∷ ss) (slots-unlink (suc k) 0 xs last (omega arith) (λ z. absurd (omega arith)) h.1)
    ∙ (sym (without-owner (suc k) x.offset (slots_of xs)) ∙ ap (without (suc (suc k))) (sym (slots-owner x xs some))))

-- the balanced chain
level-begin : (n q : ℕ) (s : List ℕ) (ss : List (List ℕ)) → n + suc (length s) ≢ 3 → begin_with q (level (n + 1) (s ∷ ss)) ≡ level n ((q ∷ s) ∷ ss)
level-begin n q s ss ne = let e : n + 1 + length s ≢ 3 = λ z. ne (omega arith) in ap (begin_with q) (level-behind (n + 1) s ss e) ∙ sym (level-behind n (q ∷ s) ss ne)

level-begin-three : (n q : ℕ) (s t : List ℕ) (ss : List (List ℕ)) → n + suc (length s) ≡ 3 → begin_with q (level (n + 1) (s ∷ t ∷ ss)) ≡ level n ((q ∷ s) ∷ t ∷ ss)
level-begin-three n q s t ss three = rw (eq-eqb (n + 1 + length s) 3 (omega arith)) (rw (eq-eqb (n + suc (length s)) 3 three) (elim (cases_lt 4 (length t)) [
  | inl lt ↦ rw (lt-ltb 4 (length t) lt) refl
  | inr le ↦ rw (le-ltb 4 (length t) le) refl
]))

level-inside : (n q : ℕ) (s : List ℕ) (ss : List (List ℕ)) → begin_with q (level (n + 1) (s ∷ ss)) ≡ level n ((q ∷ s) ∷ ss)
level-inside n q s [] = refl
level-inside n q s (t ∷ ss) = elim (cases_eq (n + suc (length s)) 3) [
  | inl three ↦ level-begin-three n q s t ss three
  | inr ne ↦ level-begin n q s (t ∷ ss) ne
]

-- a slot of three whose owner is the first of these
three-lends : (x : Node) (xs : List Node) (last : ℕ) → Owned 0 xs last → 5 ≤ owned_by xs last → (s : List ℕ) (ss : List (List ℕ)) → slots_of xs ≡ s ∷ ss → begin_with x.offset (slots_of (lend xs)) ≡ (x.offset ∷ take 1 s) ∷ drop 1 s ∷ ss
three-lends x [] last h five s ss is = absurd (let a = h.0 in let f : 5 ≤ last = five in omega arith)
three-lends x (y ∷ ys) last (inl h) five s ss is =
    let r = is-cut ys in
    let cut : (y.offset ∷ r.slot) ∷ r.slots ≡ s ∷ ss = sym (cut-inside y ys r.slot r.slots h.0 r.is) ∙ is in
    ap (λ (ts : List (List ℕ)). (x.offset ∷ y.offset ∷ []) ∷ ts) (slots-own_one_fewer 0 ys last h.1 ∙ r.is) ∙ ap lent cut
  where
    lent : List (List ℕ) → List (List ℕ)
    lent [] = []
    lent (t ∷ ts) = (x.offset ∷ take 1 t) ∷ drop 1 t ∷ ts
three-lends x (y ∷ ys) last (inr h) five s ss is = absurd (let a = h.0.0 in let b = h.0.1.0 in omega arith)

slots-balance : (n : ℕ) (xs : List Node) (last : ℕ) → Under n xs last → slots_of (balance xs last) ≡ level n (slots_of xs)
slots-balance n [] last h = refl
slots-balance n (x ∷ xs) last (inl h) =
    let a = h.0 in
    let r = is-cut xs in
    let same : balance (x ∷ xs) last ≡ x ∷ balance xs last = rw (ne_eqb x.owned 3 (λ z. omega arith)) refl in
    ap slots_of same ∙ (slots-inside x (balance xs last) h.0 ∙ (ap (begin_with x.offset) (slots-balance (n + 1) xs last h.1 ∙ ap (level (n + 1)) r.is)
    ∙ (level-inside n x.offset r.slot r.slots ∙ ap (level n) (sym (cut-inside x xs r.slot r.slots h.0 r.is)))))
slots-balance n (x ∷ xs) last (inr (inl h)) =
    let a = h.0.0 in let b = h.0.1.0 in
    let some : x.owned ≢ 0 = λ z. omega arith in
    let same : balance (x ∷ xs) last ≡ x ∷ balance xs last = rw (ne_eqb x.owned 3 (λ z. omega arith)) refl in
    ap slots_of same ∙ (slots-owner x (balance xs last) some ∙ (ap (λ (ss : List (List ℕ)). (x.offset ∷ []) ∷ ss) (slots-balance 0 xs last h.1)
    ∙ (sym (level-behind n (x.offset ∷ []) (slots_of xs) (λ z. omega arith)) ∙ ap (level n) (sym (slots-owner x xs some)))))
slots-balance n (x ∷ xs) last (inr (inr h)) =
    let a = h.0.0 in let b = h.0.1 in
    let some : x.owned ≢ 0 = λ z. omega arith in
    let r = is-cut xs in
    let first = owned-first 0 xs last h.1 r.slot r.slots r.is in
    let cut : slots_of (x ∷ xs) ≡ (x.offset ∷ []) ∷ r.slot ∷ r.slots = slots-owner x xs some ∙ ap (λ (ss : List (List ℕ)). (x.offset ∷ []) ∷ ss) r.is in
    elim (cases_lt (owned_by xs last) 5) [
      | inl lt ↦ (
          let joined : level n ((x.offset ∷ []) ∷ r.slot ∷ r.slots) ≡ (x.offset ∷ r.slot) ∷ r.slots = rw (eq-eqb (n + 1) 3 (omega arith)) (rw (le-ltb 4 (length r.slot) (omega arith)) refl) in
          let one : slots_of (balance (x ∷ xs) last) ≡ begin_with x.offset (slots_of (own_three_more xs)) = rw (eq-eqb x.owned 3 b) (rw (lt-leb 5 (owned_by xs last) lt) refl) in
          one ∙ (ap (begin_with x.offset) (slots-own_three_more xs ∙ r.is) ∙ (sym joined ∙ ap (level n) (sym cut))))
      | inr ge ↦ (
          let lent : level n ((x.offset ∷ []) ∷ r.slot ∷ r.slots) ≡ (x.offset ∷ take 1 r.slot) ∷ drop 1 r.slot ∷ r.slots = rw (eq-eqb (n + 1) 3 (omega arith)) (rw (lt-ltb 4 (length r.slot) (omega arith)) refl) in
          let one : slots_of (balance (x ∷ xs) last) ≡ begin_with x.offset (slots_of (lend xs)) = rw (eq-eqb x.owned 3 b) (rw (le-leb 5 (owned_by xs last) ge) refl) in
          one ∙ (three-lends x xs last h.1 ge r.slot r.slots r.is ∙ (sym lent ∙ ap (level n) (sym cut))))
    ]

-- the heap of the chain out of which a record was taken
abbrev with_slots : List (List ℕ) → List ℕ → Heap
with_slots slots free = record { slots = slots; free = free }

pub take-heap : (k : ℕ) (c : Chain) → Owned 0 c.nodes c.last → k < length c.nodes → heap_of (remove_from_chain k c) ≡ remove_in k (heap_of c)
take-heap k c owned lt =
    let ys = unlink_node k c.nodes in let l = unlink_last k c.nodes c.last in
    let slots : slots_of (balance ys l) ≡ take_at k (slots_of c.nodes) =
    slots-balance 0 ys l (under-unlink k 0 c.nodes c.last lt (λ z. omega arith) owned) ∙ (ap (level 0) (slots-unlink k 0 c.nodes c.last lt (λ z. omega arith) owned) ∙ sym (take-level k (slots_of c.nodes) (are-four 0 c.nodes c.last owned))) in
    ap (λ (ss : List (List ℕ)). with_slots ss (first_of (drop k c.nodes) ∷ c.free)) slots ∙ ap (λ p. with_slots (take_at k (slots_of c.nodes)) (p ∷ c.free)) (sym (concat-at k c.nodes (omega arith)))
