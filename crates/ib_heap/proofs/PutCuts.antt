-- A record put into the chain is put into the heap that the chain is cut into.
use Rattle.std.proofs.Common.{◌≡◌, ℕ, zero, suc, ◌+◌, ◌-◌, ◌<◌, ◌≤◌, ◌⊎◌, [], ◌∷◌, ◌++◌, ◌∙◌, List, length, take, drop, refl, ap, sym, arith, inl, inr, subst, cond, ltb, length-append, length-drop}
use Rattle.std.proofs.lemmas.Bool.{cases_eq, eq-eqb, ne_eqb, cases_lt, le-leb, lt-leb, lt-ltb, le-ltb, cond-true, cond-false}
use Rattle.std.proofs.lemmas.List.{length-take-le}
use Rattle.ib_heap.specs.Chain.{Node, Chain, owners, up_to}
use Rattle.ib_heap.specs.ChainPut.{owned_by, own_one_more, last_one_more, put_node, put_last, own_four_fewer, give_slot, chain_offset, rest_of, put_in_chain}
use Rattle.ib_heap.specs.Heap.{Heap, begin_with, slots_of, heap_of}
use Rattle.ib_heap.specs.Put.{put_before, put_in}
use Rattle.ib_heap.proofs.HeapLaws.{Owned}
use Rattle.ib_heap.proofs.SeekLaws.{owners-some}
use Rattle.ib_heap.proofs.PutLaws.{Over, OverAt, over-put, length-put}
use Rattle.ib_heap.proofs.PutPage.{owned-few}
use Rattle.ib_heap.proofs.CutLaws.{slots-inside, slots-owner, is-cut, cut-inside, offset-same, rest-same, owned-first}

-- a record put in with no split
abbrev insert : ℕ → ℕ → List (List ℕ) → List (List ℕ)
insert k p [] = []
insert k p (s ∷ ss) = cond (ltb k (length s)) ((take k s ++ p ∷ drop k s) ∷ ss) (s ∷ insert (k - length s) p ss)

-- the slot of a record, its number of records, of which n stand before these, and how many stand before it
abbrev size : ℕ → ℕ → List (List ℕ) → ℕ
size n k [] = 0
size n k (s ∷ ss) = cond (ltb k (length s)) (n + length s) (size 0 (k - length s) ss)

abbrev start : ℕ → List (List ℕ) → ℕ
start k [] = 0
start k (s ∷ ss) = cond (ltb k (length s)) 0 (length s + start (k - length s) ss)

-- a slot cut behind a record
abbrev cut_at : ℕ → List (List ℕ) → List (List ℕ)
cut_at t [] = []
cut_at t (s ∷ ss) = cond (ltb t (length s)) (take (suc t) s ∷ drop (suc t) s ∷ ss) (s ∷ cut_at (t - length s) ss)

long-new : (k p : ℕ) (s : List ℕ) → k < length s → length (take k s ++ p ∷ drop k s) ≡ length s + 1
long-new k p s lt = let a = length-append (take k s) (p ∷ drop k s) in let b = length-take-le k s (omega arith) in let c = length-drop k s in omega arith

-- a put is an insert, and a cut behind the fourth record where the slot had eight
put-room : (k p : ℕ) (ss : List (List ℕ)) → size 0 k ss ≤ 7 → put_before k p ss ≡ insert k p ss
put-room k p [] room = refl
put-room k p (s ∷ ss) room = elim (cases_lt k (length s)) [
  | inl lt ↦ (
      let e = lt-ltb k (length s) lt in
      let few : 0 + length s ≤ 7 = rw e at room in
      let long = long-new k p s lt in
      rw e (rw (le-leb (length (take k s ++ p ∷ drop k s)) 8 (omega arith)) refl))
  | inr ge ↦ (
      let e = le-ltb k (length s) ge in
      let few : size 0 (k - length s) ss ≤ 7 = rw e at room in
      rw e (ap (λ (rest : List (List ℕ)). s ∷ rest) (put-room (k - length s) p ss few)))
]

put-full : (k p : ℕ) (ss : List (List ℕ)) → 7 < size 0 k ss → put_before k p ss ≡ cut_at (start k ss + 3) (insert k p ss)
put-full k p [] full = absurd (omega arith)
put-full k p (s ∷ ss) full = elim (cases_lt k (length s)) [
  | inl lt ↦ (
      let e = lt-ltb k (length s) lt in
      let much : 7 < 0 + length s = rw e at full in
      let long = long-new k p s lt in
      rw e (rw (lt-leb (length (take k s ++ p ∷ drop k s)) 8 (omega arith)) (rw (lt-ltb 3 (length (take k s ++ p ∷ drop k s)) (omega arith)) refl)))
  | inr ge ↦ (
      let e = le-ltb k (length s) ge in
      let much : 7 < size 0 (k - length s) ss = rw e at full in
      let f : length s + start (k - length s) ss + 3 - length s ≡ start (k - length s) ss + 3 = omega arith in
      rw e (rw (le-ltb (length s + start (k - length s) ss + 3) (length s) (omega arith)) (rw f (ap (λ (rest : List (List ℕ)). s ∷ rest) (put-full (k - length s) p ss much)))))
]

-- the chain: with the record put in
slots-own_one_more : (xs : List Node) → slots_of (own_one_more xs) ≡ slots_of xs
slots-own_one_more [] = refl
slots-own_one_more (x ∷ xs) = elim (cases_eq x.owned 0) [
  | inl e ↦ rw (eq-eqb x.owned 0 e) (rw (eq-eqb x.owned 0 e) (ap (begin_with x.offset) (slots-own_one_more xs)))
  | inr ne ↦ rw (ne_eqb x.owned 0 ne) (rw (ne_eqb (x.owned + 1) 0 (λ e. omega arith)) refl)
]

insert-first : (p : ℕ) (s : List ℕ) (ss : List (List ℕ)) → 0 < length s → insert 0 p (s ∷ ss) ≡ (p ∷ s) ∷ ss
insert-first p s ss some = rw (lt-ltb 0 (length s) some) refl

insert-begin : (k p q : ℕ) (s : List ℕ) (ss : List (List ℕ)) → insert (suc k) p ((q ∷ s) ∷ ss) ≡ begin_with q (insert k p (s ∷ ss))
insert-begin k p q s ss = elim (cases_lt k (length s)) [
  | inl lt ↦ rw (lt-ltb k (length s) lt) (rw (lt-ltb (suc k) (suc (length s)) (omega arith)) refl)
  | inr ge ↦ rw (le-ltb k (length s) ge) (rw (le-ltb (suc k) (suc (length s)) (omega arith)) (let e : suc k - suc (length s) ≡ k - length s = omega arith in rw e refl))
]

slots-put : (k p : ℕ) (xs : List Node) → k ≤ length xs → slots_of (put_node k p xs) ≡ insert k p (slots_of xs)
slots-put zero p xs le =
    let r = is-cut xs in
    ap (begin_with p) (slots-own_one_more xs ∙ r.is) ∙ (sym (insert-first p r.slot r.slots r.some) ∙ ap (insert 0 p) (sym r.is))
slots-put (suc k) p [] le = absurd (omega arith)
slots-put (suc k) p (x ∷ xs) le =
    let rest = slots-put k p xs (omega arith) in
    elim (cases_eq x.owned 0) [
      | inl e ↦ (
          let r = is-cut xs in
          slots-inside x (put_node k p xs) e ∙ (ap (begin_with x.offset) (rest ∙ ap (insert k p) r.is) ∙ (sym (insert-begin k p x.offset r.slot r.slots) ∙ ap (insert (suc k) p) (sym (cut-inside x xs r.slot r.slots e r.is)))))
      | inr ne ↦ (
          let one : insert (suc k) p ((x.offset ∷ []) ∷ slots_of xs) ≡ (x.offset ∷ []) ∷ insert k p (slots_of xs) = rw (le-ltb (suc k) 1 (omega arith)) (let e : suc k - 1 ≡ k = omega arith in rw e refl) in
          slots-owner x (put_node k p xs) ne ∙ (ap (λ (ss : List (List ℕ)). (x.offset ∷ []) ∷ ss) rest ∙ (sym one ∙ ap (insert (suc k) p) (sym (slots-owner x xs ne)))))
    ]

-- .. its slot
size-begin : (n k q : ℕ) (s : List ℕ) (ss : List (List ℕ)) → size n (suc k) ((q ∷ s) ∷ ss) ≡ size (n + 1) k (s ∷ ss)
size-begin n k q s ss = elim (cases_lt k (length s)) [
  | inl lt ↦ rw (lt-ltb k (length s) lt) (rw (lt-ltb (suc k) (suc (length s)) (omega arith)) (let e : n + suc (length s) ≡ n + 1 + length s = omega arith in e))
  | inr ge ↦ rw (le-ltb k (length s) ge) (rw (le-ltb (suc k) (suc (length s)) (omega arith)) (let e : suc k - suc (length s) ≡ k - length s = omega arith in rw e refl))
]

size-slot : (n k : ℕ) (xs : List Node) (last : ℕ) → k ≤ length xs → Owned n xs last → owned_by (drop k xs) last ≡ size n k (slots_of xs)
size-slot n zero xs last le h =
    let r = is-cut xs in
    let one : size n 0 (r.slot ∷ r.slots) ≡ n + length r.slot = rw (lt-ltb 0 (length r.slot) r.some) refl in
    owned-first n xs last h r.slot r.slots r.is ∙ (sym one ∙ ap (size n 0) (sym r.is))
size-slot n (suc k) [] last le h = absurd (omega arith)
size-slot n (suc k) (x ∷ xs) last le (inl h) =
    let r = is-cut xs in
    size-slot (n + 1) k xs last (omega arith) h.1 ∙ (ap (size (n + 1) k) r.is ∙ (sym (size-begin n k x.offset r.slot r.slots) ∙ ap (size n (suc k)) (sym (cut-inside x xs r.slot r.slots h.0 r.is))))
size-slot n (suc k) (x ∷ xs) last le (inr h) =
    let a = h.0.0 in
    let one : size n (suc k) ((x.offset ∷ []) ∷ slots_of xs) ≡ size 0 k (slots_of xs) = rw (le-ltb (suc k) 1 (omega arith)) (let e : suc k - 1 ≡ k = omega arith in rw e refl) in
    size-slot 0 k xs last (omega arith) h.1 ∙ (sym one ∙ ap (size n (suc k)) (sym (slots-owner x xs (λ z. omega arith))))

-- .. which owns one more
owned-more : (xs : List Node) (last : ℕ) → owned_by (own_one_more xs) (last_one_more xs last) ≡ owned_by xs last + 1
owned-more [] last = refl
owned-more (x ∷ xs) last = elim (cases_eq x.owned 0) [
  | inl e ↦ (let z = eq-eqb x.owned 0 e in rw z (rw z (owned-more xs last)))
  | inr ne ↦ rw (ne_eqb x.owned 0 ne) (rw (ne_eqb (x.owned + 1) 0 (λ e. omega arith)) refl)
]

owned-put : (k p : ℕ) (xs : List Node) (last : ℕ) → k ≤ length xs → owned_by (drop k (put_node k p xs)) (put_last k xs last) ≡ owned_by (drop k xs) last + 1
owned-put zero p xs last le = owned-more xs last
owned-put (suc k) p [] last le = absurd (omega arith)
owned-put (suc k) p (x ∷ xs) last le = owned-put k p xs last (omega arith)

-- .. and the records before it
start-first : (s : List ℕ) (ss : List (List ℕ)) → 0 < length s → start 0 (s ∷ ss) ≡ 0
start-first s ss some = rw (lt-ltb 0 (length s) some) refl

start-begin : (k q : ℕ) (s : List ℕ) (ss : List (List ℕ)) → 0 < length s
    → ((k < length s) × ((start k (s ∷ ss) ≡ 0) × (start (suc k) ((q ∷ s) ∷ ss) ≡ 0))) ⊎ ((0 < start k (s ∷ ss)) × (start (suc k) ((q ∷ s) ∷ ss) ≡ suc (start k (s ∷ ss))))
start-begin k q s ss some = elim (cases_lt k (length s)) [
  | inl lt ↦ inl (lt, (rw (lt-ltb k (length s) lt) refl, rw (lt-ltb (suc k) (suc (length s)) (omega arith)) refl))
  | inr ge ↦ (
      let here : start k (s ∷ ss) ≡ length s + start (k - length s) ss = rw (le-ltb k (length s) ge) refl in
      let more : start (suc k) ((q ∷ s) ∷ ss) ≡ suc (length s) + start (k - length s) ss = rw (le-ltb (suc k) (suc (length s)) (omega arith)) (let e : suc k - suc (length s) ≡ k - length s = omega arith in rw e refl) in
      inr (omega arith, omega arith))
]

start-owner : (k q : ℕ) (ss : List (List ℕ)) → start (suc k) ((q ∷ []) ∷ ss) ≡ 1 + start k ss
start-owner k q ss = rw (le-ltb (suc k) 1 (omega arith)) (let e : suc k - 1 ≡ k = omega arith in rw e refl)

up-to-some : (i k p : ℕ) (xs : List Node) → k ≤ length xs → 0 < up_to (suc i) (put_node k p xs)
up-to-some i zero p xs le = omega arith
up-to-some i (suc k) p [] le = absurd (omega arith)
up-to-some i (suc k) p (x ∷ xs) le = omega arith

up-to-inside : (j k p : ℕ) (x : Node) (xs : List Node) (s : List ℕ) (ss : List (List ℕ)) → k ≤ length xs → x.owned ≡ 0 → 0 < length s → up_to j (put_node k p xs) ≡ start k (s ∷ ss) → up_to j (x ∷ put_node k p xs) ≡ start (suc k) ((x.offset ∷ s) ∷ ss)
up-to-inside zero k p x xs s ss le e some is = elim (start-begin k x.offset s ss some) [
  | inl h ↦ sym h.1.1
  | inr h ↦ absurd (let a = h.0 in let b : 0 ≡ start k (s ∷ ss) = is in omega arith)
]
up-to-inside (suc i) k p x xs s ss le e some is = let up = up-to-some i k p xs le in elim (start-begin k x.offset s ss some) [
  | inl h ↦ absurd (let a = h.1.0 in omega arith)
  | inr h ↦ (let b = h.1 in rw (eq-eqb x.owned 0 e) (omega arith))
]

start-slot : (k p : ℕ) (xs : List Node) → k ≤ length xs → up_to (length (owners (take k xs)) - 1) (put_node k p xs) ≡ start k (slots_of xs)
start-slot zero p xs le = let r = is-cut xs in sym (start-first r.slot r.slots r.some) ∙ ap (start 0) (sym r.is)
start-slot (suc k) p [] le = absurd (omega arith)
start-slot (suc k) p (x ∷ xs) le =
    let rest = start-slot k p xs (omega arith) in
    elim (cases_eq x.owned 0) [
      | inl e ↦ (
          let r = is-cut xs in
          let here = up-to-inside (length (owners (take k xs)) - 1) k p x xs r.slot r.slots (omega arith) e r.some (rest ∙ ap (start k) r.is) in
          let same : owners (take (suc k) (x ∷ xs)) ≡ owners (take k xs) = rw (eq-eqb x.owned 0 e) refl in
          ap (λ (os : List ℕ). up_to (length os - 1) (x ∷ put_node k p xs)) same ∙ (here ∙ ap (start (suc k)) (sym (cut-inside x xs r.slot r.slots e r.is))))
      | inr ne ↦ (
          let some = owners-some (take k xs) in
          let same : owners (take (suc k) (x ∷ xs)) ≡ x.offset ∷ owners (take k xs) = rw (ne_eqb x.owned 0 ne) refl in
          let number : suc (length (owners (take k xs))) - 1 ≡ suc (length (owners (take k xs)) - 1) = omega arith in
          let here : up_to (suc (length (owners (take k xs)) - 1)) (x ∷ put_node k p xs) ≡ 1 + up_to (length (owners (take k xs)) - 1) (put_node k p xs) = rw (ne_eqb x.owned 0 ne) refl in
          let a = start-owner k x.offset (slots_of xs) in
          ap (λ (os : List ℕ). up_to (length os - 1) (x ∷ put_node k p xs)) same ∙ (ap (λ j. up_to j (x ∷ put_node k p xs)) number ∙ (here ∙ (ap (λ j. 1 + j) rest ∙ (sym a ∙ ap (start (suc k)) (sym (slots-owner x xs ne)))))))
    ]

start-insert : (k p : ℕ) (ss : List (List ℕ)) → start k (insert k p ss) ≡ start k ss
start-insert k p [] = refl
start-insert k p (s ∷ ss) = elim (cases_lt k (length s)) [
  | inl lt ↦ (let long = long-new k p s lt in rw (lt-ltb k (length s) lt) (rw (lt-ltb k (length (take k s ++ p ∷ drop k s)) (omega arith)) refl))
  | inr ge ↦ (let e = le-ltb k (length s) ge in rw e (rw e (ap (λ n. length s + n) (start-insert (k - length s) p ss))))
]

-- the slot behind the fourth record may be given up there: that record owns none, and the next owner has more than four
abbrev HasMore : List Node → Type 0
HasMore [] = Unit {0}
HasMore (x ∷ xs) = ((x.owned ≡ 0) × HasMore xs) ⊎ (4 < x.owned)

abbrev CanCut : ℕ → List Node → Type 0
CanCut t [] = ⊥
CanCut zero (x ∷ xs) = (x.owned ≡ 0) × HasMore xs
CanCut (suc t) (x ∷ xs) = CanCut t xs

slots-own_four_fewer : (xs : List Node) → HasMore xs → slots_of (own_four_fewer xs) ≡ slots_of xs
slots-own_four_fewer [] h = refl
slots-own_four_fewer (x ∷ xs) (inl h) = let z = eq-eqb x.owned 0 h.0 in rw z (rw z (ap (begin_with x.offset) (slots-own_four_fewer xs h.1)))
slots-own_four_fewer (x ∷ xs) (inr h) = rw (ne_eqb x.owned 0 (λ e. omega arith)) (rw (ne_eqb (x.owned - 4) 0 (λ e. omega arith)) refl)

cut-begin : (t q : ℕ) (s : List ℕ) (ss : List (List ℕ)) → cut_at (suc t) ((q ∷ s) ∷ ss) ≡ begin_with q (cut_at t (s ∷ ss))
cut-begin t q s ss = elim (cases_lt t (length s)) [
  | inl lt ↦ rw (lt-ltb t (length s) lt) (rw (lt-ltb (suc t) (suc (length s)) (omega arith)) refl)
  | inr ge ↦ rw (le-ltb t (length s) ge) (rw (le-ltb (suc t) (suc (length s)) (omega arith)) (let e : suc t - suc (length s) ≡ t - length s = omega arith in rw e refl))
]

slots-give_slot : (t : ℕ) (xs : List Node) → CanCut t xs → slots_of (give_slot t xs) ≡ cut_at t (slots_of xs)
slots-give_slot t [] h = absurd h
slots-give_slot zero (x ∷ xs) h =
    let r = is-cut xs in
    let here : cut_at 0 ((x.offset ∷ r.slot) ∷ r.slots) ≡ (x.offset ∷ []) ∷ r.slot ∷ r.slots = rw (lt-ltb 0 (suc (length r.slot)) (omega arith)) refl in
    ap (λ (ss : List (List ℕ)). (x.offset ∷ []) ∷ ss) (slots-own_four_fewer xs h.1 ∙ r.is) ∙ (sym here ∙ ap (cut_at 0) (sym (cut-inside x xs r.slot r.slots h.0 r.is)))
slots-give_slot (suc t) (x ∷ xs) h =
    let rest = slots-give_slot t xs h in
    elim (cases_eq x.owned 0) [
      | inl e ↦ (
          let r = is-cut xs in
          slots-inside x (give_slot t xs) e ∙ (ap (begin_with x.offset) (rest ∙ ap (cut_at t) r.is) ∙ (sym (cut-begin t x.offset r.slot r.slots) ∙ ap (cut_at (suc t)) (sym (cut-inside x xs r.slot r.slots e r.is)))))
      | inr ne ↦ (
          let one : cut_at (suc t) ((x.offset ∷ []) ∷ slots_of xs) ≡ (x.offset ∷ []) ∷ cut_at t (slots_of xs) = rw (le-ltb (suc t) 1 (omega arith)) (let e : suc t - 1 ≡ t = omega arith in rw e refl) in
          slots-owner x (give_slot t xs) ne ∙ (ap (λ (ss : List (List ℕ)). (x.offset ∷ []) ∷ ss) rest ∙ (sym one ∙ ap (cut_at (suc t)) (sym (slots-owner x xs ne)))))
    ]

-- where a slot has nine
more-four : (n : ℕ) (xs : List Node) (last : ℕ) → Over n xs last → owned_by xs last ≡ 9 → HasMore xs
more-four n [] last h nine = tt
more-four n (x ∷ xs) last (inl h) nine = let r = rw (eq-eqb x.owned 0 h.0) at nine in inl (h.0, more-four (n + 1) xs last h.1 r)
more-four n (x ∷ xs) last (inr h) nine = let a = h.0.0 in let is : x.owned ≡ 9 = rw (ne_eqb x.owned 0 (λ z. omega arith)) at nine in inr (omega arith)

cut-fourth : (n m : ℕ) (xs : List Node) (last : ℕ) → n + m ≡ 3 → Over n xs last → owned_by xs last ≡ 9 → CanCut m xs
cut-fourth n m [] last e h nine = absurd (let a = h.0 in let b : last ≡ 9 = nine in omega arith)
cut-fourth n zero (x ∷ xs) last e (inl h) nine = let r = rw (eq-eqb x.owned 0 h.0) at nine in (h.0, more-four (n + 1) xs last h.1 r)
cut-fourth n (suc m) (x ∷ xs) last e (inl h) nine = let r = rw (eq-eqb x.owned 0 h.0) at nine in cut-fourth (n + 1) m xs last (omega arith) h.1 r
cut-fourth n m (x ∷ xs) last e (inr h) nine = absurd (let a = h.0.0 in let is : x.owned ≡ 9 = rw (ne_eqb x.owned 0 (λ z. omega arith)) at nine in omega arith)

first-slot : (k n : ℕ) (xs : List Node) (last : ℕ) (s : List ℕ) (ss : List (List ℕ)) → OverAt k n xs last → owned_by (drop k xs) last ≡ 9 → slots_of xs ≡ s ∷ ss → k < length s → Over n xs last × (owned_by xs last ≡ 9)
first-slot zero n xs last s ss h nine is lt = (h, nine)
first-slot (suc k) n [] last s ss h nine is lt = absurd h
first-slot (suc k) n (x ∷ xs) last s ss (inl h) nine is lt =
    let r = is-cut xs in
    let long : suc (length r.slot) ≡ length s = ap first_length (sym (cut-inside x xs r.slot r.slots h.0 r.is) ∙ is) in
    let rest = first-slot k (n + 1) xs last r.slot r.slots h.1 nine r.is (omega arith) in
    (inl (h.0, rest.0), rw (eq-eqb x.owned 0 h.0) rest.1)
  where
    first_length : List (List ℕ) → ℕ
    first_length [] = 0
    first_length (t ∷ ts) = length t
first-slot (suc k) n (x ∷ xs) last s ss (inr h) nine is lt =
    absurd (let a = h.0.0 in let long : 1 ≡ length s = ap first_length (sym (slots-owner x xs (λ z. omega arith)) ∙ is) in omega arith)
  where
    first_length : List (List ℕ) → ℕ
    first_length [] = 0
    first_length (t ∷ ts) = length t

can-cut : (k n : ℕ) (xs : List Node) (last : ℕ) → k ≤ length xs → OverAt k n xs last → owned_by (drop k xs) last ≡ 9 → (start k (slots_of xs) ≡ 0 → n ≡ 0) → CanCut (start k (slots_of xs) + 3) xs
can-cut zero n xs last le h nine none =
    let r = is-cut xs in
    let z : start 0 (slots_of xs) ≡ 0 = ap (start 0) r.is ∙ start-first r.slot r.slots r.some in
    let e = none z in
    subst (λ (t : ℕ). CanCut (t + 3) xs) (sym z) (cut-fourth n 3 xs last (omega arith) h nine)
can-cut (suc k) n [] last le h nine none = absurd h
can-cut (suc k) n (x ∷ xs) last le (inl h) nine none =
    let r = is-cut xs in
    let is = cut-inside x xs r.slot r.slots h.0 r.is in
    let here = ap (start (suc k)) is in
    let rest = ap (start k) r.is in
    elim (start-begin k x.offset r.slot r.slots r.some) [
      | inl b ↦ (
          let z : start (suc k) (slots_of (x ∷ xs)) ≡ 0 = here ∙ b.1.1 in
          let e = none z in
          let first = first-slot k (n + 1) xs last r.slot r.slots h.1 nine r.is b.0 in
          subst (λ (t : ℕ). CanCut (t + 3) (x ∷ xs)) (sym z) (cut-fourth (n + 1) 2 xs last (omega arith) first.0 first.1))
      | inr b ↦ (
          let some = b.0 in let more = b.1 in
          let inner = can-cut k (n + 1) xs last (omega arith) h.1 nine (λ z. absurd (omega arith)) in
          let t : suc (start k (slots_of xs) + 3) ≡ start (suc k) (slots_of (x ∷ xs)) + 3 = omega arith in
          subst (λ (i : ℕ). CanCut i (x ∷ xs)) t inner)
    ]
can-cut (suc k) n (x ∷ xs) last le (inr h) nine none =
    let a = h.0.0 in
    let here = ap (start (suc k)) (slots-owner x xs (λ z. omega arith)) in
    let one = start-owner k x.offset (slots_of xs) in
    let inner = can-cut k 0 xs last (omega arith) h.1 nine (λ z. refl) in
    let t : suc (start k (slots_of xs) + 3) ≡ start (suc k) (slots_of (x ∷ xs)) + 3 = omega arith in
    subst (λ (i : ℕ). CanCut i (x ∷ xs)) t inner

-- the heap of the chain into which a record was put
module _ (k : ℕ) (c : Chain) (owned : Owned 0 c.nodes c.last) (le : k ≤ length c.nodes) where
  abbrev p : ℕ
  p = chain_offset c

  abbrev nodes : List Node
  nodes = put_node k p c.nodes

  abbrev last : ℕ
  last = put_last k c.nodes c.last

  abbrev t : ℕ
  t = up_to (length (owners (take k c.nodes)) - 1) nodes + 3

  abbrev with_slots : ℕ → List (List ℕ) → List ℕ → Heap
  with_slots q slots free = record { slots = slots; free = free }

  number : owned_by (drop k nodes) last ≡ size 0 k (slots_of c.nodes) + 1
  number = let a = owned-put k p c.nodes c.last le in let b = size-slot 0 k c.nodes c.last le owned in omega arith

  put-is : put_in k (heap_of c) ≡ with_slots p (put_before k p (slots_of c.nodes)) (rest_of c.free)
  put-is = ap (λ q. with_slots q (put_before k q (slots_of c.nodes)) (drop 1 c.free)) (offset-same c) ∙ ap (λ (ps : List ℕ). with_slots p (put_before k p (slots_of c.nodes)) ps) (sym (rest-same c.free))

  room : size 0 k (slots_of c.nodes) ≤ 7 → heap_of (put_in_chain k c) ≡ put_in k (heap_of c)
  room few =
      let n = number in
      ap heap_of (cond-true _ _ _ (le-leb (owned_by (drop k nodes) last) 8 (omega arith)))
      ∙ (ap (λ (ss : List (List ℕ)). with_slots p ss (rest_of c.free)) (slots-put k p c.nodes le ∙ sym (put-room k p (slots_of c.nodes) few)) ∙ sym put-is)

  full : 7 < size 0 k (slots_of c.nodes) → owned_by (drop k nodes) last ≡ 9 → heap_of (put_in_chain k c) ≡ put_in k (heap_of c)
  full much nine =
      let n = number in
      let before : start k (slots_of nodes) ≡ start k (slots_of c.nodes) = ap (start k) (slots-put k p c.nodes le) ∙ start-insert k p (slots_of c.nodes) in
      let can : CanCut (start k (slots_of nodes) + 3) nodes = can-cut k 0 nodes last (longer) (over-put k 0 p c.nodes c.last le owned) nine (λ z. refl) in
      let at : t ≡ start k (slots_of c.nodes) + 3 = ap (λ i. i + 3) (start-slot k p c.nodes le) in
      let cut : slots_of (give_slot t nodes) ≡ cut_at (start k (slots_of c.nodes) + 3) (insert k p (slots_of c.nodes)) =
      ap (λ i. slots_of (give_slot i nodes)) at ∙ (slots-give_slot (start k (slots_of c.nodes) + 3) nodes (subst (λ i. CanCut (i + 3) nodes) before can) ∙ ap (cut_at (start k (slots_of c.nodes) + 3)) (slots-put k p c.nodes le)) in
      ap heap_of (cond-false _ _ _ (lt-leb (owned_by (drop k nodes) last) 8 (omega arith)))
      ∙ (ap (λ (ss : List (List ℕ)). with_slots p ss (rest_of c.free)) (cut ∙ sym (put-full k p (slots_of c.nodes) much)) ∙ sym put-is)
    where
      longer : k ≤ length nodes
      longer = let a = length-put k p c.nodes le in omega arith

  pub put-heap : heap_of (put_in_chain k c) ≡ put_in k (heap_of c)
  put-heap = elim (cases_lt 7 (size 0 k (slots_of c.nodes))) [
    | inl much ↦ (let n = number in let a = size-slot 0 k c.nodes c.last le owned in let b = owned-few 0 k c.nodes c.last owned in full much (omega arith))
    | inr few ↦ room few
  ]
