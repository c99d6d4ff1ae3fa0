-- The chain after a record is put in.
use Rattle.std.proofs.Common.{◌≡◌, ℕ, zero, suc, ◌+◌, ◌*◌, ◌<◌, ◌≤◌, ◌≢◌, ◌⊎◌, [], ◌∷◌, ◌++◌, ◌∙◌, List, length, take, drop, get_or, refl, ap, sym, arith, inl, inr, subst}
use Rattle.std.specs.Prelude.{if◌then◌else◌, ◌==◌}
use Rattle.std.proofs.lemmas.Bool.{cases_eq, eq-eqb, ne_eqb}
use Rattle.ib_heap.specs.Chain.{Node, first_of, owners, times, offsets_of, last_from}
use Rattle.ib_heap.specs.ChainPut.{owned_by, owner_from, own_one_more, last_one_more, put_node, put_last}
use Rattle.ib_heap.proofs.HeapLaws.{Chained, Owned, IsOwner}

-- whether two numbers are one
abbrev pub one : ℕ → ℕ → ℕ
one p q = if p == q then 1 else 0

pub one-same : (p : ℕ) → one p p ≡ 1
one-same p = rw (eq-eqb p p refl) refl

pub one-other : (p q : ℕ) → p ≢ q → one p q ≡ 0
one-other p q ne = rw (ne_eqb p q ne) refl

-- the first slot's number of records, and those behind it, where it may own nine
abbrev pub Over : ℕ → List Node → ℕ → Type 0
Over n [] last = (last ≡ n + 1) × (last ≤ 9)
Over n (x ∷ xs) last = ((x.owned ≡ 0) × Over (n + 1) xs last) ⊎ (((x.owned ≡ n + 1) × ((4 ≤ x.owned) × (x.owned ≤ 9))) × Owned 0 xs last)

pub over-own_one_more : (n : ℕ) (xs : List Node) (last : ℕ) → Owned n xs last → Over (n + 1) (own_one_more xs) (last_one_more xs last)
over-own_one_more n [] last h = let a = h.0 in let b = h.1 in (omega arith, omega arith)
over-own_one_more n (x ∷ xs) last (inl h) = rw (eq-eqb x.owned 0 h.0) (inl (h.0, over-own_one_more (n + 1) xs last h.1))
over-own_one_more n (x ∷ xs) last (inr h) = let a = h.0.0 in let b = h.0.1.0 in let d = h.0.1.1 in rw (ne_eqb x.owned 0 (λ e. omega arith)) (inr ((omega arith, (omega arith, omega arith)), h.1))

-- the same behind the first k records
abbrev pub OverAt : ℕ → ℕ → List Node → ℕ → Type 0
OverAt zero n xs last = Over n xs last
OverAt (suc k) n [] last = ⊥
OverAt (suc k) n (x ∷ xs) last = ((x.owned ≡ 0) × OverAt k (n + 1) xs last) ⊎ (IsOwner n x.owned × OverAt k 0 xs last)

pub over-put : (k n p : ℕ) (xs : List Node) (last : ℕ) → k ≤ length xs → Owned n xs last → OverAt k n (put_node k p xs) (put_last k xs last)
over-put zero n p xs last le h = inl (refl, over-own_one_more n xs last h)
over-put (suc k) n p [] last le h = absurd (omega arith)
over-put (suc k) n p (x ∷ xs) last le (inl h) = inl (h.0, over-put k (n + 1) p xs last (omega arith) h.1)
over-put (suc k) n p (x ∷ xs) last le (inr h) = inr (h.0, over-put k 0 p xs last (omega arith) h.1)

-- where the slot has room all slots are well
pub over-room : (n : ℕ) (xs : List Node) (last : ℕ) → Over n xs last → owned_by xs last ≤ 8 → Owned n xs last
over-room n [] last h room = (h.0, room)
over-room n (x ∷ xs) last (inl h) room = let r = rw (eq-eqb x.owned 0 h.0) at room in inl (h.0, over-room (n + 1) xs last h.1 r)
over-room n (x ∷ xs) last (inr h) room = let a = h.0.0 in let b = h.0.1.0 in let r = rw (ne_eqb x.owned 0 (λ e. omega arith)) at room in inr ((a, (b, r)), h.1)

pub over_at-room : (k n : ℕ) (xs : List Node) (last : ℕ) → OverAt k n xs last → owned_by (drop k xs) last ≤ 8 → Owned n xs last
over_at-room zero n xs last h room = over-room n xs last h room
over_at-room (suc k) n [] last h room = absurd h
over_at-room (suc k) n (x ∷ xs) last (inl h) room = inl (h.0, over_at-room k (n + 1) xs last h.1 room)
over_at-room (suc k) n (x ∷ xs) last (inr h) room = inr (h.0, over_at-room k 0 xs last h.1 room)

pub offsets-own_one_more : (xs : List Node) → offsets_of (own_one_more xs) ≡ offsets_of xs
offsets-own_one_more [] = refl
offsets-own_one_more (x ∷ xs) = elim (cases_eq x.owned 0) [
  | inl e ↦ rw (eq-eqb x.owned 0 e) (ap (λ (ps : List ℕ). x.offset ∷ ps) (offsets-own_one_more xs))
  | inr ne ↦ rw (ne_eqb x.owned 0 ne) refl
]

pub owners-own_one_more : (xs : List Node) → owners (own_one_more xs) ≡ owners xs
owners-own_one_more [] = refl
owners-own_one_more (x ∷ xs) = elim (cases_eq x.owned 0) [
  | inl e ↦ rw (eq-eqb x.owned 0 e) (rw (eq-eqb x.owned 0 e) (owners-own_one_more xs))
  | inr ne ↦ rw (ne_eqb x.owned 0 ne) (rw (ne_eqb (x.owned + 1) 0 (λ e. omega arith)) refl)
]

pub first-own_one_more : (xs : List Node) → first_of (own_one_more xs) ≡ first_of xs
first-own_one_more [] = refl
first-own_one_more (x ∷ xs) = elim (cases_eq x.owned 0) [
  | inl e ↦ rw (eq-eqb x.owned 0 e) refl
  | inr ne ↦ rw (ne_eqb x.owned 0 ne) refl
]

pub owners-put : (k p : ℕ) (xs : List Node) → k ≤ length xs → owners (put_node k p xs) ≡ owners xs
owners-put zero p xs le = owners-own_one_more xs
owners-put (suc k) p [] le = absurd (omega arith)
owners-put (suc k) p (x ∷ xs) le = elim (cases_eq x.owned 0) [
  | inl e ↦ rw (eq-eqb x.owned 0 e) (owners-put k p xs (omega arith))
  | inr ne ↦ rw (ne_eqb x.owned 0 ne) (ap (λ (os : List ℕ). x.offset ∷ os) (owners-put k p xs (omega arith)))
]

pub length-own_one_more : (xs : List Node) → length (own_one_more xs) ≡ length xs
length-own_one_more [] = refl
length-own_one_more (x ∷ xs) = elim (cases_eq x.owned 0) [
  | inl e ↦ rw (eq-eqb x.owned 0 e) (ap suc (length-own_one_more xs))
  | inr ne ↦ rw (ne_eqb x.owned 0 ne) refl
]

pub length-put : (k p : ℕ) (xs : List Node) → k ≤ length xs → length (put_node k p xs) ≡ length xs + 1
length-put zero p xs le = let r = length-own_one_more xs in omega arith
length-put (suc k) p [] le = absurd (omega arith)
length-put (suc k) p (x ∷ xs) le = let r = length-put k p xs (omega arith) in omega arith

pub times-put : (k p q : ℕ) (xs : List Node) → k ≤ length xs → times q (offsets_of (put_node k p xs)) ≡ one p q + times q (offsets_of xs)
times-put zero p q xs le = ap (λ (ps : List ℕ). one p q + times q ps) (offsets-own_one_more xs)
times-put (suc k) p q [] le = absurd (omega arith)
times-put (suc k) p q (x ∷ xs) le = let r = times-put k p q xs (omega arith) in omega arith

pub times-append : (q : ℕ) (ps qs : List ℕ) → times q (ps ++ qs) ≡ times q ps + times q qs
times-append q [] qs = omega arith
times-append q (p ∷ ps) qs = let r = times-append q ps qs in omega arith

-- an offset that stands in a list is not one that does not
pub times-apart : (i q : ℕ) (ps : List ℕ) → times i ps ≡ 0 → 0 < times q ps → i ≢ q
times-apart i q ps none some z = absurd (let t = subst (λ (n : ℕ). times n ps ≡ 0) z none in omega arith)

-- where the chain goes on
pub first-put : (k p : ℕ) (xs : List Node) → first_of (put_node (suc k) p xs) ≡ first_of xs
first-put k p [] = refl
first-put k p (x ∷ xs) = refl

-- members
pub owner-in : (xs : List Node) → (owner_from xs ≡ 19) ⊎ (0 < times (owner_from xs) (offsets_of xs))
owner-in [] = inl refl
owner-in (x ∷ xs) = elim (cases_eq x.owned 0) [
  | inl e ↦
      let is : owner_from xs ≡ owner_from (x ∷ xs) = rw (eq-eqb x.owned 0 e) refl in
      subst (λ (q : ℕ). (q ≡ 19) ⊎ (0 < times q (offsets_of (x ∷ xs)))) is (elim (owner-in xs) [ inl z ↦ inl z | inr z ↦ inr (omega arith) ])
  | inr ne ↦
      let is : x.offset ≡ owner_from (x ∷ xs) = rw (ne_eqb x.owned 0 ne) refl in
      subst (λ (q : ℕ). (q ≡ 19) ⊎ (0 < times q (offsets_of (x ∷ xs)))) is (inr (let o = one-same x.offset in omega arith))
]

pub times-drop : (k q : ℕ) (xs : List Node) → times q (offsets_of (drop k xs)) ≤ times q (offsets_of xs)
times-drop zero q xs = omega arith
times-drop (suc k) q [] = omega arith
times-drop (suc k) q (x ∷ xs) = let r = times-drop k q xs in omega arith

pub last-member : (b k : ℕ) (xs : List Node) → k < length xs → 0 < times (last_from b (take (suc k) xs)) (offsets_of xs)
last-member b k [] lt = absurd (omega arith)
last-member b zero (x ∷ xs) lt = let o = one-same x.offset in omega arith
last-member b (suc k) (x ∷ xs) lt = let r = last-member x.offset k xs (omega arith) in omega arith

pub first-member : (i : ℕ) (ys : List Node) → i < length ys → 0 < times (first_of (drop i ys)) (offsets_of ys)
first-member i [] l = absurd (omega arith)
first-member zero (y ∷ ys) l = let o = one-same y.offset in omega arith
first-member (suc i) (y ∷ ys) l = let r = first-member i ys (omega arith) in omega arith

-- each offset once, and each a record's
pub record Apart (xs : List Node) : Type 0 where
  pub once : (q : ℕ) → times q (offsets_of xs) ≤ 1
  pub above : (q : ℕ) → 0 < times q (offsets_of xs) → 20 ≤ q

pub apart-rest : (x : Node) (xs : List Node) → Apart (x ∷ xs) → Apart xs
apart-rest x xs h = record { once = λ q. let r = h.once q in omega arith; above = λ q lt. h.above q (omega arith) }

pub apart-first : (x : Node) (xs : List Node) (q : ℕ) → Apart (x ∷ xs) → 0 < times q (offsets_of xs) → x.offset ≢ q
apart-first x xs q h lt e = let r = h.once q in let z : one x.offset q ≡ 1 = rw e (one-same q) in absurd (omega arith)

pub apart-offset : (x : Node) (xs : List Node) → Apart (x ∷ xs) → 20 ≤ x.offset
apart-offset x xs h = h.above x.offset (let o = one-same x.offset in omega arith)

pub apart-owner : (x : Node) (xs : List Node) (k : ℕ) → Apart (x ∷ xs) → x.offset ≢ owner_from (drop k xs)
apart-owner x xs k h = elim (owner-in (drop k xs)) [
  | inl is ↦ λ e. absurd (let l = apart-offset x xs h in omega arith)
  | inr lt ↦ let m = times-drop k (owner_from (drop k xs)) xs in apart-first x xs (owner_from (drop k xs)) h (omega arith)
]

-- and no offset stands behind itself
pub apart-next : (n : ℕ) (ys : List Node) → Apart ys → suc n < length ys → first_of (drop n ys) ≡ first_of (drop (suc n) ys) → ⊥
apart-next n [] a2 m2 f = absurd (omega arith)
apart-next zero (y ∷ ys) a2 m2 f = let r = a2.once y.offset in let o = one-same y.offset in let m3 = first-member 0 ys (omega arith) in let m4 : 0 < times y.offset (offsets_of ys) = subst (λ (n : ℕ). 0 < times n (offsets_of ys)) (sym f) m3 in absurd (omega arith)
apart-next (suc n) (y ∷ ys) a2 m2 f = apart-next n ys (apart-rest y ys a2) (omega arith) f

-- words that are the same at these offsets and at the supremum
abbrev pub SameAt : List ℕ → List ℕ → List Node → ℕ → ℕ → Type 0
SameAt ws vs xs a b = (q : ℕ) → (0 < times q (offsets_of xs)) ⊎ (q ≡ 19) → q ≢ a → q ≢ b → get_or vs q 0 ≡ get_or ws q 0

pub chain-same : (ws vs : List ℕ) (xs : List Node) (last : ℕ) → Chained ws xs last → ((q : ℕ) → (0 < times q (offsets_of xs)) ⊎ (q ≡ 19) → get_or vs q 0 ≡ get_or ws q 0) → Chained vs xs last
chain-same ws vs [] last h same = same 19 (inr refl) ∙ h
chain-same ws vs (x ∷ xs) last h same =
    (same x.offset (inl (let o = one-same x.offset in omega arith)) ∙ h.0, chain-same ws vs xs last h.1 (λ q m. same q (elim m [ inl lt ↦ inl (omega arith) | inr e ↦ inr e ])))

pub chain-own_one_more : (ws vs : List ℕ) (xs : List Node) (last b : ℕ) → Chained ws xs last → Apart xs → get_or vs (owner_from xs) 0 ≡ get_or ws (owner_from xs) 0 + 256 → (b ≡ 18) ⊎ ((20 ≤ b) × (times b (offsets_of xs) ≡ 0))
    → SameAt ws vs xs b (owner_from xs) → Chained vs (own_one_more xs) (last_one_more xs last)
chain-own_one_more ws vs [] last b h apart raised off same = let c : get_or ws 19 0 ≡ last * 256 = h in let d : get_or vs 19 0 ≡ get_or ws 19 0 + 256 = raised in omega arith
chain-own_one_more ws vs (x ∷ xs) last b h apart raised off same = elim (cases_eq x.owned 0) [
  | inl e ↦
      let none = eq-eqb x.owned 0 e in
      let is : owner_from (x ∷ xs) ≡ owner_from xs = rw none refl in
      let here : 0 < times x.offset (offsets_of (x ∷ xs)) = let o = one-same x.offset in omega arith in
      let differs : x.offset ≢ owner_from xs = apart-owner x xs 0 apart in
      let first : get_or vs x.offset 0 ≡ get_or ws x.offset 0 = same x.offset (inl here) (not_b here) (λ z. differs (z ∙ is)) in
      let rest : Chained vs (own_one_more xs) (last_one_more xs last) = chain-own_one_more ws vs xs last b h.1 (apart-rest x xs apart)
      (subst (λ (q : ℕ). get_or vs q 0 ≡ get_or ws q 0 + 256) is raised) (off-rest off)
      (λ q m ne nf. same q (elim m [ inl lt ↦ inl (omega arith) | inr z ↦ inr z ]) ne (λ z. nf (z ∙ is))) in
      rw none (first ∙ (h.0 ∙ ap (λ n. x.owned * 256 + n) (sym (first-own_one_more xs))), rest)
  | inr ne ↦
      let some = ne_eqb x.owned 0 ne in
      let is : owner_from (x ∷ xs) ≡ x.offset = rw some refl in
      let up : get_or vs x.offset 0 ≡ get_or ws x.offset 0 + 256 = subst (λ (q : ℕ). get_or vs q 0 ≡ get_or ws q 0 + 256) is raised in
      let word = h.0 in
      let rest : Chained vs xs last = chain-same ws vs xs last h.1 (λ q m. same q (elim m [ inl lt ↦ inl (omega arith) | inr z ↦ inr z ]) (not_b-rest q m)
      (elim m [ inl lt ↦ λ z. apart-first x xs q apart lt (sym (z ∙ is)) | inr t ↦ λ z. absurd (let l = apart-offset x xs apart in let y : q ≡ x.offset = z ∙ is in omega arith) ])) in
      rw some (let e : get_or vs x.offset 0 ≡ (x.owned + 1) * 256 + first_of xs = omega arith in e, rest)
]
  where
    not_b : 0 < times x.offset (offsets_of (x ∷ xs)) → x.offset ≢ b
    not_b lt = elim off [
      | inl e ↦ λ z. absurd (let l = apart-offset x xs apart in omega arith)
      | inr e ↦ λ z. times-apart b x.offset (offsets_of (x ∷ xs)) e.1 lt (sym z)
    ]

    off-rest : (b ≡ 18) ⊎ ((20 ≤ b) × (times b (offsets_of (x ∷ xs)) ≡ 0)) → (b ≡ 18) ⊎ ((20 ≤ b) × (times b (offsets_of xs) ≡ 0))
    off-rest o = elim o [ inl e ↦ inl e | inr e ↦ inr (e.0, let t = e.1 in omega arith) ]

    not_b-rest : (q : ℕ) → (0 < times q (offsets_of xs)) ⊎ (q ≡ 19) → q ≢ b
    not_b-rest q m = elim off [
      | inl e ↦ elim m [ inl lt ↦ (λ z. absurd (let l = apart.above q (omega arith) in omega arith)) | inr t ↦ (λ z. absurd (omega arith)) ]
      | inr e ↦ elim m [ inl lt ↦ (λ z. times-apart b q (offsets_of (x ∷ xs)) e.1 (omega arith) (sym z)) | inr t ↦ (λ z. absurd (let l = e.0 in omega arith)) ]
    ]

-- the chain with the new record, whose header and whose neighbours' headers were written
pub chain-put : (ws vs : List ℕ) (b k p : ℕ) (xs : List Node) (last : ℕ) → k ≤ length xs → Chained ws xs last → Apart xs → (b ≡ 18) ⊎ ((20 ≤ b) × (times b (offsets_of xs) ≡ 0))
    → get_or vs p 0 ≡ first_of (drop k xs)
    → get_or vs (last_from b (take k xs)) 0 + first_of (drop k xs) ≡ get_or ws (last_from b (take k xs)) 0 + p
    → get_or vs (owner_from (drop k xs)) 0 ≡ get_or ws (owner_from (drop k xs)) 0 + 256
    → SameAt ws vs xs (last_from b (take k xs)) (owner_from (drop k xs))
    → Chained vs (put_node k p xs) (put_last k xs last)
chain-put ws vs b zero p xs last le h apart off new link raised same =
    (new ∙ (ap (λ n. n) (sym (first-own_one_more xs)) ∙ (let e : first_of (own_one_more xs) ≡ 0 * 256 + first_of (own_one_more xs) = omega arith in e)), chain-own_one_more ws vs xs last b h apart raised off same)
chain-put ws vs b (suc k) p [] last le h apart off new link raised same = absurd (omega arith)
chain-put ws vs b (suc zero) p (x ∷ xs) last le h apart off new link raised same =
    let word = h.0 in
    let rest = chain-put ws vs x.offset zero p xs last (omega arith) h.1 (apart-rest x xs apart) (inr (apart-offset x xs apart, none_in)) new link raised
    (λ q m ne nf. same q (elim m [ inl lt ↦ inl (omega arith) | inr z ↦ inr z ]) ne nf) in
    (let e : get_or vs x.offset 0 ≡ x.owned * 256 + p = omega arith in e, rest)
  where
    none_in : times x.offset (offsets_of xs) ≡ 0
    none_in = let r = apart.once x.offset in let o = one-same x.offset in omega arith
chain-put ws vs b (suc (suc k)) p (x ∷ xs) last le h apart off new link raised same =
    let rest = chain-put ws vs x.offset (suc k) p xs last (omega arith) h.1 (apart-rest x xs apart) (inr (apart-offset x xs apart, none_in)) new link raised
    (λ q m ne nf. same q (elim m [ inl lt ↦ inl (omega arith) | inr z ↦ inr z ]) ne nf) in
    let here : get_or vs x.offset 0 ≡ get_or ws x.offset 0 = same x.offset (inl (let o = one-same x.offset in omega arith))
    (apart-first x xs (last_from x.offset (take (suc k) xs)) apart (last-member x.offset k xs (omega arith))) (apart-owner x xs (suc k) apart) in
    (here ∙ (h.0 ∙ ap (λ n. x.owned * 256 + n) (sym (first-put k p xs))), rest)
  where
    none_in : times x.offset (offsets_of xs) ≡ 0
    none_in = let r = apart.once x.offset in let o = one-same x.offset in omega arith
