-- Offsets that are met one by one: as many as there are, and none twice, are all of them once.
use Rattle.std.proofs.Common.{inl, inr, ◌≡◌, ℕ, zero, suc, ◌+◌, ◌*◌, ◌<◌, ◌≤◌, true, ◌∙◌, List, [], ◌∷◌, ◌++◌, length, get_or, set, refl, ap, sym, arith, ◌&&◌, Bool}
use Rattle.std.proofs.Math.Bool.{and_assoc}
use Rattle.std.proofs.lemmas.Bool.{and_parts, and_from, eq-eqb, ne_eqb, eqb-true, cases_eq, cases_lt}
use Rattle.std.proofs.lemmas.List.{get_or-set_same, get_or-set_other, length-set}
use Rattle.ib_heap.specs.Chain.{times}
use Rattle.ib_heap.specs.Walks.{is_new, are_new, met_with}
use Rattle.ib_heap.proofs.HeapLaws.{IsOffset, IsOffset-Decides, AreOffsets, EachOnce}

pub new-append : (n : ℕ) (met ps qs : List ℕ) → are_new n met (ps ++ qs) ≡ (are_new n met ps && are_new n (met_with met ps) qs)
new-append n met [] qs = refl
new-append n met (p ∷ ps) qs = ap (λ (b : Bool). is_new n met p && b) (new-append n (set met p 1) ps qs) ∙ sym (and_assoc (is_new n met p) (are_new n (set met p 1) ps) (are_new n (met_with (set met p 1) ps) qs))

-- how often an offset stands in a list with one more
times-same : (p q : ℕ) (ps : List ℕ) → p ≡ q → times q (p ∷ ps) ≡ 1 + times q ps
times-same p q ps e = rw (eq-eqb p q e) refl

times-other : (p q : ℕ) (ps : List ℕ) → (p ≡ q → ⊥) → times q (p ∷ ps) ≡ times q ps
times-other p q ps ne = rw (ne_eqb p q ne) (omega arith)

-- what was met, with one more
met-same : (met : List ℕ) (p q : ℕ) → p < length met → p ≡ q → get_or (set met p 1) q 0 ≡ 1
met-same met p q lt e = ap (λ r. get_or (set met p 1) r 0) (sym e) ∙ get_or-set_same met p 1 0 lt

met-other : (met : List ℕ) (p q : ℕ) → (p ≡ q → ⊥) → get_or (set met p 1) q 0 ≡ get_or met q 0
met-other met p q ne = get_or-set_other met p q 1 0 (λ e. ne (sym e))

pub new-offsets : (n : ℕ) (met ps : List ℕ) → are_new n met ps ≡ true → AreOffsets n ps
new-offsets n met [] h = tt
new-offsets n met (p ∷ ps) h = let a = and_parts _ _ h in let b = and_parts _ _ a.0 in ((IsOffset-Decides n p).0 b.0, new-offsets n (set met p 1) ps a.1)

offset-in : (n p : ℕ) (met : List ℕ) → n ≤ 35 → length met ≡ 160 → IsOffset n p → p < length met
offset-in n p met le size k = let a = k.is in let b = k.below in omega arith

pub new-few : (n : ℕ) (met ps : List ℕ) → n ≤ 35 → length met ≡ 160 → ((r : ℕ) → r < n → get_or met (20 + 4 * r) 0 ≤ 1) → are_new n met ps ≡ true
    → (r : ℕ) → r < n → get_or met (20 + 4 * r) 0 + times (20 + 4 * r) ps ≤ 1
new-few n met [] le size low h r lt = let l = low r lt in omega arith
new-few n met (p ∷ ps) le size low h r lt =
    let a = and_parts _ _ h in let b = and_parts _ _ a.0 in
    let z : get_or met p 0 ≡ 0 = eqb-true (get_or met p 0) 0 b.1 in
    let inside = offset-in n p met le size ((IsOffset-Decides n p).0 b.0) in
    let lows : (q : ℕ) → q < n → get_or (set met p 1) (20 + 4 * q) 0 ≤ 1 = λ q qlt. elim (cases_eq p (20 + 4 * q)) [
      | inl e ↦ (let s = met-same met p (20 + 4 * q) inside e in omega arith)
      | inr ne ↦ (let s = met-other met p (20 + 4 * q) ne in let l = low q qlt in omega arith)
    ] in
    let rest = new-few n (set met p 1) ps le (length-set met p 1 ∙ size) lows a.1 r lt in
    elim (cases_eq p (20 + 4 * r)) [
      | inl e ↦ (let s = met-same met p (20 + 4 * r) inside e in let t = times-same p (20 + 4 * r) ps e in let z0 : get_or met (20 + 4 * r) 0 ≡ 0 = ap (λ q. get_or met q 0) (sym e) ∙ z in omega arith)
      | inr ne ↦ (let s = met-other met p (20 + 4 * r) ne in let t = times-other p (20 + 4 * r) ps ne in omega arith)
    ]

pub few-new : (n : ℕ) (met ps : List ℕ) → n ≤ 35 → length met ≡ 160 → AreOffsets n ps → ((r : ℕ) → r < n → get_or met (20 + 4 * r) 0 + times (20 + 4 * r) ps ≤ 1) → are_new n met ps ≡ true
few-new n met [] le size h few = refl
few-new n met (p ∷ ps) le size h few =
    let k = h.0 in let e = k.is in
    let f = few k.number k.below in let t = times-same p (20 + 4 * k.number) ps e in
    let z : get_or met p 0 ≡ 0 = ap (λ q. get_or met q 0) e ∙ (let g : get_or met (20 + 4 * k.number) 0 ≡ 0 = omega arith in g) in
    let inside = offset-in n p met le size k in
    let rest : (r : ℕ) → r < n → get_or (set met p 1) (20 + 4 * r) 0 + times (20 + 4 * r) ps ≤ 1 = λ r lt. elim (cases_eq p (20 + 4 * r)) [
      | inl same ↦ (let s = met-same met p (20 + 4 * r) inside same in let g = few r lt in let u = times-same p (20 + 4 * r) ps same in omega arith)
      | inr ne ↦ (let s = met-other met p (20 + 4 * r) ne in let g = few r lt in let u = times-other p (20 + 4 * r) ps ne in omega arith)
    ] in
    and_from _ _ (and_from _ _ ((IsOffset-Decides n p).1 k) (eq-eqb (get_or met p 0) 0 z)) (few-new n (set met p 1) ps le (length-set met p 1 ∙ size) h.1 rest)

-- how many of these stand at one of the first n offsets
total : ℕ → List ℕ → ℕ
total zero ps = 0
total (suc n) ps = times (20 + 4 * n) ps + total n ps

total-none : (n : ℕ) → total n [] ≡ 0
unfolding total
total-none zero = refl
total-none (suc n) = let r = total-none n in omega arith

total-above : (n p : ℕ) (ps : List ℕ) → 20 + 4 * n ≤ p → total n (p ∷ ps) ≡ total n ps
unfolding total
total-above zero p ps le = refl
total-above (suc n) p ps le = let ne : p ≡ 20 + 4 * n → ⊥ = λ e. absurd (omega arith) in let t = times-other p (20 + 4 * n) ps ne in let r = total-above n p ps (omega arith) in omega arith

total-more : (n p : ℕ) (ps : List ℕ) → IsOffset n p → total n (p ∷ ps) ≡ 1 + total n ps
unfolding total
total-more zero p ps k = absurd (let b = k.below in omega arith)
total-more (suc n) p ps k = let is = k.is in let below = k.below in elim (cases_eq p (20 + 4 * n)) [
  | inl e ↦ (let t = times-same p (20 + 4 * n) ps e in let r = total-above n p ps (omega arith) in omega arith)
  | inr ne ↦ (let t = times-other p (20 + 4 * n) ps ne in let r = total-more n p ps (record { number = k.number; is = is; below = omega (arith, ne) }) in omega arith)
]

total-offsets : (n : ℕ) (ps : List ℕ) → AreOffsets n ps → total n ps ≡ length ps
total-offsets n [] h = total-none n
total-offsets n (p ∷ ps) h = let a = total-more n p ps h.0 in let r = total-offsets n ps h.1 in omega arith

total-few : (n : ℕ) (ps : List ℕ) → ((r : ℕ) → r < n → times (20 + 4 * r) ps ≤ 1) → total n ps ≤ n
unfolding total
total-few zero ps few = omega arith
total-few (suc n) ps few = let a = few n (omega arith) in let r = total-few n ps (λ r lt. few r (omega arith)) in omega arith

total-once : (n : ℕ) (ps : List ℕ) → ((r : ℕ) → r < n → times (20 + 4 * r) ps ≤ 1) → total n ps ≡ n → EachOnce n ps
unfolding total
total-once zero ps few e = tt
total-once (suc n) ps few e =
    let a = few n (omega arith) in
    let below : (r : ℕ) → r < n → times (20 + 4 * r) ps ≤ 1 = λ r lt. few r (omega arith) in
    let l = total-few n ps below in
    (omega arith, total-once n ps below (omega arith))

-- as many as there are offsets, and none twice: each once
pub few-once : (n : ℕ) (ps : List ℕ) → AreOffsets n ps → length ps ≡ n → ((r : ℕ) → r < n → times (20 + 4 * r) ps ≤ 1) → EachOnce n ps
few-once n ps h size few = total-once n ps few (total-offsets n ps h ∙ size)

pub once-few : (n : ℕ) (ps : List ℕ) → EachOnce n ps → (r : ℕ) → r < n → times (20 + 4 * r) ps ≤ 1
once-few zero ps h r lt = absurd (omega arith)
once-few (suc n) ps h r lt = elim (cases_lt r n) [
  | inl below ↦ once-few n ps h.1 r below
  | inr ge ↦ (let e : 20 + 4 * r ≡ 20 + 4 * n = omega arith in let t = ap (λ q. times q ps) e in let o = h.0 in omega arith)
]
