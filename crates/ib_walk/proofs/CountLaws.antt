-- Lists of pages that are met, and how often each is met: the definition of lawful trees says the first, proofs count.
use Rattle.std.specs.List.{AllByRecursion, Contains, IsDistinct}
use Rattle.std.proofs.Common.{◌≡◌, ℕ, zero, suc, ◌+◌, ◌<◌, ◌≤◌, inl, inr, false, List, [], ◌∷◌, ◌++◌, map, refl, sym, ap, arith, eqb, cond}
use Rattle.std.proofs.lemmas.Bool.{cases_eq, eq-eqb, ne_eqb}
use Rattle.std.proofs.lemmas.Bool.Decides.{nat_tests}
use Rattle.std.proofs.lemmas.Map.Keys.{IsDistinct-head, IsDistinct-tail, IsDistinct-cons, IsDistinct-from_apart}
use Rattle.ib_walk.specs.Pages.{PageMemory}
use Rattle.ib_walk.specs.Walk.{Visit, children, below, walk_down, sum_of, weight_along, counts_page, counts_visit}
use Rattle.ib_walk.specs.Trees.{top_of, height_of, weight_of, times_met, pages_met, pages_met_from, IsMetAt, IsPageMap, IsLawfulUpTo}

-- how often a page stands in a list
abbrev pub times : ℕ → List ℕ → ℕ
times p [] = 0
times p (x ∷ xs) = cond (eqb x p) 1 0 + times p xs

pub times-append : (p : ℕ) (xs ys : List ℕ) → times p (xs ++ ys) ≡ times p xs + times p ys
times-append p [] ys = omega arith
times-append p (x ∷ xs) ys = let r = times-append p xs ys in omega arith

pub times-own : (p x : ℕ) (xs : List ℕ) → x ≡ p → times p (x ∷ xs) ≡ suc (times p xs)
times-own p x xs e = let yes = eq-eqb x p e in rw yes (omega arith)

pub times-other : (p x : ℕ) (xs : List ℕ) → (x ≡ p → ⊥) → times p (x ∷ xs) ≡ times p xs
times-other p x xs ne = let no = ne_eqb x p ne in rw no (omega arith)

-- a page that stands in a list is counted there, and the other way round
pub times-contains : (p : ℕ) (xs : List ℕ) → Contains xs p → 0 < times p xs
times-contains p [] c = absurd (let lt = c.1 in omega arith)
times-contains p (x ∷ xs) (zero, lt, is) = let e = times-own p x xs is in omega arith
times-contains p (x ∷ xs) (suc k, lt, is) = let r = times-contains p xs (k, omega arith, is) in omega arith

pub contains-times : (p : ℕ) (xs : List ℕ) → 0 < times p xs → Contains xs p
contains-times p [] some = absurd (omega arith)
contains-times p (x ∷ xs) some = elim (cases_eq x p) [
  | inl e ↦ (0, omega arith, e)
  | inr ne ↦ let no = times-other p x xs ne in let c = contains-times p xs (omega arith) in (suc c.0, let lt = c.1 in omega arith, c.2)
]

-- a page that none of a list is
none-times : (p : ℕ) (xs : List ℕ) → AllByRecursion (λ y. eqb p y ≡ false) xs → times p xs ≡ 0
none-times p [] none = refl
none-times p (x ∷ xs) none = let r = none-times p xs none.1 in let a = none.0 in let b : eqb x p ≡ false = grind (arith, nat_tests) in rw b (omega arith)

times-none : (p : ℕ) (xs : List ℕ) → times p xs ≡ 0 → AllByRecursion (λ y. eqb p y ≡ false) xs
times-none p [] none = tt
times-none p (x ∷ xs) none = (ne_eqb p x (λ e. let a = times-own p x xs (sym e) in omega arith), times-none p xs (omega arith))

-- a list has no page twice where none is counted twice
pub distinct-times : (xs : List ℕ) → IsDistinct eqb xs → (p : ℕ) → times p xs ≤ 1
distinct-times [] d p = omega arith
distinct-times (x ∷ xs) d p = elim (cases_eq x p) [
  | inl e ↦ let a = none-times x xs (IsDistinct-head eqb x xs d) in let b = ap (λ q. times q xs) e in let c = times-own p x xs e in omega arith
  | inr ne ↦ let no = times-other p x xs ne in let r = distinct-times xs (IsDistinct-tail eqb x xs d) p in omega arith
]

pub times-distinct : (xs : List ℕ) → ((p : ℕ) → times p xs ≤ 1) → IsDistinct eqb xs
times-distinct [] few = IsDistinct-from_apart eqb [] (λ i j d lt le. absurd (omega arith))
times-distinct (x ∷ xs) few = IsDistinct-cons eqb x xs
    (times-none x xs (let a = few x in let b = times-own x x xs refl in omega arith))
    (times-distinct xs (λ p. let a = few p in omega arith))

-- the weight of a page is how often it stands among the pages of the visits
sum_of-times : (p height : ℕ) (vs : List Visit) → sum_of (counts_page p height) vs ≡ times p (map (λ v. v.page) vs)
sum_of-times p height [] = refl
sum_of-times p height (v ∷ vs) = ap (λ n. counts_page p height v + n) (sum_of-times p height vs)

times-map : (p : ℕ) (xs ys : List Visit) → times p (map (λ v. v.page) (xs ++ ys)) ≡ times p (map (λ v. v.page) xs) + times p (map (λ v. v.page) ys)
times-map p [] ys = omega arith
times-map p (x ∷ xs) ys = let r = times-map p xs ys in omega arith

weight_along-times : (p : ℕ) (m : PageMemory) (height : ℕ) (vs : List Visit) → weight_along (counts_page p) m height vs ≡ times p (map (λ v. v.page) (walk_down m height vs))
weight_along-times p m zero vs = sum_of-times p zero vs
weight_along-times p m (suc height) vs =
    let a = sum_of-times p (suc height) vs in
    let b = weight_along-times p m height (children m vs) in
    let c = times-map p vs (walk_down m height (children m vs)) in omega arith

pub times_met-times : (m : PageMemory) (roots p : ℕ) → times_met m roots p ≡ times p (pages_met m roots)
times_met-times m zero p = refl
times_met-times m (suc roots) p =
    let a = weight_along-times p m (height_of m (suc roots)) (top_of (suc roots)) in
    let b = times_met-times m roots p in
    let c = times-append p (pages_met_from m (suc roots)) (pages_met m roots) in omega arith

-- .. with page 0 before them
zero-times : (m : PageMemory) (roots n : ℕ) → times n (0 ∷ pages_met m roots) ≡ times_met m roots n + cond (eqb n 0) 1 0
zero-times m roots n =
    let a = times_met-times m roots n in
    elim (cases_eq n 0) [
      | inl e ↦ let b = times-own n 0 (pages_met m roots) (sym e) in let c = eq-eqb n 0 e in let d : cond {A = ℕ} (eqb n 0) 1 0 ≡ 1 = rw c refl in omega arith
      | inr ne ↦ let b = times-other n 0 (pages_met m roots) (λ e. ne (sym e)) in let c = ne_eqb n 0 ne in let d : cond {A = ℕ} (eqb n 0) 1 0 ≡ 0 = rw c refl in omega arith
    ]

-- the bit of a page is how often it is met, and 1 for page 0
pub bits-met : {most : ℕ → ℕ} {m : PageMemory} {bits : ℕ → ℕ} {roots : ℕ} → IsLawfulUpTo most m bits roots → (n : ℕ) → bits n ≡ times_met m roots n + cond (eqb n 0) 1 0
bits-met {most} {m} {bits} {roots} law n =
    let is = zero-times m roots n in
    let few = distinct-times (0 ∷ pages_met m roots) law.met.once n in
    let bit = law.bit n in
    elim (cases_eq (bits n) 1) [
      | inl set ↦ let some = times-contains n (0 ∷ pages_met m roots) ((law.met.set n).0 set) in omega arith
      | inr clear ↦ elim (cases_eq (times n (0 ∷ pages_met m roots)) 0) [
        | inl none ↦ omega arith
        | inr some ↦ absurd (clear ((law.met.set n).1 (contains-times n (0 ∷ pages_met m roots) (omega arith))))
      ]
    ]

-- .. and bits that are 0 or 1, and are that, belong to pages that are met once
pub IsPageMap-bits : (m : PageMemory) (bits : ℕ → ℕ) (roots : ℕ) → ((n : ℕ) → bits n ≡ times_met m roots n + cond (eqb n 0) 1 0) → ((n : ℕ) → bits n ≤ 1) → IsPageMap m bits roots
IsPageMap-bits m bits roots is few = record {
  once = times-distinct (0 ∷ pages_met m roots) (λ n. let a = zero-times m roots n in let b = is n in let c = few n in omega arith);
  set = λ n. let a = zero-times m roots n in let b = is n in (
    (λ set. contains-times n (0 ∷ pages_met m roots) (omega arith)),
    (λ there. let some = times-contains n (0 ∷ pages_met m roots) there in let c = few n in omega arith),
  );
}

-- a visit that stands in a list is counted there, and the other way round
counts_visit-own : (level : ℕ) (v : Visit) → counts_visit level v level v ≡ 1
counts_visit-own level v =
    let a = eq-eqb level level refl in let b = eq-eqb v.page v.page refl in let c = eq-eqb v.low v.low refl in let d = eq-eqb v.high v.high refl in rw (a, b, c, d) refl

counts_visit-is : (level : ℕ) (v : Visit) (height : ℕ) (u : Visit) → 0 < counts_visit level v height u → (height ≡ level) × (u ≡ v)
counts_visit-is level v height u some = elim (cases_eq height level) [
  | inr ne ↦ absurd (let no = ne_eqb height level ne in grind (arith, nat_tests))
  | inl e ↦ elim (cases_eq u.page v.page) [
    | inr ne ↦ absurd (let no = ne_eqb u.page v.page ne in grind (arith, nat_tests))
    | inl p ↦ elim (cases_eq u.low v.low) [
      | inr ne ↦ absurd (let no = ne_eqb u.low v.low ne in grind (arith, nat_tests))
      | inl l ↦ elim (cases_eq u.high v.high) [
        | inr ne ↦ absurd (let no = ne_eqb u.high v.high ne in grind (arith, nat_tests))
        | inl h ↦ (e, λ i. record { page = p i; low = l i; high = h i })
      ]
    ]
  ]
]

sum_of-contains : (level : ℕ) (v : Visit) (vs : List Visit) → Contains vs v → 0 < sum_of (counts_visit level v level) vs
sum_of-contains level v [] c = absurd (let lt = c.1 in omega arith)
sum_of-contains level v (u ∷ vs) (zero, lt, is) = let a = counts_visit-own level v in let b = ap (counts_visit level v level) is in omega arith
sum_of-contains level v (u ∷ vs) (suc k, lt, is) = let r = sum_of-contains level v vs (k, omega arith, is) in omega arith

contains-sum_of : (level : ℕ) (v : Visit) (height : ℕ) (vs : List Visit) → 0 < sum_of (counts_visit level v height) vs → (height ≡ level) × Contains vs v
contains-sum_of level v height [] some = absurd (omega arith)
contains-sum_of level v height (u ∷ vs) some = elim (cases_eq (counts_visit level v height u) 0) [
  | inr here ↦ let is = counts_visit-is level v height u (omega arith) in (is.0, (0, omega arith, is.1))
  | inl none ↦ let r = contains-sum_of level v height vs (omega arith) in (r.0, (suc r.1.0, let lt = r.1.1 in omega arith, r.1.2))
]

level-weight : (f : ℕ → Visit → ℕ) (m : PageMemory) (height : ℕ) (vs : List Visit) → sum_of (f height) vs ≤ weight_along f m height vs
level-weight f m zero vs = omega arith
level-weight f m (suc height) vs = omega arith

weight-contains : (level : ℕ) (v : Visit) (m : PageMemory) (depth height : ℕ) (vs : List Visit) → depth + level ≡ height → Contains (below m depth vs) v → 0 < weight_along (counts_visit level v) m height vs
weight-contains level v m zero height vs at c =
    let a = sum_of-contains level v vs c in
    let b = level-weight (counts_visit level v) m height vs in
    let e : level ≡ height = omega arith in let s = ap (λ h. sum_of (counts_visit level v h) vs) e in omega arith
weight-contains level v m (suc depth) zero vs at c = absurd (omega arith)
weight-contains level v m (suc depth) (suc height) vs at c = let r = weight-contains level v m depth height (children m vs) (omega arith) c in omega arith

contains-weight : (level : ℕ) (v : Visit) (m : PageMemory) (height : ℕ) (vs : List Visit) → 0 < weight_along (counts_visit level v) m height vs
    → (depth : ℕ) × (depth + level ≡ height) × Contains (below m depth vs) v
contains-weight level v m zero vs some = let r = contains-sum_of level v zero vs some in (0, let e = r.0 in omega arith, r.1)
contains-weight level v m (suc height) vs some = elim (cases_eq (sum_of (counts_visit level v (suc height)) vs) 0) [
  | inr here ↦ let r = contains-sum_of level v (suc height) vs (omega arith) in (0, let e = r.0 in omega arith, r.1)
  | inl none ↦ let r = contains-weight level v m height (children m vs) (omega arith) in (suc r.0, let e = r.1 in omega arith, r.2)
]

-- so a page is met with a range where its visit weighs something
pub weight-met : {m : PageMemory} {root level : ℕ} {v : Visit} → IsMetAt m root level v → 0 < weight_of (counts_visit level v) m root
weight-met {m} {root} {level} {v} met = weight-contains level v m met.depth (height_of m root) (top_of root) met.at met.there

pub met-weight : (m : PageMemory) (root level : ℕ) (v : Visit) → 0 < weight_of (counts_visit level v) m root → IsMetAt m root level v
met-weight m root level v some =
    let r = contains-weight level v m (height_of m root) (top_of root) some in record { depth = r.0; at = r.1; there = r.2 }
