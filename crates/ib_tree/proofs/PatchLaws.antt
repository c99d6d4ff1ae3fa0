-- Visits one by one: which are met, which are good, and how leaves are linked with their neighbours.
use Rattle.std.specs.List.{AllByRecursion}
use Rattle.std.proofs.Common.{◌≡◌, ℕ, zero, suc, ◌+◌, ◌<◌, ◌≤◌, ◌⊎◌, inl, inr, Bool, true, false, cond, List, [], ◌∷◌, refl, sym, ap, subst, ◌∙◌, arith, eqb, ◌≢◌}
use Rattle.std.proofs.lemmas.Bool.{cases_eq, cases_lt, eq-eqb}
use Rattle.ib_map.specs.Keys.{rank, end_rank}
use Rattle.ib_map.specs.Pairs.{Pairs, Rises}
use Rattle.ib_map.proofs.KeyLaws.{rank-greatest}
use Rattle.ib_map.proofs.RiseLaws.{first_rank-between}
use Rattle.ib_walk.specs.Pages.{PageMemory}
use Rattle.ib_walk.specs.Walk.{Visit, children_of, children, below, sum_of, weight_along, IsNodeAt, IsLeafAt, AreNodes, IsTree, AreLinked, first_page, IsTiled}
use Rattle.ib_validate.specs.Patch.{LevelVisit, over, off_written, IsGoodAt}
use Rattle.ib_walk.specs.Walk.{counts_visit}
use Rattle.ib_walk.proofs.ChoiceLaws.{cond-eq, cond-ne}
use Rattle.ib_walk.proofs.WalkLaws.{AllByRecursion-append}
use Rattle.ib_tree.proofs.WeightLaws.{sum_of-zero, weight_along-same, weight_along-split, weight_along-zero}

pub counts_visit-own : (h : ℕ) (v : Visit) → counts_visit h v h v ≡ 1
counts_visit-own h v =
    let a = eq-eqb h h refl in let b = eq-eqb v.page v.page refl in let c = eq-eqb v.low v.low refl in let d = eq-eqb v.high v.high refl in
    rw (a, b, c, d) refl

pub visit-same : (u v : Visit) → u.page ≡ v.page → u.low ≡ v.low → u.high ≡ v.high → u ≡ v
visit-same u v a b c = λ i. record { page = a i; low = b i; high = c i }

pub counts_visit-same : (h : ℕ) (v : Visit) (k : ℕ) (u : Visit) → 0 < counts_visit h v k u → (k ≡ h) × (u ≡ v)
counts_visit-same h v k u some =
    elim (cases_eq k h) [
      | inr ne ↦ absurd (let z = cond-ne {X = ℕ} k h (cond (eqb u.page v.page) (cond (eqb u.low v.low) (cond (eqb u.high v.high) 1 0) 0) 0) 0 ne in omega arith)
      | inl e ↦ elim (cases_eq u.page v.page) [
        | inr ne ↦ absurd (let y = cond-eq {X = ℕ} k h (cond (eqb u.page v.page) (cond (eqb u.low v.low) (cond (eqb u.high v.high) 1 0) 0) 0) 0 e in
            let z = cond-ne {X = ℕ} u.page v.page (cond (eqb u.low v.low) (cond (eqb u.high v.high) 1 0) 0) 0 ne in omega arith)
        | inl e1 ↦ elim (cases_eq u.low v.low) [
          | inr ne ↦ absurd (let y = cond-eq {X = ℕ} k h (cond (eqb u.page v.page) (cond (eqb u.low v.low) (cond (eqb u.high v.high) 1 0) 0) 0) 0 e in
              let x = cond-eq {X = ℕ} u.page v.page (cond (eqb u.low v.low) (cond (eqb u.high v.high) 1 0) 0) 0 e1 in
              let z = cond-ne {X = ℕ} u.low v.low (cond (eqb u.high v.high) 1 0) 0 ne in omega arith)
          | inl e2 ↦ elim (cases_eq u.high v.high) [
            | inr ne ↦ absurd (let y = cond-eq {X = ℕ} k h (cond (eqb u.page v.page) (cond (eqb u.low v.low) (cond (eqb u.high v.high) 1 0) 0) 0) 0 e in
                let x = cond-eq {X = ℕ} u.page v.page (cond (eqb u.low v.low) (cond (eqb u.high v.high) 1 0) 0) 0 e1 in
                let w = cond-eq {X = ℕ} u.low v.low (cond (eqb u.high v.high) 1 0) 0 e2 in
                let z = cond-ne {X = ℕ} u.high v.high 1 0 ne in omega arith)
            | inl e3 ↦ (e, visit-same u v e1 e2 e3)
          ]
        ]
      ]
    ]

pub counts_visit-height : (h : ℕ) (v : Visit) (k : ℕ) (u : Visit) → k ≢ h → counts_visit h v k u ≡ 0
counts_visit-height h v k u ne = cond-ne {X = ℕ} k h (cond (eqb u.page v.page) (cond (eqb u.low v.low) (cond (eqb u.high v.high) 1 0) 0) 0) 0 ne

pub AllByRecursion-visits : (P : Visit → Type 0) (h : ℕ) (vs : List Visit) → ((v : Visit) → 0 < sum_of (counts_visit h v h) vs → P v) → AllByRecursion P vs
AllByRecursion-visits P h [] f = tt
AllByRecursion-visits P h (v ∷ vs) f = (f v (let e = counts_visit-own h v in omega arith), AllByRecursion-visits P h vs (λ u l. f u (omega arith)))

pub AllByRecursion-over : (P : LevelVisit → Type 0) (ss : List LevelVisit) → ((s : LevelVisit) → 0 < over (counts_visit s.height s.visit) ss → P s) → AllByRecursion P ss
AllByRecursion-over P [] f = tt
AllByRecursion-over P (s ∷ ss) f = (f s (let e = counts_visit-own s.height s.visit in omega arith), AllByRecursion-over P ss (λ u l. f u (omega arith)))

pub sum_of-holds : (P : ℕ → Visit → Type 0) (h : ℕ) (vs : List Visit) → AllByRecursion (P h) vs → (k : ℕ) (v : Visit) → 0 < sum_of (counts_visit k v h) vs → P k v
sum_of-holds P h [] a k v some = absurd (omega arith)
sum_of-holds P h (u ∷ vs) a k v some =
    elim (cases_lt 0 (counts_visit k v h u)) [
      | inl pos ↦ let e = counts_visit-same k v h u pos in subst (λ j. P j v) e.0 (subst (P h) e.1 a.0)
      | inr non ↦ sum_of-holds P h vs a.1 k v (omega arith)
    ]

pub over-holds : (P : ℕ → Visit → Type 0) (ss : List LevelVisit) → AllByRecursion (λ s. P s.height s.visit) ss → (k : ℕ) (v : Visit) → 0 < over (counts_visit k v) ss → P k v
over-holds P [] a k v some = absurd (omega arith)
over-holds P (s ∷ ss) a k v some =
    elim (cases_lt 0 (counts_visit k v s.height s.visit)) [
      | inl pos ↦ let e = counts_visit-same k v s.height s.visit pos in subst (λ j. P j v) e.0 (subst (P s.height) e.1 a.0)
      | inr non ↦ over-holds P ss a.1 k v (omega arith)
    ]

-- a walk all of whose visits are good is a tree's
pub IsTree-good : (m : PageMemory) (h : ℕ) (vs : List Visit) → ((k : ℕ) (v : Visit) → 0 < weight_along (counts_visit k v) m h vs → IsGoodAt m k v) → IsTree m h vs
IsTree-good m zero vs f = record { nodes = tt; leaves = AllByRecursion-visits (IsLeafAt m) 0 vs (f 0) }
IsTree-good m (suc h) vs f =
    let r = IsTree-good m h (children m vs) (λ k v l. f k v (omega arith)) in
    record { nodes = (AllByRecursion-visits (IsNodeAt m (suc h)) (suc h) vs (λ v l. f (suc h) v (omega arith)), r.nodes); leaves = r.leaves }

pub IsGoodAt-tree : (m : PageMemory) (h : ℕ) (vs : List Visit) → IsTree m h vs → (k : ℕ) (v : Visit) → 0 < weight_along (counts_visit k v) m h vs → IsGoodAt m k v
IsGoodAt-tree m zero vs t k v some = sum_of-holds (IsGoodAt m) 0 vs t.leaves k v some
IsGoodAt-tree m (suc h) vs t k v some =
    elim (cases_lt 0 (sum_of (counts_visit k v (suc h)) vs)) [
      | inl pos ↦ sum_of-holds (IsGoodAt m) (suc h) vs t.nodes.0 k v pos
      | inr non ↦ IsGoodAt-tree m h (children m vs) (record { nodes = t.nodes.1; leaves = t.leaves }) k v (omega arith)
    ]

-- a visit counts on its page alone
pub counts_visit-other : (h : ℕ) (v : Visit) (k : ℕ) (u : Visit) → u.page ≢ v.page → counts_visit h v k u ≡ 0
counts_visit-other h v k u ne =
    elim (cases_lt 0 (counts_visit h v k u)) [
      | inl pos ↦ absurd (ne (ap (λ (w : Visit). w.page) (counts_visit-same h v k u pos).1))
      | inr non ↦ omega arith
    ]

module _ (written : ℕ → Bool) where
  pub off_written-visit : (b : Bool) (h : ℕ) (v : Visit) (k : ℕ) (u : Visit) → written v.page ≡ b → off_written written (counts_visit h v) k u ≡ cond b 0 (counts_visit h v k u)
  off_written-visit b h v k u e =
      elim (cases_eq u.page v.page) [
        | inl same ↦ let x : written u.page ≡ b = ap written same ∙ e in rw x refl
        | inr ne ↦ let z = counts_visit-other h v k u ne in rw z (both (written u.page) b)
      ]
    where
      both : (c d : Bool) → cond {A = ℕ} c 0 0 ≡ cond d 0 0
      both true true = refl
      both true false = refl
      both false true = refl
      both false false = refl

  pub off_written-le : (f : ℕ → Visit → ℕ) (m : PageMemory) (h : ℕ) (vs : List Visit) → weight_along (off_written written f) m h vs ≤ weight_along f m h vs
  off_written-le f m h vs = let e = weight_along-split written f m h vs in omega arith

  pub weight_along-off_written : (m : PageMemory) (h : ℕ) (vs : List Visit) (k : ℕ) (v : Visit) → written v.page ≡ true → weight_along (off_written written (counts_visit k v)) m h vs ≡ 0
  weight_along-off_written m h vs k v e = weight_along-zero (off_written written (counts_visit k v)) m h vs (λ j u l. off_written-visit true k v j u e)

  pub weight_along-off_other : (m : PageMemory) (h : ℕ) (vs : List Visit) (k : ℕ) (v : Visit) → written v.page ≡ false → weight_along (off_written written (counts_visit k v)) m h vs ≡ weight_along (counts_visit k v) m h vs
  weight_along-off_other m h vs k v e = weight_along-same (off_written written (counts_visit k v)) (counts_visit k v) m h vs (λ j u. off_written-visit false k v j u e)

  pub over-other : (ss : List LevelVisit) → AllByRecursion (λ s. written s.visit.page ≡ true) ss → (k : ℕ) (v : Visit) → written v.page ≡ false → over (counts_visit k v) ss ≡ 0
  over-other ss mine k v e =
      elim (cases_lt 0 (over (counts_visit k v) ss)) [
        | inl pos ↦ let t = over-holds (λ j u. written u.page ≡ true) ss mine k v pos in absurd (let x = sym e ∙ t in cc)
        | inr non ↦ omega arith
      ]

-- the lowest level
pub weight_along-lowest : (f : ℕ → Visit → ℕ) (m : PageMemory) (h : ℕ) (vs : List Visit) → ((k : ℕ) (v : Visit) → f (suc k) v ≡ 0) → weight_along f m h vs ≡ sum_of (f 0) (below m h vs)
weight_along-lowest f m zero vs none = refl
weight_along-lowest f m (suc h) vs none = let a = sum_of-zero (f (suc h)) vs (none h) in let r = weight_along-lowest f m h (children m vs) none in omega arith

abbrev pub IsAmong : Visit → List Visit → Type 0
IsAmong v [] = ⊥
IsAmong v (x ∷ xs) = (x ≡ v) ⊎ IsAmong v xs

pub IsAmong-counted : (v : Visit) (vs : List Visit) → 0 < sum_of (counts_visit 0 v 0) vs → IsAmong v vs
IsAmong-counted v [] some = absurd (omega arith)
IsAmong-counted v (x ∷ xs) some =
    elim (cases_lt 0 (counts_visit 0 v 0 x)) [
      | inl pos ↦ inl (counts_visit-same 0 v 0 x pos).1
      | inr non ↦ inr (IsAmong-counted v xs (omega arith))
    ]

pub counted-IsAmong : (v : Visit) (vs : List Visit) → IsAmong v vs → 0 < sum_of (counts_visit 0 v 0) vs
counted-IsAmong v [] h = absurd h
counted-IsAmong v (x ∷ xs) h = elim h [
  | inl e ↦ let a = subst (λ u. counts_visit 0 u 0 x ≡ 1) e (counts_visit-own 0 x) in omega arith
  | inr r ↦ let a = counted-IsAmong v xs r in omega arith
]

abbrev pub HasWidth : Visit → Type 0
HasWidth v = v.low < v.high

pub HasWidth-children_of : (low : ℕ) (xs : Pairs) (high : ℕ) → Rises low xs high → AllByRecursion HasWidth (children_of xs high)
HasWidth-children_of low [] high h = tt
HasWidth-children_of low (x ∷ xs) high h = (let b = first_rank-between (rank x.0 + 1) xs high h.1 in omega (arith, b.0), HasWidth-children_of (rank x.0 + 1) xs high h.1)

pub HasWidth-children : (m : PageMemory) (h : ℕ) (vs : List Visit) → AllByRecursion (IsNodeAt m h) vs → AllByRecursion HasWidth (children m vs)
HasWidth-children m h [] a = tt
HasWidth-children m h (v ∷ vs) a = AllByRecursion-append HasWidth (children_of (m v.page).records v.high) (children m vs) (HasWidth-children_of v.low (m v.page).records v.high a.0.within) (HasWidth-children m h vs a.1)

pub HasWidth-below : (m : PageMemory) (h : ℕ) (vs : List Visit) → AreNodes m h vs → AllByRecursion HasWidth vs → AllByRecursion HasWidth (below m h vs)
HasWidth-below m zero vs n r = r
HasWidth-below m (suc h) vs n r = HasWidth-below m h (children m vs) n.1 (HasWidth-children m (suc h) vs n.0)

-- ranges that stand side by side
pub IsTiled-within : (low : ℕ) (vs : List Visit) (high : ℕ) → IsTiled low vs high → AllByRecursion HasWidth vs → (v : Visit) → IsAmong v vs → (low ≤ v.low) × (v.high ≤ high) × (v.low < v.high)
IsTiled-within low [] high t r v h = absurd h
IsTiled-within low (x ∷ xs) high t r v h =
    let top = tiled-le x.high xs high t.1 r.1 in elim h [
      | inl e ↦ subst (λ u. (low ≤ u.low) × (u.high ≤ high) × (u.low < u.high)) e (let y = t.0 in omega arith, top, r.0)
      | inr i ↦ let a = IsTiled-within x.high xs high t.1 r.1 v i in (let y = t.0 in let z = r.0 in omega (arith, a.0), a.1, a.2)
    ]
  where
    tiled-le : (low : ℕ) (vs : List Visit) (high : ℕ) → IsTiled low vs high → AllByRecursion HasWidth vs → low ≤ high
    tiled-le low [] high t r = omega arith
    tiled-le low (x ∷ xs) high t r = let a = tiled-le x.high xs high t.1 r.1 in let y = t.0 in let z = r.0 in omega arith

abbrev pub AreNeighbours : PageMemory → Visit → Visit → Type 0
AreNeighbours m v w = w.low ≡ v.high → ((m v.page).next ≡ w.page) × ((m w.page).prev ≡ v.page)

pub prev-first : (m : PageMemory) (p low : ℕ) (vs : List Visit) (high n : ℕ) → IsTiled low vs high → AllByRecursion HasWidth vs → AreLinked m p vs n
    → (v : Visit) → IsAmong v vs → v.low ≡ low → (m v.page).prev ≡ p
prev-first m p low [] high n t r l v h e = absurd h
prev-first m p low (x ∷ xs) high n t r l v h e =
    elim h [
      | inl s ↦ subst (λ (u : Visit). (m u.page).prev ≡ p) s l.0
      | inr i ↦ absurd (let a = IsTiled-within x.high xs high t.1 r.1 v i in let b = a.0 in let c = r.0 in let d = t.0 in omega arith)
    ]

pub next-last : (m : PageMemory) (p low : ℕ) (vs : List Visit) (high n : ℕ) → IsTiled low vs high → AllByRecursion HasWidth vs → AreLinked m p vs n
    → (v : Visit) → IsAmong v vs → v.high ≡ high → (m v.page).next ≡ n
next-last m p low [] high n t r l v h e = absurd h
next-last m p low (x ∷ []) high n t r l v h e = elim h [ inl s ↦ subst (λ (u : Visit). (m u.page).next ≡ n) s l.1 | inr i ↦ absurd i ]
next-last m p low (x ∷ y ∷ ys) high n t r l v h e =
    elim h [
      | inl s ↦ absurd (let a = IsTiled-within x.high (y ∷ ys) high t.1 r.1 y (inl refl) in let b = a.1 in let c = a.2 in let d = t.1.0 in let f = ap (λ (u : Visit). u.high) s in omega arith)
      | inr i ↦ next-last m x.page x.high (y ∷ ys) high n t.1 r.1 l.2 v i e
    ]

pub AreNeighbours-linked : (m : PageMemory) (p low : ℕ) (vs : List Visit) (high n : ℕ) → IsTiled low vs high → AllByRecursion HasWidth vs → AreLinked m p vs n
    → (v w : Visit) → IsAmong v vs → IsAmong w vs → AreNeighbours m v w
AreNeighbours-linked m p low [] high n t r l v w hv hw e = absurd hv
AreNeighbours-linked m p low (x ∷ xs) high n t r l v w hv hw e =
    elim hv [
      | inl s ↦ elim hw [
        | inl q ↦ absurd (let a = ap (λ (u : Visit). u.high) s in let b = ap (λ (u : Visit). u.low) q in let c = r.0 in omega arith)
        | inr i ↦ subst (λ (u : Visit). ((m u.page).next ≡ w.page) × ((m w.page).prev ≡ u.page)) s
            (next-one xs t.1 r.1 l.1 l.2 i (let a = ap (λ (u : Visit). u.high) s in omega arith))
      ]
      | inr i ↦ elim hw [
        | inl q ↦ absurd (let a = IsTiled-within x.high xs high t.1 r.1 v i in let b = a.0 in let c = a.2 in let d = ap (λ (u : Visit). u.low) q in let f = r.0 in omega arith)
        | inr j ↦ AreNeighbours-linked m x.page x.high xs high n t.1 r.1 l.2 v w i j e
      ]
    ]
  where
    next-one : (ys : List Visit) → IsTiled x.high ys high → AllByRecursion HasWidth ys → (m x.page).next ≡ first_page ys n → AreLinked m x.page ys n → IsAmong w ys → w.low ≡ x.high
        → ((m x.page).next ≡ w.page) × ((m w.page).prev ≡ x.page)
    next-one [] t r f l h e = absurd h
    next-one (y ∷ ys) t r f l h e =
        elim h [
          | inl q ↦ subst (λ (u : Visit). ((m x.page).next ≡ u.page) × ((m u.page).prev ≡ x.page)) q (f, l.0)
          | inr j ↦ absurd (let a = IsTiled-within y.high ys high t.1 r.1 w j in let b = a.0 in let c = r.0 in let d = t.0 in omega arith)
        ]

-- links from those of each leaf with its neighbours
pub AreLinked-neighbours : (m : PageMemory) (p low : ℕ) (vs : List Visit) (high n : ℕ) → IsTiled low vs high
    → ((v : Visit) → IsAmong v vs → v.low ≡ low → (m v.page).prev ≡ p) → ((v : Visit) → IsAmong v vs → v.high ≡ high → (m v.page).next ≡ n)
    → ((v w : Visit) → IsAmong v vs → IsAmong w vs → AreNeighbours m v w) → AreLinked m p vs n
AreLinked-neighbours m p low [] high n t f l q = tt
AreLinked-neighbours m p low (x ∷ xs) high n t f l q = (
  f x (inl refl) t.0,
  next-one xs t.1 (λ v h. l v (inr h)) (λ v h. l v h) (λ w h. q x w (inl refl) (inr h)),
  AreLinked-neighbours m x.page x.high xs high n t.1 (λ v h e. (q x v (inl refl) (inr h) e).1) (λ v h. l v (inr h)) (λ v w h k. q v w (inr h) (inr k)),
)
  where
    next-one : (ys : List Visit) → IsTiled x.high ys high → ((v : Visit) → IsAmong v ys → v.high ≡ high → (m v.page).next ≡ n)
        → ((v : Visit) → (x ≡ v) ⊎ IsAmong v xs → v.high ≡ high → (m v.page).next ≡ n)
        → ((w : Visit) → IsAmong w ys → AreNeighbours m x w) → (m x.page).next ≡ first_page ys n
    next-one [] t l k q = k x (inl refl) t
    next-one (y ∷ ys) t l k q = (q y (inl refl) t.0).0

pub end_rank-some : 0 < end_rank
end_rank-some = let e = rank-greatest in omega arith
