-- A patch keeps the visits of all other pages exactly where old and new visits of its pages balance.
use Rattle.std.specs.List.{AllByRecursion}
use Rattle.std.proofs.Common.{◌≡◌, ℕ, zero, suc, ◌+◌, ◌<◌, ◌≤◌, Bool, true, false, cond, List, [], ◌∷◌, ◌++◌, refl, ap, arith}
use Rattle.ib_walk.specs.Pages.{PageState, PageMemory}
use Rattle.ib_walk.specs.Walk.{Visit, children_of, children, sum_of, weight_along}
use Rattle.ib_walk.specs.Trees.{height_of, top_of, weight_of}
use Rattle.ib_validate.specs.Patch.{LevelVisit, over, children_weight, on_written, off_written, written_visits, written_below, old_visits, top, IsBalanced}
use Rattle.ib_walk.proofs.WalkLaws.{sum_of-append}

pub sum_of-same : (f g : Visit → ℕ) (vs : List Visit) → ((v : Visit) → f v ≡ g v) → sum_of f vs ≡ sum_of g vs
sum_of-same f g [] e = refl
sum_of-same f g (v ∷ vs) e = let r = sum_of-same f g vs e in let x = e v in omega arith

pub sum_of-zero : (f : Visit → ℕ) (vs : List Visit) → ((v : Visit) → f v ≡ 0) → sum_of f vs ≡ 0
sum_of-zero f [] e = refl
sum_of-zero f (v ∷ vs) e = let r = sum_of-zero f vs e in let x = e v in omega arith

-- the next level weighs what the children weigh
pub sum_of-children : (f : ℕ → Visit → ℕ) (m : PageMemory) (h : ℕ) (vs : List Visit) → sum_of (children_weight m f (suc h)) vs ≡ sum_of (f h) (children m vs)
sum_of-children f m h [] = refl
sum_of-children f m h (v ∷ vs) = let r = sum_of-children f m h vs in let a = sum_of-append (f h) (children_of (m v.page).records v.high) (children m vs) in omega arith

-- all visits are the first level and the children of all visits
pub weight_along-step : (f : ℕ → Visit → ℕ) (m : PageMemory) (h : ℕ) (vs : List Visit) → weight_along f m h vs ≡ sum_of (f h) vs + weight_along (children_weight m f) m h vs
weight_along-step f m zero vs = let z = sum_of-zero (children_weight m f 0) vs (λ v. refl) in omega arith
weight_along-step f m (suc h) vs = let r = weight_along-step f m h (children m vs) in let s = sum_of-children f m h vs in omega arith

pub weight_along-same : (f g : ℕ → Visit → ℕ) (m : PageMemory) (h : ℕ) (vs : List Visit) → ((k : ℕ) (v : Visit) → f k v ≡ g k v) → weight_along f m h vs ≡ weight_along g m h vs
weight_along-same f g m zero vs e = sum_of-same (f 0) (g 0) vs (e 0)
weight_along-same f g m (suc h) vs e = let a = sum_of-same (f (suc h)) (g (suc h)) vs (e (suc h)) in let b = weight_along-same f g m h (children m vs) e in omega arith

pub weight_along-zero : (f : ℕ → Visit → ℕ) (m : PageMemory) (h : ℕ) (vs : List Visit) → ((k : ℕ) (v : Visit) → k ≤ h → f k v ≡ 0) → weight_along f m h vs ≡ 0
weight_along-zero f m zero vs e = sum_of-zero (f 0) vs (λ v. e 0 v (omega arith))
weight_along-zero f m (suc h) vs e = let a = sum_of-zero (f (suc h)) vs (λ v. e (suc h) v (omega arith)) in let b = weight_along-zero f m h (children m vs) (λ k v l. e k v (omega arith)) in omega arith

sum_of-le : (a b : Visit → ℕ) (vs : List Visit) → ((v : Visit) → a v ≤ b v) → sum_of a vs ≤ sum_of b vs
sum_of-le a b [] e = omega arith
sum_of-le a b (v ∷ vs) e = let x = e v in let y = sum_of-le a b vs e in omega arith

pub weight_along-le : (a b : ℕ → Visit → ℕ) (q : PageMemory) (h : ℕ) (vs : List Visit) → ((k : ℕ) (v : Visit) → a k v ≤ b k v) → weight_along a q h vs ≤ weight_along b q h vs
weight_along-le a b q zero vs e = sum_of-le (a 0) (b 0) vs (e 0)
weight_along-le a b q (suc h) vs e = let x = sum_of-le (a (suc h)) (b (suc h)) vs (e (suc h)) in let y = weight_along-le a b q h (children q vs) e in omega arith

pub over-zero : (f : ℕ → Visit → ℕ) (n : ℕ) (ss : List LevelVisit) → AllByRecursion (λ s. s.height < n) ss → ((k : ℕ) (v : Visit) → k < n → f k v ≡ 0) → over f ss ≡ 0
over-zero f n [] h e = refl
over-zero f n (s ∷ ss) h e = let a = e s.height s.visit h.0 in let b = over-zero f n ss h.1 e in omega arith

pub sum_of-split : (written : ℕ → Bool) (f : ℕ → Visit → ℕ) (h : ℕ) (vs : List Visit) → sum_of (f h) vs ≡ sum_of (on_written written f h) vs + sum_of (off_written written f h) vs
sum_of-split written f h [] = refl
sum_of-split written f h (v ∷ vs) =
    let r = sum_of-split written f h vs in
    let s : f h v ≡ on_written written f h v + off_written written f h v = elim (written v.page) as (λ b. f h v ≡ cond b (f h v) 0 + cond b 0 (f h v)) [ true ↦ omega arith | false ↦ omega arith ] in
    omega arith

pub weight_along-split : (written : ℕ → Bool) (f : ℕ → Visit → ℕ) (m : PageMemory) (h : ℕ) (vs : List Visit)
    → weight_along f m h vs ≡ weight_along (on_written written f) m h vs + weight_along (off_written written f) m h vs
weight_along-split written f m zero vs = sum_of-split written f 0 vs
weight_along-split written f m (suc h) vs = let a = sum_of-split written f (suc h) vs in let b = weight_along-split written f m h (children m vs) in omega arith

pub over-append : (f : ℕ → Visit → ℕ) (xs ys : List LevelVisit) → over f (xs ++ ys) ≡ over f xs + over f ys
over-append f [] ys = omega arith
over-append f (x ∷ xs) ys = let r = over-append f xs ys in omega arith

pub over-written_visits : (written : ℕ → Bool) (f : ℕ → Visit → ℕ) (h : ℕ) (vs : List Visit) → over f (written_visits written h vs) ≡ sum_of (on_written written f h) vs
over-written_visits written f h [] = refl
over-written_visits written f h (v ∷ vs) =
    let r = over-written_visits written f h vs in
    elim (written v.page) as (λ b. over f (cond b (record { height = h; visit = v } ∷ written_visits written h vs) (written_visits written h vs)) ≡ cond b (f h v) 0 + sum_of (on_written written f h) vs) [
      | true ↦ omega arith
      | false ↦ omega arith
    ]

-- the list of the written visits weighs what the walk weighs on written pages
pub over-written_below : (written : ℕ → Bool) (f : ℕ → Visit → ℕ) (m : PageMemory) (h : ℕ) (vs : List Visit) → over f (written_below written m h vs) ≡ weight_along (on_written written f) m h vs
over-written_below written f m zero vs = over-written_visits written f 0 vs
over-written_below written f m (suc h) vs =
    let a = over-append f (written_visits written (suc h) vs) (written_below written m h (children m vs)) in
    let b = over-written_visits written f (suc h) vs in let c = over-written_below written f m h (children m vs) in omega arith

-- on pages that are not written the children are the same
pub off_written-children_weight : (written : ℕ → Bool) (m new : PageMemory) → ((n : ℕ) → written n ≡ false → new n ≡ m n) → (f : ℕ → Visit → ℕ) (k : ℕ) (v : Visit)
    → off_written written (children_weight new f) k v ≡ off_written written (children_weight m f) k v
off_written-children_weight written m new same f k v =
    elim (written v.page) as (λ b. written v.page ≡ b → cond b 0 (children_weight new f k v) ≡ cond b 0 (children_weight m f k v)) [
      | true ↦ λ e. refl
      | false ↦ λ e. at-page k (same v.page e)
    ] refl
  where
    at-page : (k : ℕ) → new v.page ≡ m v.page → children_weight new f k v ≡ children_weight m f k v
    at-page zero e = refl
    at-page (suc k) e = ap (λ (p : PageState). sum_of (f k) (children_of p.records v.high)) e

pub children_weight-zero : (m : PageMemory) (f : ℕ → Visit → ℕ) (k n : ℕ) (v : Visit) → ((j : ℕ) (u : Visit) → suc j ≡ k → f j u ≡ 0) → children_weight m f k v ≡ 0
children_weight-zero m f zero n v e = refl
children_weight-zero m f (suc k) n v e = sum_of-zero (f k) (children_of (m v.page).records v.high) (λ u. e k u refl)

module _ (written : ℕ → Bool) (m new : PageMemory) (same : (n : ℕ) → written n ≡ false → new n ≡ m n) (root : ℕ) where
  abbrev pub old : List LevelVisit
  old = old_visits written m root

  step-m : (f : ℕ → Visit → ℕ) → weight_of f m root ≡ f (m root).level (top root) + weight_of (children_weight m f) m root
  step-m f = let a = weight_along-step f m (height_of m root) (top_of root) in omega arith

  step-new : (f : ℕ → Visit → ℕ) → weight_of f new root ≡ f (new root).level (top root) + weight_of (children_weight new f) new root
  step-new f = let a = weight_along-step f new (height_of new root) (top_of root) in omega arith

  split-m : (f : ℕ → Visit → ℕ) → weight_of f m root ≡ over f (old_visits written m root) + weight_of (off_written written f) m root
  split-m f = let a = weight_along-split written f m (height_of m root) (top_of root) in let b = over-written_below written f m (height_of m root) (top_of root) in omega arith

  rest-same : (f : ℕ → Visit → ℕ) → weight_of (off_written written (children_weight new f)) m root ≡ weight_of (off_written written (children_weight m f)) m root
  rest-same f = weight_along-same (off_written written (children_weight new f)) (off_written written (children_weight m f)) m (height_of m root) (top_of root) (off_written-children_weight written m new same f)

  -- sound: where the patch balances, its pages have the new visits, and all others have theirs
  module _ (fresh : List LevelVisit) (balanced : IsBalanced m new root (old_visits written m root) fresh) (bound : ℕ)
      (low-m : (m root).level < bound) (low-new : (new root).level < bound) (low-fresh : AllByRecursion (λ s. s.height < bound) fresh) where
    visits-up : (n : ℕ) (f : ℕ → Visit → ℕ) → ((k : ℕ) (v : Visit) → k + n < bound → f k v ≡ 0)
        → weight_of f new root ≡ over f fresh + weight_of (off_written written f) m root
    visits-up zero f none =
        let a = weight_along-zero f new (height_of new root) (top_of root) (λ k v l. none k v (omega (arith, low-new))) in
        let b = over-zero f bound fresh low-fresh (λ k v l. none k v (omega arith)) in
        let c = weight_along-zero (off_written written f) m (height_of m root) (top_of root) (λ k v l.
        let z = none k v (omega (arith, low-m)) in off_written-zero k v z) in
        omega arith
      where
        off_written-zero : (k : ℕ) (v : Visit) → f k v ≡ 0 → off_written written f k v ≡ 0
        off_written-zero k v z = elim (written v.page) as (λ b. cond b 0 (f k v) ≡ 0) [ true ↦ refl | false ↦ z ]
    visits-up (suc n) f none =
        let ih = visits-up n (children_weight new f) (λ k v l. children_weight-zero new f k n v (λ j u e. none j u (omega arith))) in
        let e1 = step-new f in
        let e2 = step-m f in
        let e3 = split-m f in
        let e4 = split-m (children_weight m f) in
        let e5 = rest-same f in
        let b = balanced f in
        omega arith

    pub weight_of-patched : (f : ℕ → Visit → ℕ) → weight_of f new root ≡ over f fresh + weight_of (off_written written f) m root
    weight_of-patched f = visits-up bound f (λ k v l. absurd (omega arith))

  -- complete: where all other pages keep their visits, the patch balances
  pub IsBalanced-kept : ((f : ℕ → Visit → ℕ) → weight_of (off_written written f) new root ≡ weight_of (off_written written f) m root)
      → IsBalanced m new root (old_visits written m root) (old_visits written new root)
  IsBalanced-kept kept f =
      let e1 = step-new f in
      let e2 = step-m f in
      let e3 = split-m f in
      let e4 = split-m (children_weight m f) in
      let e5 = rest-same f in
      let e6 = kept f in
      let e7 = kept (children_weight new f) in
      let a = weight_along-split written f new (height_of new root) (top_of root) in let b = over-written_below written f new (height_of new root) (top_of root) in
      let c = weight_along-split written (children_weight new f) new (height_of new root) (top_of root) in let d = over-written_below written (children_weight new f) new (height_of new root) (top_of root) in
      omega arith
