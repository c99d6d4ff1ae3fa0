-- The old children of the written pages are met no more: what that leaves of the sums over the positions.
use Rattle.std.proofs.Common.{◌≡◌, ℕ, zero, suc, ◌+◌, ◌≤◌, ◌⊎◌, inl, inr, Bool, true, false, cond, List, [], ◌∷◌, Option, Some, None, refl, sym, ap, subst, ◌∙◌, arith, eqb}
use Rattle.std.specs.Prelude.{◌||◌, not}
use Rattle.std.proofs.lemmas.Bool.{cases_eq, and_parts}
use Rattle.ib_walk.specs.Pages.{PageMemory}
use Rattle.ib_walk.specs.Walk.{Visit, sum_of}
use Rattle.ib_validate.specs.Patch.{children_weight}
use Rattle.ib_walk.specs.Walk.{counts_visit}
use Rattle.ib_validate.specs.PatchTest.{Position, Positions, visit_of, at_page, positions_over, set_at, is_none, detach, children_at, height_below, detach_at, detach_pages, are_back, back_at, all_back, list_over}
use Rattle.ib_walk.proofs.ChoiceLaws.{cond-eq, cond-ne}
use Rattle.ib_tree.proofs.PatchLaws.{counts_visit-own}
use Rattle.ib_tree.proofs.PositionLaws.{Stands-counted, positions_over-set_at}

-- in a tree alone
abbrev pub in_tree : ℕ → ℕ → ℕ → ℕ
in_tree tree root n = cond (eqb tree root) n 0

pub in_tree-plus : (tree root a b : ℕ) → in_tree tree root (a + b) ≡ in_tree tree root a + in_tree tree root b
in_tree-plus tree root a b = elim (eqb tree root) as (λ c. cond c (a + b) 0 ≡ cond c a 0 + cond c b 0) [ true ↦ refl | false ↦ omega arith ]

pub in_tree-own : (root n : ℕ) → in_tree root root n ≡ n
in_tree-own root n = cond-eq {X = ℕ} root root n 0 refl

pub sum_of-children_at : (f : ℕ → Visit → ℕ) (m : PageMemory) (h : ℕ) (v : Visit) → sum_of (f (height_below h)) (children_at m h v) ≡ children_weight m f h v
sum_of-children_at f m zero v = refl
sum_of-children_at f m (suc h) v = refl

-- the children that are left still have their positions
module _ (n tree h : ℕ) (remains : (ℕ → Visit → ℕ) → ℕ → ℕ) where
  pub record Detached (ks : List Visit) (now after : Positions) : Type 0 where
    pub weighs : (f : ℕ → Visit → ℕ) (root : ℕ) → positions_over f root after n + in_tree tree root (sum_of (f h) ks) ≡ positions_over f root now n
    pub rest : (f : ℕ → Visit → ℕ) (root : ℕ) → remains f root ≤ positions_over f root after n

  pub Detached-detach : (ks : List Visit) (now : Positions) → ((f : ℕ → Visit → ℕ) (root : ℕ) → in_tree tree root (sum_of (f h) ks) + remains f root ≤ positions_over f root now n)
      → Detached ks now (detach ks now)
  Detached-detach [] now all = record {
    weighs = λ f root. let z : in_tree tree root 0 ≡ 0 = none (eqb tree root) in omega arith;
    rest = λ f root. let a = all f root in omega arith;
  }
    where
      none : (b : Bool) → cond {A = ℕ} b 0 0 ≡ 0
      none true = refl
      none false = refl
  Detached-detach (k ∷ ks) now all =
      let a = all (counts_visit h k) tree in
      let b = in_tree-own tree (counts_visit h k h k + sum_of (counts_visit h k h) ks) in
      let c = counts_visit-own h k in
      let s = Stands-counted tree h k now n (omega arith) in
      let step : (f : ℕ → Visit → ℕ) (root : ℕ) → positions_over f root (set_at now k.page None) n + in_tree tree root (f h k) ≡ positions_over f root now n = λ f root.
      (let x = positions_over-set_at f root now n k.page None s.within in let y = ap (at_page f root k.page) s.is in omega arith) in
      let r = Detached-detach ks (set_at now k.page None) (λ f root. let x = all f root in let y = step f root in let z = in_tree-plus tree root (f h k) (sum_of (f h) ks) in omega arith) in
      record {
        weighs = λ f root. let x = r.weighs f root in let y = step f root in let z = in_tree-plus tree root (f h k) (sum_of (f h) ks) in omega arith;
        rest = r.rest;
      }

-- an unwritten page is met no more only where the test asks for it again
pub detach-unwritten : (written : ℕ → Bool) (ks : List Visit) (now end : Positions) (p : ℕ) → written p ≡ false → are_back written ks end ≡ true
    → (detach ks now p ≡ now p) ⊎ (is_none (end p) ≡ false)
detach-unwritten written [] now end p w b = inl refl
detach-unwritten written (k ∷ ks) now end p w b =
    let parts = and_parts (written k.page || not (is_none (end k.page))) (are_back written ks end) b in
    elim (detach-unwritten written ks (set_at now k.page None) end p w parts.1) [
      | inr r ↦ inr r
      | inl e ↦ elim (cases_eq p k.page) [
        | inl s ↦ inr (subst (λ q. is_none (end q) ≡ false) (sym s) (met (written k.page) (is_none (end k.page)) (ap written (sym s) ∙ w) parts.0))
        | inr ne ↦ inl (e ∙ cond-ne p k.page None (now p) ne)
      ]
    ]
  where
    met : (a b : Bool) → a ≡ false → (a || not b) ≡ true → b ≡ false
    met true b e t = absurd (let x = e in cc)
    met false true e t = absurd (let x = t in cc)
    met false false e t = refl

-- all children of written pages
pub record DetachedPages (m : PageMemory) (old : Positions) (n : ℕ) (remains : (ℕ → Visit → ℕ) → ℕ → ℕ) (ps : List ℕ) (now after : Positions) : Type 0 where
  pub weighs : (f : ℕ → Visit → ℕ) (root : ℕ) → positions_over f root after n + list_over (children_weight m f) root ps old ≡ positions_over f root now n
  pub rest : (f : ℕ → Visit → ℕ) (root : ℕ) → remains f root ≤ positions_over f root after n

pub record DetachedPage (m : PageMemory) (old : Positions) (n : ℕ) (remains : (ℕ → Visit → ℕ) → ℕ → ℕ) (p : ℕ) (o : Option Position) (ps : List ℕ) (now : Positions) : Type 0 where
  pub weighs : (f : ℕ → Visit → ℕ) (root : ℕ) → positions_over f root (detach_pages m old ps (detach_at m p o now)) n + (at_page (children_weight m f) root p o + list_over (children_weight m f) root ps old) ≡ positions_over f root now n
  pub rest : (f : ℕ → Visit → ℕ) (root : ℕ) → remains f root ≤ positions_over f root (detach_pages m old ps (detach_at m p o now)) n

pub DetachedPages-detach : (m : PageMemory) (old : Positions) (n : ℕ) (remains : (ℕ → Visit → ℕ) → ℕ → ℕ) (ps : List ℕ) (now : Positions)
    → ((f : ℕ → Visit → ℕ) (root : ℕ) → list_over (children_weight m f) root ps old + remains f root ≤ positions_over f root now n) → DetachedPages m old n remains ps now (detach_pages m old ps now)
DetachedPages-detach m old n remains [] now all = record { weighs = λ f root. omega arith; rest = λ f root. let a = all f root in omega arith }
DetachedPages-detach m old n remains (p ∷ ps) now all = let q = by (old p) (λ f root. all f root) (λ next a. DetachedPages-detach m old n remains ps next a) in record { weighs = q.weighs; rest = q.rest }
  where
    by : (o : Option Position) → ((f : ℕ → Visit → ℕ) (root : ℕ) → at_page (children_weight m f) root p o + list_over (children_weight m f) root ps old + remains f root ≤ positions_over f root now n)
        → ((next : Positions) → ((f : ℕ → Visit → ℕ) (root : ℕ) → list_over (children_weight m f) root ps old + remains f root ≤ positions_over f root next n) → DetachedPages m old n remains ps next (detach_pages m old ps next))
        → DetachedPage m old n remains p o ps now
    by None a more =
        let r = more now (λ f root. let x = a f root in omega arith) in record { weighs = λ f root. let x = r.weighs f root in omega arith; rest = r.rest }
    by (Some d) a more =
        let one = Detached-detach n d.tree (height_below d.height) (λ f root. list_over (children_weight m f) root ps old + remains f root) (children_at m d.height (visit_of p d)) now
        (λ f root. let x = a f root in let y = ap (in_tree d.tree root) (sum_of-children_at f m d.height (visit_of p d)) in omega arith) in
        let r = more (detach (children_at m d.height (visit_of p d)) now) one.rest in
        record {
          weighs = λ f root. let x = r.weighs f root in let y = one.weighs f root in let z = ap (in_tree d.tree root) (sum_of-children_at f m d.height (visit_of p d)) in omega arith;
          rest = r.rest;
        }

pub detach_pages-unwritten : (written : ℕ → Bool) (m : PageMemory) (old : Positions) (ps : List ℕ) (now end : Positions) (p : ℕ) → written p ≡ false → all_back written m old ps end ≡ true
    → (detach_pages m old ps now p ≡ now p) ⊎ (is_none (end p) ≡ false)
detach_pages-unwritten written m old [] now end p w b = inl refl
detach_pages-unwritten written m old (q ∷ ps) now end p w b =
    let parts = and_parts (back_at written m q (old q) end) (all_back written m old ps end) b in
    elim (detach_pages-unwritten written m old ps (detach_at m q (old q) now) end p w parts.1) [
      | inr r ↦ inr r
      | inl e ↦ elim (at-one (old q) parts.0) [ inr r ↦ inr r | inl s ↦ inl (e ∙ s) ]
    ]
  where
    at-one : (o : Option Position) → back_at written m q o end ≡ true → (detach_at m q o now p ≡ now p) ⊎ (is_none (end p) ≡ false)
    at-one None e = inl refl
    at-one (Some d) e = detach-unwritten written (children_at m d.height (visit_of q d)) now end p w e
