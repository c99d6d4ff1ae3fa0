-- The pages of a path and the leaves beside its leaf are each there once.
use Rattle.std.specs.List.{AllByRecursion}
use Rattle.std.specs.Prelude.{◌==◌, ◌||◌}
use Rattle.std.proofs.Common.{◌≡◌, ◌≢◌, inl, inr, ℕ, ◌+◌, ◌<◌, ◌≤◌, Bool, true, false, cond, List, [], ◌∷◌, ◌++◌, refl, sym, ap, subst, ◌∙◌, arith, ne_eqb, eq-eqb}
use Rattle.std.proofs.lemmas.Bool.{cases_eq}
use Rattle.ib_walk.specs.Pages.{PageMemory, Tree}
use Rattle.ib_walk.specs.Walk.{Visit, sum_of, counts_page, AreLinked, first_page, last_page, IsLeafAt}
use Rattle.ib_walk.specs.Trees.{top_of, height_of, leaves_of, weight_of, IsLawful}
use Rattle.ib_walk.proofs.MeetLaws.{counts_page-own, lowest-le_weight}
use Rattle.ib_walk.proofs.WalkLaws.{sum_of-append}
use Rattle.ib_walk.proofs.TreeLaws.{weight_of-le, times_met-le}
use Rattle.ib_tree.specs.PageLists.{is_listed, AreOnce}
use Rattle.ib_cursor.proofs.NextLaws.{IsLeaf}
use Rattle.ib_rule.proofs.Lists.{or_denies}

-- lists of pages, each once
pub among_append : (xs ys : List ℕ) (page : ℕ) → is_listed xs page ≡ false → is_listed ys page ≡ false → is_listed (xs ++ ys) page ≡ false
among_append [] ys page a b = b
among_append (x ∷ xs) ys page a b = by_first (x == page) a (among_append xs ys page)
  where
    by_first : (t : Bool) → (t || is_listed xs page) ≡ false → (is_listed xs page ≡ false → is_listed ys page ≡ false → is_listed (xs ++ ys) page ≡ false) → (t || is_listed (xs ++ ys) page) ≡ false
    by_first true a later = cc
    by_first false a later = later a b

pub among_parts : (xs ys : List ℕ) (page : ℕ) → is_listed (xs ++ ys) page ≡ false → (is_listed xs page ≡ false) × (is_listed ys page ≡ false)
among_parts [] ys page e = (refl, e)
among_parts (x ∷ xs) ys page e =
    let n = or_denies (x == page) (is_listed (xs ++ ys) page) e in let r = among_parts xs ys page n.1 in
    (ap (λ t. t || is_listed xs page) n.0 ∙ r.0, r.1)

-- a page behind others is none of them
pub once_here : (xs : List ℕ) (page : ℕ) (ys : List ℕ) (pages : ℕ) → AreOnce (xs ++ page ∷ ys) pages → (is_listed xs page ≡ false) × (page < pages)
once_here [] page ys pages o = (refl, o.0)
once_here (x ∷ xs) page ys pages o =
    let r = once_here xs page ys pages o.2 in
    let n = among_parts xs (page ∷ ys) x o.1 in
    let h = or_denies (page == x) (is_listed ys x) n.1 in
    let differ : (x == page) ≡ false = ne_eqb x page (λ e. let y : (page == x) ≡ true = eq-eqb page x (sym e) in let z : true ≡ false = sym y ∙ h.0 in cc) in
    (ap (λ t. t || is_listed xs page) differ ∙ r.0, r.1)

-- the leaves beside a leaf
last-at : (m : PageMemory) (prev : ℕ) (before : List Visit) (v : Visit) (behind : List Visit) (next : ℕ) → AreLinked m prev (before ++ v ∷ behind) next
    → ((m v.page).prev ≡ last_page prev before) × ((m v.page).next ≡ first_page behind next)
last-at m prev [] v behind next l = (l.0, l.1)
last-at m prev (x ∷ xs) v behind next l = last-at m x.page xs v behind next l.2

-- the last and the first page of a list, where they are
sum-last : (prev : ℕ) (vs : List Visit) → last_page prev vs ≢ prev → 1 ≤ sum_of (counts_page (last_page prev vs) 0) vs
sum-last prev [] ne = absurd (ne refl)
sum-last prev (v ∷ vs) ne = elim (cases_eq (last_page v.page vs) v.page) [
  | inl e ↦ let o = counts_page-own (last_page v.page vs) 0 v (sym e) in omega arith
  | inr differ ↦ let r = sum-last v.page vs differ in omega arith
]

sum-first : (vs : List Visit) (next : ℕ) → first_page vs next ≢ next → 1 ≤ sum_of (counts_page (first_page vs next) 0) vs
sum-first [] next ne = absurd (ne refl)
sum-first (v ∷ vs) next ne = let o = counts_page-own v.page 0 v refl in omega arith

-- what the links of a leaf name: other leaves, and not one twice
pub record AreBeside (m : PageMemory) (root leaf : ℕ) : Type 0 where
  pub left : (m leaf).prev ≢ 0 → (1 ≤ weight_of (counts_page (m leaf).prev) m root) × ((m leaf).prev ≢ leaf) × ((m (m leaf).prev).level ≡ 0) × ((m (m leaf).prev).kind ≡ Tree)
  pub right : (m leaf).next ≢ 0 → (1 ≤ weight_of (counts_page (m leaf).next) m root) × ((m leaf).next ≢ leaf) × ((m (m leaf).next).level ≡ 0) × ((m (m leaf).next).kind ≡ Tree)
  pub apart : (m leaf).prev ≢ 0 → (m leaf).next ≢ (m leaf).prev

-- a page that is counted among leaves is one
counted-leaf : (m : PageMemory) (n : ℕ) (vs : List Visit) → AllByRecursion (IsLeafAt m) vs → 1 ≤ sum_of (counts_page n 0) vs → (m n).level ≡ 0
counted-leaf m n [] a some = absurd (omega arith)
counted-leaf m n (v ∷ vs) a some = elim (cases_eq v.page n) [
  | inl e ↦ ap (λ k. (m k).level) (sym e) ∙ a.0.level
  | inr ne ↦ counted-leaf m n vs a.1 (let z : counts_page n 0 v ≡ 0 = ap (λ b. cond {A = ℕ} b 1 0) (ne_eqb v.page n ne) in omega arith)
]

counted-tree : (m : PageMemory) (n : ℕ) (vs : List Visit) → AllByRecursion (IsLeafAt m) vs → 1 ≤ sum_of (counts_page n 0) vs → (m n).kind ≡ Tree
counted-tree m n [] a some = absurd (omega arith)
counted-tree m n (v ∷ vs) a some = elim (cases_eq v.page n) [
  | inl e ↦ ap (λ k. (m k).kind) (sym e) ∙ a.0.kind
  | inr ne ↦ counted-tree m n vs a.1 (let z : counts_page n 0 v ≡ 0 = ap (λ b. cond {A = ℕ} b 1 0) (ne_eqb v.page n ne) in omega arith)
]

module _ (m : PageMemory) (bits : ℕ → ℕ) (roots root : ℕ) (law : IsLawful m bits roots) (some : 0 < root) (le : root ≤ roots) where
  at-most : (n : ℕ) → sum_of (counts_page n 0) (leaves_of m root) ≤ 1
  at-most n =
      let a = lowest-le_weight (counts_page n) m (height_of m root) (top_of root) in
      let b = weight_of-le (counts_page n) m root roots some le in
      let c = times_met-le _ m bits roots n law in omega arith

  pub are_beside : (leaf : ℕ) (v : Visit) → v.page ≡ leaf → IsLeaf m root v → AreBeside m root leaf
  are_beside leaf v is l =
      let t = (law.trees root some le).0 in
      let links = last-at m 0 l.before v l.behind 0 (subst (λ vs. AreLinked m 0 vs 0) l.is t.linked) in
      let prev : (m leaf).prev ≡ last_page 0 l.before = ap (λ k. (m k).prev) (sym is) ∙ links.0 in
      let next : (m leaf).next ≡ first_page l.behind 0 = ap (λ k. (m k).next) (sym is) ∙ links.1 in
      let all : (n : ℕ) → sum_of (counts_page n 0) l.before + (counts_page n 0 v + sum_of (counts_page n 0) l.behind) ≡ sum_of (counts_page n 0) (leaves_of m root) = λ n.
      let e = ap (sum_of (counts_page n 0)) l.is in let s = sum_of-append (counts_page n 0) l.before (v ∷ l.behind) in omega arith in
      let lefts : (m leaf).prev ≢ 0 → 1 ≤ sum_of (counts_page (m leaf).prev 0) l.before = λ ne. subst (λ n. 1 ≤ sum_of (counts_page n 0) l.before) (sym prev) (sum-last 0 l.before (λ z. ne (prev ∙ z))) in
      let rights : (m leaf).next ≢ 0 → 1 ≤ sum_of (counts_page (m leaf).next 0) l.behind = λ ne. subst (λ n. 1 ≤ sum_of (counts_page n 0) l.behind) (sym next) (sum-first l.behind 0 (λ z. ne (next ∙ z))) in
      record {
        left = λ ne. let s = lefts ne in let a = all (m leaf).prev in let b = at-most (m leaf).prev in let w = lowest-le_weight (counts_page (m leaf).prev) m (height_of m root) (top_of root) in
            (omega arith, (λ e. let o = counts_page-own (m leaf).prev 0 v (is ∙ sym e) in omega arith), counted-leaf m (m leaf).prev (leaves_of m root) t.tree.leaves (omega arith), counted-tree m (m leaf).prev (leaves_of m root) t.tree.leaves (omega arith));
        right = λ ne. let s = rights ne in let a = all (m leaf).next in let b = at-most (m leaf).next in let w = lowest-le_weight (counts_page (m leaf).next) m (height_of m root) (top_of root) in
            (omega arith, (λ e. let o = counts_page-own (m leaf).next 0 v (is ∙ sym e) in omega arith), counted-leaf m (m leaf).next (leaves_of m root) t.tree.leaves (omega arith), counted-tree m (m leaf).next (leaves_of m root) t.tree.leaves (omega arith));
        apart = λ ne e. let s = lefts ne in let r = subst (λ n. 1 ≤ sum_of (counts_page n 0) l.behind) e (rights (λ z. ne (sym e ∙ z))) in let a = all (m leaf).prev in let b = at-most (m leaf).prev in omega arith;
      }
