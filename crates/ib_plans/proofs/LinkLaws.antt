-- Chains of leaves: joined, parted, and the leaf behind the key's leaf.
use Rattle.std.specs.List.{AllByRecursion}
use Rattle.std.proofs.Common.{◌≡◌, ◌≢◌, ℕ, ◌<◌, ◌≤◌, ◌∙◌, [], ◌∷◌, ◌++◌, inl, inr, List, refl, sym, ap, subst, arith}
use Rattle.std.proofs.lemmas.Bool.{cases_eq}
use Rattle.ib_map.specs.Keys.{MapKey, end_rank, rank}
use Rattle.ib_walk.specs.Pages.{PageMemory, PageState, Tree}
use Rattle.ib_walk.specs.Search.{leaf_for}
use Rattle.ib_walk.specs.Trees.{IsLawfulUpTo, height_of, top_of}
use Rattle.ib_walk.specs.Walk.{AreLinked, IsLeafAt, Visit, first_page, counts_page, last_page, sum_of}
use Rattle.ib_walk.proofs.ChoiceLaws.{cond-eq, cond-ne}
use Rattle.ib_walk.proofs.MeetLaws.{AllByRecursion-other, AreLinked-right, HasLinks, counts_page-own, lowest-le_weight, sum_of-own}
use Rattle.ib_walk.proofs.TreeLaws.{IsPageFor-leaf, times_met-le, weight_of-le}
use Rattle.ib_walk.proofs.WalkLaws.{AllByRecursion-right}
use Rattle.ib_plans.specs.Split.{next_or}

-- two chains in a row
pub AreLinked-append : (m : PageMemory) (prev : ℕ) (xs ys : List Visit) (next : ℕ) → AreLinked m prev xs (first_page ys next) → AreLinked m (last_page prev xs) ys next
    → AreLinked m prev (xs ++ ys) next
AreLinked-append m prev [] ys next h k = k
AreLinked-append m prev (x ∷ []) ys next h k = (h.0, h.1, k)
AreLinked-append m prev (x ∷ y ∷ xs) ys next h k = (h.0, h.1, AreLinked-append m x.page (y ∷ xs) ys next h.2 k)

pub AreLinked-left : (m : PageMemory) (prev : ℕ) (xs ys : List Visit) (next : ℕ) → AreLinked m prev (xs ++ ys) next → AreLinked m prev xs (first_page ys next)
AreLinked-left m prev [] ys next h = tt
AreLinked-left m prev (x ∷ []) ys next h = (h.0, h.1, tt)
AreLinked-left m prev (x ∷ y ∷ xs) ys next h = (h.0, h.1, AreLinked-left m x.page (y ∷ xs) ys next h.2)

-- a first page that is not 0 is met
pub first_page-met : (vs : List Visit) → first_page vs 0 ≢ 0 → 0 < sum_of (counts_page (first_page vs 0) 0) vs
first_page-met [] ne = absurd (ne refl)
first_page-met (v ∷ vs) ne = let e = counts_page-own v.page 0 v refl in omega arith

-- pages that are the same have the same links
pub HasLinks-same : (new old : PageState) → new ≡ old → HasLinks new old
HasLinks-same new old e = record { prev = ap (λ (p : PageState). p.prev) e; next = ap (λ (p : PageState). p.next) e }

-- the page behind a page, where there is one
pub next_or-next : (other : ℕ) (page : PageState) → page.next ≢ 0 → next_or other page ≡ page.next
next_or-next other page some = cond-ne page.next 0 other page.next some

-- a page that is neither the one behind nor the one that stands for none
pub next_or-apart : (other : ℕ) (page : PageState) (n : ℕ) → n ≢ other → (page.next ≢ 0 → n ≢ page.next) → n ≢ next_or other page
next_or-apart other page n a b e = elim (cases_eq page.next 0) [
  | inl z ↦ a (e ∙ cond-eq page.next 0 other page.next z)
  | inr some ↦ b some (e ∙ next_or-next other page some)
]

-- the leaf behind a leaf is another leaf
pub record NextLeaf (m : PageMemory) (leaf : ℕ) : Type 0 where
  pub level : (m (m leaf).next).level ≡ 0
  pub kind : (m (m leaf).next).kind ≡ Tree
  pub other : (m leaf).next ≢ leaf

-- so it is behind the key's leaf, where there is one
pub NextLeaf-leaf_for : (most : ℕ → ℕ) (m : PageMemory) (bits : ℕ → ℕ) (roots : ℕ) (key : MapKey) (root : ℕ) → IsLawfulUpTo most m bits roots → 0 < root → root ≤ roots → rank key < end_rank
    → (m (leaf_for m key root)).next ≢ 0 → NextLeaf m (leaf_for m key root)
NextLeaf-leaf_for most m bits roots key root law some le in-range ne =
    let t = (law.trees root some le).0 in
    let p = IsPageFor-leaf m key root in-range t in
    let all = subst (AllByRecursion (IsLeafAt m)) p.is t.tree.leaves in
    let rest = AllByRecursion-right (IsLeafAt m) p.before (p.visit ∷ p.behind) all in
    let linked = subst (λ us. AreLinked m 0 us 0) p.is t.linked in
    let r = AreLinked-right m 0 p.before (p.visit ∷ p.behind) 0 linked in
    let next : (m (leaf_for m key root)).next ≡ first_page p.behind 0 = subst (λ n. (m n).next ≡ first_page p.behind 0) p.here r.1 in
    let here = sum_of-own (leaf_for m key root) 0 p.before p.visit p.behind p.here in
    let less = lowest-le_weight (counts_page (leaf_for m key root)) m (height_of m root) (top_of root) in
    let total = ap (sum_of (counts_page (leaf_for m key root) 0)) p.is in
    let a = weight_of-le (counts_page (leaf_for m key root)) m root roots some le in
    let b = times_met-le most m bits roots (leaf_for m key root) law in
    let away = AllByRecursion-other (λ q. q ≢ leaf_for m key root) (leaf_for m key root) 0 p.behind (omega arith) (λ q z. z) in
    first-leaf m (leaf_for m key root) p.behind next ne rest.1 away
  where
    first-leaf : (m : PageMemory) (leaf : ℕ) (us : List Visit) → (m leaf).next ≡ first_page us 0 → (m leaf).next ≢ 0 → AllByRecursion (IsLeafAt m) us → AllByRecursion (λ u. u.page ≢ leaf) us → NextLeaf m leaf
    first-leaf m leaf [] e ne h o = absurd (ne e)
    first-leaf m leaf (u ∷ us) e ne h o = record {
      level = subst (λ n. (m n).level ≡ 0) (sym e) h.0.level;
      kind = subst (λ n. (m n).kind ≡ Tree) (sym e) h.0.kind;
      other = λ z. o.0 (sym e ∙ z);
    }
