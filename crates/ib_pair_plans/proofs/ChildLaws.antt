-- The children of a page of a key's path are met, and so is the leaf behind one of the lowest.
use Rattle.std.proofs.Common.{◌≡◌, ◌≢◌, ℕ, ◌+◌, ◌<◌, ◌≤◌, ◌∙◌, ◌∷◌, ◌++◌, suc, inl, inr, List, refl, sym, ap, subst, arith, append_assoc}
use Rattle.std.proofs.lemmas.Bool.{cases_eq}
use Rattle.ib_map.specs.Keys.{MapKey, end_rank, rank}
use Rattle.ib_map.specs.Pairs.{Pairs, first_rank}
use Rattle.ib_walk.specs.Pages.{PageMemory}
use Rattle.ib_walk.specs.Search.{IsPageFor, page_below}
use Rattle.ib_walk.specs.Trees.{IsLawfulUpTo, IsTreeOf, height_of, top_of, weight_of}
use Rattle.ib_walk.specs.Walk.{AreLinked, Visit, below, children, children_of, first_page, counts_page, sum_of, weight_along, IsTree}
use Rattle.ib_walk.proofs.MeetLaws.{AreLinked-right, counts_page-own, lowest-le_weight}
use Rattle.ib_walk.proofs.SearchLaws.{IsPageFor-below, IsTree-below, above, below-above}
use Rattle.ib_walk.proofs.TreeLaws.{IsPageFor-leaf, IsPageFor-top}
use Rattle.ib_walk.proofs.WalkLaws.{children-append, children_of-append, sum_of-append}
use Rattle.ib_plans.proofs.LevelLaws.{below-le_weight, below-zero, level-le_weight, level-visit}
use Rattle.ib_plans.proofs.LinkLaws.{first_page-met}
use Rattle.ib_plans.proofs.MetLaws.{met-some}
use Rattle.ib_walk.specs.Search.{leaf_for}

-- the leaf behind the key's leaf is met
pub leaf-next_met : (most : ℕ → ℕ) (m : PageMemory) (bits : ℕ → ℕ) (roots : ℕ) (key : MapKey) (root : ℕ) → IsLawfulUpTo most m bits roots → 0 < root → root ≤ roots → rank key < end_rank
    → (m (leaf_for m key root)).next ≢ 0 → 1 ≤ weight_of (counts_page (m (leaf_for m key root)).next) m root
leaf-next_met most m bits roots key root law some le in-range ne =
    let t = (law.trees root some le).0 in
    let p = IsPageFor-leaf m key root in-range t in
    let linked = subst (λ us. AreLinked m 0 us 0) p.is t.linked in
    let r = AreLinked-right m 0 p.before (p.visit ∷ p.behind) 0 linked in
    let next : (m (leaf_for m key root)).next ≡ first_page p.behind 0 = subst (λ n. (m n).next ≡ first_page p.behind 0) p.here r.1 in
    let met = first_page-met p.behind (λ z. ne (next ∙ z)) in
    let f : ℕ → Visit → ℕ = counts_page (first_page p.behind 0) in
    let total = ap (sum_of (f 0)) p.is in
    let parts = sum_of-append (f 0) p.before (p.visit ∷ p.behind) in
    let less = lowest-le_weight f m (height_of m root) (top_of root) in
    subst (λ n. 1 ≤ weight_of (counts_page n) m root) (sym next) (omega arith)

module _ (most : ℕ → ℕ) (m : PageMemory) (bits : ℕ → ℕ) (roots : ℕ) (law : IsLawfulUpTo most m bits roots)
    (key : MapKey) (in-range : rank key < end_rank) (root : ℕ) (some : 0 < root) (le : root ≤ roots)
    (depth height : ℕ) (tall : height_of m root ≡ above depth (suc height))
    (parent : ℕ) (is-parent : page_below m key depth root ≡ parent)
    (before : Pairs) (x : MapKey × ℕ) (behind : Pairs) (was_records : (m parent).records ≡ before ++ x ∷ behind) where
  tree-of : IsTreeOf m (above depth (suc height)) root
  tree-of = subst (λ h. IsTreeOf m h root) tall (law.trees root some le).0

  place : IsPageFor key (below m depth (top_of root)) parent
  place = subst (IsPageFor key (below m depth (top_of root))) is-parent (IsPageFor-below m depth (suc height) key (top_of root) root tree-of.tree.nodes (IsPageFor-top key root in-range))

  row-tree : IsTree m (suc height) (place.before ++ place.visit ∷ place.behind)
  row-tree = subst (IsTree m (suc height)) place.is (IsTree-below m depth (suc height) (top_of root) tree-of.tree)

  abbrev the-visit : Visit
  the-visit = record { page = x.1; low = rank x.0; high = first_rank behind place.visit.high }

  abbrev row-before : List Visit
  row-before = children m place.before ++ children_of before (rank x.0)

  abbrev row-behind : List Visit
  row-behind = children_of behind place.visit.high ++ children m place.behind

  was : children m (place.before ++ place.visit ∷ place.behind) ≡ row-before ++ the-visit ∷ row-behind
  was =
      let records : (m place.visit.page).records ≡ before ++ x ∷ behind = ap (λ q. (m q).records) place.here ∙ was_records in
      let e = children_of-append before (x ∷ behind) place.visit.high in
      children-append m place.before (place.visit ∷ place.behind) ∙ rw (records, e) (simp append_assoc)

  children-le : (n : ℕ) → sum_of (counts_page n 0) row-before + (counts_page n 0 the-visit + sum_of (counts_page n 0) row-behind) ≤ weight_of (counts_page n) m root
  children-le n =
      let a = below-le_weight (counts_page n) m depth (suc height) (top_of root) in
      let b = level-le_weight (counts_page n) m height (children m (place.before ++ place.visit ∷ place.behind)) in
      let c = ap (sum_of (counts_page n 0)) was in
      let e = sum_of-append (counts_page n 0) row-before (the-visit ∷ row-behind) in
      let d = ap (weight_along (counts_page n) m (suc height)) place.is in
      let f = ap (λ h. weight_along (counts_page n) m h (top_of root)) tall in omega arith

  -- the child is met
  pub child-met : 1 ≤ weight_of (counts_page x.1) m root
  child-met = let a = children-le x.1 in let b = counts_page-own x.1 0 the-visit refl in omega arith

  children-tree : IsTree m height (row-before ++ the-visit ∷ row-behind)
  children-tree = subst (IsTree m height) was (record { nodes = row-tree.nodes.1; leaves = row-tree.leaves })

  -- and so is the leaf behind it, where there is one
  pub child-next_met : (m x.1).next ≢ 0 → 1 ≤ weight_of (counts_page (m x.1).next) m root
  child-next_met ne = elim (cases_eq height 0) [
    | inr up ↦ absurd (ne ((law.sound x.1 (met-some most m bits roots law root some le x.1 child-met)).node (let l = level-visit m height row-before the-visit row-behind children-tree in omega (arith, up))).1)
    | inl z ↦
        let low : below m (above depth (suc height)) (top_of root) ≡ row-before ++ the-visit ∷ row-behind =
        below-above m depth (suc height) (top_of root) ∙ (ap (below m (suc height)) place.is ∙ (ap (below m height) was ∙ below-zero m height (row-before ++ the-visit ∷ row-behind) z)) in
        let linked = subst (λ us. AreLinked m 0 us 0) low tree-of.linked in
        let r = AreLinked-right m 0 row-before (the-visit ∷ row-behind) 0 linked in
        let e : (m x.1).next ≡ first_page row-behind 0 = r.1 in
        let met = first_page-met row-behind (λ q. ne (e ∙ q)) in
        let a = children-le (first_page row-behind 0) in
        subst (λ n. 1 ≤ weight_of (counts_page n) m root) (sym e) (omega arith)
  ]
