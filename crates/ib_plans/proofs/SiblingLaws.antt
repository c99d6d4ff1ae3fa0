-- Two children side by side under a parent, and the leaf behind them.
use Rattle.std.specs.List.{AllByRecursion}
use Rattle.std.proofs.Common.{◌≡◌, ◌≢◌, ℕ, ◌+◌, ◌<◌, ◌≤◌, ◌∙◌, [], ◌∷◌, ◌++◌, suc, inl, inr, List, refl, sym, ap, subst, arith, append_assoc}
use Rattle.std.proofs.lemmas.Bool.{cases_eq}
use Rattle.ib_map.specs.Keys.{MapKey, end_rank, rank}
use Rattle.ib_map.specs.Pairs.{Pairs, first_rank}
use Rattle.ib_heap.specs.declared.TheConstants.{MOST_RECORDS}
use Rattle.ib_walk.specs.Pages.{PageMemory, Tree}
use Rattle.ib_walk.specs.Search.{IsPageFor, page_below}
use Rattle.ib_walk.specs.Trees.{IsLawful, IsTreeOf, height_of, top_of, weight_of}
use Rattle.ib_walk.specs.Walk.{AreLinked, IsLeafAt, IsNodeAt, IsTree, Visit, below, children, children_of, first_page, counts_page, sum_of, weight_along}
use Rattle.ib_walk.proofs.MeetLaws.{AreLinked-right, counts_page-own}
use Rattle.ib_walk.proofs.SearchLaws.{AllByRecursion-at, IsPageFor-below, IsTree-below, above, below-above}
use Rattle.ib_walk.proofs.TreeLaws.{IsPageFor-top, times_met-le, weight_of-le}
use Rattle.ib_walk.proofs.WalkLaws.{AllByRecursion-right, children-append, children_of-append, sum_of-append}
use Rattle.ib_plans.proofs.LevelLaws.{below-le_weight, below-zero, kind-visit, level-le_weight, level-visit}
use Rattle.ib_plans.proofs.MetLaws.{met-some}

-- the leaf behind the right one is another one than both
pub record BehindPage (m : PageMemory) (height left gone : ℕ) : Type 0 where
  pub low : height ≡ 0
  pub kind : (m (m gone).next).kind ≡ Tree
  pub level : (m (m gone).next).level ≡ 0
  pub not_gone : (m gone).next ≢ gone
  pub not_left : (m gone).next ≢ left

-- a parent and two children of it that stand side by side
pub record SiblingPages (m : PageMemory) (height parent left gone : ℕ) : Type 0 where
  pub parent_kind : (m parent).kind ≡ Tree
  pub parent_level : (m parent).level ≡ suc height
  pub left_kind : (m left).kind ≡ Tree
  pub left_level : (m left).level ≡ height
  pub gone_kind : (m gone).kind ≡ Tree
  pub gone_level : (m gone).level ≡ height
  pub apart : left ≢ gone
  pub left_some : left ≢ 0
  pub gone_some : gone ≢ 0
  pub node : 0 < height → (m gone).next ≡ 0
  pub behind : (m gone).next ≢ 0 → BehindPage m height left gone

module _ (m : PageMemory) (height parent left gone : ℕ) (pages : SiblingPages m height parent left gone) where
  -- they are three pages, and the leaf behind is a fourth one
  pub parent-not_gone : parent ≢ gone
  parent-not_gone e = let x = ap (λ q. (m q).level) e in let y = pages.parent_level in let z = pages.gone_level in omega arith

  pub parent-not_left : parent ≢ left
  parent-not_left e = let x = ap (λ q. (m q).level) e in let y = pages.parent_level in let z = pages.left_level in omega arith

  pub behind-not_parent : (m gone).next ≢ 0 → (m gone).next ≢ parent
  behind-not_parent ne e = let x = (pages.behind ne).level in let y = ap (λ q. (m q).level) e in let z = pages.parent_level in omega arith

-- two records side by side in a node of the key's path
module _ (m : PageMemory) (bits : ℕ → ℕ) (roots : ℕ) (law : IsLawful m bits roots)
    (key : MapKey) (in-range : rank key < end_rank) (root : ℕ) (some : 0 < root) (le : root ≤ roots)
    (depth height : ℕ) (tall : height_of m root ≡ above depth (suc height))
    (parent : ℕ) (is-parent : page_below m key depth root ≡ parent)
    (before : Pairs) (pair next : MapKey × ℕ) (behind : Pairs) (was_records : (m parent).records ≡ before ++ pair ∷ next ∷ behind) where
  tree-of : IsTreeOf m (above depth (suc height)) root
  tree-of = subst (λ h. IsTreeOf m h root) tall (law.trees root some le).0

  place : IsPageFor key (below m depth (top_of root)) parent
  place = subst (IsPageFor key (below m depth (top_of root))) is-parent (IsPageFor-below m depth (suc height) key (top_of root) root tree-of.tree.nodes (IsPageFor-top key root in-range))

  row-tree : IsTree m (suc height) (place.before ++ place.visit ∷ place.behind)
  row-tree = subst (IsTree m (suc height)) place.is (IsTree-below m depth (suc height) (top_of root) tree-of.tree)

  node : IsNodeAt m (suc height) place.visit
  node = AllByRecursion-at (IsNodeAt m (suc height)) place.before place.visit place.behind row-tree.nodes.0

  abbrev left-visit : Visit
  left-visit = record { page = pair.1; low = rank pair.0; high = rank next.0 }

  abbrev gone-visit : Visit
  gone-visit = record { page = next.1; low = rank next.0; high = first_rank behind place.visit.high }

  abbrev row-before : List Visit
  row-before = children m place.before ++ children_of before (rank pair.0)

  abbrev row-behind : List Visit
  row-behind = children_of behind place.visit.high ++ children m place.behind

  was : children m (place.before ++ place.visit ∷ place.behind) ≡ row-before ++ left-visit ∷ gone-visit ∷ row-behind
  was =
      let records : (m place.visit.page).records ≡ before ++ pair ∷ next ∷ behind = ap (λ q. (m q).records) place.here ∙ was_records in
      let e = children_of-append before (pair ∷ next ∷ behind) place.visit.high in
      children-append m place.before (place.visit ∷ place.behind) ∙ rw (records, e) (simp append_assoc)

  children-tree : IsTree m height (row-before ++ left-visit ∷ gone-visit ∷ row-behind)
  children-tree = subst (IsTree m height) was (record { nodes = row-tree.nodes.1; leaves = row-tree.leaves })

  regrouped : row-before ++ left-visit ∷ gone-visit ∷ row-behind ≡ (row-before ++ left-visit ∷ []) ++ gone-visit ∷ row-behind
  regrouped = sym (append_assoc row-before (left-visit ∷ []) (gone-visit ∷ row-behind))

  left-level : (m pair.1).level ≡ height
  left-level = level-visit m height row-before left-visit (gone-visit ∷ row-behind) children-tree

  gone-level : (m next.1).level ≡ height
  gone-level = level-visit m height (row-before ++ left-visit ∷ []) gone-visit row-behind (subst (IsTree m height) regrouped children-tree)

  left-kind : (m pair.1).kind ≡ Tree
  left-kind = kind-visit m height row-before left-visit (gone-visit ∷ row-behind) children-tree

  gone-kind : (m next.1).kind ≡ Tree
  gone-kind = kind-visit m height (row-before ++ left-visit ∷ []) gone-visit row-behind (subst (IsTree m height) regrouped children-tree)

  children-le : (n : ℕ) → sum_of (counts_page n 0) row-before + (counts_page n 0 left-visit + (counts_page n 0 gone-visit + sum_of (counts_page n 0) row-behind)) ≤ weight_of (counts_page n) m root
  children-le n =
      let a = below-le_weight (counts_page n) m depth (suc height) (top_of root) in
      let b = level-le_weight (counts_page n) m height (children m (place.before ++ place.visit ∷ place.behind)) in
      let c = ap (sum_of (counts_page n 0)) was in
      let e = sum_of-append (counts_page n 0) row-before (left-visit ∷ gone-visit ∷ row-behind) in
      let d = ap (weight_along (counts_page n) m (suc height)) place.is in
      let f = ap (λ h. weight_along (counts_page n) m h (top_of root)) tall in omega arith

  children-once : (n : ℕ) → sum_of (counts_page n 0) row-before + (counts_page n 0 left-visit + (counts_page n 0 gone-visit + sum_of (counts_page n 0) row-behind)) ≤ 1
  children-once n = let a = children-le n in let b = weight_of-le (counts_page n) m root roots some le in let c = times_met-le (λ n. MOST_RECORDS) m bits roots n law in omega arith

  left-gone : pair.1 ≢ next.1
  left-gone z = let a = children-once pair.1 in let b = counts_page-own pair.1 0 left-visit refl in let c = counts_page-own pair.1 0 gone-visit (sym z) in omega arith

  left-some : pair.1 ≢ 0
  left-some = met-some (λ n. MOST_RECORDS) m bits roots law root some le pair.1 (let a = children-le pair.1 in let b = counts_page-own pair.1 0 left-visit refl in omega arith)

  gone-some : next.1 ≢ 0
  gone-some = met-some (λ n. MOST_RECORDS) m bits roots law root some le next.1 (let a = children-le next.1 in let b = counts_page-own next.1 0 gone-visit refl in omega arith)

  gone-node : 0 < height → (m next.1).next ≡ 0
  gone-node u = ((law.sound next.1 gone-some).node (let x = gone-level in omega arith)).1

  behind-is : (m next.1).next ≢ 0 → BehindPage m height pair.1 next.1
  behind-is ne =
      elim (cases_eq height 0) [
        | inl z ↦
            let row : IsTree m 0 ((row-before ++ left-visit ∷ []) ++ gone-visit ∷ row-behind) = subst (λ h. IsTree m h ((row-before ++ left-visit ∷ []) ++ gone-visit ∷ row-behind)) z (subst (IsTree m height) regrouped children-tree) in
            let low : below m (above depth (suc height)) (top_of root) ≡ (row-before ++ left-visit ∷ []) ++ gone-visit ∷ row-behind =
            below-above m depth (suc height) (top_of root) ∙ (ap (below m (suc height)) place.is ∙ (ap (below m height) was ∙ (below-zero m height (row-before ++ left-visit ∷ gone-visit ∷ row-behind) z ∙ regrouped))) in
            let linked = subst (λ us. AreLinked m 0 us 0) low tree-of.linked in
            let r = AreLinked-right m 0 (row-before ++ left-visit ∷ []) (gone-visit ∷ row-behind) 0 linked in
            let e : (m next.1).next ≡ first_page row-behind 0 = r.1 in
            next-of row-behind e z (λ n. let a = children-once n in omega arith)
            (let x = AllByRecursion-right (IsLeafAt m) (row-before ++ left-visit ∷ []) (gone-visit ∷ row-behind) row.leaves in x.1)
        | inr up ↦ absurd (ne (gone-node (omega (arith, up))))
      ]
    where
      next-of : (us : List Visit) → (m next.1).next ≡ first_page us 0 → height ≡ 0 → ((n : ℕ) → counts_page n 0 left-visit + counts_page n 0 gone-visit + sum_of (counts_page n 0) us ≤ 1)
          → AllByRecursion (IsLeafAt m) us → BehindPage m height pair.1 next.1
      next-of [] e z h l = absurd (ne e)
      next-of (u ∷ us) e z h l = record {
        low = z;
        kind = subst (λ n. (m n).kind ≡ Tree) (sym e) l.0.kind;
        level = subst (λ n. (m n).level ≡ 0) (sym e) l.0.level;
        not_gone = λ q. let a = h u.page in let b = counts_page-own u.page 0 u refl in let c = counts_page-own u.page 0 gone-visit (sym q ∙ e) in omega arith;
        not_left = λ q. let a = h u.page in let b = counts_page-own u.page 0 u refl in let c = counts_page-own u.page 0 left-visit (sym q ∙ e) in omega arith;
      }

  pub SiblingPages-path : SiblingPages m height parent pair.1 next.1
  SiblingPages-path = record {
    parent_kind = subst (λ q. (m q).kind ≡ Tree) place.here node.kind;
    parent_level = subst (λ q. (m q).level ≡ suc height) place.here node.level;
    left_kind = left-kind;
    left_level = left-level;
    gone_kind = gone-kind;
    gone_level = gone-level;
    apart = left-gone;
    left_some = left-some;
    gone_some = gone-some;
    node = gone-node;
    behind = behind-is;
  }
