-- The leaf behind a child is the next child of its parent, where there is one; and the key of a node's range is not below its first record.
use Rattle.std.specs.Prelude.{IsSomeAnd, slice_get}
use Rattle.std.proofs.Common.{◌≡◌, ℕ, ◌<◌, ◌≤◌, ◌∙◌, [], ◌∷◌, ◌++◌, suc, List, length, ap, subst, arith, append_assoc}
use Rattle.ib_map.specs.Keys.{MapKey, end_rank, rank}
use Rattle.ib_map.specs.Pairs.{Pairs, first_rank}
use Rattle.ib_walk.specs.Pages.{PageMemory}
use Rattle.ib_walk.specs.Search.{IsPageFor, page_below}
use Rattle.ib_walk.specs.Trees.{IsLawful, IsTreeOf, height_of, top_of}
use Rattle.ib_walk.specs.Walk.{AreLinked, IsNodeAt, IsTree, Visit, below, children, children_of}
use Rattle.ib_walk.proofs.SearchLaws.{AllByRecursion-at, IsPageFor-below, IsTree-below, above, below-above}
use Rattle.ib_walk.proofs.TreeLaws.{IsPageFor-top}
use Rattle.ib_walk.proofs.WalkLaws.{children-append, children_of-append}
use Rattle.ib_plans.proofs.LevelLaws.{below-zero}
use Rattle.ib_walk.proofs.MeetLaws.{AreLinked-right}

module _ (m : PageMemory) (bits : ℕ → ℕ) (roots : ℕ) (law : IsLawful m bits roots)
    (key : MapKey) (in-range : rank key < end_rank) (root : ℕ) (some : 0 < root) (le : root ≤ roots)
    (depth height : ℕ) (tall : height_of m root ≡ above depth (suc height)) (parent : ℕ) (is-parent : page_below m key depth root ≡ parent) where
  tree-of : IsTreeOf m (above depth (suc height)) root
  tree-of = subst (λ h. IsTreeOf m h root) tall (law.trees root some le).0

  place : IsPageFor key (below m depth (top_of root)) parent
  place = subst (IsPageFor key (below m depth (top_of root))) is-parent (IsPageFor-below m depth (suc height) key (top_of root) root tree-of.tree.nodes (IsPageFor-top key root in-range))

  row-tree : IsTree m (suc height) (place.before ++ place.visit ∷ place.behind)
  row-tree = subst (IsTree m (suc height)) place.is (IsTree-below m depth (suc height) (top_of root) tree-of.tree)

  node : IsNodeAt m (suc height) place.visit
  node = AllByRecursion-at (IsNodeAt m (suc height)) place.before place.visit place.behind row-tree.nodes.0

  -- the first record of a node of the path is not above the key
  pub first-not_above : IsSomeAnd (slice_get (m parent).records 0) (λ r. rank r.0 ≤ rank key)
  first-not_above =
      let some-record = subst (λ (q : ℕ). 0 < length (m q).records) place.here node.some in
      let first = subst (λ (q : ℕ). first_rank (m q).records place.visit.high ≡ place.visit.low) place.here node.first in
      let low = place.low in
      first-of (m parent).records some-record (omega arith)
    where
      first-of : (xs : Pairs) → 0 < length xs → first_rank xs place.visit.high ≤ rank key → IsSomeAnd (slice_get xs 0) (λ r. rank r.0 ≤ rank key)
      first-of [] lt low = absurd (omega arith)
      first-of (x ∷ xs) lt low = low

  -- two records side by side in the lowest node
  pub next-beside : (before : Pairs) (pair next : MapKey × ℕ) (behind : Pairs) → (m parent).records ≡ before ++ pair ∷ next ∷ behind → height ≡ 0 → (m pair.1).next ≡ next.1
  next-beside before pair next behind was_records z =
      let left : Visit = record { page = pair.1; low = rank pair.0; high = rank next.0 } in
      let right : Visit = record { page = next.1; low = rank next.0; high = first_rank behind place.visit.high } in
      let front : List Visit = children m place.before ++ children_of before (rank pair.0) in
      let rest : List Visit = children_of behind place.visit.high ++ children m place.behind in
      let records : (m place.visit.page).records ≡ before ++ pair ∷ next ∷ behind = ap (λ q. (m q).records) place.here ∙ was_records in
      let e = children_of-append before (pair ∷ next ∷ behind) place.visit.high in
      let was : children m (place.before ++ place.visit ∷ place.behind)
      ≡ (children m place.before ++ children_of before (rank pair.0)) ++ record { page = pair.1; low = rank pair.0; high = rank next.0 } ∷ record { page = next.1; low = rank next.0; high = first_rank behind place.visit.high }
      ∷ (children_of behind place.visit.high ++ children m place.behind) =
      children-append m place.before (place.visit ∷ place.behind) ∙ rw (records, e) (simp append_assoc) in
      let low : below m (above depth (suc height)) (top_of root) ≡ front ++ left ∷ right ∷ rest =
      below-above m depth (suc height) (top_of root) ∙ (ap (below m (suc height)) place.is ∙ (ap (below m height) was ∙ below-zero m height (front ++ left ∷ right ∷ rest) z)) in
      let linked = subst (λ us. AreLinked m 0 us 0) low tree-of.linked in
      let r = AreLinked-right m 0 front (left ∷ right ∷ rest) 0 linked in r.1
