-- A split keeps trees lawful, their content, and each visit of another page.
use Rattle.std.specs.List.{AllByRecursion}
use Rattle.std.proofs.Common.{◌≡◌, ◌≢◌, ℕ, ◌+◌, ◌<◌, ◌≤◌, ◌∙◌, [], ◌∷◌, ◌++◌, suc, inl, inr, cond, List, length, refl, sym, ap, subst, arith, eqb, append_assoc}
use Rattle.std.proofs.lemmas.Bool.{cases_eq}
use Rattle.ib_map.specs.Keys.{MapKey, end_rank, rank}
use Rattle.ib_map.specs.Pairs.{Rises, first_rank}
use Rattle.ib_map.proofs.RiseLaws.{Rises-append, Rises-higher, Rises-le, Rises-left, Rises-lower, Rises-right}
use Rattle.ib_page.specs.declared.space.TheConstants.{MAPPED_PAGES}
use Rattle.ib_walk.specs.Pages.{IsSound, PageMemory, Tree}
use Rattle.ib_walk.specs.Search.{IsPageFor, child_for, page_below}
use Rattle.ib_walk.specs.Trees.{IsLawfulUpTo, IsTreeOf, content_of, height_of, leaves_of, times_met, top_of, weight_of}
use Rattle.ib_walk.specs.Walk.{AreLinked, IsLeafAt, IsNodeAt, IsTree, Visit, below, children, children_of, first_page, counts_page, records_along, sum_of, weight_along}
use Rattle.ib_walk.proofs.MeetLaws.{AllByRecursion-met, AllByRecursion-other, AreLinked-right, AreLinked-same, HasLinks, IsSameTree-met, counts_page-other, counts_page-own, lowest-le_weight, sum_of-own}
use Rattle.ib_walk.proofs.SearchLaws.{AllByRecursion-at, IsPageFor-below, IsTree-below, above}
use Rattle.ib_walk.proofs.TreeLaws.{IsPageFor-top, times_met-le, weight_of-le}
use Rattle.ib_walk.proofs.WalkLaws.{AllByRecursion-right, IsSameTree, children-append, children_of-append, sum_of-append}
use Rattle.ib_plans.proofs.HalfLaws.{AreOther}
use Rattle.ib_plans.proofs.LevelLaws.{AllByRecursion-both, below-le_weight, kind-visit, level-le_weight, level-visit}
use Rattle.ib_plans.proofs.LinkLaws.{AreLinked-append, AreLinked-left, first_page-met}
use Rattle.ib_plans.proofs.MetLaws.{bit-none, clear-some, clear-unmet, met-apart, met-few, met-some, root-times_met, weight_all-plus, zero-unmet}
use Rattle.ib_plans.proofs.RecordLaws.{Rises-from, first_rank-above}
use Rattle.ib_plans.proofs.SplitWalkLaws.{ChildRecord, ChildRecord-of, IsSplit, IsSplitTree, IsSplitTree-split, first-high, first-low, new-records}
use Rattle.ib_walk.proofs.CountLaws.{bits-met, IsPageMap-bits}

-- what a split writes into the links
pub record IsRelinked (m new : PageMemory) (child fresh : ℕ) : Type 0 where
  pub child_prev : (new child).prev ≡ (m child).prev
  pub child_next : (m child).level ≡ 0 → (new child).next ≡ fresh
  pub fresh_prev : (m child).level ≡ 0 → (new fresh).prev ≡ child
  pub fresh_next : (m child).level ≡ 0 → (new fresh).next ≡ (m child).next
  pub next_prev : (m child).level ≡ 0 → (m child).next ≢ 0 → (new (m child).next).prev ≡ fresh
  pub next_next : (m child).level ≡ 0 → (m child).next ≢ 0 → (new (m child).next).next ≡ (m (m child).next).next
  pub others : (n : ℕ) → n ≢ child → n ≢ fresh → n ≢ (m child).next → HasLinks (new n) (m n)
  pub node : 0 < (m child).level → ((new fresh).prev ≡ 0) × ((new fresh).next ≡ 0) × ((new child).next ≡ (m child).next)

module _ (m new : PageMemory) (child fresh : ℕ) (links : IsRelinked m new child fresh) (leaf : (m child).level ≡ 0) where
  -- the leaves behind the child
  relink-behind : (ys : List Visit) → (m child).next ≡ first_page ys 0 → AreLinked m child ys 0 → sum_of (counts_page child 0) ys ≡ 0 → sum_of (counts_page fresh 0) ys ≡ 0
      → sum_of (counts_page 0 0) ys ≡ 0 → ((n : ℕ) → sum_of (counts_page n 0) ys ≤ 1) → AreLinked new fresh ys 0
  relink-behind [] e h a b c once = tt
  relink-behind (y ∷ ys) e h a b c once =
      let here = counts_page-own y.page 0 y refl in
      let some : (m child).next ≢ 0 = λ z. let old = counts_page-own 0 0 y (sym e ∙ z) in omega arith in
      let once_here = once y.page in
      let none : sum_of (counts_page (m child).next 0) ys ≡ 0 = subst (λ n. sum_of (counts_page n 0) ys ≡ 0) (sym e) (omega arith) in
      let none_child : sum_of (counts_page child 0) ys ≡ 0 = omega arith in
      let none_fresh : sum_of (counts_page fresh 0) ys ≡ 0 = omega arith in
      let away = AllByRecursion-met (λ n. HasLinks (new n) (m n)) 0 ys (λ n l. links.others n
      (λ z. let q = ap (λ k. sum_of (counts_page k 0) ys) z in omega arith)
      (λ z. let q = ap (λ k. sum_of (counts_page k 0) ys) z in omega arith)
      (λ z. let q = ap (λ k. sum_of (counts_page k 0) ys) z in omega arith)) in (
        subst (λ n. (new n).prev ≡ fresh) e (links.next_prev leaf some),
        subst (λ n. (new n).next ≡ (m n).next) e (links.next_next leaf some) ∙ h.1,
        AreLinked-same m new y.page ys 0 away h.2,
      )

  -- the whole chain, with the fresh leaf behind the child
  pub relink : (xs : List Visit) (old : Visit) (ys : List Visit) (left right : Visit) → old.page ≡ child → left.page ≡ child → right.page ≡ fresh
      → AreLinked m 0 (xs ++ old ∷ ys) 0 → ((n : ℕ) → sum_of (counts_page n 0) (xs ++ old ∷ ys) ≤ 1)
      → sum_of (counts_page fresh 0) (xs ++ old ∷ ys) ≡ 0 → sum_of (counts_page 0 0) (xs ++ old ∷ ys) ≡ 0
      → AreLinked new 0 (xs ++ left ∷ right ∷ ys) 0
  relink xs old ys left right here hl hr h once no_fresh no_zero =
      let l = AreLinked-left m 0 xs (old ∷ ys) 0 h in
      let r = AreLinked-right m 0 xs (old ∷ ys) 0 h in
      let next : (m child).next ≡ first_page ys 0 = subst (λ n. (m n).next ≡ first_page ys 0) here r.1 in
      let parts = λ (n : ℕ). sum_of-append (counts_page n 0) xs (old ∷ ys) in
      let total : (n : ℕ) → sum_of (counts_page n 0) xs + (counts_page n 0 old + sum_of (counts_page n 0) ys) ≤ 1 = λ n. let a = parts n in let b = once n in omega arith in
      let own = counts_page-own child 0 old here in
      let xs_child : sum_of (counts_page child 0) xs ≡ 0 = let a = total child in omega arith in
      let ys_child : sum_of (counts_page child 0) ys ≡ 0 = let a = total child in omega arith in
      let xs_fresh : sum_of (counts_page fresh 0) xs ≡ 0 = let a = parts fresh in omega arith in
      let ys_fresh : sum_of (counts_page fresh 0) ys ≡ 0 = let a = parts fresh in omega arith in
      let xs_zero : sum_of (counts_page 0 0) xs ≡ 0 = let a = parts 0 in omega arith in
      let ys_zero : sum_of (counts_page 0 0) ys ≡ 0 = let a = parts 0 in omega arith in
      let away = AllByRecursion-met (λ n. HasLinks (new n) (m n)) 0 xs (λ n at. links.others n
      (λ z. let q = ap (λ k. sum_of (counts_page k 0) xs) z in omega arith)
      (λ z. let q = ap (λ k. sum_of (counts_page k 0) xs) z in omega arith)
      (λ z. let zz : n ≢ 0 = λ i. (let q = ap (λ k. sum_of (counts_page k 0) xs) i in omega arith) in
      let en : n ≡ first_page ys 0 = z ∙ next in
      let s = subst (λ k. 0 < sum_of (counts_page k 0) ys) (sym en) (first_page-met ys (λ i. zz (en ∙ i))) in
      let tn = total n in omega arith)) in
      let lp : AreLinked new 0 xs (first_page (left ∷ right ∷ ys) 0) = subst (λ n. AreLinked new 0 xs n) (here ∙ sym hl) (AreLinked-same m new 0 xs old.page away l) in
      let behind = relink-behind ys next (subst (λ n. AreLinked m n ys 0) here r.2) ys_child ys_fresh ys_zero (λ n. let a = total n in omega arith) in
      AreLinked-append new 0 xs (left ∷ right ∷ ys) 0 lp (
        ap (λ n. (new n).prev) hl ∙ (links.child_prev ∙ (ap (λ n. (m n).prev) (sym here) ∙ r.0)),
        ap (λ n. (new n).next) hl ∙ (links.child_next leaf ∙ sym hr),
        (
          ap (λ n. (new n).prev) hr ∙ (links.fresh_prev leaf ∙ sym hl),
          ap (λ n. (new n).next) hr ∙ (links.fresh_next leaf ∙ next),
          subst (λ n. AreLinked new n ys 0) (sym hr) behind,
        ),
      )

-- a split of the child below the parent, in a memory that is lawful but for the records of some pages
module _ (most : ℕ → ℕ) (m new : PageMemory) (bits : ℕ → ℕ) (roots : ℕ) (law : IsLawfulUpTo most m bits roots)
    (key : MapKey) (in-range : rank key < end_rank) (root : ℕ) (some : 0 < root) (le : root ≤ roots)
    (depth height : ℕ) (tall : height_of m root ≡ above depth (suc height))
    (parent child fresh : ℕ) (is-parent : page_below m key depth root ≡ parent) (is-child : child_for key 0 (m parent).records ≡ child)
    (none : bits fresh ≡ 0) (bound : fresh < MAPPED_PAGES) (split : IsSplit m new parent child fresh) (links : IsRelinked m new child fresh) where
  tree-of : IsTreeOf m (above depth (suc height)) root
  tree-of = subst (λ h. IsTreeOf m h root) tall (law.trees root some le).0

  -- the parent's place in its level, and its record of the child
  pub place : IsPageFor key (below m depth (top_of root)) parent
  place = subst (IsPageFor key (below m depth (top_of root))) is-parent (IsPageFor-below m depth (suc height) key (top_of root) root tree-of.tree.nodes (IsPageFor-top key root in-range))

  row-tree : IsTree m (suc height) (place.before ++ place.visit ∷ place.behind)
  row-tree = subst (IsTree m (suc height)) place.is (IsTree-below m depth (suc height) (top_of root) tree-of.tree)

  node : IsNodeAt m (suc height) place.visit
  node = AllByRecursion-at (IsNodeAt m (suc height)) place.before place.visit place.behind row-tree.nodes.0

  up : (m parent).level ≡ suc height
  up = subst (λ q. (m q).level ≡ suc height) place.here node.level

  pub child-record : ChildRecord key (m parent).records place.visit.high child
  child-record = subst (ChildRecord key (m parent).records place.visit.high) is-child
      (let n = subst (λ (q : ℕ). 0 < length (m q).records) place.here node.some in
      let f = subst (λ q. first_rank (m q).records place.visit.high ≡ place.visit.low) place.here node.first in
      let l = place.low in
      ChildRecord-of key (m parent).records place.visit.high n (omega arith) place.high)

  once : (n : ℕ) → weight_along (counts_page n) m (above depth (suc height)) (top_of root) ≤ 1
  once n = let a = weight_of-le (counts_page n) m root roots some le in let b = times_met-le most m bits roots n law in
      let c = ap (λ h. weight_along (counts_page n) m h (top_of root)) tall in omega arith

  row-once : (n : ℕ) → sum_of (counts_page n 0) (place.before ++ place.visit ∷ place.behind) ≤ 1
  row-once n = let a = once n in let b = below-le_weight (counts_page n) m depth (suc height) (top_of root) in let c = level-le_weight (counts_page n) m (suc height) (below m depth (top_of root)) in
      let d = ap (sum_of (counts_page n 0)) place.is in omega arith

  not_left : AreOther parent place.before
  not_left = let a = row-once parent in let b = sum_of-own parent 0 place.before place.visit place.behind place.here in
      AllByRecursion-other (λ q. q ≢ parent) parent 0 place.before (omega arith) (λ q ne. ne)

  not_right : AreOther parent place.behind
  not_right = let a = row-once parent in let b = sum_of-own parent 0 place.before place.visit place.behind place.here in
      AllByRecursion-other (λ q. q ≢ parent) parent 0 place.behind (omega arith) (λ q ne. ne)

  -- the visit of the child, the two in its place, and the row that they stand in
  abbrev pub old-child : Visit
  old-child = record { page = child-record.pair.1; low = rank child-record.pair.0; high = first_rank child-record.behind place.visit.high }

  abbrev pub left-child : Visit
  left-child = record { page = child; low = rank child-record.pair.0; high = rank split.first.0 }

  abbrev pub right-child : Visit
  right-child = record { page = fresh; low = rank split.first.0; high = first_rank child-record.behind place.visit.high }

  abbrev row-before : List Visit
  row-before = children m place.before ++ children_of child-record.before (rank child-record.pair.0)

  abbrev row-behind : List Visit
  row-behind = children_of child-record.behind place.visit.high ++ children m place.behind

  was : children m (place.before ++ place.visit ∷ place.behind) ≡ row-before ++ old-child ∷ row-behind
  was =
      let records : (m place.visit.page).records ≡ child-record.before ++ child-record.pair ∷ child-record.behind = ap (λ q. (m q).records) place.here ∙ child-record.is in
      let e = children_of-append child-record.before (child-record.pair ∷ child-record.behind) place.visit.high in
      children-append m place.before (place.visit ∷ place.behind) ∙ rw (records, e) (simp append_assoc)

  children-tree : IsTree m height (row-before ++ old-child ∷ row-behind)
  children-tree = subst (IsTree m height) was (record { nodes = row-tree.nodes.1; leaves = row-tree.leaves })

  at : (m child).level ≡ height
  at = subst (λ q. (m q).level ≡ height) child-record.here (level-visit m height row-before old-child row-behind children-tree)

  child-tree : (m child).kind ≡ Tree
  child-tree = subst (λ q. (m q).kind ≡ Tree) child-record.here (kind-visit m height row-before old-child row-behind children-tree)

  parent-tree : (m parent).kind ≡ Tree
  parent-tree = subst (λ q. (m q).kind ≡ Tree) place.here node.kind

  children-once : (n : ℕ) → sum_of (counts_page n 0) (row-before ++ old-child ∷ row-behind) ≤ weight_along (counts_page n) m (above depth (suc height)) (top_of root)
  children-once n =
      let a = below-le_weight (counts_page n) m depth (suc height) (top_of root) in
      let b = level-le_weight (counts_page n) m height (children m (place.before ++ place.visit ∷ place.behind)) in
      let c = ap (sum_of (counts_page n 0)) was in
      let d = ap (weight_along (counts_page n) m (suc height)) place.is in omega arith

  none-before : AreOther child row-before
  none-before = let a = once child in let c = children-once child in let b = sum_of-own child 0 row-before old-child row-behind child-record.here in
      AllByRecursion-other (λ q. q ≢ child) child 0 row-before (omega arith) (λ q ne. ne)

  none-behind : AreOther child row-behind
  none-behind = let a = once child in let c = children-once child in let b = sum_of-own child 0 row-before old-child row-behind child-record.here in
      AllByRecursion-other (λ q. q ≢ child) child 0 row-behind (omega arith) (λ q ne. ne)

  whole : IsSplitTree m new (above depth (suc height)) (top_of root) height old-child left-child right-child row-before row-behind
  whole = IsSplitTree-split m new parent child fresh split height up at key place.before place.visit place.behind place.here not_left not_right row-tree child-record none-before none-behind
      depth (top_of root) tree-of.tree place.is

  -- who is met where
  weight-at : (n : ℕ) → weight_of (counts_page n) m root ≡ weight_along (counts_page n) m (above depth (suc height)) (top_of root)
  weight-at n = ap (λ h. weight_along (counts_page n) m h (top_of root)) tall

  child-met : 1 ≤ weight_of (counts_page child) m root
  child-met = let c = children-once child in let b = sum_of-own child 0 row-before old-child row-behind child-record.here in let e = weight-at child in omega arith

  parent-met : 1 ≤ weight_of (counts_page parent) m root
  parent-met =
      let b = below-le_weight (counts_page parent) m depth (suc height) (top_of root) in let c = level-le_weight (counts_page parent) m (suc height) (below m depth (top_of root)) in
      let d = ap (sum_of (counts_page parent 0)) place.is in let f = sum_of-own parent 0 place.before place.visit place.behind place.here in let e = weight-at parent in omega arith

  no-fresh : times_met m roots fresh ≡ 0
  no-fresh = clear-unmet most m bits roots law fresh none

  no-zero : times_met m roots 0 ≡ 0
  no-zero = zero-unmet most m bits roots law

  child-some : child ≢ 0
  child-some = met-some most m bits roots law root some le child child-met

  -- the leaf behind the child
  next-met : (m child).next ≢ 0 → (1 ≤ weight_of (counts_page (m child).next) m root) × ((m (m child).next).level ≡ 0)
  next-met ne =
      elim (cases_eq height 0) [
        | inl z ↦
            let row : IsTree m 0 (row-before ++ old-child ∷ row-behind) = subst (λ h. IsTree m h (row-before ++ old-child ∷ row-behind)) z children-tree in
            let leaves : below m (above depth (suc height)) (top_of root) ≡ row-before ++ old-child ∷ row-behind = whole.old z in
            let linked = subst (λ us. AreLinked m 0 us 0) leaves tree-of.linked in
            let r = AreLinked-right m 0 row-before (old-child ∷ row-behind) 0 linked in
            let next : (m child).next ≡ first_page row-behind 0 = subst (λ n. (m n).next ≡ first_page row-behind 0) child-record.here r.1 in
            next-of row-behind next ne (λ n. let a = children-once n in let b = sum_of-append (counts_page n 0) row-before (old-child ∷ row-behind) in let e = weight-at n in omega arith)
            (let x = AllByRecursion-right (IsLeafAt m) row-before (old-child ∷ row-behind) row.leaves in x.1)
        | inr up' ↦ absurd (ne (let s = law.sound child child-some in (s.node (omega (arith, up', at))).1))
      ]
    where
      next-of : (us : List Visit) → (m child).next ≡ first_page us 0 → (m child).next ≢ 0 → ((n : ℕ) → sum_of (counts_page n 0) us ≤ weight_of (counts_page n) m root) → AllByRecursion (IsLeafAt m) us
          → (1 ≤ weight_of (counts_page (m child).next) m root) × ((m (m child).next).level ≡ 0)
      next-of [] e ne h l = absurd (ne e)
      next-of (u ∷ us) e ne h l = (
        let a = h u.page in let b = counts_page-own u.page 0 u refl in subst (λ n. 1 ≤ weight_of (counts_page n) m root) (sym e) (omega arith),
        subst (λ n. (m n).level ≡ 0) (sym e) l.0.level,
      )

  next-zero : 0 < height → (m child).next ≡ 0
  next-zero up' = let s = law.sound child child-some in (s.node (omega (arith, at))).1

  parent-some : parent ≢ 0
  parent-some = met-some most m bits roots law root some le parent parent-met

  not-fresh : (n : ℕ) → 1 ≤ times_met m roots n → n ≢ fresh
  not-fresh n h e = let a = no-fresh in let d = ap (times_met m roots) e in omega arith

  kind-kept : (n : ℕ) → n ≢ fresh → (new n).kind ≡ (m n).kind
  kind-kept n nf = elim (cases_eq n parent) [
    | inl e ↦ subst (λ q. (new q).kind ≡ (m q).kind) (sym e) split.parent_kind
    | inr np ↦ elim (cases_eq n child) [
      | inl e ↦ subst (λ q. (new q).kind ≡ (m q).kind) (sym e) split.child_kind
      | inr nc ↦ (split.others n np nc nf).kind
    ]
  ]

  level-kept : (n : ℕ) → n ≢ fresh → (new n).level ≡ (m n).level
  level-kept n nf = elim (cases_eq n parent) [
    | inl e ↦ subst (λ q. (new q).level ≡ (m q).level) (sym e) split.parent_level
    | inr np ↦ elim (cases_eq n child) [
      | inl e ↦ subst (λ q. (new q).level ≡ (m q).level) (sym e) split.child_level
      | inr nc ↦ (split.others n np nc nf).level
    ]
  ]

  -- each tree is as high as it was
  pub height-kept : (r : ℕ) → 0 < r → r ≤ roots → height_of new r ≡ height_of m r
  height-kept r s l = level-kept r (not-fresh r (root-times_met most m bits roots law r s l))

  -- the chain of leaves of the tree
  own-links : AreLinked new 0 (below new (above depth (suc height)) (top_of root)) 0
  own-links =
      elim (cases_eq height 0) [
        | inl z ↦
            let was = subst (λ us. AreLinked m 0 us 0) (whole.old z) tree-of.linked in
            let zero : (m child).level ≡ 0 = at ∙ z in
            let most-once : (n : ℕ) → sum_of (counts_page n 0) (row-before ++ old-child ∷ row-behind) ≤ 1 = λ n. let a = children-once n in let b = once n in omega arith in
            let part = λ (n : ℕ). weight_of-le (counts_page n) m root roots some le in
            let fresh-none : sum_of (counts_page fresh 0) (row-before ++ old-child ∷ row-behind) ≡ 0 = let a = children-once fresh in let b = part fresh in let c = no-fresh in let d = weight-at fresh in omega arith in
            let zero-none : sum_of (counts_page 0 0) (row-before ++ old-child ∷ row-behind) ≡ 0 = let a = children-once 0 in let b = part 0 in let c = no-zero in let d = weight-at 0 in omega arith in
            subst (λ us. AreLinked new 0 us 0) (sym (whole.changed z)) (relink m new child fresh links zero row-before old-child row-behind left-child right-child child-record.here refl refl was most-once fresh-none zero-none)
        | inr up' ↦
            let some-up : 0 < height = omega (arith, up') in
            let leaves = tree-of.tree.leaves in
            let zero-next = next-zero some-up in
            let low = level-le_weight (counts_page 0) m 0 (below m (above depth (suc height)) (top_of root)) in
            let away = AllByRecursion-both (IsLeafAt m) (λ u. (u.page ≢ fresh) × (u.page ≢ 0)) (λ u. HasLinks (new u.page) (m u.page)) (below m (above depth (suc height)) (top_of root))
            (λ u l ne. links.others u.page (λ e. let x = ap (λ q. (m q).level) e in let y = l.level in omega (arith, at)) ne.0 (λ e. ne.1 (e ∙ zero-next)))
            leaves
            (AllByRecursion-met (λ q. (q ≢ fresh) × (q ≢ 0)) 0 (below m (above depth (suc height)) (top_of root)) (λ q h.
            let a = lowest-le_weight (counts_page q) m (above depth (suc height)) (top_of root) in
            let b = weight_of-le (counts_page q) m root roots some le in let c = weight-at q in
            (not-fresh q (omega arith), λ e. (let d = ap (times_met m roots) e in let f = no-zero in omega arith)))) in
            subst (λ us. AreLinked new 0 us 0) (sym (whole.inner some-up)) (AreLinked-same m new 0 (below m (above depth (suc height)) (top_of root)) 0 away tree-of.linked)
      ]

  own-tree : IsTreeOf new (above depth (suc height)) root
  own-tree = record { tree = whole.tree; linked = own-links }

  -- another tree has no page of this one, so it is as it was
  apart : (r : ℕ) → 0 < r → r ≤ roots → r ≢ root → (n q : ℕ) → 0 < weight_of (counts_page n) m r → 1 ≤ weight_of (counts_page q) m root → n ≢ q
  apart = met-apart most m bits roots law root some le

  other-tree : (r : ℕ) → 0 < r → r ≤ roots → r ≢ root → IsSameTree m new (height_of m r) (top_of r)
  other-tree r s l ne =
      IsSameTree-met m new (height_of m r) (top_of r)
      (λ n h. split.others n (apart r s l ne n parent h parent-met) (apart r s l ne n child h child-met)
      (not-fresh n (let a = weight_of-le (counts_page n) m r roots s l in omega arith)))
      (law.trees r s l).0.tree

  other-links : (r : ℕ) → 0 < r → r ≤ roots → r ≢ root → AreLinked new 0 (leaves_of m r) 0
  other-links r s l ne =
      AreLinked-same m new 0 (leaves_of m r) 0
      (AllByRecursion-met (λ n. HasLinks (new n) (m n)) 0 (leaves_of m r) (λ n h.
      let low = lowest-le_weight (counts_page n) m (height_of m r) (top_of r) in
      let met : 0 < weight_of (counts_page n) m r = omega arith in
      let a = weight_of-le (counts_page n) m r roots s l in
      links.others n (apart r s l ne n child met child-met) (not-fresh n (omega arith))
      (λ e. elim (cases_eq (m child).next 0) [
        | inl z ↦ let d = ap (times_met m roots) (e ∙ z) in let f = no-zero in omega arith
        | inr some-next ↦ apart r s l ne n (m child).next met (next-met some-next).0 e
      ])))
      (law.trees r s l).0.linked

  pub new-tree : (r : ℕ) → 0 < r → r ≤ roots → IsTreeOf new (height_of new r) r
  new-tree r s l =
      elim (cases_eq r root) [
        | inl e ↦ subst (λ q. IsTreeOf new (height_of new q) q) (sym e) (subst (λ h. IsTreeOf new h root) (sym (height-kept root some le ∙ tall)) own-tree)
        | inr ne ↦ subst (λ h. IsTreeOf new h r) (sym (height-kept r s l))
            (let o = other-tree r s l ne in record { tree = o.tree; linked = subst (λ us. AreLinked new 0 us 0) (sym o.lowest) (other-links r s l ne) })
      ]

  -- the tree weighs the child's old visit less, and the two in its place more
  pub weight_of-split : (f : ℕ → Visit → ℕ) → weight_of f new root + f height old-child ≡ weight_of f m root + f height left-child + f height right-child
  weight_of-split f =
      let a = whole.weighs f in
      let b = ap (λ h. weight_along f new h (top_of root)) (height-kept root some le ∙ tall) in
      let c = ap (λ h. weight_along f m h (top_of root)) tall in omega arith

  -- another tree weighs the same
  pub weight_of-split_other : (f : ℕ → Visit → ℕ) (r : ℕ) → 0 < r → r ≤ roots → r ≢ root → weight_of f new r ≡ weight_of f m r
  weight_of-split_other f r s l ne = ap (λ h. weight_along f new h (top_of r)) (height-kept r s l) ∙ (other-tree r s l ne).weighs f

  -- what weighs nothing on the child and on the fresh page weighs the same
  pub weight_of-split_away : (f : ℕ → Visit → ℕ) → ((h : ℕ) (v : Visit) → v.page ≡ child → f h v ≡ 0) → ((h : ℕ) (v : Visit) → v.page ≡ fresh → f h v ≡ 0)
      → (r : ℕ) → 0 < r → r ≤ roots → weight_of f new r ≡ weight_of f m r
  weight_of-split_away f zc zf r s l =
      elim (cases_eq r root) [
        | inl e ↦ subst (λ q. weight_of f new q ≡ weight_of f m q) (sym e)
            (let a = weight_of-split f in let b = zc height old-child child-record.here in let c = zc height left-child refl in let d = zf height right-child refl in omega arith)
        | inr ne ↦ weight_of-split_other f r s l ne
      ]

  -- each tree has the content that it had
  pub content_of-split : (r : ℕ) → 0 < r → r ≤ roots → content_of new r ≡ content_of m r
  content_of-split r s l =
      elim (cases_eq r root) [
        | inl e ↦ subst (λ q. content_of new q ≡ content_of m q) (sym e)
            (ap (λ h. records_along new (below new h (top_of root))) (height-kept root some le ∙ tall) ∙ (whole.holds ∙ ap (λ h. records_along m (below m h (top_of root))) (sym tall)))
        | inr ne ↦ ap (λ h. records_along new (below new h (top_of r))) (height-kept r s l) ∙ (other-tree r s l ne).holds
      ]

  -- the fresh page is met now, the others as before
  met-now : (n : ℕ) → times_met new roots n ≡ times_met m roots n + counts_page n 0 right-child
  met-now n =
      let v = weight_of-split (counts_page n) in
      let same : counts_page n height old-child ≡ counts_page n height left-child = ap (λ q. cond (eqb q n) 1 0) child-record.here in
      weight_all-plus (counts_page n) m new root roots (counts_page n 0 right-child) some le (omega arith) (λ r s l ne. weight_of-split_other (counts_page n) r s l ne)

  -- the pages are sound
  cut : Rises 0 (split.left ++ split.first ∷ split.rest) end_rank
  cut = let s = law.sound child child-some in subst (λ rs. Rises 0 rs end_rank) split.halves s.ascends

  parent-ascends : Rises 0 (new parent).records end_rank
  parent-ascends =
      let s = law.sound parent parent-some in
      let was = subst (λ rs. Rises 0 rs end_rank) child-record.is s.ascends in
      let before = Rises-left 0 child-record.before (child-record.pair ∷ child-record.behind) end_rank was in
      let rest = Rises-right 0 child-record.before (child-record.pair ∷ child-record.behind) end_rank was in
      let lo = first-low m new parent child fresh split height up at key place.before place.visit place.behind place.here not_left not_right row-tree child-record in
      let hi = first-high m new parent child fresh split height up at key place.before place.visit place.behind place.here not_left not_right row-tree child-record in
      let first-end : rank split.first.0 < end_rank = let r = Rises-right 0 split.left (split.first ∷ split.rest) end_rank cut in let q = Rises-le (rank split.first.0 + 1) split.rest end_rank r.1 in omega arith in
      let over : rank split.first.0 + 1 ≤ first_rank child-record.behind end_rank = first_rank-above child-record.behind place.visit.high end_rank (rank split.first.0) hi first-end in
      subst (λ rs. Rises 0 rs end_rank) (sym (ap (λ q. (new q).records) (sym place.here) ∙ new-records m new parent child fresh split height up at key place.before place.visit place.behind place.here not_left not_right row-tree child-record))
      (Rises-append 0 child-record.before (rank child-record.pair.0) (child-record.pair ∷ (split.first.0, fresh) ∷ child-record.behind) end_rank before
      (omega arith, (omega arith, Rises-from (rank child-record.pair.0 + 1) (rank split.first.0 + 1) child-record.behind end_rank rest.1 over)))

  child-few : child < MAPPED_PAGES
  child-few = met-few most m bits roots law root some le child child-met

  -- a page that is none of the three
  rest-sound : (now : ℕ) (n : ℕ) → n ≢ 0 → n ≢ parent → n ≢ child → n ≢ fresh → most n ≤ now → IsSound now (new n)
  rest-sound now n ne np nc nf wide =
      let s = law.sound n ne in
      let a = split.others n np nc nf in
      elim (cases_eq n (m child).next) [
        | inl e ↦
            let some-next : (m child).next ≢ 0 = λ z. ne (e ∙ z) in
            let leaf : (m n).level ≡ 0 = subst (λ q. (m q).level ≡ 0) (sym e) (next-met some-next).1 in
            let zero : (m child).level ≡ 0 = elim (cases_eq height 0) [ inl z ↦ at ∙ z | inr up' ↦ absurd (some-next (next-zero (omega (arith, up')))) ] in
            let p = subst (λ q. (new q).prev ≡ fresh) (sym e) (links.next_prev zero some-next) in
            let x = subst (λ q. (new q).next ≡ (m q).next) (sym e) (links.next_next zero some-next) in
            record {
              formed = λ bad. s.formed (sym a.kind ∙ bad);
              ascends = subst (λ rs. Rises 0 rs end_rank) (sym a.records) s.ascends;
              short = let y = ap length a.records in let z = s.short in omega arith;
              low = let y = a.level in let z = s.low in omega arith;
              prev = omega arith;
              next = let z = s.next in omega arith;
              node = λ up'. absurd (let y = a.level in omega arith);
            }
        | inr nn ↦
            let l = links.others n nc nf nn in
            record {
              formed = λ bad. s.formed (sym a.kind ∙ bad);
              ascends = subst (λ rs. Rises 0 rs end_rank) (sym a.records) s.ascends;
              short = let y = ap length a.records in let z = s.short in omega arith;
              low = let y = a.level in let z = s.low in omega arith;
              prev = let y = l.prev in let z = s.prev in omega arith;
              next = let y = l.next in let z = s.next in omega arith;
              node = λ up'. let q = s.node (let y = a.level in omega arith) in (l.prev ∙ q.0, l.next ∙ q.1);
            }
      ]

  child-sound : (now : ℕ) → length split.left ≤ now → IsSound now (new child)
  child-sound now short =
      let s = law.sound child child-some in record {
        formed = λ bad. s.formed (sym split.child_kind ∙ bad);
        ascends = subst (λ rs. Rises 0 rs end_rank) (sym split.child_records)
            (Rises-higher 0 split.left (rank split.first.0) end_rank
            (let r = Rises-right 0 split.left (split.first ∷ split.rest) end_rank cut in let q = Rises-le (rank split.first.0 + 1) split.rest end_rank r.1 in omega arith)
            (Rises-left 0 split.left (split.first ∷ split.rest) end_rank cut));
        short = let y = ap length split.child_records in omega arith;
        low = let y = split.child_level in let z = s.low in omega arith;
        prev = let y = links.child_prev in let z = s.prev in omega arith;
        next = elim (cases_eq (m child).level 0) [
          | inl z ↦ let y = links.child_next z in omega arith
          | inr up' ↦ let y = (links.node (omega (arith, up'))).2 in let z = s.next in omega arith
        ];
        node = λ up'. let q = s.node (let y = split.child_level in omega arith) in
            (links.child_prev ∙ q.0, (links.node (let y = split.child_level in omega arith)).2 ∙ q.1);
      }

  fresh-sound : (now : ℕ) → length (split.first ∷ split.rest) ≤ now → IsSound now (new fresh)
  fresh-sound now short =
      let s = law.sound child child-some in record {
        formed = λ bad. let k = split.fresh_kind in cc;
        ascends = subst (λ rs. Rises 0 rs end_rank) (sym split.fresh_records)
            (Rises-lower 0 (rank split.first.0) (split.first ∷ split.rest) end_rank (omega arith) (Rises-right 0 split.left (split.first ∷ split.rest) end_rank cut));
        short = let y = ap length split.fresh_records in omega arith;
        low = let y = split.fresh_level in let z = s.low in omega arith;
        prev = elim (cases_eq (m child).level 0) [
          | inl z ↦ let y = links.fresh_prev z in let x = child-few in omega arith
          | inr up' ↦ let y = (links.node (omega (arith, up'))).0 in omega arith
        ];
        next = elim (cases_eq (m child).level 0) [
          | inl z ↦ let y = links.fresh_next z in let x = s.next in omega arith
          | inr up' ↦ let y = (links.node (omega (arith, up'))).1 in omega arith
        ];
        node = λ up'. let n = links.node (let y = split.fresh_level in omega arith) in (n.0, n.1);
      }

  parent-sound : (now : ℕ) → length (new parent).records ≤ now → IsSound now (new parent)
  parent-sound now short =
      let s = law.sound parent parent-some in
      let l = links.others parent (λ e. let x = ap (λ q. (m q).level) e in omega (arith, at, up)) (λ e. let k = law.unmet fresh none in let x = ap (λ q. (m q).kind) e in let y = parent-tree in cc)
      (λ e. let n : (m child).next ≢ 0 = λ z. parent-some (e ∙ z) in let x = (next-met n).1 in let y = ap (λ q. (m q).level) e in omega (arith, up)) in
      let q = s.node (omega (arith, up)) in
      record {
        formed = λ bad. s.formed (sym split.parent_kind ∙ bad);
        ascends = parent-ascends;
        short = short;
        low = let y = split.parent_level in let z = s.low in omega arith;
        prev = let y = l.prev in let z = s.prev in omega arith;
        next = let y = l.next in let z = s.next in omega arith;
        node = λ up'. (l.prev ∙ q.0, l.next ∙ q.1);
      }

  -- so trees are lawful, with the bit of the fresh page set
  pub IsLawful-split : (now after : ℕ → ℕ) → (after fresh ≡ 1) → ((n : ℕ) → n ≢ fresh → after n ≡ bits n)
      → ((n : ℕ) → n ≢ parent → n ≢ child → n ≢ fresh → most n ≤ now n)
      → length (new parent).records ≤ now parent → length split.left ≤ now child → length (split.first ∷ split.rest) ≤ now fresh
      → IsLawfulUpTo now new after roots
  IsLawful-split now after there elsewhere wide short-parent short-child short-fresh =
      let few-bits : (n : ℕ) → after n ≤ 1 = λ n. elim (cases_eq n fresh) [ inl e ↦ let d = ap after e in omega arith | inr nf ↦ let d = elsewhere n nf in let b = law.bit n in omega arith ] in
      record {
        sound = λ n ne. elim (cases_eq n fresh) [
          | inl e ↦ subst (λ q. IsSound (now q) (new q)) (sym e) (fresh-sound (now fresh) short-fresh)
          | inr nf ↦ elim (cases_eq n child) [
            | inl e ↦ subst (λ q. IsSound (now q) (new q)) (sym e) (child-sound (now child) short-child)
            | inr nc ↦ elim (cases_eq n parent) [
              | inl e ↦ subst (λ q. IsSound (now q) (new q)) (sym e) (parent-sound (now parent) short-parent)
              | inr np ↦ rest-sound (now n) n ne np nc nf (wide n np nc nf)
            ]
          ]
        ];
        trees = λ r s l. (new-tree r s l, let e = height-kept r s l in let b = (law.trees r s l).1 in omega arith);
        met = IsPageMap-bits new after roots (λ n. elim (cases_eq n fresh) [
          | inl e ↦ subst (λ q. after q ≡ times_met new roots q + cond (eqb q 0) 1 0) (sym e)
              (let a = met-now fresh in let b = counts_page-own fresh 0 right-child refl in let c = no-fresh in
              let z = bit-none fresh (clear-some most m bits roots law fresh none) in omega arith)
          | inr nf ↦ let a = met-now n in let b = counts_page-other n 0 right-child (λ e. nf (sym e)) in let c = bits-met law n in let d = elsewhere n nf in omega arith
        ]) few-bits;
        bit = few-bits;
        few = λ n big. elsewhere n (λ e. omega arith) ∙ law.few n big;
        unmet = λ n free. let nf : n ≢ fresh = λ e. (let d = ap after e in omega arith) in
            kind-kept n nf ∙ law.unmet n (sym (elsewhere n nf) ∙ free);
      }
