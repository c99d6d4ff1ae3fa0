-- A merge keeps trees lawful, their content, and each visit of another page.
use Rattle.std.specs.List.{AllByRecursion}
use Rattle.std.proofs.Common.{◌≡◌, ◌≢◌, ℕ, ◌+◌, ◌<◌, ◌≤◌, ◌⊎◌, ◌∙◌, [], ◌∷◌, ◌++◌, suc, inl, inr, cond, List, length, refl, sym, ap, subst, arith, eqb, append_assoc}
use Rattle.std.proofs.lemmas.Bool.{cases_eq}
use Rattle.ib_map.specs.Keys.{MapKey, end_rank, rank}
use Rattle.ib_map.specs.Pairs.{Rises, first_rank}
use Rattle.ib_map.proofs.RiseLaws.{Rises-append, Rises-le, Rises-left, Rises-lower, Rises-right}
use Rattle.ib_page.specs.declared.space.TheConstants.{MAPPED_PAGES}
use Rattle.ib_walk.specs.Pages.{Free, IsSound, PageMemory}
use Rattle.ib_walk.specs.Search.{IsPageFor, page_below}
use Rattle.ib_walk.specs.Trees.{IsLawfulUpTo, IsTreeOf, content_of, height_of, leaves_of, times_met, top_of, weight_all, weight_of}
use Rattle.ib_walk.specs.Walk.{AreLinked, IsLeafAt, IsNodeAt, IsTree, Visit, below, children, children_of, first_page, counts_page, records_along, sum_of, weight_along}
use Rattle.ib_walk.proofs.MeetLaws.{AllByRecursion-met, AllByRecursion-other, AreLinked-right, AreLinked-same, HasLinks, IsSameTree-met, counts_page-other, counts_page-own, lowest-le_weight, sum_of-own}
use Rattle.ib_walk.proofs.SearchLaws.{AllByRecursion-at, IsPageFor-below, IsTree-below, above, above-le}
use Rattle.ib_walk.proofs.TreeLaws.{IsPageFor-top, times_met-le, weight_of-le}
use Rattle.ib_walk.proofs.WalkLaws.{AllByRecursion-right, IsAlike, IsSameTree, children-append, children_of-append, sum_of-append}
use Rattle.ib_plans.proofs.HalfLaws.{AreOther}
use Rattle.ib_plans.proofs.LevelLaws.{AllByRecursion-both, Rises-visit, below-le_weight, level-le_weight, level-visit}
use Rattle.ib_plans.proofs.LinkLaws.{AreLinked-append, AreLinked-left, first_page-met}
use Rattle.ib_plans.proofs.MergeWalkLaws.{IsMerged, IsMergedTree, IsMergedTree-merge}
use Rattle.ib_plans.proofs.MetLaws.{bit-none, met-apart, met-few, met-some, root-met, weight_all-plus, zero-unmet}
use Rattle.ib_plans.proofs.RecordLaws.{Rises-between}
use Rattle.ib_walk.proofs.CountLaws.{bits-met, IsPageMap-bits}

-- what a merge writes into the links
pub record IsUnlinked (m new : PageMemory) (child gone : ℕ) : Type 0 where
  pub child_prev : (new child).prev ≡ (m child).prev
  pub child_next : (new child).next ≡ (m gone).next
  pub next_prev : (m child).level ≡ 0 → (m gone).next ≢ 0 → (new (m gone).next).prev ≡ child
  pub next_next : (m child).level ≡ 0 → (m gone).next ≢ 0 → (new (m gone).next).next ≡ (m (m gone).next).next
  pub others : (n : ℕ) → n ≢ child → n ≢ gone → n ≢ (m gone).next → HasLinks (new n) (m n)

module _ (m new : PageMemory) (child gone : ℕ) (links : IsUnlinked m new child gone) (leaf : (m child).level ≡ 0) where
  -- the leaves behind the one that goes
  unlink-behind : (ys : List Visit) → (m gone).next ≡ first_page ys 0 → AreLinked m gone ys 0 → sum_of (counts_page child 0) ys ≡ 0 → sum_of (counts_page gone 0) ys ≡ 0
      → sum_of (counts_page 0 0) ys ≡ 0 → ((n : ℕ) → sum_of (counts_page n 0) ys ≤ 1) → AreLinked new child ys 0
  unlink-behind [] e h a b c once = tt
  unlink-behind (y ∷ ys) e h a b c once =
      let here = counts_page-own y.page 0 y refl in
      let some : (m gone).next ≢ 0 = λ z. let w = counts_page-own 0 0 y (sym e ∙ z) in omega arith in
      let once_here = once y.page in
      let none : sum_of (counts_page (m gone).next 0) ys ≡ 0 = subst (λ n. sum_of (counts_page n 0) ys ≡ 0) (sym e) (omega arith) in
      let none_child : sum_of (counts_page child 0) ys ≡ 0 = omega arith in
      let none_gone : sum_of (counts_page gone 0) ys ≡ 0 = omega arith in
      let away = AllByRecursion-met (λ n. HasLinks (new n) (m n)) 0 ys (λ n l. links.others n
      (λ z. let q = ap (λ k. sum_of (counts_page k 0) ys) z in omega arith)
      (λ z. let q = ap (λ k. sum_of (counts_page k 0) ys) z in omega arith)
      (λ z. let q = ap (λ k. sum_of (counts_page k 0) ys) z in omega arith)) in (
        subst (λ n. (new n).prev ≡ child) e (links.next_prev leaf some),
        subst (λ n. (new n).next ≡ (m n).next) e (links.next_next leaf some) ∙ h.1,
        AreLinked-same m new y.page ys 0 away h.2,
      )

  -- the whole chain, without the leaf that goes
  pub unlink : (xs : List Visit) (v w : Visit) (ys : List Visit) (joined : Visit) → v.page ≡ child → w.page ≡ gone → joined.page ≡ child
      → AreLinked m 0 (xs ++ v ∷ w ∷ ys) 0 → ((n : ℕ) → sum_of (counts_page n 0) (xs ++ v ∷ w ∷ ys) ≤ 1) → sum_of (counts_page 0 0) (xs ++ v ∷ w ∷ ys) ≡ 0
      → AreLinked new 0 (xs ++ joined ∷ ys) 0
  unlink xs v w ys joined hv hw hj h once no_zero =
      let l = AreLinked-left m 0 xs (v ∷ w ∷ ys) 0 h in
      let r = AreLinked-right m 0 xs (v ∷ w ∷ ys) 0 h in
      let next : (m gone).next ≡ first_page ys 0 = subst (λ n. (m n).next ≡ first_page ys 0) hw r.2.1 in
      let total : (n : ℕ) → sum_of (counts_page n 0) xs + (counts_page n 0 v + (counts_page n 0 w + sum_of (counts_page n 0) ys)) ≤ 1 = λ n. let a = sum_of-append (counts_page n 0) xs (v ∷ w ∷ ys) in let b = once n in omega arith in
      let own = counts_page-own child 0 v hv in
      let owng = counts_page-own gone 0 w hw in
      let tc = total child in
      let tg = total gone in
      let tz = sum_of-append (counts_page 0 0) xs (v ∷ w ∷ ys) in
      let away = AllByRecursion-met (λ n. HasLinks (new n) (m n)) 0 xs (λ n at. links.others n
      (λ z. let q = ap (λ k. sum_of (counts_page k 0) xs) z in omega arith)
      (λ z. let q = ap (λ k. sum_of (counts_page k 0) xs) z in omega arith)
      (λ z. let zz : n ≢ 0 = λ i. (let q = ap (λ k. sum_of (counts_page k 0) xs) i in omega arith) in
      let en : n ≡ first_page ys 0 = z ∙ next in
      let s = subst (λ k. 0 < sum_of (counts_page k 0) ys) (sym en) (first_page-met ys (λ i. zz (en ∙ i))) in
      let tn = total n in omega arith)) in
      let lp : AreLinked new 0 xs (first_page (joined ∷ ys) 0) = subst (λ n. AreLinked new 0 xs n) (hv ∙ sym hj) (AreLinked-same m new 0 xs v.page away l) in
      let behind = unlink-behind ys next (subst (λ n. AreLinked m n ys 0) hw r.2.2) (omega arith) (omega arith) (omega arith) (λ n. let a = total n in omega arith) in
      AreLinked-append new 0 xs (joined ∷ ys) 0 lp (
        ap (λ n. (new n).prev) hj ∙ (links.child_prev ∙ (ap (λ n. (m n).prev) (sym hv) ∙ r.0)),
        ap (λ n. (new n).next) hj ∙ (links.child_next ∙ next),
        subst (λ n. AreLinked new n ys 0) (sym hj) behind,
      )

-- a merge of two children side by side below the parent, where the right one is freed
module _ (most : ℕ → ℕ) (m new : PageMemory) (bits : ℕ → ℕ) (roots : ℕ) (law : IsLawfulUpTo most m bits roots)
    (key : MapKey) (in-range : rank key < end_rank) (root : ℕ) (some : 0 < root) (le : root ≤ roots)
    (depth height : ℕ) (tall : height_of m root ≡ above depth (suc height))
    (parent child gone : ℕ) (is-parent : page_below m key depth root ≡ parent)
    (merge : IsMerged m new parent child gone) (links : IsUnlinked m new child gone) (freed : (new gone).kind ≡ Free) where
  tree-of : IsTreeOf m (above depth (suc height)) root
  tree-of = subst (λ h. IsTreeOf m h root) tall (law.trees root some le).0

  -- the parent's place in its level, and its records
  pub place : IsPageFor key (below m depth (top_of root)) parent
  place = subst (IsPageFor key (below m depth (top_of root))) is-parent (IsPageFor-below m depth (suc height) key (top_of root) root tree-of.tree.nodes (IsPageFor-top key root in-range))

  row-tree : IsTree m (suc height) (place.before ++ place.visit ∷ place.behind)
  row-tree = subst (IsTree m (suc height)) place.is (IsTree-below m depth (suc height) (top_of root) tree-of.tree)

  node : IsNodeAt m (suc height) place.visit
  node = AllByRecursion-at (IsNodeAt m (suc height)) place.before place.visit place.behind row-tree.nodes.0

  up : (m parent).level ≡ suc height
  up = subst (λ q. (m q).level ≡ suc height) place.here node.level

  once : (n : ℕ) → weight_along (counts_page n) m (above depth (suc height)) (top_of root) ≤ 1
  once n = let a = weight_of-le (counts_page n) m root roots some le in let b = times_met-le most m bits roots n law in
      let c = ap (λ h. weight_along (counts_page n) m h (top_of root)) tall in omega arith

  row-once : (n : ℕ) → sum_of (counts_page n 0) (place.before ++ place.visit ∷ place.behind) ≤ weight_along (counts_page n) m (above depth (suc height)) (top_of root)
  row-once n = let b = below-le_weight (counts_page n) m depth (suc height) (top_of root) in let c = level-le_weight (counts_page n) m (suc height) (below m depth (top_of root)) in
      let d = ap (sum_of (counts_page n 0)) place.is in omega arith

  not_left : AreOther parent place.before
  not_left = let a = row-once parent in let c = once parent in let b = sum_of-own parent 0 place.before place.visit place.behind place.here in
      AllByRecursion-other (λ q. q ≢ parent) parent 0 place.before (omega arith) (λ q ne. ne)

  not_right : AreOther parent place.behind
  not_right = let a = row-once parent in let c = once parent in let b = sum_of-own parent 0 place.before place.visit place.behind place.here in
      AllByRecursion-other (λ q. q ≢ parent) parent 0 place.behind (omega arith) (λ q ne. ne)

  -- the visits of the two, the one that there is in their place, and the row that they stand in
  abbrev pub left-visit : Visit
  left-visit = record { page = merge.pair.1; low = rank merge.pair.0; high = rank merge.next.0 }

  abbrev pub gone-visit : Visit
  gone-visit = record { page = merge.next.1; low = rank merge.next.0; high = first_rank merge.behind place.visit.high }

  abbrev pub merged-visit : Visit
  merged-visit = record { page = child; low = rank merge.pair.0; high = first_rank merge.behind place.visit.high }

  abbrev row-before : List Visit
  row-before = children m place.before ++ children_of merge.before (rank merge.pair.0)

  abbrev row-behind : List Visit
  row-behind = children_of merge.behind place.visit.high ++ children m place.behind

  was : children m (place.before ++ place.visit ∷ place.behind) ≡ row-before ++ left-visit ∷ gone-visit ∷ row-behind
  was =
      let records : (m place.visit.page).records ≡ merge.before ++ merge.pair ∷ merge.next ∷ merge.behind = ap (λ q. (m q).records) place.here ∙ merge.was in
      let e = children_of-append merge.before (merge.pair ∷ merge.next ∷ merge.behind) place.visit.high in
      children-append m place.before (place.visit ∷ place.behind) ∙ rw (records, e) (simp append_assoc)

  children-tree : IsTree m height (row-before ++ left-visit ∷ gone-visit ∷ row-behind)
  children-tree = subst (IsTree m height) was (record { nodes = row-tree.nodes.1; leaves = row-tree.leaves })

  regrouped : row-before ++ left-visit ∷ gone-visit ∷ row-behind ≡ (row-before ++ left-visit ∷ []) ++ gone-visit ∷ row-behind
  regrouped = sym (append_assoc row-before (left-visit ∷ []) (gone-visit ∷ row-behind))

  at : (m child).level ≡ height
  at = subst (λ q. (m q).level ≡ height) merge.here (level-visit m height row-before left-visit (gone-visit ∷ row-behind) children-tree)

  gone-level : (m gone).level ≡ height
  gone-level = subst (λ q. (m q).level ≡ height) merge.there (level-visit m height (row-before ++ left-visit ∷ []) gone-visit row-behind (subst (IsTree m height) regrouped children-tree))

  children-once : (n : ℕ) → sum_of (counts_page n 0) row-before + (counts_page n 0 left-visit + (counts_page n 0 gone-visit + sum_of (counts_page n 0) row-behind)) ≤ weight_along (counts_page n) m (above depth (suc height)) (top_of root)
  children-once n =
      let a = below-le_weight (counts_page n) m depth (suc height) (top_of root) in
      let b = level-le_weight (counts_page n) m height (children m (place.before ++ place.visit ∷ place.behind)) in
      let c = ap (sum_of (counts_page n 0)) was in
      let e = sum_of-append (counts_page n 0) row-before (left-visit ∷ gone-visit ∷ row-behind) in
      let d = ap (weight_along (counts_page n) m (suc height)) place.is in omega arith

  child-here : counts_page child 0 left-visit ≡ 1
  child-here = counts_page-own child 0 left-visit merge.here

  gone-here : counts_page gone 0 gone-visit ≡ 1
  gone-here = counts_page-own gone 0 gone-visit merge.there

  none-before : AllByRecursion (λ u. (u.page ≢ child) × (u.page ≢ gone)) row-before
  none-before = let a = once child in let b = children-once child in let c = once gone in let d = children-once gone in let e = child-here in let f = gone-here in
      AllByRecursion-both (λ u. u.page ≢ child) (λ u. u.page ≢ gone) (λ u. (u.page ≢ child) × (u.page ≢ gone)) row-before (λ u x y. (x, y))
      (AllByRecursion-other (λ q. q ≢ child) child 0 row-before (omega arith) (λ q ne. ne)) (AllByRecursion-other (λ q. q ≢ gone) gone 0 row-before (omega arith) (λ q ne. ne))

  none-behind : AllByRecursion (λ u. (u.page ≢ child) × (u.page ≢ gone)) row-behind
  none-behind = let a = once child in let b = children-once child in let c = once gone in let d = children-once gone in let e = child-here in let f = gone-here in
      AllByRecursion-both (λ u. u.page ≢ child) (λ u. u.page ≢ gone) (λ u. (u.page ≢ child) × (u.page ≢ gone)) row-behind (λ u x y. (x, y))
      (AllByRecursion-other (λ q. q ≢ child) child 0 row-behind (omega arith) (λ q ne. ne)) (AllByRecursion-other (λ q. q ≢ gone) gone 0 row-behind (omega arith) (λ q ne. ne))

  whole : IsMergedTree m new (above depth (suc height)) (top_of root) height left-visit gone-visit merged-visit row-before row-behind
  whole = IsMergedTree-merge m new parent child gone merge height up place.before place.visit place.behind place.here not_left not_right row-tree at gone-level none-before none-behind depth (top_of root) tree-of.tree place.is

  weight-at : (n : ℕ) → weight_of (counts_page n) m root ≡ weight_along (counts_page n) m (above depth (suc height)) (top_of root)
  weight-at n = ap (λ h. weight_along (counts_page n) m h (top_of root)) tall

  -- who is met where
  child-met : 1 ≤ weight_of (counts_page child) m root
  child-met = let c = children-once child in let b = child-here in let e = weight-at child in omega arith

  gone-met : 1 ≤ weight_of (counts_page gone) m root
  gone-met = let c = children-once gone in let b = gone-here in let e = weight-at gone in omega arith

  parent-met : 1 ≤ weight_of (counts_page parent) m root
  parent-met = let c = row-once parent in let f = sum_of-own parent 0 place.before place.visit place.behind place.here in let e = weight-at parent in omega arith

  child-not_gone : child ≢ gone
  child-not_gone z = let a = once child in let c = children-once child in let b = child-here in let d = counts_page-own child 0 gone-visit (merge.there ∙ sym z) in omega arith

  no-zero : times_met m roots 0 ≡ 0
  no-zero = zero-unmet most m bits roots law

  -- a page other than the one that goes keeps its kind and its level
  kind-kept : (n : ℕ) → n ≢ gone → (new n).kind ≡ (m n).kind
  kind-kept n nf = elim (cases_eq n parent) [
    | inl e ↦ subst (λ q. (new q).kind ≡ (m q).kind) (sym e) merge.parent_kind
    | inr np ↦ elim (cases_eq n child) [
      | inl e ↦ subst (λ q. (new q).kind ≡ (m q).kind) (sym e) merge.child_kind
      | inr nc ↦ (merge.others n np nc nf).kind
    ]
  ]

  level-kept : (n : ℕ) → n ≢ gone → (new n).level ≡ (m n).level
  level-kept n nf = elim (cases_eq n parent) [
    | inl e ↦ subst (λ q. (new q).level ≡ (m q).level) (sym e) merge.parent_level
    | inr np ↦ elim (cases_eq n child) [
      | inl e ↦ subst (λ q. (new q).level ≡ (m q).level) (sym e) merge.child_level
      | inr nc ↦ (merge.others n np nc nf).level
    ]
  ]

  apart : (r : ℕ) → 0 < r → r ≤ roots → r ≢ root → (n q : ℕ) → 0 < weight_of (counts_page n) m r → 1 ≤ weight_of (counts_page q) m root → n ≢ q
  apart = met-apart most m bits roots law root some le

  root-stays : (r : ℕ) → 0 < r → r ≤ roots → r ≢ gone
  root-stays r s l = elim (cases_eq r root) [
    | inl e ↦ λ z. (let x = ap (λ q. (m q).level) (sym e ∙ z) in let y = above-le depth (suc height) in omega (arith, gone-level, tall))
    | inr ne ↦ apart r s l ne r gone (root-met m r) gone-met
  ]

  -- each tree is as high as it was
  pub height-kept : (r : ℕ) → 0 < r → r ≤ roots → height_of new r ≡ height_of m r
  height-kept r s l = level-kept r (root-stays r s l)

  node-next : 0 < height → ((m gone).next ≡ 0) × ((m child).next ≡ 0)
  node-next u = (((law.sound gone (met-some most m bits roots law root some le gone gone-met)).node (omega (arith, gone-level))).1, ((law.sound child (met-some most m bits roots law root some le child child-met)).node (omega (arith, at))).1)

  -- the leaf behind the one that goes
  next-met : (m gone).next ≢ 0 → (1 ≤ weight_of (counts_page (m gone).next) m root) × ((m (m gone).next).level ≡ 0)
  next-met ne =
      elim (cases_eq height 0) [
        | inl z ↦
            let row : IsTree m 0 ((row-before ++ left-visit ∷ []) ++ gone-visit ∷ row-behind) = subst (λ h. IsTree m h ((row-before ++ left-visit ∷ []) ++ gone-visit ∷ row-behind)) z (subst (IsTree m height) regrouped children-tree) in
            let linked = subst (λ us. AreLinked m 0 us 0) (whole.old z ∙ regrouped) tree-of.linked in
            let r = AreLinked-right m 0 (row-before ++ left-visit ∷ []) (gone-visit ∷ row-behind) 0 linked in
            let next : (m gone).next ≡ first_page row-behind 0 = subst (λ n. (m n).next ≡ first_page row-behind 0) merge.there r.1 in
            next-of row-behind next ne (λ n. let a = children-once n in let e = weight-at n in omega arith)
            (let x = AllByRecursion-right (IsLeafAt m) (row-before ++ left-visit ∷ []) (gone-visit ∷ row-behind) row.leaves in x.1)
        | inr up' ↦ absurd (ne (node-next (omega (arith, up'))).0)
      ]
    where
      next-of : (us : List Visit) → (m gone).next ≡ first_page us 0 → (m gone).next ≢ 0 → ((n : ℕ) → sum_of (counts_page n 0) us ≤ weight_of (counts_page n) m root) → AllByRecursion (IsLeafAt m) us
          → (1 ≤ weight_of (counts_page (m gone).next) m root) × ((m (m gone).next).level ≡ 0)
      next-of [] e ne h l = absurd (ne e)
      next-of (u ∷ us) e ne h l = (
        let a = h u.page in let b = counts_page-own u.page 0 u refl in subst (λ n. 1 ≤ weight_of (counts_page n) m root) (sym e) (omega arith),
        subst (λ n. (m n).level ≡ 0) (sym e) l.0.level,
      )

  -- the chain of leaves of the tree
  own-links : AreLinked new 0 (below new (above depth (suc height)) (top_of root)) 0
  own-links =
      elim (cases_eq height 0) [
        | inl z ↦
            let was = subst (λ us. AreLinked m 0 us 0) (whole.old z) tree-of.linked in
            let zero : (m child).level ≡ 0 = at ∙ z in
            let most-once : (n : ℕ) → sum_of (counts_page n 0) (row-before ++ left-visit ∷ gone-visit ∷ row-behind) ≤ 1 = λ n. let a = children-once n in let b = once n in let e = sum_of-append (counts_page n 0) row-before (left-visit ∷ gone-visit ∷ row-behind) in omega arith in
            let zero-none : sum_of (counts_page 0 0) (row-before ++ left-visit ∷ gone-visit ∷ row-behind) ≡ 0 = let a = children-once 0 in let b = weight_of-le (counts_page 0) m root roots some le in let c = no-zero in let d = weight-at 0 in
            let e = sum_of-append (counts_page 0 0) row-before (left-visit ∷ gone-visit ∷ row-behind) in omega arith in
            subst (λ us. AreLinked new 0 us 0) (sym (whole.changed z)) (unlink m new child gone links zero row-before left-visit gone-visit row-behind merged-visit merge.here merge.there refl was most-once zero-none)
        | inr up' ↦
            let some-up : 0 < height = omega (arith, up') in
            let zero-next = (node-next some-up).0 in
            let away = AllByRecursion-both (IsLeafAt m) (λ (u : Visit). u.page ≢ 0) (λ u. HasLinks (new u.page) (m u.page)) (below m (above depth (suc height)) (top_of root))
            (λ u l ne. links.others u.page (λ e. let x = ap (λ q. (m q).level) e in let y = l.level in omega (arith, at)) (λ e. let x = ap (λ q. (m q).level) e in let y = l.level in omega (arith, gone-level)) (λ e. ne (e ∙ zero-next)))
            tree-of.tree.leaves
            (AllByRecursion-met (λ q. q ≢ 0) 0 (below m (above depth (suc height)) (top_of root)) (λ q h.
            let a = lowest-le_weight (counts_page q) m (above depth (suc height)) (top_of root) in let c = weight-at q in met-some most m bits roots law root some le q (omega arith))) in
            subst (λ us. AreLinked new 0 us 0) (sym (whole.inner some-up)) (AreLinked-same m new 0 (below m (above depth (suc height)) (top_of root)) 0 away tree-of.linked)
      ]

  -- another tree has no page of this one, so it is as it was
  other-tree : (r : ℕ) → 0 < r → r ≤ roots → r ≢ root → IsSameTree m new (height_of m r) (top_of r)
  other-tree r s l ne =
      IsSameTree-met m new (height_of m r) (top_of r)
      (λ n h. merge.others n (apart r s l ne n parent h parent-met) (apart r s l ne n child h child-met) (apart r s l ne n gone h gone-met))
      (law.trees r s l).0.tree

  other-links : (r : ℕ) → 0 < r → r ≤ roots → r ≢ root → AreLinked new 0 (leaves_of m r) 0
  other-links r s l ne =
      AreLinked-same m new 0 (leaves_of m r) 0
      (AllByRecursion-met (λ n. HasLinks (new n) (m n)) 0 (leaves_of m r) (λ n h.
      let low = lowest-le_weight (counts_page n) m (height_of m r) (top_of r) in
      let met : 0 < weight_of (counts_page n) m r = omega arith in
      let a = weight_of-le (counts_page n) m r roots s l in
      links.others n (apart r s l ne n child met child-met) (apart r s l ne n gone met gone-met)
      (λ e. elim (cases_eq (m gone).next 0) [
        | inl z ↦ let d = ap (times_met m roots) (e ∙ z) in let f = no-zero in omega arith
        | inr some-next ↦ apart r s l ne n (m gone).next met (next-met some-next).0 e
      ])))
      (law.trees r s l).0.linked

  new-tree : (r : ℕ) → 0 < r → r ≤ roots → IsTreeOf new (height_of new r) r
  new-tree r s l =
      elim (cases_eq r root) [
        | inl e ↦ subst (λ q. IsTreeOf new (height_of new q) q) (sym e) (subst (λ h. IsTreeOf new h root) (sym (height-kept root some le ∙ tall)) (record { tree = whole.tree; linked = own-links }))
        | inr ne ↦ subst (λ h. IsTreeOf new h r) (sym (height-kept r s l))
            (let o = other-tree r s l ne in record { tree = o.tree; linked = subst (λ us. AreLinked new 0 us 0) (sym o.lowest) (other-links r s l ne) })
      ]

  -- the tree weighs the two visits less, and the one in their place more
  pub weight_of-merge : (f : ℕ → Visit → ℕ) → weight_of f new root + f height left-visit + f height gone-visit ≡ weight_of f m root + f height merged-visit
  weight_of-merge f =
      let a = whole.weighs f in
      let b = ap (λ h. weight_along f new h (top_of root)) (height-kept root some le ∙ tall) in
      let c = ap (λ h. weight_along f m h (top_of root)) tall in omega arith

  -- each tree has the content that it had
  pub content_of-merge : (r : ℕ) → 0 < r → r ≤ roots → content_of new r ≡ content_of m r
  content_of-merge r s l =
      elim (cases_eq r root) [
        | inl e ↦ subst (λ q. content_of new q ≡ content_of m q) (sym e)
            (ap (λ h. records_along new (below new h (top_of root))) (height-kept root some le ∙ tall) ∙ (whole.holds ∙ ap (λ h. records_along m (below m h (top_of root))) (sym tall)))
        | inr ne ↦ ap (λ h. records_along new (below new h (top_of r))) (height-kept r s l) ∙ (other-tree r s l ne).holds
      ]

  pub weight_of-merge_other : (f : ℕ → Visit → ℕ) (r : ℕ) → 0 < r → r ≤ roots → r ≢ root → weight_of f new r ≡ weight_of f m r
  weight_of-merge_other f r s l ne = ap (λ h. weight_along f new h (top_of r)) (height-kept r s l) ∙ (other-tree r s l ne).weighs f

  -- what weighs nothing on the two pages weighs the same
  pub weight_of-merge_away : (f : ℕ → Visit → ℕ) → ((h : ℕ) (v : Visit) → v.page ≡ child → f h v ≡ 0) → ((h : ℕ) (v : Visit) → v.page ≡ gone → f h v ≡ 0)
      → (r : ℕ) → 0 < r → r ≤ roots → weight_of f new r ≡ weight_of f m r
  weight_of-merge_away f zc zg r s l =
      elim (cases_eq r root) [
        | inl e ↦ subst (λ q. weight_of f new q ≡ weight_of f m q) (sym e)
            (let w = weight_of-merge f in let a = zc height left-visit merge.here in let b = zg height gone-visit merge.there in let c = zc height merged-visit refl in omega arith)
        | inr ne ↦ weight_of-merge_other f r s l ne
      ]

  -- the page that goes is met no more, the others as before
  met-fewer : (n : ℕ) → times_met new roots n + counts_page n 0 gone-visit ≡ times_met m roots n
  met-fewer n =
      let own : weight_of (counts_page n) new root + counts_page n 0 gone-visit ≡ weight_of (counts_page n) m root =
      let v = weight_of-merge (counts_page n) in let same : counts_page n height left-visit ≡ counts_page n height merged-visit = ap (λ q. cond {A = ℕ} (eqb q n) 1 0) merge.here in omega arith in
      all-minus (counts_page n) new m root roots (counts_page n 0 gone-visit) some le own (λ r s l ne. sym (weight_of-merge_other (counts_page n) r s l ne))
    where
      all-minus : (f : ℕ → Visit → ℕ) (small large : PageMemory) (root roots extra : ℕ) → 0 < root → root ≤ roots → weight_of f small root + extra ≡ weight_of f large root
          → ((r : ℕ) → 0 < r → r ≤ roots → r ≢ root → weight_of f large r ≡ weight_of f small r) → weight_all f small roots + extra ≡ weight_all f large roots
      all-minus f small large root roots extra s l own other = sym (weight_all-plus f small large root roots extra s l (sym own) other)

  -- the pages are sound
  child-few : child < MAPPED_PAGES
  child-few = met-few most m bits roots law root some le child child-met

  parent-ascends : Rises 0 (new parent).records end_rank
  parent-ascends =
      let s = law.sound parent (met-some most m bits roots law root some le parent parent-met) in
      let w = subst (λ rs. Rises 0 rs end_rank) merge.was s.ascends in
      let r = Rises-right 0 merge.before (merge.pair ∷ merge.next ∷ merge.behind) end_rank w in
      subst (λ rs. Rises 0 rs end_rank) (sym merge.parent_records)
      (Rises-append 0 merge.before (rank merge.pair.0) (merge.pair ∷ merge.behind) end_rank (Rises-left 0 merge.before (merge.pair ∷ merge.next ∷ merge.behind) end_rank w)
      (omega arith, Rises-lower (rank merge.pair.0 + 1) (rank merge.next.0 + 1) merge.behind end_rank (let k = r.1.0 in omega arith) r.1.1))

  child-ascends : Rises 0 (new child).records end_rank
  child-ascends =
      let s = law.sound parent (met-some most m bits roots law root some le parent parent-met) in
      let w = subst (λ rs. Rises 0 rs end_rank) merge.was s.ascends in
      let r = Rises-right 0 merge.before (merge.pair ∷ merge.next ∷ merge.behind) end_rank w in
      let top = Rises-le (rank merge.next.0 + 1) merge.behind end_rank r.1.1 in
      let g = law.sound gone (met-some most m bits roots law root some le gone gone-met) in
      let a = subst (λ q. Rises (rank merge.pair.0) (m q).records (rank merge.next.0)) merge.here (Rises-visit m height row-before left-visit (gone-visit ∷ row-behind) children-tree) in
      let b = subst (λ q. Rises (rank merge.next.0) (m q).records (first_rank merge.behind place.visit.high)) merge.there
      (Rises-visit m height (row-before ++ left-visit ∷ []) gone-visit row-behind (subst (IsTree m height) regrouped children-tree)) in
      let c = Rises-between (rank merge.next.0) (first_rank merge.behind place.visit.high) 0 end_rank (m gone).records b g.ascends (omega arith) in
      subst (λ rs. Rises 0 rs end_rank) (sym merge.child_records)
      (Rises-append 0 (m child).records (rank merge.next.0) (m gone).records end_rank (Rises-lower 0 (rank merge.pair.0) (m child).records (rank merge.next.0) (omega arith) a) c)

  -- so trees are lawful, with the bit of the page that goes clear
  pub IsLawful-merge : (now after : ℕ → ℕ) → after gone ≡ 0 → ((n : ℕ) → n ≢ gone → after n ≡ bits n) → IsSound (now gone) (new gone)
      → ((n : ℕ) → n ≢ parent → n ≢ child → n ≢ gone → most n ≤ now n) → length (new parent).records ≤ now parent → length (new child).records ≤ now child
      → IsLawfulUpTo now new after roots
  IsLawful-merge now after there elsewhere gone-sound wide short-parent short-child =
      let few-bits : (n : ℕ) → after n ≤ 1 = λ n. elim (cases_eq n gone) [ inl e ↦ let d = ap after e in omega arith | inr ng ↦ let d = elsewhere n ng in let b = law.bit n in omega arith ] in
      record {
        sound = λ n ne. elim (cases_eq n gone) [
          | inl e ↦ subst (λ q. IsSound (now q) (new q)) (sym e) gone-sound
          | inr ng ↦ elim (cases_eq n child) [
            | inl e ↦ subst (λ q. IsSound (now q) (new q)) (sym e) child-sound
            | inr nc ↦ elim (cases_eq n (m gone).next) [
              | inl e ↦ next-sound n ne ng nc e
              | inr nn ↦ rest-sound n ne ng nc nn
            ]
          ]
        ];
        trees = λ r s l. (new-tree r s l, let e = height-kept r s l in let b = (law.trees r s l).1 in omega arith);
        met = IsPageMap-bits new after roots (λ n. elim (cases_eq n gone) [
          | inl e ↦ subst (λ q. after q ≡ times_met new roots q + cond (eqb q 0) 1 0) (sym e)
              (let a = met-fewer gone in let b = gone-here in let c = times_met-le most m bits roots gone law in let z = bit-none gone (met-some most m bits roots law root some le gone gone-met) in omega arith)
          | inr ng ↦ let a = met-fewer n in let b = counts_page-other n 0 gone-visit (λ e. ng (sym e ∙ merge.there)) in let c = bits-met law n in let d = elsewhere n ng in omega arith
        ]) few-bits;
        bit = few-bits;
        few = λ n big. elim (cases_eq n gone) [ inl e ↦ ap after e ∙ there | inr ng ↦ elsewhere n ng ∙ law.few n big ];
        unmet = λ n free. elim (cases_eq n gone) [
          | inl e ↦ subst (λ q. (new q).kind ≡ Free) (sym e) freed
          | inr ng ↦ kind-kept n ng ∙ law.unmet n (sym (elsewhere n ng) ∙ free)
        ];
      }
    where
      child-sound : IsSound (now child) (new child)
      child-sound =
          let s = law.sound child (met-some most m bits roots law root some le child child-met) in
          let g = law.sound gone (met-some most m bits roots law root some le gone gone-met) in record {
            formed = λ bad. s.formed (sym merge.child_kind ∙ bad);
            ascends = child-ascends;
            short = short-child;
            low = let y = merge.child_level in let z = s.low in omega arith;
            prev = let y = links.child_prev in let z = s.prev in omega arith;
            next = let y = links.child_next in let z = g.next in omega arith;
            node = λ u. let k = merge.child_level in (links.child_prev ∙ (s.node (omega arith)).0, links.child_next ∙ (g.node (omega (arith, at, gone-level))).1);
          }

      alike : (n : ℕ) → n ≢ gone → n ≢ child → (n ≡ parent) ⊎ IsAlike (new n) (m n)
      alike n ng nc = elim (cases_eq n parent) [ inl e ↦ inl e | inr np ↦ inr (merge.others n np nc ng) ]

      body : (n : ℕ) → n ≢ 0 → n ≢ gone → n ≢ child → Rises 0 (new n).records end_rank × (length (new n).records ≤ now n)
      body n ne ng nc = elim (cases_eq n parent) [
        | inl e ↦ subst (λ q. Rises 0 (new q).records end_rank × (length (new q).records ≤ now q)) (sym e) (parent-ascends, short-parent)
        | inr np ↦ let a = merge.others n np nc ng in let s = law.sound n ne in
            (subst (λ rs. Rises 0 rs end_rank) (sym a.records) s.ascends, let x = ap length a.records in let y = s.short in let z = wide n np nc ng in omega arith)
      ]

      next-sound : (n : ℕ) → n ≢ 0 → n ≢ gone → n ≢ child → n ≡ (m gone).next → IsSound (now n) (new n)
      next-sound n ne ng nc e =
          let some-next : (m gone).next ≢ 0 = λ z. ne (e ∙ z) in
          let leaf : (m n).level ≡ 0 = subst (λ q. (m q).level ≡ 0) (sym e) (next-met some-next).1 in
          let zero : (m child).level ≡ 0 = elim (cases_eq height 0) [ inl z ↦ at ∙ z | inr u ↦ absurd (some-next (node-next (omega (arith, u))).0) ] in
          let p = subst (λ q. (new q).prev ≡ child) (sym e) (links.next_prev zero some-next) in
          let x = subst (λ q. (new q).next ≡ (m q).next) (sym e) (links.next_next zero some-next) in
          let s = law.sound n ne in
          let b = body n ne ng nc in
          let k = level-kept n ng in record {
            formed = λ bad. s.formed (sym (kind-kept n ng) ∙ bad);
            ascends = b.0;
            short = b.1;
            low = let z = s.low in omega arith;
            prev = omega (arith, child-few);
            next = let z = s.next in omega arith;
            node = λ u. absurd (omega arith);
          }

      rest-sound : (n : ℕ) → n ≢ 0 → n ≢ gone → n ≢ child → n ≢ (m gone).next → IsSound (now n) (new n)
      rest-sound n ne ng nc nn =
          let s = law.sound n ne in
          let l = links.others n nc ng nn in
          let b = body n ne ng nc in
          let k = level-kept n ng in record {
            formed = λ bad. s.formed (sym (kind-kept n ng) ∙ bad);
            ascends = b.0;
            short = b.1;
            low = let z = s.low in omega arith;
            prev = let y = l.prev in let z = s.prev in omega arith;
            next = let y = l.next in let z = s.next in omega arith;
            node = λ u. let q = s.node (omega arith) in (l.prev ∙ q.0, l.next ∙ q.1);
          }
