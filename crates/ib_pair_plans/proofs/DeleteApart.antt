-- A planned delete from one tree touches no page of another.
use Rattle.std.proofs.Common.{◌≡◌, ◌≢◌, ℕ, ◌<◌, ◌≤◌, ◌∙◌, [], ◌∷◌, ◌++◌, zero, suc, Bool, true, false, cond, length, Option, Some, None, refl, sym, ap, subst, arith, ltb, append_assoc}
use Rattle.std.specs.Prelude.{◌&&◌, ◌==◌, nat_lt}
use Rattle.std.proofs.lemmas.Bool.Decides.{nat_tests}
use Rattle.ib_map.specs.Keys.{MapKey, end_rank, rank}
use Rattle.ib_map.specs.Pairs.{Pairs, first_rank}
use Rattle.ib_heap.specs.declared.TheConstants.{MOST_RECORDS}
use Rattle.ib_walk.specs.Pages.{PageMemory}
use Rattle.ib_walk.specs.Search.{IsPageFor, child_for, leaf_for, page_below}
use Rattle.ib_walk.specs.Trees.{IsLawful, IsTreeOf, height_of, top_of, weight_of}
use Rattle.ib_walk.specs.Walk.{IsNodeAt, IsTree, below, counts_page}
use Rattle.ib_walk.proofs.SearchLaws.{AllByRecursion-at, IsPageFor-below, IsTree-below, above, above-zero}
use Rattle.ib_walk.proofs.TreeLaws.{IsPageFor-top}
use Rattle.ib_plans.specs.Delete.{Shrinkage, delete_below, lifted, merge, merge_left, merge_right, merge_short, merged, planned_delete, settled}
use Rattle.ib_plans.specs.Marks.{mark, untouched}
use Rattle.ib_plans.specs.Merge.{first_child, fit_one, siblings_of}
use Rattle.ib_plans.specs.Split.{next_or}
use Rattle.ib_plans.specs.declared.TheConstants.{FEWEST_RECORDS}
use Rattle.ib_plans.proofs.DeleteLaws.{IsDeletedBelow, IsDeletedBelow-path, PathAbove-delete}
use Rattle.ib_plans.proofs.LevelLaws.{above-suc}
use Rattle.ib_plans.proofs.LinkLaws.{next_or-apart}
use Rattle.ib_plans.proofs.MetLaws.{met-apart, met-some, root-met}
use Rattle.ib_plans.proofs.PathLaws.{PathPage-below, page_below-child}
use Rattle.ib_plans.proofs.RecordLaws.{first_rank-some}
use Rattle.ib_plans.proofs.SiblingRecordLaws.{HasSiblings, HasSiblings-of, one_or_none}
use Rattle.ib_pair_plans.specs.Apart.{IsApart}
use Rattle.ib_pair_plans.proofs.ChildLaws.{child-met, child-next_met}
use Rattle.ib_pair_plans.proofs.InsertApart.{mark-other, met-still}

module _ (m : PageMemory) (bits : ℕ → ℕ) (roots : ℕ) (law : IsLawful m bits roots) (key : MapKey) (in-range : rank key < end_rank)
    (root : ℕ) (some : 0 < root) (le : root ≤ roots) where
  -- the leaf
  apart-leaf : (page : ℕ) → leaf_for m key root ≡ page → IsApart m roots root (mark page untouched)
  apart-leaf page at r n s l ne met =
      let p = PathPage-below (λ n. MOST_RECORDS) m bits roots law key in-range root some le (height_of m root) 0 (sym (above-zero (height_of m root))) in
      mark-other page untouched n (λ e. met-apart (λ n. MOST_RECORDS) m bits roots law root some le r s l ne n (leaf_for m key root) met p.met (e ∙ sym at)) refl

  -- one level more
  module _ (height depth page : ℕ) (tall : height_of m root ≡ above depth (suc height)) (at : page_below m key depth root ≡ page) (s : Shrinkage)
      (was : IsDeletedBelow m roots key root height (child_for key 0 (m page).records) s) (before : IsApart m roots root s.touched) where
    page-tall : height_of s.memory root ≡ above depth (suc height)
    page-tall = let p = PathAbove-delete m bits roots law key in-range root some le height depth page tall at s was in p.tall

    page-at : page_below s.memory key depth root ≡ page
    page-at = let p = PathAbove-delete m bits roots law key in-range root some le height depth page tall at s was in p.path

    page-met : 1 ≤ weight_of (counts_page page) s.memory root
    page-met = subst (λ n. 1 ≤ weight_of (counts_page n) s.memory root) page-at (PathPage-below (λ n. MOST_RECORDS) s.memory s.bits roots was.lawful key in-range root some le depth (suc height) page-tall).met

    -- the records of the page have those of the child and of its siblings
    siblings : HasSiblings (s.memory page).records (child_for key 0 (s.memory page).records) (siblings_of key (s.memory page).records)
    siblings =
        let t = subst (λ h. IsTreeOf s.memory h root) page-tall (was.lawful.trees root some le).0 in
        let p = subst (IsPageFor key (below s.memory depth (top_of root))) page-at (IsPageFor-below s.memory depth (suc height) key (top_of root) root t.tree.nodes (IsPageFor-top key root in-range)) in
        let row = subst (IsTree s.memory (suc height)) p.is (IsTree-below s.memory depth (suc height) (top_of root) t.tree) in
        let node = AllByRecursion-at (IsNodeAt s.memory (suc height)) p.before p.visit p.behind row.nodes.0 in
        let some-record = subst (λ (q : ℕ). 0 < length (s.memory q).records) p.here node.some in
        let first = subst (λ (q : ℕ). first_rank (s.memory q).records p.visit.high ≡ p.visit.low) p.here node.first in
        let low = p.low in
        let same = first_rank-some (s.memory page).records end_rank p.visit.high some-record in
        HasSiblings-of key (s.memory page).records some-record (omega arith)

    -- two children are merged
    apart-merged : (front : Pairs) (pair gone : MapKey × ℕ) (behind : Pairs) → (s.memory page).records ≡ front ++ pair ∷ gone ∷ behind → IsApart m roots root (merged s page pair.1 gone).touched
    apart-merged front pair gone behind is r n a b ne met =
        let still = met-still (λ n. MOST_RECORDS) m s.memory bits roots root s.touched law before was.rest r n a b ne met in
        let other : (p : ℕ) → 1 ≤ weight_of (counts_page p) s.memory root → n ≢ p = λ p. met-apart (λ n. MOST_RECORDS) s.memory s.bits roots was.lawful root some le r a b ne n p still in
        let left = child-met (λ n. MOST_RECORDS) s.memory s.bits roots was.lawful key in-range root some le depth height page-tall page page-at front pair (gone ∷ behind) is in
        let again = is ∙ sym (append_assoc front (pair ∷ []) (gone ∷ behind)) in
        let right = child-met (λ n. MOST_RECORDS) s.memory s.bits roots was.lawful key in-range root some le depth height page-tall page page-at (front ++ pair ∷ []) gone behind again in
        let next = child-next_met (λ n. MOST_RECORDS) s.memory s.bits roots was.lawful key in-range root some le depth height page-tall page page-at (front ++ pair ∷ []) gone behind again in
        let behind-it = next_or gone.1 (s.memory gone.1) in
        mark-other 0 (mark gone.1 (mark pair.1 (mark page (mark behind-it s.touched)))) n (met-some (λ n. MOST_RECORDS) s.memory s.bits roots was.lawful r a b n still)
        (mark-other gone.1 (mark pair.1 (mark page (mark behind-it s.touched))) n (other gone.1 right)
        (mark-other pair.1 (mark page (mark behind-it s.touched)) n (other pair.1 left)
        (mark-other page (mark behind-it s.touched) n (other page page-met)
        (mark-other behind-it s.touched n (next_or-apart gone.1 (s.memory gone.1) n (other gone.1 right) (λ there. other (s.memory gone.1).next (next there)))
        (before r n a b ne met)))))

    go-right : (here : MapKey × ℕ) (right : Option (MapKey × ℕ)) (front behind : Pairs) → (s.memory page).records ≡ front ++ here ∷ (one_or_none right ++ behind)
        → IsApart m roots root (merge_right s page here right (settled s)).touched
    go-right here None front behind e = before
    go-right here (Some x) front behind e =
        elim (fit_one s.memory here.1 x.1) as (λ b. IsApart m roots root (cond b (merged s page here.1 x) (settled s)).touched) [
          | true ↦ apart-merged front here x behind e
          | false ↦ before
        ]

    go-left : (left : Option (MapKey × ℕ)) (here : MapKey × ℕ) (right : Option (MapKey × ℕ)) (front behind : Pairs)
        → (s.memory page).records ≡ front ++ (one_or_none left ++ here ∷ (one_or_none right ++ behind))
        → IsApart m roots root (merge_left s page left here (merge_right s page here right (settled s))).touched
    go-left None here right front behind e = go-right here right front behind e
    go-left (Some x) here right front behind e =
        elim (fit_one s.memory x.1 here.1) as (λ b. IsApart m roots root (cond b (merged s page x.1 here) (merge_right s page here right (settled s))).touched) [
          | true ↦ apart-merged front x here (one_or_none right ++ behind) e
          | false ↦ go-right here right (front ++ x ∷ []) behind (e ∙ sym (append_assoc front (x ∷ []) (here ∷ (one_or_none right ++ behind))))
        ]

    -- where the child has few
    apart-few : (b : Bool) → IsApart m roots root (cond b (merge s page (siblings_of key (s.memory page).records)) (settled s)).touched
    apart-few true = go-left (siblings_of key (s.memory page).records).left (siblings_of key (s.memory page).records).here (siblings_of key (s.memory page).records).right siblings.before siblings.behind siblings.is
    apart-few false = before

    apart-lost : (a b : Bool) → IsApart m roots root (cond a (cond b (merge s page (siblings_of key (s.memory page).records)) (settled s)) s).touched
    apart-lost true b = apart-few b
    apart-lost false b = before

    apart-step : IsApart m roots root (merge_short key page s).touched
    apart-step = apart-lost s.lost (ltb (length (s.memory (siblings_of key (s.memory page).records).here.1).records) FEWEST_RECORDS)

  -- so it is on each level of the key's path
  apart-below : (height depth page : ℕ) → height_of m root ≡ above depth height → page_below m key depth root ≡ page → IsApart m roots root (delete_below m bits key height page).touched
  apart-below zero depth page tall at = apart-leaf page (ap (λ h. page_below m key h root) (tall ∙ above-zero depth) ∙ at)
  apart-below (suc height) depth page tall at =
      let child : page_below m key (suc depth) root ≡ child_for key 0 (m page).records = page_below-child m key depth root ∙ ap (λ n. child_for key 0 (m n).records) at in
      let s = delete_below m bits key height (child_for key 0 (m page).records) in
      let before = apart-below height (suc depth) (child_for key 0 (m page).records) (tall ∙ above-suc depth height) child in
      let was = IsDeletedBelow-path m bits roots law key in-range root some le height (suc depth) (child_for key 0 (m page).records) (tall ∙ above-suc depth height) child in
      apart-step height depth page tall at s was before

  abbrev whole : Shrinkage
  whole = delete_below m bits key (height_of m root) root

  -- the lift of the root
  apart-lifted : (height : ℕ) → IsDeletedBelow m roots key root (suc height) root whole → IsApart m roots root whole.touched → (x : MapKey × ℕ) → (whole.memory root).records ≡ x ∷ []
      → IsApart m roots root (lifted whole root x.1).touched
  apart-lifted height was before x is r n a b ne met =
      let still = met-still (λ n. MOST_RECORDS) m whole.memory bits roots root whole.touched law before was.rest r n a b ne met in
      let child = child-met (λ n. MOST_RECORDS) whole.memory whole.bits roots was.lawful key in-range root some le 0 height was.level root refl [] x [] is in
      mark-other 0 (mark x.1 (mark root whole.touched)) n (met-some (λ n. MOST_RECORDS) whole.memory whole.bits roots was.lawful r a b n still)
      (mark-other x.1 (mark root whole.touched) n (met-apart (λ n. MOST_RECORDS) whole.memory whole.bits roots was.lawful root some le r a b ne n x.1 still child)
      (mark-other root whole.touched n (met-apart (λ n. MOST_RECORDS) whole.memory whole.bits roots was.lawful root some le r a b ne n root still (root-met whole.memory root))
      (before r n a b ne met)))

  lifts : (height : ℕ) → IsDeletedBelow m roots key root height root whole → IsApart m roots root whole.touched → 0 < (whole.memory root).level → length (whole.memory root).records ≡ 1
      → (rs : Pairs) → (whole.memory root).records ≡ rs → IsApart m roots root (lifted whole root (first_child (whole.memory root).records)).touched
  lifts zero was before l n rs e = absurd (let a = was.level in omega arith)
  lifts (suc height) was before l n [] e = absurd (let a = ap length e in omega arith)
  lifts (suc height) was before l n (x ∷ y ∷ ys) e = absurd (let a = ap length e in omega arith)
  lifts (suc height) was before l n (x ∷ []) e = subst (λ c. IsApart m roots root (lifted whole root c).touched) (sym (ap first_child e)) (apart-lifted height was before x e)

  lift-node : (lost : Bool) (level count : ℕ) → (lost && (nat_lt 0 level && (count == 1))) ≡ true → 0 < level
  lift-node lost level count e = grind (arith, nat_tests)

  lift-one : (lost : Bool) (level count : ℕ) → (lost && (nat_lt 0 level && (count == 1))) ≡ true → count ≡ 1
  lift-one lost level count e = grind (arith, nat_tests)

  -- the whole delete
  pub IsApart-delete : IsApart m roots root (planned_delete m bits key root).touched
  IsApart-delete =
      let before = apart-below (height_of m root) 0 root refl refl in
      let was = IsDeletedBelow-path m bits roots law key in-range root some le (height_of m root) 0 root refl refl in
      elim (whole.lost && (nat_lt 0 (whole.memory root).level && (length (whole.memory root).records == 1))) as (λ b.
      (whole.lost && (nat_lt 0 (whole.memory root).level && (length (whole.memory root).records == 1))) ≡ b → IsApart m roots root (cond b (lifted whole root (first_child (whole.memory root).records)) whole).touched) [
        | true ↦ λ e. lifts (height_of m root) was before (lift-node whole.lost (whole.memory root).level (length (whole.memory root).records) e)
            (lift-one whole.lost (whole.memory root).level (length (whole.memory root).records) e) (whole.memory root).records refl
        | false ↦ λ e. before
      ] refl
