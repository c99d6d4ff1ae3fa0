-- A planned delete, level by level: the pair leaves its leaf, and a page below the root that lost a record and has few is merged where it can be.
use Rattle.std.proofs.Common.{◌≡◌, ◌≢◌, ℕ, ◌+◌, ◌<◌, ◌≤◌, ◌∙◌, [], ◌∷◌, ◌++◌, zero, suc, Bool, true, false, cond, length, Option, Some, None, refl, sym, ap, subst, arith, ltb, append_assoc, length-append}
use Rattle.std.proofs.lemmas.Bool.{leb-true}
use Rattle.ib_map.specs.Keys.{MapKey, end_rank, rank}
use Rattle.ib_map.specs.Pairs.{Pairs, Rises, first_rank, without}
use Rattle.ib_heap.specs.declared.TheConstants.{MOST_RECORDS}
use Rattle.ib_walk.specs.Pages.{Free, IsSound, PageMemory, PageState, Tree}
use Rattle.ib_walk.specs.Search.{IsPageFor, child_for, leaf_for, page_below}
use Rattle.ib_walk.specs.Trees.{IsLawful, IsTreeOf, content_of, height_of, top_of, weight_of}
use Rattle.ib_walk.specs.Walk.{IsNodeAt, IsTree, Visit, below}
use Rattle.ib_walk.proofs.ChoiceLaws.{cond-eq, cond-ne}
use Rattle.ib_walk.proofs.SearchLaws.{AllByRecursion-at, IsPageFor-below, IsTree-below, above, above-zero}
use Rattle.ib_walk.proofs.TreeLaws.{IsPageFor-top}
use Rattle.ib_plans.specs.Delete.{Shrinkage, delete_below, drop_at, merge, merge_left, merge_right, merge_short, merged, settled}
use Rattle.ib_plans.specs.Marks.{mark, untouched, with_bit}
use Rattle.ib_plans.specs.Merge.{fit_one, freed_page, merge_pages, siblings_of}
use Rattle.ib_plans.specs.Split.{next_or, with_records}
use Rattle.ib_plans.specs.declared.TheConstants.{FEWEST_RECORDS}
use Rattle.ib_plans.proofs.LeafDeleteLaws.{IsDeleted-leaf, IsLeafDelete}
use Rattle.ib_plans.proofs.LevelLaws.{above-suc}
use Rattle.ib_plans.proofs.LinkLaws.{next_or-apart}
use Rattle.ib_plans.proofs.MergeLaws.{IsLawful-merge, IsUnlinked, content_of-merge, weight_of-merge_away}
use Rattle.ib_plans.proofs.MergePageLaws.{IsMerged-pages, IsUnlinked-pages, merge_pages-gone, merge_pages-other}
use Rattle.ib_plans.proofs.MergeWalkLaws.{IsMerged}
use Rattle.ib_plans.proofs.PageLaws.{IsAway, IsAway-on, IsAway-own, IsSound-freed, mark-off, with_bit-other, with_bit-own}
use Rattle.ib_plans.proofs.PathLaws.{PathAbove, PathAbove-changed, PathPage, PathPage-below, PathPage-child, PathPage-other, page_below-child}
use Rattle.ib_plans.proofs.RecordLaws.{first_rank-some}
use Rattle.ib_plans.proofs.SiblingLaws.{SiblingPages, SiblingPages-path}
use Rattle.ib_plans.proofs.SiblingRecordLaws.{HasSiblings, HasSiblings-of, one_or_none}

-- what holds once the pair has left its leaf and the pages below this one were seen to: lawful trees, the pages above as they
-- were, and the content without the key
pub record IsDeletedBelow (m : PageMemory) (roots : ℕ) (key : MapKey) (root height page : ℕ) (s : Shrinkage) : Type 0 where
  pub lawful : IsLawful s.memory s.bits roots
  pub kind : (s.memory page).kind ≡ Tree
  pub level : (s.memory page).level ≡ height
  pub upper : (n : ℕ) → (m n).kind ≡ Tree → height ≤ (m n).level → n ≢ page → s.memory n ≡ m n
  pub holds : content_of s.memory root ≡ without key (content_of m root)
  pub others : (r : ℕ) → 0 < r → r ≤ roots → r ≢ root → content_of s.memory r ≡ content_of m r
  pub ranges : (f : ℕ → Visit → ℕ) → IsAway s.touched f → (r : ℕ) → 0 < r → r ≤ roots → weight_of f s.memory r ≡ weight_of f m r
  pub rest : (n : ℕ) → s.touched n ≡ false → s.memory n ≡ m n

module _ (m : PageMemory) (bits : ℕ → ℕ) (roots : ℕ) (law : IsLawful m bits roots) (key : MapKey) (in-range : rank key < end_rank)
    (root : ℕ) (some : 0 < root) (le : root ≤ roots) where
  -- the pair leaves the leaf of the key
  leaf-page : PathPage m 0 root (leaf_for m key root)
  leaf-page = PathPage-below (λ n. MOST_RECORDS) m bits roots law key in-range root some le (height_of m root) 0 (sym (above-zero (height_of m root)))

  drop-now : drop_at m (leaf_for m key root) key (leaf_for m key root) ≡ with_records (without key (m (leaf_for m key root)).records) (m (leaf_for m key root))
  drop-now = cond-eq (leaf_for m key root) (leaf_for m key root) (with_records (without key (m (leaf_for m key root)).records) (m (leaf_for m key root))) (m (leaf_for m key root)) refl

  drop-other : (n : ℕ) → n ≢ leaf_for m key root → drop_at m (leaf_for m key root) key n ≡ m n
  drop-other n ne = cond-ne n (leaf_for m key root) (with_records (without key (m (leaf_for m key root)).records) (m (leaf_for m key root))) (m n) ne

  delete : IsLeafDelete m (drop_at m (leaf_for m key root) key) key (leaf_for m key root)
  delete = record {
    other = drop-other;
    kind = ap (λ (p : PageState). p.kind) drop-now;
    level = ap (λ (p : PageState). p.level) drop-now;
    links = record { prev = ap (λ (p : PageState). p.prev) drop-now; next = ap (λ (p : PageState). p.next) drop-now };
    records = ap (λ (p : PageState). p.records) drop-now;
  }

  in-leaf : IsDeletedBelow m roots key root 0 (leaf_for m key root) (delete_below m bits key 0 (leaf_for m key root))
  in-leaf =
      let p = leaf-page in
      let d = IsDeleted-leaf m (drop_at m (leaf_for m key root) key) bits roots key root law some le in-range delete (law.sound (leaf_for m key root) p.some).short in
      record {
        lawful = d.lawful;
        kind = delete.kind ∙ p.kind;
        level = delete.level ∙ p.level;
        upper = λ n k l ne. drop-other n ne;
        holds = d.holds;
        others = d.others;
        ranges = λ f away r a b. d.ranges f r a b;
        rest = λ n off. drop-other n (mark-off (leaf_for m key root) untouched n off).0;
      }

  -- one level more: the page of the path above the one that has been come to
  module _ (height depth page : ℕ) (tall : height_of m root ≡ above depth (suc height)) (is-page-at : page_below m key depth root ≡ page) (s : Shrinkage)
      (was : IsDeletedBelow m roots key root height (child_for key 0 (m page).records) s) where
    -- a page above the child is another one
    above-other : (n : ℕ) → height < (m n).level → n ≢ child_for key 0 (m page).records
    above-other = PathPage-other m height root (child_for key 0 (m page).records) (PathPage-child (λ n. MOST_RECORDS) m bits roots law key in-range root some le depth height page tall is-page-at)

    -- the page is as it was, and the path leads to it still
    pub PathAbove-delete : PathAbove m s.memory key root depth height page
    PathAbove-delete = PathAbove-changed (λ n. MOST_RECORDS) m s.memory bits roots law key in-range root some le depth height page tall is-page-at
        (λ n k l. was.upper n k (omega arith) (above-other n l))

    -- two siblings below the page: one that is not the child is as it was
    pub sibling-same : (before : Pairs) (pair gone : MapKey × ℕ) (behind : Pairs) → (m page).records ≡ before ++ pair ∷ gone ∷ behind
        → (pair.1 ≢ child_for key 0 (m page).records → s.memory pair.1 ≡ m pair.1) × (gone.1 ≢ child_for key 0 (m page).records → s.memory gone.1 ≡ m gone.1)
    sibling-same before pair gone behind is =
        let p = SiblingPages-path m bits roots law key in-range root some le depth height tall page is-page-at before pair gone behind is in
        (was.upper pair.1 p.left_kind (let x = p.left_level in omega arith), was.upper gone.1 p.gone_kind (let x = p.gone_level in omega arith))

    -- the records of the page have those of the child and of its siblings
    pub siblings : HasSiblings (s.memory page).records (child_for key 0 (s.memory page).records) (siblings_of key (s.memory page).records)
    siblings =
        let t = subst (λ h. IsTreeOf s.memory h root) PathAbove-delete.tall (was.lawful.trees root some le).0 in
        let p = subst (IsPageFor key (below s.memory depth (top_of root))) PathAbove-delete.path (IsPageFor-below s.memory depth (suc height) key (top_of root) root t.tree.nodes (IsPageFor-top key root in-range)) in
        let row = subst (IsTree s.memory (suc height)) p.is (IsTree-below s.memory depth (suc height) (top_of root) t.tree) in
        let node = AllByRecursion-at (IsNodeAt s.memory (suc height)) p.before p.visit p.behind row.nodes.0 in
        let some-record = subst (λ (q : ℕ). 0 < length (s.memory q).records) p.here node.some in
        let first = subst (λ (q : ℕ). first_rank (s.memory q).records p.visit.high ≡ p.visit.low) p.here node.first in
        let low = p.low in
        let same = first_rank-some (s.memory page).records end_rank p.visit.high some-record in
        HasSiblings-of key (s.memory page).records some-record (omega arith)

    -- nothing more happens
    stay : (lost : Bool) → IsDeletedBelow m roots key root (suc height) page (record { memory = s.memory; bits = s.bits; touched = s.touched; moves = s.moves; lost = lost })
    stay lost = record {
      lawful = was.lawful;
      kind = ap (λ (p : PageState). p.kind) PathAbove-delete.same ∙ PathAbove-delete.kind;
      level = ap (λ (p : PageState). p.level) PathAbove-delete.same ∙ PathAbove-delete.level;
      upper = λ n k l ne. was.upper n k (omega arith) (above-other n (omega arith));
      holds = was.holds;
      others = was.others;
      ranges = was.ranges;
      rest = was.rest;
    }

    -- two children are merged
    module _ (before : Pairs) (pair gone : MapKey × ℕ) (behind : Pairs) (is : (s.memory page).records ≡ before ++ pair ∷ gone ∷ behind)
        (fits : length (s.memory pair.1).records + length (s.memory gone.1).records ≤ MOST_RECORDS) where
      abbrev now : PageMemory
      now = merge_pages s.memory page pair.1 gone

      -- the pages of the merge
      pub pages : SiblingPages s.memory height page pair.1 gone.1
      pages = SiblingPages-path s.memory s.bits roots was.lawful key in-range root some le depth height PathAbove-delete.tall page PathAbove-delete.path before pair gone behind is

      page-some : page ≢ 0
      page-some e = (PathPage-below (λ n. MOST_RECORDS) s.memory s.bits roots was.lawful key in-range root some le depth (suc height) PathAbove-delete.tall).some (PathAbove-delete.path ∙ e)

      rises : Rises 0 (s.memory page).records end_rank
      rises = (was.lawful.sound page page-some).ascends

      abbrev the-merge : IsMerged s.memory now page pair.1 gone.1
      the-merge = IsMerged-pages s.memory height page before pair gone behind is pages rises

      the-links : IsUnlinked s.memory now pair.1 gone.1
      the-links = IsUnlinked-pages s.memory height page before pair gone behind is pages rises

      gone-freed : now gone.1 ≡ freed_page (s.memory gone.1)
      gone-freed = merge_pages-gone s.memory page pair.1 gone

      gone-free : (now gone.1).kind ≡ Free
      gone-free = ap (λ (p : PageState). p.kind) gone-freed

      kept : (r : ℕ) → 0 < r → r ≤ roots → content_of now r ≡ content_of s.memory r
      kept = content_of-merge (λ n. MOST_RECORDS) s.memory now s.bits roots was.lawful key in-range root some le depth height PathAbove-delete.tall page pair.1 gone.1 PathAbove-delete.path the-merge the-links gone-free

      upper-now : (n : ℕ) → (m n).kind ≡ Tree → suc height ≤ (m n).level → n ≢ page → now n ≡ m n
      upper-now n k l ne =
          let same = was.upper n k (omega arith) (above-other n (omega arith)) in
          let up = ap (λ (p : PageState). p.level) same in
          let low : (q : ℕ) → (s.memory q).level ≤ height → n ≢ q = λ q less e. (let x = ap (λ i. (s.memory i).level) e in omega arith) in
          merge_pages-other s.memory page pair.1 gone n
          (low gone.1 (let x = pages.gone_level in omega arith))
          (low pair.1 (let x = pages.left_level in omega arith))
          ne
          (next_or-apart gone.1 (s.memory gone.1) n (low gone.1 (let x = pages.gone_level in omega arith)) (λ ne. low (s.memory gone.1).next (let x = (pages.behind ne).level in omega arith)))
          ∙ same

      go : IsDeletedBelow m roots key root (suc height) page (merged s page pair.1 gone)
      go = record {
        lawful = IsLawful-merge (λ n. MOST_RECORDS) s.memory now s.bits roots was.lawful key in-range root some le depth height PathAbove-delete.tall page pair.1 gone.1 PathAbove-delete.path the-merge the-links gone-free
            (λ n. MOST_RECORDS) (with_bit gone.1 0 s.bits) (with_bit-own gone.1 0 s.bits) (λ n ne. with_bit-other gone.1 0 s.bits n ne)
            (subst (IsSound MOST_RECORDS) (sym gone-freed) (IsSound-freed (s.memory gone.1)))
            (λ n np nl ng. omega arith)
            (let a = ap length the-merge.parent_records in let b = (was.lawful.sound page page-some).short in let c = ap length is in
            let d = length-append before (pair ∷ behind) in let e = length-append before (pair ∷ gone ∷ behind) in omega arith)
            (let a = ap length the-merge.child_records in let b = length-append (s.memory pair.1).records (s.memory gone.1).records in omega (arith, fits));
        kind = the-merge.parent_kind ∙ pages.parent_kind;
        level = the-merge.parent_level ∙ pages.parent_level;
        upper = upper-now;
        holds = kept root some le ∙ was.holds;
        others = λ r a b ne. kept r a b ∙ was.others r a b ne;
        ranges = λ f away r a b.
            let on-gone = IsAway-on 0 (mark gone.1 (mark pair.1 (mark page (mark (next_or gone.1 (s.memory gone.1)) s.touched)))) f away in
            let on-left = IsAway-on gone.1 (mark pair.1 (mark page (mark (next_or gone.1 (s.memory gone.1)) s.touched))) f on-gone in
            let on-page = IsAway-on pair.1 (mark page (mark (next_or gone.1 (s.memory gone.1)) s.touched)) f on-left in
            let on-next = IsAway-on page (mark (next_or gone.1 (s.memory gone.1)) s.touched) f on-page in
            weight_of-merge_away (λ n. MOST_RECORDS) s.memory now s.bits roots was.lawful key in-range root some le depth height PathAbove-delete.tall page pair.1 gone.1 PathAbove-delete.path the-merge the-links gone-free
            f (IsAway-own pair.1 (mark page (mark (next_or gone.1 (s.memory gone.1)) s.touched)) f on-left)
            (IsAway-own gone.1 (mark pair.1 (mark page (mark (next_or gone.1 (s.memory gone.1)) s.touched))) f on-gone) r a b
            ∙ was.ranges f (IsAway-on (next_or gone.1 (s.memory gone.1)) s.touched f on-next) r a b;
        rest = λ n off.
            let z = mark-off 0 (mark gone.1 (mark pair.1 (mark page (mark (next_or gone.1 (s.memory gone.1)) s.touched)))) n off in
            let a = mark-off gone.1 (mark pair.1 (mark page (mark (next_or gone.1 (s.memory gone.1)) s.touched))) n z.1 in
            let b = mark-off pair.1 (mark page (mark (next_or gone.1 (s.memory gone.1)) s.touched)) n a.1 in
            let c = mark-off page (mark (next_or gone.1 (s.memory gone.1)) s.touched) n b.1 in
            let d = mark-off (next_or gone.1 (s.memory gone.1)) s.touched n c.1 in
            merge_pages-other s.memory page pair.1 gone n a.0 b.0 c.0 d.0 ∙ was.rest n d.1;
      }

    -- with the right sibling, or not at all
    go-right : (here : MapKey × ℕ) (right : Option (MapKey × ℕ)) (before behind : Pairs) → (s.memory page).records ≡ before ++ here ∷ (one_or_none right ++ behind)
        → IsDeletedBelow m roots key root (suc height) page (merge_right s page here right (settled s))
    go-right here None before behind e = stay false
    go-right here (Some x) before behind e =
        elim (fit_one s.memory here.1 x.1) as (λ b. fit_one s.memory here.1 x.1 ≡ b → IsDeletedBelow m roots key root (suc height) page (cond b (merged s page here.1 x) (settled s))) [
          | true ↦ λ f. go before here x behind e (leb-true _ _ f)
          | false ↦ λ f. stay false
        ] refl

    -- with the left sibling, or else another way
    go-left : (left : Option (MapKey × ℕ)) (here : MapKey × ℕ) (right : Option (MapKey × ℕ)) (before behind : Pairs)
        → (s.memory page).records ≡ before ++ (one_or_none left ++ here ∷ (one_or_none right ++ behind))
        → IsDeletedBelow m roots key root (suc height) page (merge_left s page left here (merge_right s page here right (settled s)))
    go-left None here right before behind e = go-right here right before behind e
    go-left (Some x) here right before behind e =
        elim (fit_one s.memory x.1 here.1) as (λ b. fit_one s.memory x.1 here.1 ≡ b → IsDeletedBelow m roots key root (suc height) page (cond b (merged s page x.1 here) (merge_right s page here right (settled s)))) [
          | true ↦ λ f. go before x here (one_or_none right ++ behind) e (leb-true _ _ f)
          | false ↦ λ f. go-right here right (before ++ x ∷ []) behind (e ∙ sym (append_assoc before (x ∷ []) (here ∷ (one_or_none right ++ behind))))
        ] refl

    -- so the step keeps what holds
    pub IsDeletedBelow-step : IsDeletedBelow m roots key root (suc height) page (merge_short key page s)
    IsDeletedBelow-step =
        elim (s.lost) as (λ b. s.lost ≡ b → IsDeletedBelow m roots key root (suc height) page
        (cond b (cond (ltb (length (s.memory (siblings_of key (s.memory page).records).here.1).records) FEWEST_RECORDS) (merge s page (siblings_of key (s.memory page).records)) (settled s)) s)) [
          | true ↦ λ e. elim (ltb (length (s.memory (siblings_of key (s.memory page).records).here.1).records) FEWEST_RECORDS) as (λ b. IsDeletedBelow m roots key root (suc height) page
              (cond b (merge s page (siblings_of key (s.memory page).records)) (settled s))) [
                | true ↦ go-left (siblings_of key (s.memory page).records).left (siblings_of key (s.memory page).records).here (siblings_of key (s.memory page).records).right siblings.before siblings.behind siblings.is
                | false ↦ stay false
              ]
          | false ↦ λ e. stay s.lost
        ] refl

  -- so it holds at each height of the key's path
  pub IsDeletedBelow-path : (height depth page : ℕ) → height_of m root ≡ above depth height → page_below m key depth root ≡ page
      → IsDeletedBelow m roots key root height page (delete_below m bits key height page)
  IsDeletedBelow-path zero depth page tall at =
      let e : leaf_for m key root ≡ page = ap (λ h. page_below m key h root) (tall ∙ above-zero depth) ∙ at in
      let P : ℕ → Type 0 = λ n. IsDeletedBelow m roots key root 0 n (delete_below m bits key 0 n) in
      subst P e in-leaf
  IsDeletedBelow-path (suc height) depth page tall at =
      IsDeletedBelow-step height depth page tall at (delete_below m bits key height (child_for key 0 (m page).records))
      (IsDeletedBelow-path height (suc depth) (child_for key 0 (m page).records) (tall ∙ above-suc depth height) (page_below-child m key depth root ∙ ap (λ n. child_for key 0 (m n).records) at))
