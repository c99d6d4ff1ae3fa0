-- The steps of a planned delete make of each page what its level says.
use Rattle.std.specs.Option.{option_or}
use Rattle.std.specs.Prelude.{◌&&◌, ◌||◌, ◌==◌, nat_lt, nat_le, is_some, IfSome}
use Rattle.std.proofs.Common.{◌≡◌, ◌≢◌, ℕ, ◌+◌, ◌-◌, ◌<◌, ◌≤◌, ◌∙◌, ◌⊎◌, [], ◌∷◌, ◌++◌, zero, suc, inl, inr, Bool, true, false, cond, eqb, ltb, length, Option, Some, None, refl, sym, ap, subst, arith, append_assoc}
use Rattle.std.proofs.lemmas.Bool.{cases_eq, eq-eqb, lt-ltb, ne_eqb}
use Rattle.std.proofs.lemmas.Bool.Decides.{nat_tests}
use Rattle.ib_map.specs.Keys.{MapKey, end_rank, rank}
use Rattle.ib_map.specs.Pairs.{Pairs, first_rank, without}
use Rattle.ib_heap.specs.declared.TheConstants.{MOST_RECORDS}
use Rattle.ib_walk.specs.Pages.{Free, PageMemory, PageState, Tree}
use Rattle.ib_walk.specs.Search.{child_for, page_below}
use Rattle.ib_walk.specs.Trees.{IsLawful, IsTreeOf, height_of, top_of}
use Rattle.ib_walk.specs.Walk.{IsNodeAt, IsTree}
use Rattle.ib_walk.proofs.ChoiceLaws.{cond-eq, cond-ne}
use Rattle.ib_walk.proofs.SearchLaws.{AllByRecursion-at, IsPageFor-below, IsTree-below, above}
use Rattle.ib_walk.proofs.TreeLaws.{IsPageFor-top}
use Rattle.ib_plans.specs.declared.TheConstants.{FEWEST_RECORDS}
use Rattle.ib_plans.specs.Changed.{PageChange, state_or, move_or_stays, bit_unless_freed, memory_with, bits_with, touched_by, moves_by}
use Rattle.ib_plans.specs.Delete.{Shrinkage, delete_below, lifted, merge, merge_left, merge_right, merge_short, merged, planned_delete, settled}
use Rattle.ib_plans.specs.Deleted.{Merge, with_left, with_right, freed_key, merge_change, behind_change, page_on, siblings_on, lost_key, left_on, merge_on, merged_below, merged_levels, in_merges, in_page_above, in_leaf_behind, unlifted_change, only_child, lifted_state, delete_change}
use Rattle.ib_plans.specs.Marks.{mark}
use Rattle.ib_plans.specs.Merge.{Siblings, siblings_of, fit_one, first_child, freed_page, joined, lowered}
use Rattle.ib_plans.specs.Moves.{Stays, Takes, Fills, Frees}
use Rattle.ib_plans.specs.Split.{next_or, with_prev, with_records}
use Rattle.ib_plans.proofs.MergePageLaws.{merge_pages-other}
use Rattle.ib_plans.proofs.DeleteLaws.{IsDeletedBelow, IsDeletedBelow-path, PathAbove-delete, sibling-same}
use Rattle.ib_plans.proofs.LevelLaws.{above-sum}
use Rattle.ib_plans.proofs.PathLaws.{PathPage-below, page_below-child}
use Rattle.ib_plans.proofs.RecordLaws.{first_rank-some}
use Rattle.ib_plans.proofs.SettledLaws.{merge_short-settled, lift_single-settled}
use Rattle.ib_plans.proofs.SiblingLaws.{SiblingPages, SiblingPages-path}
use Rattle.ib_plans.proofs.SiblingRecordLaws.{HasSiblings, HasSiblings-of, one_or_none}

if-or : {T : Type 0} (P : T → Type 0) (a b : Option T) → IfSome a P → IfSome b P → IfSome (option_or a b) P
if-or P None b x y = y
if-or P (Some a) b x y = x

pub and-false : (b : Bool) → (b && false) ≡ false
and-false true = refl
and-false false = refl

pub or-true : (b : Bool) → (b || true) ≡ true
or-true true = refl
or-true false = refl

pub mark-own : (page : ℕ) (t : ℕ → Bool) (n : ℕ) → n ≡ page → mark page t n ≡ true
mark-own page t n e = cond-eq n page true (t n) e

pub mark-more : (page : ℕ) (t : ℕ → Bool) (n : ℕ) → t n ≡ true → mark page t n ≡ true
mark-more page t n e = elim (eqb n page) as (λ b. cond b true (t n) ≡ true) [ true ↦ refl | false ↦ e ]

module _ (m : PageMemory) (bits : ℕ → ℕ) (roots : ℕ) (law : IsLawful m bits roots) (key : MapKey) (in-range : rank key < end_rank)
    (root : ℕ) (some : 0 < root) (le : root ≤ roots) where
  abbrev top : ℕ
  top = height_of m root

  abbrev path : ℕ → ℕ
  path level = page_on m key root level

  pub tall-at : (level : ℕ) → level ≤ top → top ≡ above (top - level) level
  tall-at level le = let a = above-sum (top - level) level in omega arith

  pub path-child : (level : ℕ) → level < top → child_for key 0 (m (path (suc level))).records ≡ path level
  path-child level lt =
      let e : suc (top - suc level) ≡ top - level = omega arith in
      sym (page_below-child m key (top - suc level) root) ∙ ap (λ d. page_below m key d root) e

  pub path-level : (level : ℕ) → level ≤ top → (m (path level)).level ≡ level
  path-level level le' = (PathPage-below (λ n. MOST_RECORDS) m bits roots law key in-range root some le (top - level) level (tall-at level le')).level

  pub path-kind : (level : ℕ) → level ≤ top → (m (path level)).kind ≡ Tree
  path-kind level le' = (PathPage-below (λ n. MOST_RECORDS) m bits roots law key in-range root some le (top - level) level (tall-at level le')).kind

  pub path-some : (level : ℕ) → level ≤ top → path level ≢ 0
  path-some level le' = (PathPage-below (λ n. MOST_RECORDS) m bits roots law key in-range root some le (top - level) level (tall-at level le')).some

  -- the records of a node of the path have those of the page below it and of its siblings
  path-siblings : (level : ℕ) → level < top → HasSiblings (m (path (suc level))).records (child_for key 0 (m (path (suc level))).records) (siblings_on m key root level)
  path-siblings level lt =
      let depth : ℕ = top - suc level in
      let t = subst (λ h. IsTreeOf m h root) (tall-at (suc level) lt) (law.trees root some le).0 in
      let p = IsPageFor-below m (top - suc level) (suc level) key (top_of root) root t.tree.nodes (IsPageFor-top key root in-range) in
      let row = subst (IsTree m (suc level)) p.is (IsTree-below m (top - suc level) (suc level) (top_of root) t.tree) in
      let node = AllByRecursion-at (IsNodeAt m (suc level)) p.before p.visit p.behind row.nodes.0 in
      let some-record = subst (λ (q : ℕ). 0 < length (m q).records) p.here node.some in
      let first = subst (λ (q : ℕ). first_rank (m q).records p.visit.high ≡ p.visit.low) p.here node.first in
      let low = p.low in
      let same = first_rank-some (m (path (suc level))).records end_rank p.visit.high some-record in
      HasSiblings-of key (m (path (suc level))).records some-record (omega arith)

  -- the two pages of a merge of a level, one of which is the path's
  pub record MergePages (level : ℕ) (u : Merge) : Type 0 where
    pub pages : SiblingPages m level (path (suc level)) u.stays u.freed.1
    pub one : (u.stays ≡ path level) ⊎ (u.freed.1 ≡ path level)

  module _ (level : ℕ) (lt : level < top) where
    pages-of : (before : Pairs) (pair gone : MapKey × ℕ) (behind : Pairs) → (m (path (suc level))).records ≡ before ++ pair ∷ gone ∷ behind
        → SiblingPages m level (path (suc level)) pair.1 gone.1
    pages-of before pair gone behind is =
        SiblingPages-path m bits roots law key in-range root some le (top - suc level) level (tall-at (suc level) lt) (path (suc level)) refl before pair gone behind is

    right-pages : (records : Pairs) (here : MapKey × ℕ) (right : Option (MapKey × ℕ)) (before behind : Pairs)
        → (m (path (suc level))).records ≡ before ++ here ∷ (one_or_none right ++ behind) → here.1 ≡ path level → IfSome (with_right m records here right) (MergePages level)
    right-pages records here None before behind is at = tt
    right-pages records here (Some x) before behind is at =
        elim (nat_le (length records + length (m x.1).records) MOST_RECORDS) as (λ b. IfSome (cond b (Some (let w : Merge = record { stays = here.1; state = joined (with_records records (m here.1)) (m x.1); freed = x } in w)) None) (MergePages level)) [
          | true ↦ record { pages = pages-of before here x behind is; one = inl at }
          | false ↦ tt
        ]

    left-pages : (records : Pairs) (left : Option (MapKey × ℕ)) (here : MapKey × ℕ) (before behind : Pairs)
        → (m (path (suc level))).records ≡ before ++ (one_or_none left ++ here ∷ behind) → here.1 ≡ path level → IfSome (with_left m records here left) (MergePages level)
    left-pages records None here before behind is at = tt
    left-pages records (Some x) here before behind is at =
        elim (nat_le (length (m x.1).records + length records) MOST_RECORDS) as (λ b. IfSome (cond b (Some (let w : Merge = record { stays = x.1; state = joined (m x.1) (with_records records (m here.1)); freed = here } in w)) None) (MergePages level)) [
          | true ↦ record { pages = pages-of before x here behind is; one = inr at }
          | false ↦ tt
        ]

    either-pages : (records : Pairs) (left : Option (MapKey × ℕ)) (here : MapKey × ℕ) (right : Option (MapKey × ℕ)) (before behind : Pairs)
        → (m (path (suc level))).records ≡ before ++ (one_or_none left ++ here ∷ (one_or_none right ++ behind)) → here.1 ≡ path level
        → IfSome (option_or (with_left m records here left) (with_right m records here right)) (MergePages level)
    either-pages records left here right before behind is at =
        if-or (MergePages level) (with_left m records here left) (with_right m records here right)
        (left-pages records left here before (one_or_none right ++ behind) is at)
        (right-pages records here right (before ++ one_or_none left) behind (is ∙ sym (append_assoc before (one_or_none left) (here ∷ (one_or_none right ++ behind)))) at)

    pub merge-pages : IfSome (merge_on m key root level) (MergePages level)
    merge-pages =
        let t = siblings_on m key root level in
        let h = path-siblings level lt in
        elim (nat_lt (length (left_on m key root level)) FEWEST_RECORDS) as (λ b. IfSome (cond b (option_or (with_left m (left_on m key root level) (siblings_on m key root level).here (siblings_on m key root level).left)
        (with_right m (left_on m key root level) (siblings_on m key root level).here (siblings_on m key root level).right)) None) (MergePages level)) [
          | true ↦ either-pages (left_on m key root level) (siblings_on m key root level).left (siblings_on m key root level).here (siblings_on m key root level).right h.before h.behind h.is (h.here ∙ path-child level lt)
          | false ↦ tt
        ]

  -- a page of a higher level is in no merge
  no-change : (level : ℕ) (o : Option Merge) → IfSome o (MergePages level) → (n : ℕ) → (m n).level ≢ level → merge_change m o n ≡ None
  no-change level None p n ne = refl
  no-change level (Some u) p n ne =
      cond-ne n u.freed.1 _ _ (λ e. ne (ap (λ q. (m q).level) e ∙ p.pages.gone_level))
      ∙ cond-ne n u.stays _ _ (λ e. ne (ap (λ q. (m q).level) e ∙ p.pages.left_level))

  pub in_merges-above : (levels : ℕ) → levels ≤ top → (n : ℕ) → levels ≤ (m n).level → in_merges m key root levels n ≡ None
  in_merges-above zero most n high = refl
  in_merges-above (suc level) most n high =
      let none = no-change level (merge_on m key root level) (merge-pages level most) n (λ e. omega arith) in
      ap (λ o. option_or o (in_merges m key root level n)) none ∙ in_merges-above level (omega arith) n (omega arith)

  -- the steps have made of a page what these changes say
  pub record IsAt (s : Shrinkage) (levels n : ℕ) (c : Option PageChange) : Type 0 where
    pub memory : s.memory n ≡ state_or c (m n)
    pub bits_are : s.bits n ≡ bit_unless_freed (move_or_stays c) (bits n)
    pub touched : s.touched n ≡ (is_some c || (eqb n 0 && ltb 0 levels))
    pub moves : s.moves n ≡ move_or_stays c

  -- the leaf
  leaf-at : (n : ℕ) → IsAt (delete_below m bits key 0 (path 0)) 0 n (unlifted_change m key root 0 n)
  leaf-at n = elim (cases_eq n (path 0)) [
    | inl e ↦ let yes = eq-eqb n (path 0) e in record { memory = rw yes refl; bits_are = rw yes refl; touched = rw yes refl; moves = rw yes refl }
    | inr ne ↦ let no = ne_eqb n (path 0) ne in record { memory = rw no refl; bits_are = rw no refl; touched = rw no (sym (and-false (eqb n 0))); moves = rw no refl }
  ]

  -- no change but a merge's frees a page
  behind-bit : (o : Option Merge) (n : ℕ) → bit_unless_freed (move_or_stays (behind_change m o n)) (bits n) ≡ bits n
  behind-bit None n = refl
  behind-bit (Some u) n = elim (eqb n (next_or u.freed.1 (m u.freed.1))) as (λ b. bit_unless_freed (move_or_stays (cond b (Some (let w : PageChange = record { state = with_prev u.stays (m n); move = Stays } in w)) None)) (bits n) ≡ bits n) [ true ↦ refl | false ↦ refl ]

  leaf_behind-bit : (levels n : ℕ) → bit_unless_freed (move_or_stays (in_leaf_behind m key root levels n)) (bits n) ≡ bits n
  leaf_behind-bit zero n = refl
  leaf_behind-bit (suc level) n = behind-bit (merge_on m key root zero) n

  above-bit : (levels n : ℕ) → bit_unless_freed (move_or_stays (option_or (in_page_above m key root levels n) (in_leaf_behind m key root levels n))) (bits n) ≡ bits n
  above-bit levels n = elim (eqb n (path levels)) as (λ b. bit_unless_freed (move_or_stays (option_or (cond b (Some (let w : PageChange = record { state = with_records (left_on m key root levels) (m (path levels)); move = Takes (lost_key m key root levels) } in w)) None)
      (in_leaf_behind m key root levels n))) (bits n) ≡ bits n) [ true ↦ refl | false ↦ leaf_behind-bit levels n ]

  -- one merge more
  module _ (h : ℕ) (lt : h < top) (s : Shrinkage) (at : (n : ℕ) → IsAt s h n (unlifted_change m key root h n)) (u : Merge) (is : merge_on m key root h ≡ Some u) (p : MergePages h u)
      (parent-same : s.memory (path (suc h)) ≡ m (path (suc h))) (joins : joined (s.memory u.stays) (s.memory u.freed.1) ≡ u.state)
      (clock-same : (s.memory u.freed.1).clock ≡ (m u.freed.1).clock) (next-same : (s.memory u.freed.1).next ≡ (m u.freed.1).next) where
    abbrev now : Shrinkage
    now = merged s (path (suc h)) u.stays u.freed

    abbrev above-it : ℕ → Option PageChange
    above-it n = option_or (in_page_above m key root (suc h) n) (in_leaf_behind m key root (suc h) n)

    change-is : (n : ℕ) → unlifted_change m key root (suc h) n ≡ option_or (option_or (merge_change m (Some u) n) (in_merges m key root h n)) (above-it n)
    change-is n = ap (λ o. option_or (option_or (merge_change m o n) (in_merges m key root h n)) (above-it n)) is

    to : (n : ℕ) (c : Option PageChange) → unlifted_change m key root (suc h) n ≡ c → IsAt now (suc h) n c → IsAt now (suc h) n (unlifted_change m key root (suc h) n)
    to n c e a = subst (IsAt now (suc h) n) (sym e) a

    kept-bit : (n : ℕ) → h ≤ (m n).level → s.bits n ≡ bits n
    kept-bit n high = (at n).bits_are
        ∙ (ap (λ o. bit_unless_freed (move_or_stays (option_or o (option_or (in_page_above m key root h n) (in_leaf_behind m key root h n)))) (bits n)) (in_merges-above h (omega arith) n high) ∙ above-bit h n)

    next-is : next_or u.freed.1 (s.memory u.freed.1) ≡ next_or u.freed.1 (m u.freed.1)
    next-is = ap (λ k. cond (eqb k 0) u.freed.1 k) next-same

    marks : (n : ℕ) → ((n ≡ u.freed.1) ⊎ ((n ≡ u.stays) ⊎ ((n ≡ path (suc h)) ⊎ (n ≡ next_or u.freed.1 (s.memory u.freed.1))))) → now.touched n ≡ true
    marks n one =
        let next = next_or u.freed.1 (s.memory u.freed.1) in
        let a = mark next s.touched in let b = mark (path (suc h)) a in let c = mark u.stays b in let d = mark u.freed.1 c in
        mark-more 0 (mark u.freed.1 (mark u.stays (mark (path (suc h)) (mark (next_or u.freed.1 (s.memory u.freed.1)) s.touched)))) n
        (elim one [
          | inl e ↦ mark-own u.freed.1 (mark u.stays (mark (path (suc h)) (mark (next_or u.freed.1 (s.memory u.freed.1)) s.touched))) n e
          | inr two ↦ mark-more u.freed.1 (mark u.stays (mark (path (suc h)) (mark (next_or u.freed.1 (s.memory u.freed.1)) s.touched))) n (elim two [
            | inl e ↦ mark-own u.stays (mark (path (suc h)) (mark (next_or u.freed.1 (s.memory u.freed.1)) s.touched)) n e
            | inr three ↦ mark-more u.stays (mark (path (suc h)) (mark (next_or u.freed.1 (s.memory u.freed.1)) s.touched)) n (elim three [
              | inl e ↦ mark-own (path (suc h)) (mark (next_or u.freed.1 (s.memory u.freed.1)) s.touched) n e
              | inr e ↦ mark-more (path (suc h)) (mark (next_or u.freed.1 (s.memory u.freed.1)) s.touched) n (mark-own (next_or u.freed.1 (s.memory u.freed.1)) s.touched n e)
            ])
          ])
        ])

    at-freed : (n : ℕ) → n ≡ u.freed.1 → IsAt now (suc h) n (unlifted_change m key root (suc h) n)
    at-freed n e = to n (Some (record { state = freed_page (m u.freed.1); move = Frees }))
        (change-is n ∙ ap (λ o. option_or (option_or o (in_merges m key root h n)) (above-it n)) (cond-eq n u.freed.1 _ _ e))
        (record {
          memory = cond-eq n u.freed.1 (freed_page (s.memory u.freed.1)) _ e ∙ ap (λ c. record { kind = Free; level = 0; prev = 0; next = 0; clock = c; records = [] }) clock-same;
          bits_are = cond-eq n u.freed.1 0 (s.bits n) e;
          touched = marks n (inl e);
          moves = cond-eq n u.freed.1 Frees _ e;
        })

    at-stays : (n : ℕ) → n ≡ u.stays → IsAt now (suc h) n (unlifted_change m key root (suc h) n)
    at-stays n e =
        let nf : n ≢ u.freed.1 = λ z. p.pages.apart (sym e ∙ z) in
        let high = ap (λ q. (m q).level) e ∙ p.pages.left_level in
        to n (Some (record { state = u.state; move = Fills }))
        (change-is n ∙ ap (λ o. option_or (option_or o (in_merges m key root h n)) (above-it n)) (cond-ne n u.freed.1 _ _ nf ∙ cond-eq n u.stays _ _ e))
        (record {
          memory = cond-ne n u.freed.1 (freed_page (s.memory u.freed.1)) _ nf ∙ (cond-eq n u.stays (joined (s.memory u.stays) (s.memory u.freed.1)) _ e ∙ joins);
          bits_are = cond-ne n u.freed.1 0 (s.bits n) nf ∙ kept-bit n (omega arith);
          touched = marks n (inr (inl e));
          moves = cond-ne n u.freed.1 Frees _ nf ∙ cond-eq n u.stays Fills _ e;
        })

    no-merge : (n : ℕ) → n ≢ u.freed.1 → n ≢ u.stays → unlifted_change m key root (suc h) n ≡ option_or (in_merges m key root h n) (above-it n)
    no-merge n nf ns = change-is n ∙ ap (λ o. option_or (option_or o (in_merges m key root h n)) (above-it n)) (cond-ne n u.freed.1 _ _ nf ∙ cond-ne n u.stays _ _ ns)

    at-parent : (n : ℕ) → n ≡ path (suc h) → IsAt now (suc h) n (unlifted_change m key root (suc h) n)
    at-parent n e =
        let tall = ap (λ q. (m q).level) e ∙ p.pages.parent_level in
        let nf : n ≢ u.freed.1 = λ z. let x = ap (λ q. (m q).level) z in let y = p.pages.gone_level in omega arith in
        let ns : n ≢ u.stays = λ z. let x = ap (λ q. (m q).level) z in let y = p.pages.left_level in omega arith in
        let lost : lost_key m key root (suc h) ≡ u.freed.0 = ap freed_key is in
        to n (Some (record { state = with_records (left_on m key root (suc h)) (m (path (suc h))); move = Takes (lost_key m key root (suc h)) }))
        (no-merge n nf ns ∙ (ap (λ o. option_or o (above-it n)) (in_merges-above h (omega arith) n (omega arith)) ∙ ap (λ o. option_or o (in_leaf_behind m key root (suc h) n)) (cond-eq n (path (suc h)) _ _ e)))
        (record {
          memory = cond-ne n u.freed.1 (freed_page (s.memory u.freed.1)) _ nf ∙ (cond-ne n u.stays (joined (s.memory u.stays) (s.memory u.freed.1)) _ ns
              ∙ (cond-eq n (path (suc h)) (with_records (without u.freed.0 (s.memory (path (suc h))).records) (s.memory (path (suc h)))) _ e
              ∙ (ap (λ (q : PageState). with_records (without u.freed.0 q.records) q) parent-same ∙ ap (λ k. with_records (without k (m (path (suc h))).records) (m (path (suc h)))) (sym lost))));
          bits_are = cond-ne n u.freed.1 0 (s.bits n) nf ∙ kept-bit n (omega arith);
          touched = marks n (inr (inr (inl e)));
          moves = cond-ne n u.freed.1 Frees _ nf ∙ (cond-ne n u.stays Fills _ ns ∙ (cond-eq n (path (suc h)) (Takes u.freed.0) _ e ∙ ap Takes (sym lost)));
        })

    -- the page of the path is one of the two
    not-path : (n : ℕ) → n ≢ u.freed.1 → n ≢ u.stays → n ≢ path h
    not-path n nf ns e = elim p.one [ inl o ↦ ns (e ∙ sym o) | inr o ↦ nf (e ∙ sym o) ]

    at-behind : (n : ℕ) → n ≢ u.freed.1 → n ≢ u.stays → n ≢ path (suc h) → n ≡ next_or u.freed.1 (m u.freed.1) → IsAt now (suc h) n (unlifted_change m key root (suc h) n)
    at-behind n nf ns np e = elim (cases_eq (m u.freed.1).next 0) [
      | inl none ↦ absurd (nf (e ∙ cond-eq (m u.freed.1).next 0 u.freed.1 _ none))
      | inr there ↦
          let low : h ≡ 0 = (p.pages.behind there).low in
          let none : in_merges m key root h n ≡ None = in_merges-above h (omega arith) n (omega arith) in
          let first : merge_on m key root zero ≡ Some u = subst (λ k. merge_on m key root k ≡ Some u) low is in
          let was-none : unlifted_change m key root h n ≡ None =
          ap (λ o. option_or o (option_or (in_page_above m key root h n) (in_leaf_behind m key root h n))) none
          ∙ (ap (λ o. option_or o (in_leaf_behind m key root h n)) (cond-ne n (path h) _ _ (not-path n nf ns)) ∙ ap (λ k. in_leaf_behind m key root k n) low) in
          let same : s.memory n ≡ m n = (at n).memory ∙ ap (λ c. state_or c (m n)) was-none in
          to n (Some (record { state = with_prev u.stays (m n); move = Stays }))
          (no-merge n nf ns ∙ (ap (λ o. option_or o (above-it n)) none ∙ (ap (λ o. option_or o (in_leaf_behind m key root (suc h) n)) (cond-ne n (path (suc h)) _ _ np)
          ∙ (ap (λ o. behind_change m o n) first ∙ cond-eq n (next_or u.freed.1 (m u.freed.1)) _ _ e))))
          (record {
            memory = cond-ne n u.freed.1 (freed_page (s.memory u.freed.1)) _ nf ∙ (cond-ne n u.stays (joined (s.memory u.stays) (s.memory u.freed.1)) _ ns
                ∙ (cond-ne n (path (suc h)) (with_records (without u.freed.0 (s.memory (path (suc h))).records) (s.memory (path (suc h)))) _ np
                ∙ (cond-eq n (next_or u.freed.1 (s.memory u.freed.1)) (with_prev u.stays (s.memory n)) _ (e ∙ sym next-is) ∙ ap (with_prev u.stays) same)));
            bits_are = cond-ne n u.freed.1 0 (s.bits n) nf ∙ ((at n).bits_are ∙ ap (λ c. bit_unless_freed (move_or_stays c) (bits n)) was-none);
            touched = marks n (inr (inr (inr (e ∙ sym next-is))));
            moves = cond-ne n u.freed.1 Frees _ nf ∙ (cond-ne n u.stays Fills _ ns ∙ (cond-ne n (path (suc h)) (Takes u.freed.0) _ np ∙ ((at n).moves ∙ ap move_or_stays was-none)));
          })
    ]

    behind-same : (k n : ℕ) → merge_on m key root k ≡ Some u → n ≢ next_or u.freed.1 (m u.freed.1) → in_leaf_behind m key root (suc k) n ≡ in_leaf_behind m key root k n
    behind-same zero n first ne = ap (λ o. behind_change m o n) first ∙ cond-ne n (next_or u.freed.1 (m u.freed.1)) _ _ ne
    behind-same (suc k) n first ne = refl

    at-other : (n : ℕ) → n ≢ u.freed.1 → n ≢ u.stays → n ≢ path (suc h) → n ≢ next_or u.freed.1 (m u.freed.1) → IsAt now (suc h) n (unlifted_change m key root (suc h) n)
    at-other n nf ns np nn =
        let a = at n in
        let nn' : n ≢ next_or u.freed.1 (s.memory u.freed.1) = λ e. nn (e ∙ next-is) in
        let same : unlifted_change m key root (suc h) n ≡ unlifted_change m key root h n =
        no-merge n nf ns ∙ ap (λ o. option_or (in_merges m key root h n) o) (
        ap (λ o. option_or o (in_leaf_behind m key root (suc h) n)) (cond-ne n (path (suc h)) _ _ np)
        ∙ (behind-same h n is nn ∙ sym (ap (λ o. option_or o (in_leaf_behind m key root h n)) (cond-ne n (path h) _ _ (not-path n nf ns))))) in
        to n (unlifted_change m key root h n) same (record {
          memory = merge_pages-other s.memory (path (suc h)) u.stays u.freed n nf ns np nn' ∙ a.memory;
          bits_are = cond-ne n u.freed.1 0 (s.bits n) nf ∙ a.bits_are;
          touched = elim (cases_eq n 0) [
            | inl z ↦ mark-own 0 (mark u.freed.1 (mark u.stays (mark (path (suc h)) (mark (next_or u.freed.1 (s.memory u.freed.1)) s.touched)))) n z
                ∙ (let yes = eq-eqb n 0 z in let pos = lt-ltb 0 (suc h) (omega arith) in rw (yes, pos) (sym (or-true (is_some (unlifted_change m key root h n)))))
            | inr nz ↦ cond-ne n 0 true _ nz ∙ (cond-ne n u.freed.1 true _ nf ∙ (cond-ne n u.stays true _ ns ∙ (cond-ne n (path (suc h)) true _ np ∙ (cond-ne n (next_or u.freed.1 (s.memory u.freed.1)) true _ nn'
                ∙ (a.touched ∙ ap (λ b. is_some (unlifted_change m key root h n) || b) (let no = ne_eqb n 0 nz in rw no refl))))))
          ];
          moves = cond-ne n u.freed.1 Frees _ nf ∙ (cond-ne n u.stays Fills _ ns ∙ (cond-ne n (path (suc h)) (Takes u.freed.0) _ np ∙ a.moves));
        })

    pub at-merged : (n : ℕ) → IsAt now (suc h) n (unlifted_change m key root (suc h) n)
    at-merged n = elim (cases_eq n u.freed.1) [
      | inl e ↦ at-freed n e
      | inr nf ↦ elim (cases_eq n u.stays) [
        | inl e ↦ at-stays n e
        | inr ns ↦ elim (cases_eq n (path (suc h))) [
          | inl e ↦ at-parent n e
          | inr np ↦ elim (cases_eq n (next_or u.freed.1 (m u.freed.1))) [
            | inl e ↦ at-behind n nf ns np e
            | inr nn ↦ at-other n nf ns np nn
          ]
        ]
      ]
    ]

  -- how many levels are merged is no more than there are
  merged_below-le : (levels : ℕ) → merged_below m key root levels ≤ levels
  merged_below-le zero = omega arith
  merged_below-le (suc level) = let r = merged_below-le level in
      elim (eqb (merged_below m key root level) level && is_some (merge_on m key root level)) as (λ b. cond b (suc level) (merged_below m key root level) ≤ suc level) [ true ↦ omega arith | false ↦ omega arith ]

  -- the steps up to a level have made of each page what the merges below it say, and whether its page has lost a record
  pub record IsReached (h : ℕ) (s : Shrinkage) : Type 0 where
    pub at : (n : ℕ) → IsAt s (merged_below m key root h) n (unlifted_change m key root (merged_below m key root h) n)
    pub lost : s.lost ≡ eqb (merged_below m key root h) h

  -- one level more, where all levels below are merged
  module _ (h : ℕ) (lt : h < top) (s : Shrinkage) (all : merged_below m key root h ≡ h) (at : (n : ℕ) → IsAt s h n (unlifted_change m key root h n))
      (parent-same : s.memory (path (suc h)) ≡ m (path (suc h))) where
    path-now : s.memory (path h) ≡ with_records (left_on m key root h) (m (path h))
    path-now = (at (path h)).memory ∙ ap (λ c. state_or c (m (path h)))
        (ap (λ o. option_or o (option_or (in_page_above m key root h (path h)) (in_leaf_behind m key root h (path h)))) (in_merges-above h (omega arith) (path h) (let x = path-level h (omega arith) in omega arith))
        ∙ ap (λ o. option_or o (in_leaf_behind m key root h (path h))) (cond-eq (path h) (path h) _ _ refl))

    none-below : merge_on m key root h ≡ None → merged_below m key root (suc h) ≡ h
    none-below none = ap (λ o. cond (eqb (merged_below m key root h) h && is_some o) (suc h) (merged_below m key root h)) none ∙ (rw (and-false (eqb (merged_below m key root h) h)) all)

    some-below : (u : Merge) → merge_on m key root h ≡ Some u → merged_below m key root (suc h) ≡ suc h
    some-below u is = let yes = eq-eqb (merged_below m key root h) h all in
        ap (λ o. cond (eqb (merged_below m key root h) h && is_some o) (suc h) (merged_below m key root h)) is ∙ rw yes refl

    stays-step : merge_on m key root h ≡ None → IsReached (suc h) (settled s)
    stays-step none =
        let e = none-below none in
        record {
          at = λ n. subst (λ k. IsAt (settled s) k n (unlifted_change m key root k n)) (sym e) (let a = at n in record { memory = a.memory; bits_are = a.bits_are; touched = a.touched; moves = a.moves });
          lost = let no = ne_eqb (merged_below m key root (suc h)) (suc h) (λ z. omega arith) in sym no;
        }

    merges-step : (u : Merge) → merge_on m key root h ≡ Some u → joined (s.memory u.stays) (s.memory u.freed.1) ≡ u.state
        → (s.memory u.freed.1).clock ≡ (m u.freed.1).clock → (s.memory u.freed.1).next ≡ (m u.freed.1).next → IsReached (suc h) (merged s (path (suc h)) u.stays u.freed)
    merges-step u is joins clock next =
        let e = some-below u is in
        let p = subst (λ o. IfSome o (MergePages h)) is (merge-pages h lt) in
        record {
          at = λ n. subst (λ k. IsAt (merged s (path (suc h)) u.stays u.freed) k n (unlifted_change m key root k n)) (sym e) (at-merged h lt s at u is p parent-same joins clock next n);
          lost = let yes = eq-eqb (merged_below m key root (suc h)) (suc h) e in sym yes;
        }

    -- with the right sibling, or not at all
    go-right : (here : MapKey × ℕ) (right : Option (MapKey × ℕ)) → here.1 ≡ path h → IfSome right (λ x. s.memory x.1 ≡ m x.1)
        → merge_on m key root h ≡ with_right m (left_on m key root h) here right → IsReached (suc h) (merge_right s (path (suc h)) here right (settled s))
    go-right here None at-here same is = stays-step is
    go-right here (Some x) at-here same is =
        let here-now : s.memory here.1 ≡ with_records (left_on m key root h) (m here.1) = subst (λ q. s.memory q ≡ with_records (left_on m key root h) (m q)) (sym at-here) path-now in
        let counts : fit_one s.memory here.1 x.1 ≡ nat_le (length (left_on m key root h) + length (m x.1).records) MOST_RECORDS =
        ap (λ (q : PageState). nat_le (length q.records + length (s.memory x.1).records) MOST_RECORDS) here-now ∙ ap (λ (q : PageState). nat_le (length (left_on m key root h) + length q.records) MOST_RECORDS) same in
        elim (nat_le (length (left_on m key root h) + length (m x.1).records) MOST_RECORDS) as (λ b. fit_one s.memory here.1 x.1 ≡ b
        → merge_on m key root h ≡ cond b (Some (let w : Merge = record { stays = here.1; state = joined (with_records (left_on m key root h) (m here.1)) (m x.1); freed = x } in w)) None
        → IsReached (suc h) (merge_right s (path (suc h)) here (Some x) (settled s))) [
          | true ↦ λ fits is. rw fits (merges-step (record { stays = here.1; state = joined (with_records (left_on m key root h) (m here.1)) (m x.1); freed = x }) is
              (ap (λ (q : PageState). joined q (s.memory x.1)) here-now ∙ ap (λ (q : PageState). joined (with_records (left_on m key root h) (m here.1)) q) same)
              (ap (λ (q : PageState). q.clock) same) (ap (λ (q : PageState). q.next) same))
          | false ↦ λ fits is. rw fits (stays-step is)
        ] counts is

    -- with the left sibling, or else another way
    go-left : (left : Option (MapKey × ℕ)) (here : MapKey × ℕ) (right : Option (MapKey × ℕ)) → here.1 ≡ path h → IfSome left (λ x. s.memory x.1 ≡ m x.1) → IfSome right (λ x. s.memory x.1 ≡ m x.1)
        → merge_on m key root h ≡ option_or (with_left m (left_on m key root h) here left) (with_right m (left_on m key root h) here right)
        → IsReached (suc h) (merge_left s (path (suc h)) left here (merge_right s (path (suc h)) here right (settled s)))
    go-left None here right at-here same-left same-right is = go-right here right at-here same-right is
    go-left (Some x) here right at-here same same-right is =
        let here-now : s.memory here.1 ≡ with_records (left_on m key root h) (m here.1) = subst (λ q. s.memory q ≡ with_records (left_on m key root h) (m q)) (sym at-here) path-now in
        let counts : fit_one s.memory x.1 here.1 ≡ nat_le (length (m x.1).records + length (left_on m key root h)) MOST_RECORDS =
        ap (λ (q : PageState). nat_le (length (s.memory x.1).records + length q.records) MOST_RECORDS) here-now ∙ ap (λ (q : PageState). nat_le (length q.records + length (left_on m key root h)) MOST_RECORDS) same in
        elim (nat_le (length (m x.1).records + length (left_on m key root h)) MOST_RECORDS) as (λ b. fit_one s.memory x.1 here.1 ≡ b
        → merge_on m key root h ≡ option_or (cond b (Some (let w : Merge = record { stays = x.1; state = joined (m x.1) (with_records (left_on m key root h) (m here.1)); freed = here } in w)) None) (with_right m (left_on m key root h) here right)
        → IsReached (suc h) (merge_left s (path (suc h)) (Some x) here (merge_right s (path (suc h)) here right (settled s)))) [
          | true ↦ λ fits is. rw fits (merges-step (record { stays = x.1; state = joined (m x.1) (with_records (left_on m key root h) (m here.1)); freed = here }) is
              (ap (λ (q : PageState). joined q (s.memory here.1)) same ∙ ap (λ (q : PageState). joined (m x.1) q) here-now)
              (ap (λ (q : PageState). q.clock) here-now) (ap (λ (q : PageState). q.next) here-now))
          | false ↦ λ fits is. rw fits (go-right here right at-here same-right is)
        ] counts is

    -- where the page has few
    pub few-step : (siblings_on m key root h).here.1 ≡ path h → IfSome (siblings_on m key root h).left (λ x. s.memory x.1 ≡ m x.1) → IfSome (siblings_on m key root h).right (λ x. s.memory x.1 ≡ m x.1)
        → s.lost ≡ true → IsReached (suc h) (merge_short key (path (suc h)) s)
    few-step at-here same-left same-right lost =
        let t-is : siblings_of key (s.memory (path (suc h))).records ≡ siblings_on m key root h = ap (λ (q : PageState). siblings_of key q.records) parent-same in
        let here-now : s.memory (siblings_on m key root h).here.1 ≡ with_records (left_on m key root h) (m (siblings_on m key root h).here.1) =
        subst (λ q. s.memory q ≡ with_records (left_on m key root h) (m q)) (sym at-here) path-now in
        let counts : ltb (length (s.memory (siblings_on m key root h).here.1).records) FEWEST_RECORDS ≡ ltb (length (left_on m key root h)) FEWEST_RECORDS =
        ap (λ (q : PageState). ltb (length q.records) FEWEST_RECORDS) here-now in
        let P : Siblings → Type 0 = λ t. IsReached (suc h) (cond s.lost (cond (ltb (length (s.memory t.here.1).records) FEWEST_RECORDS) (merge s (path (suc h)) t) (settled s)) s) in
        subst P (sym t-is) (rw lost (elim (ltb (length (left_on m key root h)) FEWEST_RECORDS) as (λ b. ltb (length (s.memory (siblings_on m key root h).here.1).records) FEWEST_RECORDS ≡ b
        → merge_on m key root h ≡ cond b (option_or (with_left m (left_on m key root h) (siblings_on m key root h).here (siblings_on m key root h).left)
        (with_right m (left_on m key root h) (siblings_on m key root h).here (siblings_on m key root h).right)) None
        → IsReached (suc h) (cond (ltb (length (s.memory (siblings_on m key root h).here.1).records) FEWEST_RECORDS) (merge s (path (suc h)) (siblings_on m key root h)) (settled s))) [
          | true ↦ λ few is. rw few (go-left (siblings_on m key root h).left (siblings_on m key root h).here (siblings_on m key root h).right at-here same-left same-right is)
          | false ↦ λ few is. rw few (stays-step is)
        ] counts refl))

  -- a page beside the path's is as it was
  module _ (h : ℕ) (lt : h < top) (s : Shrinkage) (was : IsDeletedBelow m roots key root h (child_for key 0 (m (path (suc h))).records) s) where
    beside-same : (before : Pairs) (pair gone : MapKey × ℕ) (behind : Pairs) → (m (path (suc h))).records ≡ before ++ pair ∷ gone ∷ behind
        → (gone.1 ≡ child_for key 0 (m (path (suc h))).records → s.memory pair.1 ≡ m pair.1) × (pair.1 ≡ child_for key 0 (m (path (suc h))).records → s.memory gone.1 ≡ m gone.1)
    beside-same before pair gone behind is =
        let apart = (pages-of h lt before pair gone behind is).apart in
        let r = sibling-same m bits roots law key in-range root some le h (top - suc h) (path (suc h)) (tall-at (suc h) lt) refl s was before pair gone behind is in
        (λ e. r.0 (λ z. apart (z ∙ sym e)), λ e. r.1 (λ z. apart (e ∙ sym z)))

    left-same : (left : Option (MapKey × ℕ)) (here : MapKey × ℕ) (before behind : Pairs) → (m (path (suc h))).records ≡ before ++ (one_or_none left ++ here ∷ behind)
        → here.1 ≡ child_for key 0 (m (path (suc h))).records → IfSome left (λ x. s.memory x.1 ≡ m x.1)
    left-same None here before behind is at = tt
    left-same (Some x) here before behind is at = (beside-same before x here behind is).0 at

    right-same : (here : MapKey × ℕ) (right : Option (MapKey × ℕ)) (before behind : Pairs) → (m (path (suc h))).records ≡ before ++ here ∷ (one_or_none right ++ behind)
        → here.1 ≡ child_for key 0 (m (path (suc h))).records → IfSome right (λ x. s.memory x.1 ≡ m x.1)
    right-same here None before behind is at = tt
    right-same here (Some x) before behind is at = (beside-same before here x behind is).1 at

  -- so they have at each level
  IsReached-path : (h : ℕ) → h ≤ top → IsReached h (delete_below m bits key h (path h))
  IsReached-path zero most = record { at = leaf-at; lost = refl }
  IsReached-path (suc h) lt =
      let s : Shrinkage = delete_below m bits key h (path h) in
      let r = IsReached-path h (omega arith) in
      let child = path-child h lt in
      let was = subst (λ c. IsDeletedBelow m roots key root h c (delete_below m bits key h (path h))) (sym child)
      (IsDeletedBelow-path m bits roots law key in-range root some le h (top - h) (path h) (tall-at h (omega arith)) refl) in
      let sib = path-siblings h lt in
      subst (λ c. IsReached (suc h) (merge_short key (path (suc h)) (delete_below m bits key h c))) (sym child) (elim (cases_eq (merged_below m key root h) h) [
        | inl all ↦ few-step h lt (delete_below m bits key h (path h)) all (λ n. subst (λ k. IsAt (delete_below m bits key h (path h)) k n (unlifted_change m key root k n)) all (r.at n))
            (PathAbove-delete m bits roots law key in-range root some le h (top - suc h) (path (suc h)) (tall-at (suc h) lt) refl (delete_below m bits key h (path h)) was).same
            (sib.here ∙ child)
            (left-same h lt (delete_below m bits key h (path h)) was (siblings_on m key root h).left (siblings_on m key root h).here sib.before (one_or_none (siblings_on m key root h).right ++ sib.behind) sib.is sib.here)
            (right-same h lt (delete_below m bits key h (path h)) was (siblings_on m key root h).here (siblings_on m key root h).right (sib.before ++ one_or_none (siblings_on m key root h).left) sib.behind
            (sib.is ∙ sym (append_assoc sib.before (one_or_none (siblings_on m key root h).left) ((siblings_on m key root h).here ∷ (one_or_none (siblings_on m key root h).right ++ sib.behind)))) sib.here)
            (r.lost ∙ eq-eqb (merged_below m key root h) h all)
        | inr not ↦
            let off : (delete_below m bits key h (path h)).lost ≡ false = r.lost ∙ ne_eqb (merged_below m key root h) h not in
            let few = merged_below-le h in
            let no = ne_eqb (merged_below m key root h) h not in
            let same : merged_below m key root (suc h) ≡ merged_below m key root h = rw no refl in
            subst (IsReached (suc h)) (sym (merge_short-settled key (path (suc h)) (delete_below m bits key h (path h)) off)) (record {
              at = λ n. subst (λ k. IsAt (delete_below m bits key h (path h)) k n (unlifted_change m key root k n)) (sym same) (r.at n);
              lost = off ∙ sym (ne_eqb (merged_below m key root (suc h)) (suc h) (λ e. omega arith));
            })
      ])

  -- the steps have made of every page what its change says
  pub record IsPlan (s : Shrinkage) (change : ℕ → Option PageChange) : Type 0 where
    pub memory : (n : ℕ) → s.memory n ≡ memory_with change m n
    pub bits_are : (n : ℕ) → s.bits n ≡ bits_with change bits n
    pub touched : (n : ℕ) → s.touched n ≡ touched_by change (ltb 0 (merged_levels m key root)) n
    pub moves : (n : ℕ) → s.moves n ≡ moves_by change n

  path-top : path top ≡ root
  path-top = let e : top - top ≡ 0 = omega arith in ap (λ d. page_below m key d root) e

  abbrev whole : Shrinkage
  whole = delete_below m bits key top root

  whole-reached : IsReached top whole
  whole-reached = subst (λ p. IsReached top (delete_below m bits key top p)) path-top (IsReached-path top (omega arith))

  abbrev only : ℕ
  only = only_child m key root

  -- with the lift, or without it
  abbrev lift-change : Bool → ℕ → Option PageChange
  lift-change b n = cond b (cond (eqb n only) (Some (let c : PageChange = record { state = freed_page (lifted_state m key root); move = Frees } in c))
      (cond (eqb n root) (Some (let c : PageChange = record { state = lowered (m root) (lifted_state m key root); move = Fills } in c)) (unlifted_change m key root (merged_levels m key root) n)))
      (unlifted_change m key root (merged_levels m key root) n)

  plan-stays : IsPlan whole (lift-change false)
  plan-stays = record { memory = λ n. (whole-reached.at n).memory; bits_are = λ n. (whole-reached.at n).bits_are; touched = λ n. (whole-reached.at n).touched; moves = λ n. (whole-reached.at n).moves }

  module _ (all : merged_levels m key root ≡ top) where
    root-none : in_merges m key root (merged_levels m key root) root ≡ None
    root-none = in_merges-above (merged_levels m key root) (omega arith) root (omega arith)

    root-change : unlifted_change m key root (merged_levels m key root) root ≡ Some (record { state = with_records (left_on m key root top) (m root); move = Takes (lost_key m key root top) })
    root-change = ap (λ o. option_or o (option_or (in_page_above m key root (merged_levels m key root) root) (in_leaf_behind m key root (merged_levels m key root) root))) root-none
        ∙ (ap (λ k. option_or (in_page_above m key root k root) (in_leaf_behind m key root k root)) all
        ∙ (ap (λ o. option_or o (in_leaf_behind m key root top root)) (cond-eq root (path top) _ _ (sym path-top))
        ∙ ap (λ q. Some (let c : PageChange = record { state = with_records (left_on m key root top) (m q); move = Takes (lost_key m key root top) } in c)) path-top))

    root-now : whole.memory root ≡ with_records (left_on m key root top) (m root)
    root-now = (whole-reached.at root).memory ∙ ap (λ c. state_or c (m root)) root-change

    root-bit : whole.bits root ≡ bits root
    root-bit = (whole-reached.at root).bits_are ∙ ap (λ c. bit_unless_freed (move_or_stays c) (bits root)) root-change

    only-now : whole.memory only ≡ lifted_state m key root
    only-now = (whole-reached.at only).memory

    plan-lifts : 0 < top → IsPlan (lifted whole root only) (lift-change true)
    plan-lifts high = record {
      memory = λ n. elim (cases_eq n only) [
        | inl e ↦ cond-eq n only (freed_page (whole.memory only)) _ e ∙ (ap freed_page only-now ∙ ap (λ c. state_or c (m n)) (sym (cond-eq n only (Some (let c : PageChange = record { state = freed_page (lifted_state m key root); move = Frees } in c)) _ e)))
        | inr nc ↦ cond-ne n only (freed_page (whole.memory only)) _ nc ∙ (elim (cases_eq n root) [
          | inl e ↦ cond-eq n root (lowered (whole.memory root) (whole.memory only)) _ e
              ∙ (ap (λ (q : PageState). lowered q (whole.memory only)) root-now ∙ (ap (lowered (m root)) only-now
              ∙ ap (λ c. state_or c (m n)) (sym (cond-ne n only _ _ nc ∙ cond-eq n root (Some (let c : PageChange = record { state = lowered (m root) (lifted_state m key root); move = Fills } in c)) _ e))))
          | inr nr ↦ cond-ne n root (lowered (whole.memory root) (whole.memory only)) _ nr ∙ ((whole-reached.at n).memory ∙ ap (λ c. state_or c (m n)) (sym (cond-ne n only _ _ nc ∙ cond-ne n root _ _ nr)))
        ])
      ];
      bits_are = λ n. elim (cases_eq n only) [
        | inl e ↦ cond-eq n only 0 (whole.bits n) e ∙ ap (λ c. bit_unless_freed (move_or_stays c) (bits n)) (sym (cond-eq n only (Some (let c : PageChange = record { state = freed_page (lifted_state m key root); move = Frees } in c)) _ e))
        | inr nc ↦ cond-ne n only 0 (whole.bits n) nc ∙ (elim (cases_eq n root) [
          | inl e ↦ subst (λ q. whole.bits q ≡ bits q) (sym e) root-bit
              ∙ ap (λ c. bit_unless_freed (move_or_stays c) (bits n)) (sym (cond-ne n only _ _ nc ∙ cond-eq n root (Some (let c : PageChange = record { state = lowered (m root) (lifted_state m key root); move = Fills } in c)) _ e))
          | inr nr ↦ (whole-reached.at n).bits_are ∙ ap (λ c. bit_unless_freed (move_or_stays c) (bits n)) (sym (cond-ne n only _ _ nc ∙ cond-ne n root _ _ nr))
        ])
      ];
      touched = λ n. elim (cases_eq n only) [
        | inl e ↦ mark-more 0 (mark only (mark root whole.touched)) n (mark-own only (mark root whole.touched) n e)
            ∙ ap (λ c. is_some c || (eqb n 0 && ltb 0 (merged_levels m key root))) (sym (cond-eq n only (Some (let c : PageChange = record { state = freed_page (lifted_state m key root); move = Frees } in c)) _ e))
        | inr nc ↦ elim (cases_eq n root) [
          | inl e ↦ mark-more 0 (mark only (mark root whole.touched)) n (mark-more only (mark root whole.touched) n (mark-own root whole.touched n e))
              ∙ ap (λ c. is_some c || (eqb n 0 && ltb 0 (merged_levels m key root))) (sym (cond-ne n only _ _ nc ∙ cond-eq n root (Some (let c : PageChange = record { state = lowered (m root) (lifted_state m key root); move = Fills } in c)) _ e))
          | inr nr ↦ elim (cases_eq n 0) [
            | inl z ↦ mark-own 0 (mark only (mark root whole.touched)) n z
                ∙ (let yes = eq-eqb n 0 z in let pos = lt-ltb 0 (merged_levels m key root) (omega arith) in rw (yes, pos) (sym (or-true (is_some (lift-change true n)))))
            | inr nz ↦ cond-ne n 0 true _ nz ∙ (cond-ne n only true _ nc ∙ (cond-ne n root true _ nr ∙ ((whole-reached.at n).touched
                ∙ ap (λ c. is_some c || (eqb n 0 && ltb 0 (merged_levels m key root))) (sym (cond-ne n only _ _ nc ∙ cond-ne n root _ _ nr)))))
          ]
        ]
      ];
      moves = λ n. elim (cases_eq n only) [
        | inl e ↦ cond-eq n only Frees _ e ∙ ap move_or_stays (sym (cond-eq n only (Some (let c : PageChange = record { state = freed_page (lifted_state m key root); move = Frees } in c)) _ e))
        | inr nc ↦ cond-ne n only Frees _ nc ∙ (elim (cases_eq n root) [
          | inl e ↦ cond-eq n root Fills _ e ∙ ap move_or_stays (sym (cond-ne n only _ _ nc ∙ cond-eq n root (Some (let c : PageChange = record { state = lowered (m root) (lifted_state m key root); move = Fills } in c)) _ e))
          | inr nr ↦ cond-ne n root Fills _ nr ∙ ((whole-reached.at n).moves ∙ ap move_or_stays (sym (cond-ne n only _ _ nc ∙ cond-ne n root _ _ nr)))
        ])
      ];
    }

  node-of : (level count : ℕ) → (nat_lt 0 level && (count == 1)) ≡ true → 0 < level
  node-of level count e = grind (arith, nat_tests)

  -- the planned delete makes of each page what its change says
  pub planned_delete-is : IsPlan (planned_delete m bits key root) (delete_change m key root)
  planned_delete-is = elim (cases_eq (merged_levels m key root) top) [
    | inr nc ↦
        let off : whole.lost ≡ false = whole-reached.lost ∙ ne_eqb (merged_levels m key root) top nc in
        let not = ne_eqb (merged_levels m key root) top nc in
        subst (λ s. IsPlan s (delete_change m key root)) (sym (lift_single-settled root whole off))
        (subst (λ b. IsPlan whole (lift-change (b && (nat_lt 0 top && (length (left_on m key root top) == 1))))) (sym not) plan-stays)
    | inl all ↦
        let on : whole.lost ≡ true = whole-reached.lost ∙ eq-eqb (merged_levels m key root) top all in
        let yes = eq-eqb (merged_levels m key root) top all in
        let Q : PageState → Type 0 = λ q. IsPlan (cond (whole.lost && (nat_lt 0 q.level && (length q.records == 1))) (lifted whole root (first_child q.records)) whole) (delete_change m key root) in
        subst Q (sym (root-now all)) (rw on (
        subst (λ b. IsPlan (cond (nat_lt 0 top && (length (left_on m key root top) == 1)) (lifted whole root only) whole) (lift-change (b && (nat_lt 0 top && (length (left_on m key root top) == 1))))) (sym yes)
        (elim (nat_lt 0 top && (length (left_on m key root top) == 1)) as (λ b. (nat_lt 0 top && (length (left_on m key root top) == 1)) ≡ b → IsPlan (cond b (lifted whole root only) whole) (lift-change b)) [
          | true ↦ λ e. plan-lifts all (node-of top (length (left_on m key root top)) e)
          | false ↦ λ e. plan-stays
        ] refl)))
  ]

  -- .. all at once
  pub planned_delete-memory : (planned_delete m bits key root).memory ≡ memory_with (delete_change m key root) m
  planned_delete-memory = λ i n. planned_delete-is.memory n i

  pub planned_delete-bits : (planned_delete m bits key root).bits ≡ bits_with (delete_change m key root) bits
  planned_delete-bits = λ i n. planned_delete-is.bits_are n i

  pub planned_delete-touched : (planned_delete m bits key root).touched ≡ touched_by (delete_change m key root) (nat_lt 0 (merged_levels m key root))
  planned_delete-touched = λ i n. planned_delete-is.touched n i

  pub planned_delete-moves : (planned_delete m bits key root).moves ≡ moves_by (delete_change m key root)
  planned_delete-moves = λ i n. planned_delete-is.moves n i
