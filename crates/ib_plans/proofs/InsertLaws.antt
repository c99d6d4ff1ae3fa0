-- A planned insert, level by level: the pair in its leaf, and a split of each page below the root that has one record too many.
use Rattle.std.specs.List.{AllByRecursion}
use Rattle.std.proofs.Common.{◌≡◌, ◌≢◌, ℕ, ◌<◌, ◌≤◌, ◌∙◌, [], ◌∷◌, zero, suc, inl, inr, false, cond, List, length, None, refl, sym, ap, subst, arith, eqb}
use Rattle.std.proofs.lemmas.Bool.{cases_lt, cases_eq, lt-ltb, le-ltb}
use Rattle.std.proofs.lemmas.Bool.Decides.{nat_tests}
use Rattle.ib_map.specs.Keys.{MapKey, end_rank, rank}
use Rattle.ib_map.specs.Pairs.{put, value_at}
use Rattle.ib_map.proofs.PairLaws.{length-put}
use Rattle.ib_heap.specs.declared.TheConstants.{MOST_RECORDS}
use Rattle.ib_page.specs.declared.space.TheConstants.{MAPPED_PAGES}
use Rattle.ib_walk.specs.Pages.{PageMemory, PageState, Tree}
use Rattle.ib_walk.specs.Search.{child_for, leaf_for, page_below}
use Rattle.ib_walk.specs.Trees.{IsLawful, IsLawfulUpTo, content_of, height_of, weight_of}
use Rattle.ib_walk.specs.Walk.{Visit}
use Rattle.ib_walk.proofs.ChoiceLaws.{cond-eq, cond-ne}
use Rattle.ib_walk.proofs.LeafLaws.{IsLawful-edit, IsLeafEdit-insert, IsLeafInsert, content_of-insert, content_of-other, weight_of-edit}
use Rattle.ib_walk.proofs.SearchLaws.{above, above-zero}
use Rattle.ib_walk.proofs.TreeLaws.{value_at-content_of}
use Rattle.ib_plans.specs.Insert.{AreEnough, AreFresh, Growth, first_fresh, insert_below, put_at, other_fresh, split, split_long}
use Rattle.ib_plans.specs.Marks.{mark, untouched, with_bit}
use Rattle.ib_plans.specs.Split.{first_key, next_or, right_part, split_page, with_records}
use Rattle.ib_plans.specs.declared.TheConstants.{LEFT_RECORDS}
use Rattle.ib_plans.proofs.LevelLaws.{above-suc}
use Rattle.ib_plans.proofs.LinkLaws.{NextLeaf, NextLeaf-leaf_for, next_or-apart}
use Rattle.ib_plans.proofs.MetLaws.{clear-some}
use Rattle.ib_plans.proofs.PageLaws.{IsAway, IsAway-on, IsAway-own, IsLawfulUpTo-narrow, mark-off, with_bit-other, with_bit-own}
use Rattle.ib_plans.proofs.PathLaws.{PathAbove, PathAbove-changed, PathPage, PathPage-below, PathPage-child, PathPage-other, page_below-child}
use Rattle.ib_plans.proofs.RecordLaws.{Halves, Halves-of}
use Rattle.ib_plans.proofs.SplitLaws.{IsLawful-split, IsRelinked, content_of-split, weight_of-split_away}
use Rattle.ib_plans.proofs.SplitPageLaws.{IsRelinked-pages, IsSplit-pages, SplitPages, parent-after_split, parent-not_child, parent-not_fresh, split_page-other}
use Rattle.ib_plans.proofs.SplitWalkLaws.{IsSplit}

-- the first of the fresh pages is free, and so are the others after it was taken
pub AreFresh-first : (bits : ℕ → ℕ) (xs : List ℕ) → 0 < length xs → AreFresh bits xs
    → (bits (first_fresh xs) ≡ 0) × (first_fresh xs < MAPPED_PAGES) × AreFresh (with_bit (first_fresh xs) 1 bits) (other_fresh xs)
AreFresh-first bits [] some h = absurd (omega arith)
AreFresh-first bits (x ∷ xs) some h = h

-- what holds of each page whose bit is clear holds of each fresh page
pub AreFresh-each : (bits : ℕ → ℕ) (xs : List ℕ) → AreFresh bits xs → (P : ℕ → Type 0) → ((n : ℕ) → bits n ≡ 0 → P n) → AllByRecursion P xs
AreFresh-each bits [] h P so = tt
AreFresh-each bits (x ∷ xs) h P so = (
  so x h.0,
  AreFresh-each (with_bit x 1 bits) xs h.2 P (λ n clear. so n
      (elim (cases_eq n x) [
        | inl e ↦ absurd (let y = cond-eq {X = ℕ} n x 1 (bits n) e in omega arith)
        | inr ne ↦ sym (with_bit-other x 1 bits n ne) ∙ clear
      ])),
)

-- one page may have one record too many
abbrev pub one_over : ℕ → ℕ → ℕ
one_over page n = cond (eqb n page) (suc MOST_RECORDS) MOST_RECORDS

-- the limit of that page, of each other one, and of any
pub one_over-own : (page : ℕ) → one_over page page ≡ suc MOST_RECORDS
one_over-own page = cond-eq {X = ℕ} page page (suc MOST_RECORDS) MOST_RECORDS refl

pub one_over-other : (page n : ℕ) → n ≢ page → one_over page n ≡ MOST_RECORDS
one_over-other page n ne = cond-ne {X = ℕ} n page (suc MOST_RECORDS) MOST_RECORDS ne

pub one_over-ge : (page n : ℕ) → MOST_RECORDS ≤ one_over page n
one_over-ge page n = grind (arith, nat_tests)

-- a child that is short enough stays as it is, and one that is not is split
pub split_long-short : (parent child : ℕ) (g : Growth) → length (g.memory child).records ≤ MOST_RECORDS → split_long parent child g ≡ g
split_long-short parent child g short = let no = le-ltb MOST_RECORDS (length (g.memory child).records) short in rw no refl

pub split_long-long : (parent child : ℕ) (g : Growth) → MOST_RECORDS < length (g.memory child).records → split_long parent child g ≡ split parent child g
split_long-long parent child g long = let yes = lt-ltb MOST_RECORDS (length (g.memory child).records) long in rw yes refl

-- what holds once the pair is in its leaf and the pages below this one are short enough: trees that are lawful but for the records
-- of this page, which has one too many at most, the pages above as they were, and the content with the pair put in
pub record IsInsertedBelow (m : PageMemory) (roots : ℕ) (key : MapKey) (value root height page : ℕ) (g : Growth) : Type 0 where
  pub lawful : IsLawfulUpTo (one_over page) g.memory g.bits roots
  pub free : AreFresh g.bits g.fresh
  pub kind : (g.memory page).kind ≡ Tree
  pub level : (g.memory page).level ≡ height
  pub upper : (n : ℕ) → (m n).kind ≡ Tree → height ≤ (m n).level → n ≢ page → g.memory n ≡ m n
  pub holds : content_of g.memory root ≡ put key value (content_of m root)
  pub others : (r : ℕ) → 0 < r → r ≤ roots → r ≢ root → content_of g.memory r ≡ content_of m r
  pub ranges : (f : ℕ → Visit → ℕ) → IsAway g.touched f → (r : ℕ) → 0 < r → r ≤ roots → weight_of f g.memory r ≡ weight_of f m r
  pub rest : (n : ℕ) → g.touched n ≡ false → g.memory n ≡ m n

module _ (m : PageMemory) (bits : ℕ → ℕ) (roots : ℕ) (law : IsLawful m bits roots) (key : MapKey) (value : ℕ) (in-range : rank key < end_rank)
    (root : ℕ) (some : 0 < root) (le : root ≤ roots) (fresh : List ℕ) (free : AreFresh bits fresh) (missing : value_at key (content_of m root) ≡ None) where
  -- the pair goes into the leaf of the key
  leaf-page : PathPage m 0 root (leaf_for m key root)
  leaf-page = PathPage-below (λ n. MOST_RECORDS) m bits roots law key in-range root some le (height_of m root) 0 (sym (above-zero (height_of m root)))

  put-now : put_at m (leaf_for m key root) key value (leaf_for m key root) ≡ with_records (put key value (m (leaf_for m key root)).records) (m (leaf_for m key root))
  put-now = cond-eq (leaf_for m key root) (leaf_for m key root) (with_records (put key value (m (leaf_for m key root)).records) (m (leaf_for m key root))) (m (leaf_for m key root)) refl

  put-other : (n : ℕ) → n ≢ leaf_for m key root → put_at m (leaf_for m key root) key value n ≡ m n
  put-other n ne = cond-ne n (leaf_for m key root) (with_records (put key value (m (leaf_for m key root)).records) (m (leaf_for m key root))) (m n) ne

  insert : IsLeafInsert m (put_at m (leaf_for m key root) key value) key value (leaf_for m key root)
  insert = record {
    other = put-other;
    kind = ap (λ (p : PageState). p.kind) put-now;
    level = ap (λ (p : PageState). p.level) put-now;
    links = record { prev = ap (λ (p : PageState). p.prev) put-now; next = ap (λ (p : PageState). p.next) put-now };
    records = ap (λ (p : PageState). p.records) put-now;
    missing = sym (value_at-content_of m key root in-range (law.trees root some le).0) ∙ missing;
  }

  in-leaf : IsInsertedBelow m roots key value root 0 (leaf_for m key root) (insert_below m bits fresh key value 0 (leaf_for m key root))
  in-leaf =
      let e = IsLeafEdit-insert m (put_at m (leaf_for m key root) key value) key value (leaf_for m key root) insert in
      let p = leaf-page in
      record {
        lawful = IsLawful-edit (λ n. MOST_RECORDS) m (put_at m (leaf_for m key root) key value) bits roots key root law some le in-range e (one_over (leaf_for m key root))
            (λ n ne. let x = one_over-other (leaf_for m key root) n ne in omega arith)
            (let x = one_over-own (leaf_for m key root) in let y = ap length insert.records in let z = length-put key value (m (leaf_for m key root)).records in
            let s = (law.sound (leaf_for m key root) p.some).short in omega arith);
        free = free;
        kind = insert.kind ∙ p.kind;
        level = insert.level ∙ p.level;
        upper = λ n k l ne. put-other n ne;
        holds = content_of-insert (λ n. MOST_RECORDS) m (put_at m (leaf_for m key root) key value) bits roots key value root law some le in-range insert;
        others = content_of-other (λ n. MOST_RECORDS) m (put_at m (leaf_for m key root) key value) bits roots key root law some le in-range e;
        ranges = λ f away r a b. weight_of-edit (λ n. MOST_RECORDS) m (put_at m (leaf_for m key root) key value) bits roots key root law some le in-range e f r a b;
        rest = λ n off. put-other n (mark-off (leaf_for m key root) untouched n off).0;
      }

  -- one level more: the page of the path above the one that has been come to
  module _ (height depth page : ℕ) (tall : height_of m root ≡ above depth (suc height)) (is-page-at : page_below m key depth root ≡ page) (g : Growth)
      (was : IsInsertedBelow m roots key value root height (child_for key 0 (m page).records) g) where
    -- a page above the child is another one
    above-other : (n : ℕ) → height < (m n).level → n ≢ child_for key 0 (m page).records
    above-other = PathPage-other m height root (child_for key 0 (m page).records) (PathPage-child (λ n. MOST_RECORDS) m bits roots law key in-range root some le depth height page tall is-page-at)

    -- the page is as it was, and the path leads to it still
    pub PathAbove-insert : PathAbove m g.memory key root depth height page
    PathAbove-insert = PathAbove-changed (λ n. MOST_RECORDS) m g.memory bits roots law key in-range root some le depth height page tall is-page-at
        (λ n k l. was.upper n k (omega arith) (above-other n l))

    page-level : (g.memory page).level ≡ suc height
    page-level = ap (λ (p : PageState). p.level) PathAbove-insert.same ∙ PathAbove-insert.level

    page-kind : (g.memory page).kind ≡ Tree
    page-kind = ap (λ (p : PageState). p.kind) PathAbove-insert.same ∙ PathAbove-insert.kind

    -- the child is short enough
    stay : length (g.memory (child_for key 0 (m page).records)).records ≤ MOST_RECORDS → IsInsertedBelow m roots key value root (suc height) page g
    stay short = record {
      lawful = IsLawfulUpTo-narrow (one_over (child_for key 0 (m page).records)) (one_over page) g.memory g.bits roots was.lawful (λ n. elim (cases_eq n (child_for key 0 (m page).records)) [
        | inl e ↦ inr (let x = ap (λ q. length (g.memory q).records) e in let y = one_over-ge page n in omega arith)
        | inr ne ↦ inl (let x = one_over-other (child_for key 0 (m page).records) n ne in let y = one_over-ge page n in omega arith)
      ]);
      free = was.free;
      kind = page-kind;
      level = page-level;
      upper = λ n k l ne. was.upper n k (omega arith) (above-other n (omega arith));
      holds = was.holds;
      others = was.others;
      ranges = was.ranges;
      rest = was.rest;
    }

    -- the child is split
    module _ (over : MOST_RECORDS < length (g.memory (child_for key 0 (m page).records)).records) (enough : 0 < length g.fresh) where
      abbrev c : ℕ
      c = child_for key 0 (m page).records

      abbrev q : ℕ
      q = first_fresh g.fresh

      abbrev now : PageMemory
      now = split_page g.memory page (child_for key 0 (m page).records) (first_fresh g.fresh)

      ready : (g.bits (first_fresh g.fresh) ≡ 0) × (first_fresh g.fresh < MAPPED_PAGES) × AreFresh (with_bit (first_fresh g.fresh) 1 g.bits) (other_fresh g.fresh)
      ready = AreFresh-first g.bits g.fresh enough was.free

      child-leaf : height ≡ 0 → leaf_for g.memory key root ≡ child_for key 0 (m page).records
      child-leaf z =
          let e : height_of g.memory root ≡ suc depth = PathAbove-insert.tall ∙ (above-suc depth height ∙ ap suc (ap (above depth) z ∙ above-zero depth)) in
          ap (λ h. page_below g.memory key h root) e ∙ PathAbove-insert.child_path

      child-some : child_for key 0 (m page).records ≢ 0
      child-some = PathAbove-insert.child_page.some

      node : 0 < height → (g.memory c).next ≡ 0
      node up = ((was.lawful.sound c child-some).node (let x = was.level in omega arith)).1

      -- the pages of the split
      pub split-pages : SplitPages g.memory height page c q
      split-pages = record {
        parent_kind = page-kind;
        parent_level = page-level;
        parent_some = λ e. (PathPage-below (one_over c) g.memory g.bits roots was.lawful key in-range root some le depth (suc height) PathAbove-insert.tall).some (PathAbove-insert.path ∙ e);
        child_kind = was.kind;
        child_level = was.level;
        child_some = child-some;
        fresh_kind = was.lawful.unmet (first_fresh g.fresh) ready.0;
        fresh_some = clear-some (one_over c) g.memory g.bits roots was.lawful (first_fresh g.fresh) ready.0;
        node = node;
        behind = λ ne.
            let zero : height ≡ 0 = elim (cases_eq height 0) [ inl z ↦ z | inr up ↦ absurd (ne (node (omega (arith, up)))) ] in
            let e = child-leaf zero in
            subst (NextLeaf g.memory) e (NextLeaf-leaf_for (one_over c) g.memory g.bits roots key root was.lawful some le in-range (λ i. ne (ap (λ n. (g.memory n).next) (sym e) ∙ i)));
      }

      -- the page has one record more than it had
      pub page-after_split : split_page g.memory page c q page ≡ with_records (put (first_key (right_part (g.memory c).records)) q (m page).records) (m page)
      page-after_split =
          parent-after_split g.memory height page (child_for key 0 (m page).records) (first_fresh g.fresh) split-pages
          ∙ ap (λ (p : PageState). with_records (put (first_key (right_part (g.memory c).records)) q p.records) p) PathAbove-insert.same

      page-some : page ≢ 0
      page-some = split-pages.parent_some

      parts : Halves LEFT_RECORDS (g.memory (child_for key 0 (m page).records)).records
      parts = Halves-of LEFT_RECORDS (g.memory (child_for key 0 (m page).records)).records (omega arith)

      abbrev the-split : IsSplit g.memory now page c q
      the-split = IsSplit-pages g.memory height page (child_for key 0 (m page).records) (first_fresh g.fresh) split-pages parts

      the-links : IsRelinked g.memory now c q
      the-links = IsRelinked-pages g.memory height page (child_for key 0 (m page).records) (first_fresh g.fresh) split-pages

      page-not_child : page ≢ c
      page-not_child = parent-not_child g.memory height page (child_for key 0 (m page).records) (first_fresh g.fresh) split-pages

      page-not_fresh : page ≢ q
      page-not_fresh = parent-not_fresh g.memory height page (child_for key 0 (m page).records) (first_fresh g.fresh) split-pages

      upper-now : (n : ℕ) → (m n).kind ≡ Tree → suc height ≤ (m n).level → n ≢ page → split_page g.memory page c q n ≡ m n
      upper-now n k l ne =
          let same = was.upper n k (omega arith) (above-other n (omega arith)) in
          let up = ap (λ (p : PageState). p.level) same in
          let not-fresh : n ≢ q = λ e. (let y = ap (λ (p : PageState). p.kind) same in let z = ap (λ i. (g.memory i).kind) e in let w = split-pages.fresh_kind in cc) in
          split_page-other g.memory page c q n not-fresh
          (λ e. let x = ap (λ i. (g.memory i).level) e in let y = was.level in omega arith)
          ne
          (next_or-apart q (g.memory c) n not-fresh (λ some e. let x = (split-pages.behind some).level in let y = ap (λ i. (g.memory i).level) e in omega arith))
          ∙ same

      kept : (r : ℕ) → 0 < r → r ≤ roots → content_of now r ≡ content_of g.memory r
      kept = content_of-split (one_over c) g.memory now g.bits roots was.lawful key in-range root some le depth height PathAbove-insert.tall page c q PathAbove-insert.path PathAbove-insert.child
          ready.0 ready.1 the-split the-links

      go : IsInsertedBelow m roots key value root (suc height) page (split page c g)
      go = record {
        lawful = IsLawful-split (one_over c) g.memory (split_page g.memory page c q) g.bits roots was.lawful key in-range root some le depth height PathAbove-insert.tall page c q PathAbove-insert.path PathAbove-insert.child
            ready.0 ready.1 the-split the-links (one_over page) (with_bit q 1 g.bits) (with_bit-own q 1 g.bits) (λ n ne. with_bit-other q 1 g.bits n ne)
            (λ n np nc nf. let x = one_over-other page n np in let y = one_over-other c n nc in omega arith)
            (let x = one_over-own page in let y = ap length the-split.parent_records in let z = length-put the-split.first.0 q (g.memory page).records in
            let s = (was.lawful.sound page page-some).short in let w = one_over-other c page page-not_child in omega arith)
            (let x = one_over-other page c (λ e. page-not_child (sym e)) in let y = parts.left in omega arith)
            (let x = one_over-other page q (λ e. page-not_fresh (sym e)) in let y = parts.count in let s = (was.lawful.sound c child-some).short in let w = one_over-own c in omega arith);
        free = ready.2;
        kind = the-split.parent_kind ∙ page-kind;
        level = the-split.parent_level ∙ page-level;
        upper = upper-now;
        holds = kept root some le ∙ was.holds;
        others = λ r s l ne. kept r s l ∙ was.others r s l ne;
        ranges = λ f away r a b.
            let on-fresh = IsAway-on 0 (mark q (mark c (mark page (mark (next_or q (g.memory c)) g.touched)))) f away in
            let on-child = IsAway-on q (mark c (mark page (mark (next_or q (g.memory c)) g.touched))) f on-fresh in
            let on-page = IsAway-on c (mark page (mark (next_or q (g.memory c)) g.touched)) f on-child in
            let on-next = IsAway-on page (mark (next_or q (g.memory c)) g.touched) f on-page in
            weight_of-split_away (one_over c) g.memory now g.bits roots was.lawful key in-range root some le depth height PathAbove-insert.tall page c q PathAbove-insert.path PathAbove-insert.child
            ready.0 ready.1 the-split the-links f (IsAway-own c (mark page (mark (next_or q (g.memory c)) g.touched)) f on-child)
            (IsAway-own q (mark c (mark page (mark (next_or q (g.memory c)) g.touched))) f on-fresh) r a b
            ∙ was.ranges f (IsAway-on (next_or q (g.memory c)) g.touched f on-next) r a b;
        rest = λ n off.
            let z = mark-off 0 (mark q (mark c (mark page (mark (next_or q (g.memory c)) g.touched)))) n off in
            let a = mark-off q (mark c (mark page (mark (next_or q (g.memory c)) g.touched))) n z.1 in
            let b = mark-off c (mark page (mark (next_or q (g.memory c)) g.touched)) n a.1 in
            let d = mark-off page (mark (next_or q (g.memory c)) g.touched) n b.1 in
            let e = mark-off (next_or q (g.memory c)) g.touched n d.1 in
            split_page-other g.memory page c q n a.0 b.0 d.0 e.0 ∙ was.rest n e.1;
      }

    -- so the step keeps what holds
    pub IsInsertedBelow-step : (MOST_RECORDS < length (g.memory (child_for key 0 (m page).records)).records → 0 < length g.fresh)
        → IsInsertedBelow m roots key value root (suc height) page (split_long page (child_for key 0 (m page).records) g)
    IsInsertedBelow-step enough =
        elim (cases_lt MOST_RECORDS (length (g.memory (child_for key 0 (m page).records)).records)) [
          | inl over ↦ let yes = lt-ltb MOST_RECORDS (length (g.memory (child_for key 0 (m page).records)).records) over in rw yes (go over (enough over))
          | inr short ↦ let no = le-ltb MOST_RECORDS (length (g.memory (child_for key 0 (m page).records)).records) short in rw no (stay short)
        ]

  -- so it holds at each height of the key's path, where there are enough fresh pages
  pub IsInsertedBelow-path : (height depth page : ℕ) → height_of m root ≡ above depth height → page_below m key depth root ≡ page → AreEnough m bits fresh key value height page
      → IsInsertedBelow m roots key value root height page (insert_below m bits fresh key value height page)
  IsInsertedBelow-path zero depth page tall at enough =
      let e : leaf_for m key root ≡ page = ap (λ h. page_below m key h root) (tall ∙ above-zero depth) ∙ at in
      let P : ℕ → Type 0 = λ n. IsInsertedBelow m roots key value root 0 n (insert_below m bits fresh key value 0 n) in
      subst P e in-leaf
  IsInsertedBelow-path (suc height) depth page tall at enough =
      IsInsertedBelow-step height depth page tall at (insert_below m bits fresh key value height (child_for key 0 (m page).records))
      (IsInsertedBelow-path height (suc depth) (child_for key 0 (m page).records) (tall ∙ above-suc depth height) (page_below-child m key depth root ∙ ap (λ n. child_for key 0 (m n).records) at) enough.0)
      enough.1
