-- A planned insert into one tree touches no page of another.
use Rattle.std.proofs.Common.{◌≡◌, ◌≢◌, ℕ, ◌<◌, ◌≤◌, ◌∙◌, [], ◌∷◌, zero, suc, inl, inr, Bool, true, false, List, length, None, refl, sym, ap, subst, arith}
use Rattle.std.proofs.lemmas.Bool.{cases_lt, cases_eq}
use Rattle.ib_map.specs.Keys.{MapKey, end_rank, rank}
use Rattle.ib_map.specs.Pairs.{value_at}
use Rattle.ib_heap.specs.declared.TheConstants.{MOST_RECORDS}
use Rattle.ib_page.specs.declared.space.TheConstants.{MAPPED_PAGES}
use Rattle.ib_walk.specs.Full.{full_run, need_of, run_of}
use Rattle.ib_walk.specs.Pages.{PageMemory}
use Rattle.ib_walk.specs.Search.{child_for, leaf_for, page_below}
use Rattle.ib_walk.specs.Trees.{IsLawful, IsLawfulUpTo, content_of, height_of, weight_of}
use Rattle.ib_walk.specs.Walk.{counts_page}
use Rattle.ib_walk.proofs.ChoiceLaws.{cond-eq, cond-ne}
use Rattle.ib_walk.proofs.SearchLaws.{above, above-zero}
use Rattle.ib_plans.specs.Insert.{AreEnough, AreFresh, Growth, first_fresh, insert_below, planned_insert, other_fresh, split, raised}
use Rattle.ib_plans.specs.Marks.{mark, untouched, with_bit}
use Rattle.ib_plans.specs.Split.{next_or}
use Rattle.ib_plans.proofs.InsertLaws.{AreFresh-first, IsInsertedBelow, IsInsertedBelow-path, PathAbove-insert, one_over, split_long-long, split_long-short}
use Rattle.ib_plans.proofs.InsertPlanLaws.{raise_long-long, raise_long-short}
use Rattle.ib_plans.proofs.LevelLaws.{above-suc}
use Rattle.ib_plans.proofs.LinkLaws.{next_or-apart}
use Rattle.ib_plans.proofs.MetLaws.{met-apart, met-clear, met-some, root-met}
use Rattle.ib_plans.proofs.NeedLaws.{IsCountedWhole, IsCountedWhole-need, full_run-le}
use Rattle.ib_plans.proofs.PathListLaws.{length-pages_up, pages_up, path_of-pages}
use Rattle.ib_plans.proofs.PageLaws.{with_bit-other}
use Rattle.ib_plans.proofs.PathLaws.{PathPage-below, page_below-child}
use Rattle.ib_pair_plans.specs.Apart.{IsApart}
use Rattle.ib_pair_plans.proofs.ChildLaws.{leaf-next_met}
use Rattle.ib_pair_plans.proofs.TreeStays.{weight-stays}

-- a page that is none of the marked ones
pub mark-other : (page : ℕ) (touched : ℕ → Bool) (n : ℕ) → n ≢ page → touched n ≡ false → mark page touched n ≡ false
mark-other page touched n ne off = cond-ne n page true (touched n) ne ∙ off

-- where the touched pages are none of another tree, a page that it met is met by it still
pub met-still : (most : ℕ → ℕ) (m now : PageMemory) (bits : ℕ → ℕ) (roots root : ℕ) (touched : ℕ → Bool) → IsLawfulUpTo most m bits roots → IsApart m roots root touched
    → ((n : ℕ) → touched n ≡ false → now n ≡ m n) → (r n : ℕ) → 0 < r → r ≤ roots → r ≢ root → 0 < weight_of (counts_page n) m r → 0 < weight_of (counts_page n) now r
met-still most m now bits roots root touched law apart rest r n some le ne met =
    let w = weight-stays most m now bits roots law r some le (λ q at. rest q (apart r q some le ne at)) (counts_page n) in omega arith

-- two fresh pages are free
two-free : (bits : ℕ → ℕ) (xs : List ℕ) → 1 < length xs → AreFresh bits xs → (bits (first_fresh xs) ≡ 0) × (bits (first_fresh (other_fresh xs)) ≡ 0)
two-free bits [] many free = absurd (omega arith)
two-free bits (x ∷ []) many free = absurd (omega arith)
two-free bits (x ∷ y ∷ xs) many free = (
  free.0,
  elim (cases_eq y x) [
    | inl e ↦ absurd (let z = cond-eq {X = ℕ} y x 1 (bits y) e in let w = free.2.0 in omega arith)
    | inr ne ↦ sym (with_bit-other x 1 bits y ne) ∙ free.2.0
  ],
)

module _ (m : PageMemory) (bits : ℕ → ℕ) (roots : ℕ) (law : IsLawful m bits roots) (key : MapKey) (value : ℕ) (in-range : rank key < end_rank)
    (root : ℕ) (some : 0 < root) (le : root ≤ roots) (fresh : List ℕ) (free : AreFresh bits fresh) (missing : value_at key (content_of m root) ≡ None) where
  -- the leaf
  apart-leaf : (page : ℕ) → leaf_for m key root ≡ page → IsApart m roots root (mark page untouched)
  apart-leaf page at r n s l ne met =
      let p = PathPage-below (λ n. MOST_RECORDS) m bits roots law key in-range root some le (height_of m root) 0 (sym (above-zero (height_of m root))) in
      mark-other page untouched n (λ e. met-apart (λ n. MOST_RECORDS) m bits roots law root some le r s l ne n (leaf_for m key root) met p.met (e ∙ sym at)) refl

  -- a split of the child of a page
  module _ (height depth page : ℕ) (tall : height_of m root ≡ above depth (suc height)) (at : page_below m key depth root ≡ page) (g : Growth)
      (was : IsInsertedBelow m roots key value root height (child_for key 0 (m page).records) g) (before : IsApart m roots root g.touched) (enough : 0 < length g.fresh) where
    abbrev c : ℕ
    c = child_for key 0 (m page).records

    abbrev q : ℕ
    q = first_fresh g.fresh

    ready : (g.bits (first_fresh g.fresh) ≡ 0) × (first_fresh g.fresh < MAPPED_PAGES) × AreFresh (with_bit (first_fresh g.fresh) 1 g.bits) (other_fresh g.fresh)
    ready = AreFresh-first g.bits g.fresh enough was.free

    child-tall : height_of g.memory root ≡ above (suc depth) height
    child-tall = let p = PathAbove-insert m bits roots law key value in-range root some le fresh free missing height depth page tall at g was in p.tall ∙ above-suc depth height

    child-at : page_below g.memory key (suc depth) root ≡ c
    child-at = let p = PathAbove-insert m bits roots law key value in-range root some le fresh free missing height depth page tall at g was in p.child_path

    page-tall : height_of g.memory root ≡ above depth (suc height)
    page-tall = let p = PathAbove-insert m bits roots law key value in-range root some le fresh free missing height depth page tall at g was in p.tall

    page-at : page_below g.memory key depth root ≡ page
    page-at = let p = PathAbove-insert m bits roots law key value in-range root some le fresh free missing height depth page tall at g was in p.path

    child-met : 1 ≤ weight_of (counts_page c) g.memory root
    child-met = subst (λ n. 1 ≤ weight_of (counts_page n) g.memory root) child-at (PathPage-below (one_over c) g.memory g.bits roots was.lawful key in-range root some le (suc depth) height child-tall).met

    page-met : 1 ≤ weight_of (counts_page page) g.memory root
    page-met = subst (λ n. 1 ≤ weight_of (counts_page n) g.memory root) page-at (PathPage-below (one_over c) g.memory g.bits roots was.lawful key in-range root some le depth (suc height) page-tall).met

    next-met : (g.memory c).next ≢ 0 → 1 ≤ weight_of (counts_page (g.memory c).next) g.memory root
    next-met ne = elim (cases_eq height 0) [
      | inr up ↦ absurd (ne ((was.lawful.sound c (met-some (one_over c) g.memory g.bits roots was.lawful root some le c child-met)).node (let l = was.level in omega (arith, up))).1)
      | inl z ↦
          let e : height_of g.memory root ≡ suc depth = child-tall ∙ (ap (above (suc depth)) z ∙ above-zero (suc depth)) in
          let leaf : leaf_for g.memory key root ≡ c = ap (λ h. page_below g.memory key h root) e ∙ child-at in
          subst (λ n. 1 ≤ weight_of (counts_page (g.memory n).next) g.memory root) leaf
          (leaf-next_met (one_over c) g.memory g.bits roots key root was.lawful some le in-range (λ y. ne (ap (λ n. (g.memory n).next) (sym leaf) ∙ y)))
    ]

    apart-split : IsApart m roots root (split page c g).touched
    apart-split r n s l ne met =
        let still = met-still (λ n. MOST_RECORDS) m g.memory bits roots root g.touched law before was.rest r n s l ne met in
        let other : (p : ℕ) → 1 ≤ weight_of (counts_page p) g.memory root → n ≢ p = λ p. met-apart (one_over c) g.memory g.bits roots was.lawful root some le r s l ne n p still in
        let not-fresh : n ≢ q = met-clear (one_over c) g.memory g.bits roots was.lawful r s l n q still ready.0 in
        mark-other 0 (mark q (mark c (mark page (mark (next_or q (g.memory c)) g.touched)))) n (met-some (one_over c) g.memory g.bits roots was.lawful r s l n still)
        (mark-other q (mark c (mark page (mark (next_or q (g.memory c)) g.touched))) n not-fresh
        (mark-other c (mark page (mark (next_or q (g.memory c)) g.touched)) n (other c child-met)
        (mark-other page (mark (next_or q (g.memory c)) g.touched) n (other page page-met)
        (mark-other (next_or q (g.memory c)) g.touched n (next_or-apart q (g.memory c) n not-fresh (λ there. other (g.memory c).next (next-met there)))
        (before r n s l ne met)))))

  -- so it is on each level of the key's path
  apart-below : (height depth page : ℕ) → height_of m root ≡ above depth height → page_below m key depth root ≡ page → AreEnough m bits fresh key value height page
      → IsApart m roots root (insert_below m bits fresh key value height page).touched
  apart-below zero depth page tall at enough = apart-leaf page (ap (λ h. page_below m key h root) (tall ∙ above-zero depth) ∙ at)
  apart-below (suc height) depth page tall at enough =
      let child : page_below m key (suc depth) root ≡ child_for key 0 (m page).records = page_below-child m key depth root ∙ ap (λ n. child_for key 0 (m n).records) at in
      let g = insert_below m bits fresh key value height (child_for key 0 (m page).records) in
      let before = apart-below height (suc depth) (child_for key 0 (m page).records) (tall ∙ above-suc depth height) child enough.0 in
      let was = IsInsertedBelow-path m bits roots law key value in-range root some le fresh free missing height (suc depth) (child_for key 0 (m page).records) (tall ∙ above-suc depth height) child enough.0 in
      elim (cases_lt MOST_RECORDS (length (g.memory (child_for key 0 (m page).records)).records)) [
        | inl over ↦
            let e = split_long-long page (child_for key 0 (m page).records) g over in
            subst (λ (k : Growth). IsApart m roots root k.touched) (sym e) (apart-split height depth page tall at g was before (enough.1 over))
        | inr short ↦
            let e = split_long-short page (child_for key 0 (m page).records) g short in
            subst (λ (k : Growth). IsApart m roots root k.touched) (sym e) before
      ]

  abbrev whole : Growth
  whole = insert_below m bits fresh key value (height_of m root) root

  -- the raise of the root
  apart-raised : IsInsertedBelow m roots key value root (height_of m root) root whole → IsApart m roots root whole.touched → 1 < length whole.fresh → IsApart m roots root (raised root whole).touched
  apart-raised was before many r n s l ne met =
      let still = met-still (λ n. MOST_RECORDS) m whole.memory bits roots root whole.touched law before was.rest r n s l ne met in
      let ready = two-free whole.bits whole.fresh many was.free in
      let left = first_fresh whole.fresh in
      let right = first_fresh (other_fresh whole.fresh) in
      mark-other 0 (mark left (mark right (mark root whole.touched))) n (met-some (one_over root) whole.memory whole.bits roots was.lawful r s l n still)
      (mark-other left (mark right (mark root whole.touched)) n (met-clear (one_over root) whole.memory whole.bits roots was.lawful r s l n left still ready.0)
      (mark-other right (mark root whole.touched) n (met-clear (one_over root) whole.memory whole.bits roots was.lawful r s l n right still ready.1)
      (mark-other root whole.touched n (met-apart (one_over root) whole.memory whole.bits roots was.lawful root some le r s l ne n root still (root-met whole.memory root))
      (before r n s l ne met))))

  run-most : run_of m key root ≤ suc (height_of m root)
  run-most =
      let e = ap (full_run m) (path_of-pages m key root in-range (law.trees root some le).0) in
      let a = full_run-le m (pages_up m key (height_of m root) root) in
      let b = length-pages_up m key (height_of m root) root in omega arith

  pub fresh-two : MOST_RECORDS < length (whole.memory root).records → IsCountedWhole m bits roots law key value in-range root some le fresh free missing → 1 < length whole.fresh
  fresh-two over w = elim (cases_lt (run_of m key root) (suc (height_of m root))) [
    | inl lt ↦ absurd (let u = (w.under (omega arith)).0 in omega arith)
    | inr ge ↦ (w.over (let a = run-most in omega arith)).2
  ]

  -- the whole insert
  pub IsApart-insert : need_of m key root ≤ length fresh → IsApart m roots root (planned_insert m bits fresh key value root).touched
  IsApart-insert room =
      let w = IsCountedWhole-need m bits roots law key value in-range root some le fresh free missing room in
      let before = apart-below (height_of m root) 0 root refl refl w.enough in
      let was = IsInsertedBelow-path m bits roots law key value in-range root some le fresh free missing (height_of m root) 0 root refl refl w.enough in
      elim (cases_lt MOST_RECORDS (length (whole.memory root).records)) [
        | inr short ↦ subst (λ (k : Growth). IsApart m roots root k.touched) (sym (raise_long-short root whole short)) before
        | inl over ↦
            subst (λ (k : Growth). IsApart m roots root k.touched) (sym (raise_long-long root whole over)) (apart-raised was before (fresh-two over w))
      ]
