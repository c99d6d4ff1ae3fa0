-- A whole planned insert: after the pages below it, the root is raised where it has one record too many.
use Rattle.std.proofs.Common.{◌≡◌, ◌≢◌, ℕ, ◌<◌, ◌≤◌, ◌∙◌, [], ◌∷◌, suc, inl, inr, false, List, length, None, refl, sym, ap, arith}
use Rattle.std.proofs.lemmas.Bool.{cases_lt, cases_eq, lt-ltb, le-ltb}
use Rattle.ib_map.specs.Keys.{MapKey, end_rank, least, rank}
use Rattle.ib_map.specs.Pairs.{put, value_at}
use Rattle.ib_heap.specs.declared.TheConstants.{MOST_RECORDS}
use Rattle.ib_page.specs.declared.space.TheConstants.{MAPPED_PAGES}
use Rattle.ib_walk.specs.Pages.{Free, PageMemory, PageState, Tree}
use Rattle.ib_walk.specs.Trees.{IsLawful, content_of, height_of, most_height, weight_of}
use Rattle.ib_walk.specs.Walk.{Visit}
use Rattle.ib_walk.proofs.ChoiceLaws.{cond-eq}
use Rattle.ib_plans.specs.Insert.{AreEnough, AreFresh, Growth, first_fresh, insert_below, planned_insert, raise_long, raised, other_fresh}
use Rattle.ib_plans.specs.Marks.{mark, with_bit}
use Rattle.ib_plans.specs.Split.{first_key, raise_page, right_part}
use Rattle.ib_plans.specs.declared.TheConstants.{LEFT_RECORDS}
use Rattle.ib_plans.proofs.InsertLaws.{IsInsertedBelow, IsInsertedBelow-path, one_over, one_over-other, one_over-own}
use Rattle.ib_plans.proofs.PageLaws.{IsAway, IsAway-on, IsAway-own, IsLawfulUpTo-narrow, mark-off, with_bit-other, with_bit-own}
use Rattle.ib_plans.proofs.RaiseLaws.{IsRaised, weight_of-raise_away, content_of-raise, IsLawful-raise}
use Rattle.ib_plans.proofs.RaisePageLaws.{IsRaised-page, raise_page-links, raise_page-other, raise_page-root}
use Rattle.ib_plans.proofs.RecordLaws.{Halves, Halves-of}

-- a root that is short enough stays as it is, and one that is not is raised
pub raise_long-short : (root : ℕ) (g : Growth) → length (g.memory root).records ≤ MOST_RECORDS → raise_long root g ≡ g
raise_long-short root g short = let no = le-ltb MOST_RECORDS (length (g.memory root).records) short in rw no refl

pub raise_long-long : (root : ℕ) (g : Growth) → MOST_RECORDS < length (g.memory root).records → raise_long root g ≡ raised root g
raise_long-long root g long = let yes = lt-ltb MOST_RECORDS (length (g.memory root).records) long in rw yes refl

-- the first two fresh pages are free, and two pages
two-fresh : (bits : ℕ → ℕ) (xs : List ℕ) → 1 < length xs → AreFresh bits xs
    → (bits (first_fresh xs) ≡ 0) × (first_fresh xs < MAPPED_PAGES) × (bits (first_fresh (other_fresh xs)) ≡ 0) × (first_fresh (other_fresh xs) < MAPPED_PAGES) × (first_fresh xs ≢ first_fresh (other_fresh xs))
two-fresh bits [] h f = absurd (omega arith)
two-fresh bits (x ∷ []) h f = absurd (omega arith)
two-fresh bits (x ∷ y ∷ xs) h f =
    let ne : x ≢ y = λ e. (let z = cond-eq {X = ℕ} y x 1 (bits y) (sym e) in let w = f.2.0 in omega arith) in
    (f.0, f.1, sym (with_bit-other x 1 bits y (λ e. ne (sym e))) ∙ f.2.0, f.2.1, ne)

-- what holds after a planned insert of a key that is not there
pub record IsPlannedInsert (m : PageMemory) (roots : ℕ) (key : MapKey) (value root : ℕ) (g : Growth) : Type 0 where
  pub lawful : IsLawful g.memory g.bits roots
  pub holds : content_of g.memory root ≡ put key value (content_of m root)
  pub others : (r : ℕ) → 0 < r → r ≤ roots → r ≢ root → content_of g.memory r ≡ content_of m r
  pub ranges : (f : ℕ → Visit → ℕ) → IsAway g.touched f → (r : ℕ) → 0 < r → r ≤ roots → weight_of f g.memory r ≡ weight_of f m r
  pub rest : (n : ℕ) → g.touched n ≡ false → g.memory n ≡ m n

module _ (m : PageMemory) (roots : ℕ) (key : MapKey) (value root : ℕ) (some : 0 < root) (le : root ≤ roots) (g : Growth)
    (was : IsInsertedBelow m roots key value root (height_of m root) root g) where
  -- the root is short enough
  stay : length (g.memory root).records ≤ MOST_RECORDS → IsPlannedInsert m roots key value root g
  stay short = record {
    lawful = IsLawfulUpTo-narrow (one_over root) (λ n. MOST_RECORDS) g.memory g.bits roots was.lawful (λ n. elim (cases_eq n root) [
      | inl e ↦ inr (let x = ap (λ q. length (g.memory q).records) e in omega arith)
      | inr ne ↦ inl (let x = one_over-other root n ne in omega arith)
    ]);
    holds = was.holds;
    others = was.others;
    ranges = was.ranges;
    rest = was.rest;
  }

  -- the root is raised
  module _ (over : MOST_RECORDS < length (g.memory root).records) (enough : 1 < length g.fresh) (low : height_of m root < most_height roots) where
    abbrev a : ℕ
    a = first_fresh g.fresh

    abbrev b : ℕ
    b = first_fresh (other_fresh g.fresh)

    abbrev now : PageMemory
    now = raise_page g.memory root (first_fresh g.fresh) (first_fresh (other_fresh g.fresh))

    ready : (g.bits a ≡ 0) × (a < MAPPED_PAGES) × (g.bits b ≡ 0) × (b < MAPPED_PAGES) × (a ≢ b)
    ready = two-fresh g.bits g.fresh enough was.free

    a-free : (g.memory a).kind ≡ Free
    a-free = was.lawful.unmet a ready.0

    b-free : (g.memory b).kind ≡ Free
    b-free = was.lawful.unmet b ready.2

    root-not_a : root ≢ a
    root-not_a e = let x = ap (λ q. (g.memory q).kind) e in let y = was.kind in let z = a-free in cc

    root-not_b : root ≢ b
    root-not_b e = let x = ap (λ q. (g.memory q).kind) e in let y = was.kind in let z = b-free in cc

    parts : Halves LEFT_RECORDS (g.memory root).records
    parts = Halves-of LEFT_RECORDS (g.memory root).records (omega arith)

    abbrev the-raise : IsRaised g.memory now root a b (g.memory root).level
    the-raise = IsRaised-page g.memory root a b root-not_a root-not_b ready.4 a-free b-free parts

    root-now : now root ≡ record {
      kind = Tree;
      level = suc (g.memory root).level;
      prev = 0;
      next = 0;
      clock = (g.memory root).clock;
      records = (least, a) ∷ (first_key (right_part (g.memory root).records), b) ∷ [];
    }
    root-now = raise_page-root g.memory root a b root-not_a root-not_b ready.4 a-free b-free parts

    other-now : (n : ℕ) → n ≢ root → n ≢ a → n ≢ b → now n ≡ g.memory n
    other-now = raise_page-other g.memory root a b root-not_a root-not_b ready.4 a-free b-free parts

    links-now : 0 < (g.memory root).level → ((now a).prev ≡ 0) × ((now a).next ≡ 0) × ((now b).prev ≡ 0) × ((now b).next ≡ 0)
    links-now = raise_page-links g.memory root a b root-not_a root-not_b ready.4 a-free b-free parts

    alone : ((now root).prev ≡ 0) × ((now root).next ≡ 0)
    alone = (ap (λ (p : PageState). p.prev) root-now, ap (λ (p : PageState). p.next) root-now)

    room : suc (height_of g.memory root) ≤ most_height roots
    room = let x = was.level in omega (arith, low)

    kept : (r : ℕ) → 0 < r → r ≤ roots → content_of now r ≡ content_of g.memory r
    kept = content_of-raise (one_over root) g.memory now g.bits roots was.lawful root some le room a b ready.4 ready.0 ready.2 ready.1 ready.3 the-raise other-now links-now alone

    go : IsPlannedInsert m roots key value root (raised root g)
    go = record {
      lawful = IsLawful-raise (one_over root) g.memory now g.bits roots was.lawful root some le room a b ready.4 ready.0 ready.2 ready.1 ready.3 the-raise other-now links-now alone
          (λ n. MOST_RECORDS) (with_bit b 1 (with_bit a 1 g.bits))
          (with_bit-other b 1 (with_bit a 1 g.bits) a ready.4 ∙ with_bit-own a 1 g.bits)
          (with_bit-own b 1 (with_bit a 1 g.bits))
          (λ n na nb. with_bit-other b 1 (with_bit a 1 g.bits) n nb ∙ with_bit-other a 1 g.bits n na)
          (λ n nr na nb. let x = one_over-other root n nr in omega arith)
          (omega arith)
          (let x = parts.left in omega arith)
          (let x = parts.count in let y = (was.lawful.sound root (λ e. omega arith)).short in let z = one_over-own root in omega arith);
      holds = kept root some le ∙ was.holds;
      others = λ r s l ne. kept r s l ∙ was.others r s l ne;
      ranges = λ f away r s l.
          let on-a = IsAway-on 0 (mark a (mark b (mark root g.touched))) f away in
          let on-b = IsAway-on a (mark b (mark root g.touched)) f on-a in
          let on-root = IsAway-on b (mark root g.touched) f on-b in
          weight_of-raise_away (one_over root) g.memory now g.bits roots was.lawful root some le room a b ready.4 ready.0 ready.2 ready.1 ready.3 the-raise other-now links-now alone
          f (IsAway-own root g.touched f on-root) (IsAway-own a (mark b (mark root g.touched)) f on-a) (IsAway-own b (mark root g.touched) f on-b) r s l
          ∙ was.ranges f (IsAway-on root g.touched f on-root) r s l;
      rest = λ n off.
          let z = mark-off 0 (mark a (mark b (mark root g.touched))) n off in
          let x = mark-off a (mark b (mark root g.touched)) n z.1 in
          let y = mark-off b (mark root g.touched) n x.1 in
          let w = mark-off root g.touched n y.1 in
          other-now n w.0 x.0 y.0 ∙ was.rest n w.1;
    }

  -- so the raise, where there is one, gives the whole
  pub IsPlannedInsert-step : (MOST_RECORDS < length (g.memory root).records → (1 < length g.fresh) × (height_of m root < most_height roots)) → IsPlannedInsert m roots key value root (raise_long root g)
  IsPlannedInsert-step enough =
      elim (cases_lt MOST_RECORDS (length (g.memory root).records)) [
        | inl over ↦ let yes = lt-ltb MOST_RECORDS (length (g.memory root).records) over in let e = enough over in rw yes (go over e.0 e.1)
        | inr short ↦ let no = le-ltb MOST_RECORDS (length (g.memory root).records) short in rw no (stay short)
      ]

-- with enough fresh pages, and no root raised that is as high as it may be
pub IsPlannedInsert-plan : (m : PageMemory) (bits : ℕ → ℕ) (roots : ℕ) → IsLawful m bits roots → (key : MapKey) (value : ℕ) → rank key < end_rank → (root : ℕ) → 0 < root → root ≤ roots
    → (fresh : List ℕ) → AreFresh bits fresh → value_at key (content_of m root) ≡ None → AreEnough m bits fresh key value (height_of m root) root
    → (let g = insert_below m bits fresh key value (height_of m root) root in MOST_RECORDS < length (g.memory root).records → (1 < length g.fresh) × (height_of m root < most_height roots))
    → IsPlannedInsert m roots key value root (planned_insert m bits fresh key value root)
IsPlannedInsert-plan m bits roots law key value in-range root some le fresh free missing enough two =
    IsPlannedInsert-step m roots key value root some le (insert_below m bits fresh key value (height_of m root) root)
    (IsInsertedBelow-path m bits roots law key value in-range root some le fresh free missing (height_of m root) 0 root refl refl enough) two
