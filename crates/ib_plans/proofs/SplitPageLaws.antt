-- The pages of a planned split are those of a split.
use Rattle.std.proofs.Common.{◌≡◌, ◌≢◌, ℕ, ◌<◌, ◌∙◌, suc, inl, inr, cond, refl, sym, ap, subst, arith, eqb}
use Rattle.std.proofs.lemmas.Bool.{cases_eq}
use Rattle.ib_map.specs.Pairs.{put}
use Rattle.ib_walk.specs.Pages.{Free, PageMemory, PageState, Tree}
use Rattle.ib_walk.proofs.ChoiceLaws.{cond-eq, cond-ne}
use Rattle.ib_walk.proofs.MeetLaws.{HasLinks}
use Rattle.ib_walk.proofs.WalkLaws.{IsAlike, IsAlike-same}
use Rattle.ib_plans.specs.Split.{first_key, left_part, lower_half, next_or, right_part, upper_half, split_page, with_prev, with_records}
use Rattle.ib_plans.specs.declared.TheConstants.{LEFT_RECORDS}
use Rattle.ib_plans.proofs.LinkLaws.{HasLinks-same, NextLeaf, next_or-apart, next_or-next}
use Rattle.ib_plans.proofs.RecordLaws.{Halves}
use Rattle.ib_plans.proofs.SplitLaws.{IsRelinked}
use Rattle.ib_plans.proofs.SplitWalkLaws.{IsSplit}

-- each page after a split
module _ (m : PageMemory) (parent child fresh : ℕ) where
  abbrev the-parent : PageState
  the-parent = with_records (put (first_key (right_part (m child).records)) fresh (m parent).records) (m parent)

  abbrev the-next : ℕ → PageState
  the-next n = with_prev (cond (eqb (m child).level 0) fresh (m n).prev) (m n)

  pub split_page-fresh : split_page m parent child fresh fresh ≡ upper_half (m child) child (m fresh).clock
  split_page-fresh = cond-eq fresh fresh (upper_half (m child) child (m fresh).clock) _ refl

  pub split_page-child : child ≢ fresh → split_page m parent child fresh child ≡ lower_half (m child) fresh
  split_page-child a = cond-ne child fresh (upper_half (m child) child (m fresh).clock) _ a ∙ cond-eq child child (lower_half (m child) fresh) _ refl

  pub split_page-parent : parent ≢ fresh → parent ≢ child → split_page m parent child fresh parent ≡ the-parent
  split_page-parent a b = cond-ne parent fresh (upper_half (m child) child (m fresh).clock) _ a ∙ (cond-ne parent child (lower_half (m child) fresh) _ b ∙ cond-eq parent parent the-parent _ refl)

  pub split_page-next : (n : ℕ) → n ≢ fresh → n ≢ child → n ≢ parent → n ≡ next_or fresh (m child) → split_page m parent child fresh n ≡ the-next n
  split_page-next n a b c e = cond-ne n fresh (upper_half (m child) child (m fresh).clock) _ a ∙ (cond-ne n child (lower_half (m child) fresh) _ b ∙ (cond-ne n parent the-parent _ c ∙ cond-eq n (next_or fresh (m child)) (the-next n) _ e))

  pub split_page-other : (n : ℕ) → n ≢ fresh → n ≢ child → n ≢ parent → n ≢ next_or fresh (m child) → split_page m parent child fresh n ≡ m n
  split_page-other n a b c d = cond-ne n fresh (upper_half (m child) child (m fresh).clock) _ a ∙ (cond-ne n child (lower_half (m child) fresh) _ b ∙ (cond-ne n parent the-parent _ c ∙ cond-ne n (next_or fresh (m child)) (the-next n) _ d))

-- a parent, a child of it and a free page
pub record SplitPages (m : PageMemory) (height parent child fresh : ℕ) : Type 0 where
  pub parent_kind : (m parent).kind ≡ Tree
  pub parent_level : (m parent).level ≡ suc height
  pub parent_some : parent ≢ 0
  pub child_kind : (m child).kind ≡ Tree
  pub child_level : (m child).level ≡ height
  pub child_some : child ≢ 0
  pub fresh_kind : (m fresh).kind ≡ Free
  pub fresh_some : fresh ≢ 0
  pub node : 0 < height → (m child).next ≡ 0
  pub behind : (m child).next ≢ 0 → NextLeaf m child

module _ (m : PageMemory) (height parent child fresh : ℕ) (pages : SplitPages m height parent child fresh) where
  -- they are three pages, and the leaf behind the child is a fourth one
  pub parent-not_child : parent ≢ child
  parent-not_child e = let x = ap (λ q. (m q).level) e in let y = pages.parent_level in let z = pages.child_level in omega arith

  pub parent-not_fresh : parent ≢ fresh
  parent-not_fresh e = let x = ap (λ q. (m q).kind) e in let y = pages.parent_kind in let z = pages.fresh_kind in cc

  pub child-not_fresh : child ≢ fresh
  child-not_fresh e = let x = ap (λ q. (m q).kind) e in let y = pages.child_kind in let z = pages.fresh_kind in cc

  pub next-not_fresh : (m child).next ≢ 0 → (m child).next ≢ fresh
  next-not_fresh ne e = let x = ap (λ q. (m q).kind) e in let y = (pages.behind ne).kind in let z = pages.fresh_kind in cc

  pub next-not_parent : (m child).next ≢ 0 → (m child).next ≢ parent
  next-not_parent ne e = let x = ap (λ q. (m q).level) e in let y = (pages.behind ne).level in let z = pages.parent_level in omega arith

  -- the parent has one record more
  pub parent-after_split : split_page m parent child fresh parent ≡ with_records (put (first_key (right_part (m child).records)) fresh (m parent).records) (m parent)
  parent-after_split = split_page-parent m parent child fresh parent-not_fresh parent-not_child

  pub child-after_split : split_page m parent child fresh child ≡ lower_half (m child) fresh
  child-after_split = split_page-child m parent child fresh child-not_fresh

  pub fresh-after_split : split_page m parent child fresh fresh ≡ upper_half (m child) child (m fresh).clock
  fresh-after_split = split_page-fresh m parent child fresh

  pub next-after_split : (m child).next ≢ 0 → split_page m parent child fresh (m child).next ≡ with_prev (cond (eqb (m child).level 0) fresh (m (m child).next).prev) (m (m child).next)
  next-after_split ne = split_page-next m parent child fresh (m child).next (next-not_fresh ne) (pages.behind ne).other (next-not_parent ne) (sym (next_or-next fresh (m child) ne))

  pub rest-alike_split : (n : ℕ) → n ≢ parent → n ≢ child → n ≢ fresh → IsAlike (split_page m parent child fresh n) (m n)
  rest-alike_split n a b c =
      elim (cases_eq n (next_or fresh (m child))) [
        | inl e ↦ let x = split_page-next m parent child fresh n c b a e in record { kind = ap (λ (p : PageState). p.kind) x; level = ap (λ (p : PageState). p.level) x; records = ap (λ (p : PageState). p.records) x }
        | inr d ↦ IsAlike-same (split_page m parent child fresh n) (m n) (split_page-other m parent child fresh n c b a d)
      ]

  -- where the child has records for two halves
  abbrev pub IsSplit-pages : Halves LEFT_RECORDS (m child).records → IsSplit m (split_page m parent child fresh) parent child fresh
  IsSplit-pages h = record {
    left = left_part (m child).records;
    first = h.first;
    rest = h.rest;
    halves = h.both;
    some = let e = h.left in omega arith;
    child_kind = ap (λ (p : PageState). p.kind) child-after_split;
    child_level = ap (λ (p : PageState). p.level) child-after_split;
    child_records = ap (λ (p : PageState). p.records) child-after_split;
    fresh_kind = ap (λ (p : PageState). p.kind) fresh-after_split;
    fresh_level = ap (λ (p : PageState). p.level) fresh-after_split;
    fresh_records = ap (λ (p : PageState). p.records) fresh-after_split ∙ h.right;
    free = pages.fresh_kind;
    parent_kind = ap (λ (p : PageState). p.kind) parent-after_split;
    parent_level = ap (λ (p : PageState). p.level) parent-after_split;
    parent_records = ap (λ (p : PageState). p.records) parent-after_split ∙ ap (λ rs. put (first_key rs) fresh (m parent).records) h.right;
    others = rest-alike_split;
  }

  -- and the links are those of a split
  pub IsRelinked-pages : IsRelinked m (split_page m parent child fresh) child fresh
  IsRelinked-pages = record {
    child_prev = ap (λ (p : PageState). p.prev) child-after_split;
    child_next = λ z. ap (λ (p : PageState). p.next) child-after_split ∙ cond-eq (m child).level 0 fresh (m child).next z;
    fresh_prev = λ z. ap (λ (p : PageState). p.prev) fresh-after_split ∙ cond-eq (m child).level 0 child 0 z;
    fresh_next = λ z. ap (λ (p : PageState). p.next) fresh-after_split ∙ cond-eq (m child).level 0 (m child).next 0 z;
    next_prev = λ z ne. ap (λ (p : PageState). p.prev) (next-after_split ne) ∙ cond-eq (m child).level 0 fresh (m (m child).next).prev z;
    next_next = λ z ne. ap (λ (p : PageState). p.next) (next-after_split ne);
    others = λ n nc nf nn. elim (cases_eq n parent) [
      | inl e ↦ subst (λ q. HasLinks (split_page m parent child fresh q) (m q)) (sym e) (record { prev = ap (λ (p : PageState). p.prev) parent-after_split; next = ap (λ (p : PageState). p.next) parent-after_split })
      | inr np ↦ HasLinks-same (split_page m parent child fresh n) (m n) (split_page-other m parent child fresh n nf nc np (next_or-apart fresh (m child) n nf (λ some. nn)))
    ];
    node = λ u. let ne : (m child).level ≢ 0 = λ e. (omega arith) in (
      ap (λ (p : PageState). p.prev) fresh-after_split ∙ cond-ne (m child).level 0 child 0 ne,
      ap (λ (p : PageState). p.next) fresh-after_split ∙ cond-ne (m child).level 0 (m child).next 0 ne,
      ap (λ (p : PageState). p.next) child-after_split ∙ cond-ne (m child).level 0 fresh (m child).next ne,
    );
  }
