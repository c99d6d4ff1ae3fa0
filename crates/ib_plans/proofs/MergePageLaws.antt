-- The pages of a planned merge are those of a merge.
use Rattle.std.proofs.Common.{◌≡◌, ◌≢◌, ℕ, ◌∙◌, [], ◌∷◌, ◌++◌, inl, inr, refl, sym, ap, subst, arith, append_assoc}
use Rattle.std.proofs.lemmas.Bool.{cases_eq}
use Rattle.ib_map.specs.Keys.{MapKey, end_rank, rank}
use Rattle.ib_map.specs.Pairs.{Pairs, Rises, without}
use Rattle.ib_map.proofs.PairLaws.{without-behind}
use Rattle.ib_map.proofs.RiseLaws.{Rises-left}
use Rattle.ib_walk.specs.Pages.{PageMemory, PageState}
use Rattle.ib_walk.proofs.ChoiceLaws.{cond-eq, cond-ne}
use Rattle.ib_walk.proofs.MeetLaws.{HasLinks}
use Rattle.ib_walk.proofs.WalkLaws.{IsAlike, IsAlike-same}
use Rattle.ib_plans.specs.Merge.{freed_page, joined, merge_pages}
use Rattle.ib_plans.specs.Split.{next_or, with_prev, with_records}
use Rattle.ib_plans.proofs.LinkLaws.{HasLinks-same, next_or-apart, next_or-next}
use Rattle.ib_plans.proofs.MergeLaws.{IsUnlinked}
use Rattle.ib_plans.proofs.MergeWalkLaws.{IsMerged}
use Rattle.ib_plans.proofs.SiblingLaws.{SiblingPages, behind-not_parent, parent-not_gone, parent-not_left}

-- each page after a merge
module _ (m : PageMemory) (parent left : ℕ) (gone : MapKey × ℕ) where
  abbrev the-left : PageState
  the-left = joined (m left) (m gone.1)

  abbrev the-parent : PageState
  the-parent = with_records (without gone.0 (m parent).records) (m parent)

  pub merge_pages-gone : merge_pages m parent left gone gone.1 ≡ freed_page (m gone.1)
  merge_pages-gone = cond-eq gone.1 gone.1 (freed_page (m gone.1)) _ refl

  pub merge_pages-left : left ≢ gone.1 → merge_pages m parent left gone left ≡ the-left
  merge_pages-left a = cond-ne left gone.1 (freed_page (m gone.1)) _ a ∙ cond-eq left left the-left _ refl

  pub merge_pages-parent : parent ≢ gone.1 → parent ≢ left → merge_pages m parent left gone parent ≡ the-parent
  merge_pages-parent a b = cond-ne parent gone.1 (freed_page (m gone.1)) _ a ∙ (cond-ne parent left the-left _ b ∙ cond-eq parent parent the-parent _ refl)

  pub merge_pages-next : (n : ℕ) → n ≢ gone.1 → n ≢ left → n ≢ parent → n ≡ next_or gone.1 (m gone.1) → merge_pages m parent left gone n ≡ with_prev left (m n)
  merge_pages-next n a b c e =
      cond-ne n gone.1 (freed_page (m gone.1)) _ a ∙ (cond-ne n left the-left _ b ∙ (cond-ne n parent the-parent _ c ∙ cond-eq n (next_or gone.1 (m gone.1)) (with_prev left (m n)) _ e))

  pub merge_pages-other : (n : ℕ) → n ≢ gone.1 → n ≢ left → n ≢ parent → n ≢ next_or gone.1 (m gone.1) → merge_pages m parent left gone n ≡ m n
  merge_pages-other n a b c d =
      cond-ne n gone.1 (freed_page (m gone.1)) _ a ∙ (cond-ne n left the-left _ b ∙ (cond-ne n parent the-parent _ c ∙ cond-ne n (next_or gone.1 (m gone.1)) (with_prev left (m n)) _ d))

-- a list without the second of two records side by side
pub without-second : (before : Pairs) (pair gone : MapKey × ℕ) (behind : Pairs) → Rises 0 (before ++ pair ∷ gone ∷ behind) end_rank
    → without gone.0 (before ++ pair ∷ gone ∷ behind) ≡ before ++ pair ∷ behind
without-second before pair gone behind rises =
    let regroup = sym (append_assoc before (pair ∷ []) (gone ∷ behind)) in
    let r = Rises-left 0 (before ++ pair ∷ []) (gone ∷ behind) end_rank (subst (λ rs. Rises 0 rs end_rank) regroup rises) in
    let e = without-behind gone.0 0 (before ++ pair ∷ []) (rank gone.0) (gone ∷ behind) r (omega arith) in
    ap (without gone.0) regroup ∙ (e ∙ (ap (λ rs. (before ++ pair ∷ []) ++ rs) (cond-eq {X = Pairs} (rank gone.0) (rank gone.0) behind (gone ∷ without gone.0 behind) refl)
    ∙ append_assoc before (pair ∷ []) behind))

-- two children side by side are merged
module _ (m : PageMemory) (height parent : ℕ) (before : Pairs) (pair gone : MapKey × ℕ) (behind : Pairs) (is : (m parent).records ≡ before ++ pair ∷ gone ∷ behind)
    (pages : SiblingPages m height parent pair.1 gone.1) (rises : Rises 0 (m parent).records end_rank) where
  abbrev now : PageMemory
  now = merge_pages m parent pair.1 gone

  -- what became of each page
  next-after_merge : (m gone.1).next ≢ 0 → now (m gone.1).next ≡ with_prev pair.1 (m (m gone.1).next)
  next-after_merge ne =
      let b = pages.behind ne in
      merge_pages-next m parent pair.1 gone (m gone.1).next b.not_gone b.not_left (behind-not_parent m height parent pair.1 gone.1 pages ne) (sym (next_or-next gone.1 (m gone.1) ne))

  pub left-after_merge : now pair.1 ≡ the-left m parent pair.1 gone
  left-after_merge = merge_pages-left m parent pair.1 gone pages.apart

  pub parent-after_merge : now parent ≡ the-parent m parent pair.1 gone
  parent-after_merge = merge_pages-parent m parent pair.1 gone (parent-not_gone m height parent pair.1 gone.1 pages) (parent-not_left m height parent pair.1 gone.1 pages)

  pub gone-after_merge : now gone.1 ≡ freed_page (m gone.1)
  gone-after_merge = merge_pages-gone m parent pair.1 gone

  pub rest-alike_merge : (n : ℕ) → n ≢ parent → n ≢ pair.1 → n ≢ gone.1 → IsAlike (now n) (m n)
  rest-alike_merge n a b c =
      elim (cases_eq n (next_or gone.1 (m gone.1))) [
        | inl e ↦ let x = merge_pages-next m parent pair.1 gone n c b a e in record { kind = ap (λ (p : PageState). p.kind) x; level = ap (λ (p : PageState). p.level) x; records = ap (λ (p : PageState). p.records) x }
        | inr d ↦ IsAlike-same (now n) (m n) (merge_pages-other m parent pair.1 gone n c b a d)
      ]

  -- so it is a merge, in records and in links
  abbrev pub IsMerged-pages : IsMerged m now parent pair.1 gone.1
  IsMerged-pages = record {
    before = before;
    pair = pair;
    next = gone;
    behind = behind;
    was = is;
    here = refl;
    there = refl;
    child_kind = ap (λ (p : PageState). p.kind) left-after_merge;
    child_level = ap (λ (p : PageState). p.level) left-after_merge;
    child_records = ap (λ (p : PageState). p.records) left-after_merge;
    parent_kind = ap (λ (p : PageState). p.kind) parent-after_merge;
    parent_level = ap (λ (p : PageState). p.level) parent-after_merge;
    parent_records = ap (λ (p : PageState). p.records) parent-after_merge
        ∙ (ap (without gone.0) is ∙ without-second before pair gone behind (subst (λ rs. Rises 0 rs end_rank) is rises));
    others = rest-alike_merge;
  }

  pub IsUnlinked-pages : IsUnlinked m now pair.1 gone.1
  IsUnlinked-pages = record {
    child_prev = ap (λ (p : PageState). p.prev) left-after_merge;
    child_next = ap (λ (p : PageState). p.next) left-after_merge;
    next_prev = λ z ne. ap (λ (p : PageState). p.prev) (next-after_merge ne);
    next_next = λ z ne. ap (λ (p : PageState). p.next) (next-after_merge ne);
    others = λ n nl ng nn. elim (cases_eq n parent) [
      | inl e ↦ subst (λ q. HasLinks (now q) (m q)) (sym e) (record { prev = ap (λ (p : PageState). p.prev) parent-after_merge; next = ap (λ (p : PageState). p.next) parent-after_merge })
      | inr np ↦ HasLinks-same (now n) (m n) (merge_pages-other m parent pair.1 gone n ng nl np (next_or-apart gone.1 (m gone.1) n ng (λ some. nn)))
    ];
  }
