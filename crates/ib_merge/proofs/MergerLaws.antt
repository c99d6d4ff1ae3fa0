-- Which two pages a planned delete merges at a node.
use Rattle.std.proofs.Common.{◌≡◌, ◌∙◌, ℕ, ◌+◌, ◌≤◌, ◌⊎◌, true, false, cond, length, refl, ap, inl, inr, ltb, leb, Option, Some, None, Bool}
use Rattle.std.specs.Prelude.{IfSome}
use Rattle.std.proofs.lemmas.Bool.{leb-true, cases_Bool}
use Rattle.ib_map.specs.Keys.{MapKey}
use Rattle.ib_heap.specs.declared.TheConstants.{MOST_RECORDS}
use Rattle.ib_walk.specs.Pages.{PageMemory}
use Rattle.ib_walk.proofs.ChoiceLaws.{Some-same}
use Rattle.ib_plans.specs.declared.TheConstants.{FEWEST_RECORDS}
use Rattle.ib_plans.specs.Delete.{Shrinkage, merge, merge_left, merge_right, merge_short, merged, settled}
use Rattle.ib_plans.specs.Merge.{Siblings, siblings_of, fit_one}
use Rattle.ib_merge.specs.declared.edits.Merger.{Merger}
use Rattle.ib_merge.specs.Deletes.{merger_of, merger_left, merger_right}

-- with the left sibling
pub record WithLeft (memory : PageMemory) (t : Siblings) (g : Merger) : Type 0 where
  pub left : MapKey × ℕ
  pub is : t.left ≡ Some left
  pub fits : length (memory left.1).records + length (memory t.here.1).records ≤ MOST_RECORDS
  pub chosen : record { left = left.1; gone = t.here; beside = left.1 } ≡ g

-- with the right sibling
pub record WithRight (memory : PageMemory) (t : Siblings) (g : Merger) : Type 0 where
  pub right : MapKey × ℕ
  pub is : t.right ≡ Some right
  pub fits : length (memory t.here.1).records + length (memory right.1).records ≤ MOST_RECORDS
  pub chosen : record { left = t.here.1; gone = right; beside = right.1 } ≡ g

chosen-right : (memory : PageMemory) (t : Siblings) (g : Merger) (right : Option (MapKey × ℕ)) → t.right ≡ right → merger_right memory t.here right ≡ Some g → WithRight memory t g
chosen-right memory t g None is e = absurd (cc)
chosen-right memory t g (Some r) is e = elim (cases_Bool (fit_one memory t.here.1 r.1)) [
  | inl fit ↦ let s : Some (record { left = t.here.1; gone = r; beside = r.1 }) ≡ Some g = rw fit at e in record { right = r; is = is; fits = leb-true _ _ fit; chosen = Some-same _ g s }
  | inr not ↦ let s : None ≡ Some g = rw not at e in absurd (cc)
]

chosen-left : (memory : PageMemory) (t : Siblings) (g : Merger) (left : Option (MapKey × ℕ)) → t.left ≡ left → merger_left memory left t.here (merger_right memory t.here t.right) ≡ Some g
    → WithLeft memory t g ⊎ WithRight memory t g
chosen-left memory t g None is e = inr (chosen-right memory t g t.right refl e)
chosen-left memory t g (Some l) is e = elim (cases_Bool (fit_one memory l.1 t.here.1)) [
  | inl fit ↦ let s : Some (record { left = l.1; gone = t.here; beside = l.1 }) ≡ Some g = rw fit at e in inl (record { left = l; is = is; fits = leb-true _ _ fit; chosen = Some-same _ g s })
  | inr not ↦ let s : merger_right memory t.here t.right ≡ Some g = rw not at e in inr (chosen-right memory t g t.right refl s)
]

pub chosen-with : (memory : PageMemory) (t : Siblings) (g : Merger) → merger_of memory t ≡ Some g → WithLeft memory t g ⊎ WithRight memory t g
chosen-with memory t g e = chosen-left memory t g t.left refl e

-- so the plan merges them
merge_right-some : (s : Shrinkage) (parent : ℕ) (here : MapKey × ℕ) (right : Option (MapKey × ℕ)) (g : Merger) → merger_right s.memory here right ≡ Some g
    → merge_right s parent here right (settled s) ≡ merged s parent g.left g.gone
merge_right-some s parent here None g e = absurd (cc)
merge_right-some s parent here (Some r) g e = elim (cases_Bool (fit_one s.memory here.1 r.1)) [
  | inl fit ↦ let c : Some (record { left = here.1; gone = r; beside = r.1 }) ≡ Some g = rw fit at e in
      let eq = Some-same (record { left = here.1; gone = r; beside = r.1 }) g c in
      ap (λ b. cond b (merged s parent here.1 r) (settled s)) fit ∙ ap (λ (q : Merger). merged s parent q.left q.gone) eq
  | inr not ↦ let c : None ≡ Some g = rw not at e in absurd (cc)
]

merge_left-some : (s : Shrinkage) (parent : ℕ) (left : Option (MapKey × ℕ)) (here : MapKey × ℕ) (right : Option (MapKey × ℕ)) (g : Merger)
    → merger_left s.memory left here (merger_right s.memory here right) ≡ Some g → merge_left s parent left here (merge_right s parent here right (settled s)) ≡ merged s parent g.left g.gone
merge_left-some s parent None here right g e = merge_right-some s parent here right g e
merge_left-some s parent (Some l) here right g e = elim (cases_Bool (fit_one s.memory l.1 here.1)) [
  | inl fit ↦ let c : Some (record { left = l.1; gone = here; beside = l.1 }) ≡ Some g = rw fit at e in
      let eq = Some-same (record { left = l.1; gone = here; beside = l.1 }) g c in
      ap (λ b. cond b (merged s parent l.1 here) (merge_right s parent here right (settled s))) fit ∙ ap (λ (q : Merger). merged s parent q.left q.gone) eq
  | inr not ↦ let c : merger_right s.memory here right ≡ Some g = rw not at e in
      ap (λ b. cond b (merged s parent l.1 here) (merge_right s parent here right (settled s))) not ∙ merge_right-some s parent here right g c
]

-- .. or nothing more
merge_right-none : (s : Shrinkage) (parent : ℕ) (here : MapKey × ℕ) (right : Option (MapKey × ℕ)) → merger_right s.memory here right ≡ None → merge_right s parent here right (settled s) ≡ settled s
merge_right-none s parent here None e = refl
merge_right-none s parent here (Some r) e = elim (cases_Bool (fit_one s.memory here.1 r.1)) [
  | inl fit ↦ let c : Some (record { left = here.1; gone = r; beside = r.1 }) ≡ None = rw fit at e in absurd (cc)
  | inr not ↦ ap (λ b. cond b (merged s parent here.1 r) (settled s)) not
]

merge_left-none : (s : Shrinkage) (parent : ℕ) (left : Option (MapKey × ℕ)) (here : MapKey × ℕ) (right : Option (MapKey × ℕ))
    → merger_left s.memory left here (merger_right s.memory here right) ≡ None → merge_left s parent left here (merge_right s parent here right (settled s)) ≡ settled s
merge_left-none s parent None here right e = merge_right-none s parent here right e
merge_left-none s parent (Some l) here right e = elim (cases_Bool (fit_one s.memory l.1 here.1)) [
  | inl fit ↦ let c : Some (record { left = l.1; gone = here; beside = l.1 }) ≡ None = rw fit at e in absurd (cc)
  | inr not ↦ let c : merger_right s.memory here right ≡ None = rw not at e in
      ap (λ b. cond b (merged s parent l.1 here) (merge_right s parent here right (settled s))) not ∙ merge_right-none s parent here right c
]

module _ (key : MapKey) (parent : ℕ) (s : Shrinkage) (lost : s.lost ≡ true) where
  abbrev t : Siblings
  t = siblings_of key (s.memory parent).records

  abbrev few : Bool
  few = ltb (length (s.memory (siblings_of key (s.memory parent).records).here.1).records) FEWEST_RECORDS

  opened : merge_short key parent s ≡ cond few (merge s parent t) (settled s)
  opened = ap (λ b. cond b (cond few (merge s parent t) (settled s)) s) lost

  pub short-merged : (g : Merger) → few ≡ true → merger_of s.memory t ≡ Some g → merge_short key parent s ≡ merged s parent g.left g.gone
  short-merged g is e = opened ∙ (ap (λ b. cond b (merge s parent t) (settled s)) is ∙ merge_left-some s parent t.left t.here t.right g e)

  pub short-none : few ≡ true → merger_of s.memory t ≡ None → merge_short key parent s ≡ settled s
  short-none is e = opened ∙ (ap (λ b. cond b (merge s parent t) (settled s)) is ∙ merge_left-none s parent t.left t.here t.right e)

  pub long-settled : few ≡ false → merge_short key parent s ≡ settled s
  long-settled not = opened ∙ ap (λ b. cond b (merge s parent t) (settled s)) not

-- the choice is a matter of the records alone

same-fit : (a b : PageMemory) (x y : MapKey × ℕ) → (a x.1).records ≡ (b x.1).records → (a y.1).records ≡ (b y.1).records → fit_one a x.1 y.1 ≡ fit_one b x.1 y.1
same-fit a b x y p q = ap (λ rs. leb (length rs + length (a y.1).records) MOST_RECORDS) p ∙ ap (λ rs. leb (length (b x.1).records + length rs) MOST_RECORDS) q

same-right : (a b : PageMemory) (here : MapKey × ℕ) (right : Option (MapKey × ℕ)) → (a here.1).records ≡ (b here.1).records → IfSome right (λ x. (a x.1).records ≡ (b x.1).records)
    → merger_right a here right ≡ merger_right b here right
same-right a b here None h r = refl
same-right a b here (Some x) h r = ap (λ k. cond {A = Option Merger} k (Some (record { left = here.1; gone = x; beside = x.1 })) None) (same-fit a b here x h r)

pub merger_of-same : (a b : PageMemory) (t : Siblings) → IfSome t.left (λ x. (a x.1).records ≡ (b x.1).records) → (a t.here.1).records ≡ (b t.here.1).records
    → IfSome t.right (λ x. (a x.1).records ≡ (b x.1).records) → merger_of a t ≡ merger_of b t
merger_of-same a b t l h r = with-left t.left l
  where
    with-left : (left : Option (MapKey × ℕ)) → IfSome left (λ x. (a x.1).records ≡ (b x.1).records)
        → merger_left a left t.here (merger_right a t.here t.right) ≡ merger_left b left t.here (merger_right b t.here t.right)
    with-left None l = same-right a b t.here t.right h r
    with-left (Some x) l =
        ap (λ k. cond {A = Option Merger} k (Some (record { left = x.1; gone = t.here; beside = x.1 })) (merger_right a t.here t.right)) (same-fit a b x t.here l h)
        ∙ ap (λ (o : Option Merger). cond {A = Option Merger} (fit_one b x.1 t.here.1) (Some (record { left = x.1; gone = t.here; beside = x.1 })) o) (same-right a b t.here t.right h r)
