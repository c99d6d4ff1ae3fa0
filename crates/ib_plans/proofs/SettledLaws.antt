-- Once the page that a change has come to is short enough, or has lost no record, nothing above it changes.
use Rattle.std.proofs.Common.{◌≡◌, ℕ, ◌<◌, ◌≤◌, ◌∙◌, zero, suc, false, List, length, None, refl, sym, ap, subst, arith}
use Rattle.ib_map.specs.Keys.{MapKey, end_rank, rank}
use Rattle.ib_map.specs.Pairs.{value_at}
use Rattle.ib_heap.specs.declared.TheConstants.{MOST_RECORDS}
use Rattle.ib_walk.specs.Pages.{PageMemory, PageState}
use Rattle.ib_walk.specs.Search.{child_for, page_below}
use Rattle.ib_walk.specs.Trees.{IsLawful, content_of, height_of}
use Rattle.ib_walk.proofs.SearchLaws.{above}
use Rattle.ib_plans.specs.Delete.{Shrinkage, delete_below, lift_single, merge_short, planned_delete}
use Rattle.ib_plans.specs.Insert.{AreEnough, AreFresh, Growth, insert_below, planned_insert, raise_long, split_long}
use Rattle.ib_plans.proofs.InsertLaws.{IsInsertedBelow, IsInsertedBelow-path, PathAbove-insert, split_long-short}
use Rattle.ib_plans.proofs.InsertPlanLaws.{raise_long-short}
use Rattle.ib_plans.proofs.LevelLaws.{above-suc}
use Rattle.ib_plans.proofs.PathLaws.{PathPage-below, page_below-child}

module _ (m : PageMemory) (bits : ℕ → ℕ) (roots : ℕ) (law : IsLawful m bits roots) (key : MapKey) (value : ℕ) (in-range : rank key < end_rank)
    (root : ℕ) (some : 0 < root) (le : root ≤ roots) (fresh : List ℕ) (free : AreFresh bits fresh) (missing : value_at key (content_of m root) ≡ None) where
  -- the insert up to the root is the insert up to a page of the path that is short enough, and the root is short enough
  insert_below-short : (depth height page : ℕ) → height_of m root ≡ above depth height → page_below m key depth root ≡ page → AreEnough m bits fresh key value height page
      → length ((insert_below m bits fresh key value height page).memory page).records ≤ MOST_RECORDS
      → (insert_below m bits fresh key value (height_of m root) root ≡ insert_below m bits fresh key value height page)
      × (length ((insert_below m bits fresh key value height page).memory root).records ≤ MOST_RECORDS)
  insert_below-short zero height page tall at enough short = (
    ap (λ h. insert_below m bits fresh key value h root) tall ∙ ap (insert_below m bits fresh key value height) at,
    subst (λ n. length ((insert_below m bits fresh key value height page).memory n).records ≤ MOST_RECORDS) (sym at) short,
  )
  insert_below-short (suc depth) height page tall at enough short =
      let tall' : height_of m root ≡ above depth (suc height) = tall ∙ sym (above-suc depth height) in
      let child : page ≡ child_for key 0 (m (page_below m key depth root)).records = sym at ∙ page_below-child m key depth root in
      let same : insert_below m bits fresh key value (suc height) (page_below m key depth root) ≡ insert_below m bits fresh key value height page =
      subst (λ c. split_long (page_below m key depth root) c (insert_below m bits fresh key value height c) ≡ insert_below m bits fresh key value height page) child
      (split_long-short (page_below m key depth root) page (insert_below m bits fresh key value height page) short) in
      let was = IsInsertedBelow-path m bits roots law key value in-range root some le fresh free missing height (suc depth) page tall at enough in
      let above-it = PathAbove-insert m bits roots law key value in-range root some le fresh free missing height depth (page_below m key depth root) tall' refl (insert_below m bits fresh key value height page)
      (subst (λ c. IsInsertedBelow m roots key value root height c (insert_below m bits fresh key value height page)) child was) in
      let up-short = (law.sound (page_below m key depth root) (PathPage-below (λ n. MOST_RECORDS) m bits roots law key in-range root some le depth (suc height) tall').some).short in
      let now-short : length ((insert_below m bits fresh key value height page).memory (page_below m key depth root)).records ≤ MOST_RECORDS = let x = ap (λ (p : PageState). length p.records) above-it.same in omega arith in
      let enough' : AreEnough m bits fresh key value (suc height) (page_below m key depth root) =
      subst (λ c. AreEnough m bits fresh key value height c × (MOST_RECORDS < length ((insert_below m bits fresh key value height c).memory c).records → 0 < length (insert_below m bits fresh key value height c).fresh)) child
      (enough, λ long. absurd (omega arith)) in
      let r = insert_below-short depth (suc height) (page_below m key depth root) tall' refl enough'
      (subst (λ (k : Growth). length (k.memory (page_below m key depth root)).records ≤ MOST_RECORDS) (sym same) now-short) in
      (r.0 ∙ same, subst (λ (k : Growth). length (k.memory root).records ≤ MOST_RECORDS) same r.1)

  -- so it is the whole planned insert
  pub planned_insert-short : (depth height page : ℕ) → height_of m root ≡ above depth height → page_below m key depth root ≡ page → AreEnough m bits fresh key value height page
      → length ((insert_below m bits fresh key value height page).memory page).records ≤ MOST_RECORDS
      → planned_insert m bits fresh key value root ≡ insert_below m bits fresh key value height page
  planned_insert-short depth height page tall at enough short =
      let r = insert_below-short depth height page tall at enough short in
      ap (raise_long root) r.0 ∙ raise_long-short root (insert_below m bits fresh key value height page) r.1

-- where no page above loses a record, a delete stays as it is
pub merge_short-settled : (key : MapKey) (parent : ℕ) (s : Shrinkage) → s.lost ≡ false → merge_short key parent s ≡ s
merge_short-settled key parent s off = rw off refl

pub lift_single-settled : (root : ℕ) (s : Shrinkage) → s.lost ≡ false → lift_single root s ≡ s
lift_single-settled root s off = rw off refl

-- the delete up to a root is the delete up to a page of the path that has lost no record
pub delete_below-settled : (m : PageMemory) (bits : ℕ → ℕ) (key : MapKey) (depth height root page : ℕ) → page_below m key depth root ≡ page → (delete_below m bits key height page).lost ≡ false
    → delete_below m bits key (above depth height) root ≡ delete_below m bits key height page
delete_below-settled m bits key zero height root page at off = ap (delete_below m bits key height) at
delete_below-settled m bits key (suc depth) height root page at off =
    let r = delete_below-settled m bits key depth height (child_for key 0 (m root).records) page at off in
    ap (merge_short key root) r ∙ merge_short-settled key root (delete_below m bits key height page) off

-- so it is the whole planned delete
pub planned_delete-settled : (m : PageMemory) (bits : ℕ → ℕ) (key : MapKey) (depth height root page : ℕ) → height_of m root ≡ above depth height → page_below m key depth root ≡ page
    → (delete_below m bits key height page).lost ≡ false → planned_delete m bits key root ≡ delete_below m bits key height page
planned_delete-settled m bits key depth height root page tall at off =
    ap (λ h. lift_single root (delete_below m bits key h root)) tall
    ∙ (ap (lift_single root) (delete_below-settled m bits key depth height root page at off) ∙ lift_single-settled root (delete_below m bits key height page) off)
