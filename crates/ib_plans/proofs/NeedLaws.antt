-- A planned insert takes just as many fresh pages as are needed.
use Rattle.std.proofs.Common.{◌≡◌, ℕ, ◌+◌, ◌<◌, ◌≤◌, ◌∙◌, [], ◌∷◌, ◌++◌, zero, suc, inl, inr, true, false, cond, List, length, None, refl, ap, arith, eqb}
use Rattle.std.proofs.lemmas.Bool.{cases_lt, cases_eq, eq-eqb}
use Rattle.ib_map.specs.Keys.{MapKey, end_rank, rank}
use Rattle.ib_map.specs.Pairs.{put, value_at}
use Rattle.ib_map.proofs.PairLaws.{length-put}
use Rattle.ib_heap.specs.declared.TheConstants.{MOST_RECORDS}
use Rattle.ib_walk.specs.Full.{full_run, is_root_full, need_of, run_of}
use Rattle.ib_walk.specs.Pages.{PageMemory, PageState}
use Rattle.ib_walk.specs.Search.{child_for, page_below}
use Rattle.ib_walk.specs.Trees.{IsLawful, content_of, height_of, most_height}
use Rattle.ib_walk.proofs.ChoiceLaws.{cond-eq, cond-ne}
use Rattle.ib_walk.proofs.SearchLaws.{above}
use Rattle.ib_plans.specs.Insert.{AreEnough, AreFresh, Growth, first_fresh, insert_below, planned_insert, put_at, other_fresh, split}
use Rattle.ib_plans.specs.Split.{first_key, right_part, with_records}
use Rattle.ib_plans.proofs.InsertLaws.{IsInsertedBelow, IsInsertedBelow-path, PathAbove-insert, page-after_split, split_long-long, split_long-short}
use Rattle.ib_plans.proofs.InsertPlanLaws.{IsPlannedInsert, IsPlannedInsert-plan, raise_long-long, raise_long-short}
use Rattle.ib_plans.proofs.LevelLaws.{above-suc}
use Rattle.ib_plans.proofs.PathLaws.{PathPage-below, page_below-child}
use Rattle.ib_plans.proofs.PathListLaws.{length-pages_up, pages_up, path_of-pages}

-- a run is no longer than the list
pub full_run-le : (m : PageMemory) (ps : List ℕ) → full_run m ps ≤ length ps
full_run-le m [] = omega arith
full_run-le m (p ∷ ps) = let r = full_run-le m ps in
    elim (eqb (length (m p).records) MOST_RECORDS) as (λ b. cond b (suc (full_run m ps)) 0 ≤ length (p ∷ ps)) [ true ↦ omega arith | false ↦ omega arith ]

-- with one page more behind, a run of the whole list goes on where that page is full, and a shorter one is as it was
pub full_run-behind : (m : PageMemory) (ps : List ℕ) (q : ℕ) → (full_run m ps ≡ length ps → full_run m (ps ++ q ∷ []) ≡ length ps + cond (eqb (length (m q).records) MOST_RECORDS) 1 0)
    × (full_run m ps < length ps → full_run m (ps ++ q ∷ []) ≡ full_run m ps)
full_run-behind m [] q = ((λ e. elim (eqb (length (m q).records) MOST_RECORDS) as (λ b. cond b 1 0 ≡ 0 + cond {A = ℕ} b 1 0) [ true ↦ omega arith | false ↦ omega arith ]), (λ l. absurd (omega arith)))
full_run-behind m (p ∷ ps) q =
    let r = full_run-behind m ps q in
    elim (eqb (length (m p).records) MOST_RECORDS) as (λ b. (cond b (suc (full_run m ps)) 0 ≡ length (p ∷ ps) → cond b (suc (full_run m (ps ++ q ∷ []))) 0 ≡ length (p ∷ ps) + cond (eqb (length (m q).records) MOST_RECORDS) 1 0)
    × (cond b (suc (full_run m ps)) 0 < length (p ∷ ps) → cond b (suc (full_run m (ps ++ q ∷ []))) 0 ≡ cond b (suc (full_run m ps)) 0)) [
      | true ↦ ((λ e. let x = r.0 (omega arith) in omega arith), (λ l. let x = r.1 (omega arith) in omega arith))
      | false ↦ ((λ e. absurd (omega arith)), (λ l. refl))
    ]

-- a run of the front of a list is no longer than that of the list, nor that of the lower part of a path than that of the path
pub full_run-left : (m : PageMemory) (ps qs : List ℕ) → full_run m ps ≤ full_run m (ps ++ qs)
full_run-left m [] qs = omega arith
full_run-left m (p ∷ ps) qs = let r = full_run-left m ps qs in
    elim (eqb (length (m p).records) MOST_RECORDS) as (λ b. cond b (suc (full_run m ps)) 0 ≤ cond b (suc (full_run m (ps ++ qs))) 0) [ true ↦ omega arith | false ↦ omega arith ]

pub full_run-below : (m : PageMemory) (key : MapKey) (depth height root : ℕ)
    → full_run m (pages_up m key height (page_below m key depth root)) ≤ full_run m (pages_up m key (above depth height) root)
full_run-below m key zero height root = omega arith
full_run-below m key (suc depth) height root =
    let r = full_run-below m key depth height (child_for key 0 (m root).records) in
    let a = full_run-left m (pages_up m key (above depth height) (child_for key 0 (m root).records)) (root ∷ []) in omega arith

-- one page fewer is left after the first was taken
pub length-other_fresh : (xs : List ℕ) → 0 < length xs → length (other_fresh xs) + 1 ≡ length xs
length-other_fresh [] some = absurd (omega arith)
length-other_fresh (x ∷ xs) some = omega arith

-- how far the run of full pages reaches says how many fresh pages were taken, and whether the page has one record too many
pub record IsCounted (m : PageMemory) (bits : ℕ → ℕ) (fresh : List ℕ) (key : MapKey) (value height page : ℕ) : Type 0 where
  pub enough : AreEnough m bits fresh key value height page
  pub over : full_run m (pages_up m key height page) ≡ suc height
      → (length ((insert_below m bits fresh key value height page).memory page).records ≡ suc MOST_RECORDS) × (length (insert_below m bits fresh key value height page).fresh + height ≡ length fresh)
  pub under : full_run m (pages_up m key height page) ≤ height
      → (length ((insert_below m bits fresh key value height page).memory page).records ≤ MOST_RECORDS)
      × (length (insert_below m bits fresh key value height page).fresh + full_run m (pages_up m key height page) ≡ length fresh)

module _ (m : PageMemory) (bits : ℕ → ℕ) (roots : ℕ) (law : IsLawful m bits roots) (key : MapKey) (value : ℕ) (in-range : rank key < end_rank)
    (root : ℕ) (some : 0 < root) (le : root ≤ roots) (fresh : List ℕ) (free : AreFresh bits fresh) (missing : value_at key (content_of m root) ≡ None) where
  inserted-at : (height depth page : ℕ) → height_of m root ≡ above depth height → page_below m key depth root ≡ page → AreEnough m bits fresh key value height page
      → IsInsertedBelow m roots key value root height page (insert_below m bits fresh key value height page)
  inserted-at = IsInsertedBelow-path m bits roots law key value in-range root some le fresh free missing

  -- a page of the path has no record too many before the insert
  page-short : (height depth page : ℕ) → height_of m root ≡ above depth height → page_below m key depth root ≡ page → length (m page).records ≤ MOST_RECORDS
  page-short height depth page tall at = (law.sound page (λ z. (PathPage-below (λ n. MOST_RECORDS) m bits roots law key in-range root some le depth height tall).some (at ∙ z))).short

  abbrev below-it : ℕ → ℕ → Growth
  below-it height page = insert_below m bits fresh key value height (child_for key 0 (m page).records)

  -- a page above a child that is short enough, and one above a child that is split
  step-stay : (height depth page : ℕ) → height_of m root ≡ above depth (suc height) → page_below m key depth root ≡ page
      → height_of m root ≡ above (suc depth) height → page_below m key (suc depth) root ≡ child_for key 0 (m page).records
      → AreEnough m bits fresh key value height (child_for key 0 (m page).records)
      → length ((below-it height page).memory (child_for key 0 (m page).records)).records ≤ MOST_RECORDS
      → full_run m (pages_up m key (suc height) page) ≤ height
      → length (below-it height page).fresh + full_run m (pages_up m key (suc height) page) ≡ length fresh
      → IsCounted m bits fresh key value (suc height) page
  step-stay height depth page tall at tall' at' enough short low used =
      let e : AreEnough m bits fresh key value (suc height) page = (enough, λ over. absurd (omega arith)) in
      let w = inserted-at height (suc depth) (child_for key 0 (m page).records) tall' at' enough in
      let same : insert_below m bits fresh key value (suc height) page ≡ below-it height page = split_long-short page (child_for key 0 (m page).records) (below-it height page) short in
      let k : (below-it height page).memory page ≡ m page = (PathAbove-insert m bits roots law key value in-range root some le fresh free missing height depth page tall at (below-it height page) w).same in
      let f = ap (λ (q : Growth). length q.fresh) same in
      let n = ap (λ (q : Growth). length (q.memory page).records) same in
      let s = page-short (suc height) depth page tall at in
      record {
        enough = e;
        over = λ z. absurd (omega arith);
        under = λ z. (let x = ap (λ (p : PageState). length p.records) k in omega arith, omega arith);
      }

  step-split : (height depth page : ℕ) → height_of m root ≡ above depth (suc height) → page_below m key depth root ≡ page
      → height_of m root ≡ above (suc depth) height → page_below m key (suc depth) root ≡ child_for key 0 (m page).records
      → AreEnough m bits fresh key value height (child_for key 0 (m page).records)
      → length ((below-it height page).memory (child_for key 0 (m page).records)).records ≡ suc MOST_RECORDS
      → full_run m (pages_up m key (suc height) page) ≡ suc height + cond (eqb (length (m page).records) MOST_RECORDS) 1 0
      → full_run m (pages_up m key (suc height) page) ≤ length fresh
      → length (below-it height page).fresh + height ≡ length fresh
      → IsCounted m bits fresh key value (suc height) page
  step-split height depth page tall at tall' at' enough long run room used =
      let has : 0 < length (below-it height page).fresh = omega arith in
      let e : AreEnough m bits fresh key value (suc height) page = (enough, λ over. has) in
      let w = inserted-at height (suc depth) (child_for key 0 (m page).records) tall' at' enough in
      let same : insert_below m bits fresh key value (suc height) page ≡ split page (child_for key 0 (m page).records) (below-it height page) = split_long-long page (child_for key 0 (m page).records) (below-it height page) (omega arith) in
      let f = ap (λ (q : Growth). length q.fresh) same in
      let n = ap (λ (q : Growth). length (q.memory page).records) same in
      let now = page-after_split m bits roots law key value in-range root some le fresh free missing height depth page tall at (below-it height page) w (omega arith) has in
      let x = ap (λ (p : PageState). length p.records) now in
      let y = length-put (first_key (right_part ((below-it height page).memory (child_for key 0 (m page).records)).records)) (first_fresh (below-it height page).fresh) (m page).records in
      let r = length-other_fresh (below-it height page).fresh has in
      let s = page-short (suc height) depth page tall at in
      elim (cases_eq (length (m page).records) MOST_RECORDS) [
        | inl full ↦ let q = cond-eq {X = ℕ} (length (m page).records) MOST_RECORDS 1 0 full in record {
          enough = e;
          over = λ i. (omega arith, omega arith);
          under = λ i. absurd (omega arith);
        }
        | inr ne ↦ let q = cond-ne {X = ℕ} (length (m page).records) MOST_RECORDS 1 0 ne in record {
          enough = e;
          over = λ i. absurd (omega arith);
          under = λ i. (omega (arith, ne), omega arith);
        }
      ]

  -- so it is counted at each page of the path, where there are fresh pages for the run up to it
  pub IsCounted-path : (height depth page : ℕ) → height_of m root ≡ above depth height → page_below m key depth root ≡ page → full_run m (pages_up m key height page) ≤ length fresh
      → IsCounted m bits fresh key value height page
  IsCounted-path zero depth page tall at room =
      let now : put_at m page key value page ≡ with_records (put key value (m page).records) (m page) = cond-eq page page (with_records (put key value (m page).records) (m page)) (m page) refl in
      let n = ap (λ (p : PageState). length p.records) now in
      let l = length-put key value (m page).records in
      let s = page-short 0 depth page tall at in
      record {
        enough = tt;
        over = λ e. (
          elim (cases_eq (length (m page).records) MOST_RECORDS) [
            | inl y ↦ omega arith
            | inr ne ↦ absurd (let z = cond-ne {X = ℕ} (length (m page).records) MOST_RECORDS 1 0 ne in omega arith)
          ],
          omega arith,
        );
        under = λ e. (
          elim (cases_eq (length (m page).records) MOST_RECORDS) [
            | inl y ↦ absurd (let z = cond-eq {X = ℕ} (length (m page).records) MOST_RECORDS 1 0 y in omega arith)
            | inr ne ↦ omega (arith, ne)
          ],
          omega arith,
        );
      }
  IsCounted-path (suc height) depth page tall at room =
      let c = child_for key 0 (m page).records in
      let tall' = tall ∙ above-suc depth height in
      let at' : page_below m key (suc depth) root ≡ child_for key 0 (m page).records = page_below-child m key depth root ∙ ap (λ n. child_for key 0 (m n).records) at in
      let pl = length-pages_up m key height (child_for key 0 (m page).records) in
      let most = full_run-le m (pages_up m key height (child_for key 0 (m page).records)) in
      let more = full_run-behind m (pages_up m key height (child_for key 0 (m page).records)) page in
      let less : full_run m (pages_up m key height (child_for key 0 (m page).records)) ≤ full_run m (pages_up m key (suc height) page) =
      elim (cases_lt (full_run m (pages_up m key height (child_for key 0 (m page).records))) (length (pages_up m key height (child_for key 0 (m page).records)))) [
        | inl lt ↦ let x = more.1 lt in omega arith
        | inr ge ↦ let x = more.0 (omega arith) in omega arith
      ] in
      let r = IsCounted-path height (suc depth) (child_for key 0 (m page).records) tall' at' (omega arith) in
      elim (cases_lt (full_run m (pages_up m key height (child_for key 0 (m page).records))) (suc height)) [
        | inl lt ↦
            let u = r.under (omega arith) in let x = more.1 (omega arith) in
            step-stay height depth page tall at tall' at' r.enough u.0 (omega arith) (omega arith)
        | inr ge ↦
            let o = r.over (omega arith) in let x = more.0 (omega arith) in
            step-split height depth page tall at tall' at' r.enough o.0 (omega arith) room (omega arith)
      ]

  -- the insert up to the root
  abbrev whole : Growth
  whole = insert_below m bits fresh key value (height_of m root) root

  pub run-is : run_of m key root ≡ full_run m (pages_up m key (height_of m root) root)
  run-is = ap (full_run m) (path_of-pages m key root in-range (law.trees root some le).0)

  pub run-le : run_of m key root ≤ suc (height_of m root)
  run-le = let a = full_run-le m (pages_up m key (height_of m root) root) in let b = length-pages_up m key (height_of m root) root in let c = run-is in omega arith

  pub counted-whole : need_of m key root ≤ length fresh → IsCounted m bits fresh key value (height_of m root) root
  counted-whole room = let e = run-is in IsCounted-path (height_of m root) 0 root refl refl (omega arith)

  -- with as many fresh pages as are needed, so it is counted at each page of the path, and what holds of an insert holds there
  pub IsCounted-need : need_of m key root ≤ length fresh → (height depth page : ℕ) → height_of m root ≡ above depth height → page_below m key depth root ≡ page
      → IsCounted m bits fresh key value height page
  IsCounted-need room height depth page tall at = IsCounted-path height depth page tall at (
      let a = full_run-below m key depth height root in
      let b = ap (λ n. full_run m (pages_up m key height n)) at in
      let c = ap (λ h. full_run m (pages_up m key h root)) tall in
      let d = run-is in omega arith)

  pub IsInsertedBelow-need : need_of m key root ≤ length fresh → (height depth page : ℕ) → height_of m root ≡ above depth height → page_below m key depth root ≡ page
      → IsInsertedBelow m roots key value root height page (insert_below m bits fresh key value height page)
  IsInsertedBelow-need room height depth page tall at = inserted-at height depth page tall at (IsCounted-need room height depth page tall at).enough

  -- the root has one record too many where it is in the run, and then two pages are left for its raise; else it is short enough
  pub record IsCountedWhole : Type 0 where
    pub enough : AreEnough m bits fresh key value (height_of m root) root
    pub over : run_of m key root ≡ suc (height_of m root) → (length (whole.memory root).records ≡ suc MOST_RECORDS) × (length whole.fresh + height_of m root ≡ length fresh) × (1 < length whole.fresh)
    pub under : run_of m key root ≤ height_of m root → (length (whole.memory root).records ≤ MOST_RECORDS) × (length whole.fresh + run_of m key root ≡ length fresh)

  pub IsCountedWhole-need : need_of m key root ≤ length fresh → IsCountedWhole
  IsCountedWhole-need room =
      let r = counted-whole room in
      let e = run-is in
      record {
        enough = r.enough;
        over = λ full.
            let q = cond-eq {X = ℕ} (run_of m key root) (suc (height_of m root)) 1 0 full in
            let o = r.over (omega arith) in (o.0, o.1, let x = o.1 in omega arith);
        under = λ less. let u = r.under (omega arith) in (u.0, let x = u.1 in omega arith);
      }

  -- just as many fresh pages are taken as are needed
  pub need_of-taken : need_of m key root ≤ length fresh → length (planned_insert m bits fresh key value root).fresh + need_of m key root ≡ length fresh
  need_of-taken room =
      let r = IsCountedWhole-need room in
      let most = run-le in
      elim (cases_lt (run_of m key root) (suc (height_of m root))) [
        | inl lt ↦
            let u = r.under (omega arith) in
            let a = u.1 in
            let q = cond-ne {X = ℕ} (run_of m key root) (suc (height_of m root)) 1 0 (λ e. omega arith) in
            let f = ap (λ (g : Growth). length g.fresh) (raise_long-short root whole u.0) in omega arith
        | inr ge ↦
            let full : run_of m key root ≡ suc (height_of m root) = omega arith in
            let o = r.over full in
            let a = o.0 in let b = o.1 in let c = o.2 in
            let q = cond-eq {X = ℕ} (run_of m key root) (suc (height_of m root)) 1 0 full in
            let f = ap (λ (g : Growth). length g.fresh) (raise_long-long root whole (omega arith)) in
            let x = length-other_fresh whole.fresh (omega arith) in
            let y = length-other_fresh (other_fresh whole.fresh) (omega arith) in
            omega arith
      ]

  -- a planned insert with as many fresh pages as are needed, where no root is raised that is as high as it may be
  pub IsPlannedInsert-need : need_of m key root ≤ length fresh → (is_root_full m key root ≡ true → height_of m root < most_height roots)
      → IsPlannedInsert m roots key value root (planned_insert m bits fresh key value root)
  IsPlannedInsert-need room low =
      let r = IsCountedWhole-need room in
      IsPlannedInsert-plan m bits roots law key value in-range root some le fresh free missing r.enough (λ long.
      elim (cases_lt (run_of m key root) (suc (height_of m root))) [
        | inl lt ↦ absurd (let x = (r.under (omega arith)).0 in omega arith)
        | inr ge ↦
            let full : run_of m key root ≡ suc (height_of m root) = let a = run-le in omega arith in
            ((r.over full).2, low (eq-eqb (run_of m key root) (suc (height_of m root)) full))
      ])
