-- A tree none of whose pages has changed: what it weighs, the path of a key in it, and how many pages an insert takes there.
use Rattle.std.specs.List.{AllByRecursion}
use Rattle.std.proofs.Common.{◌≡◌, ℕ, ◌+◌, ◌<◌, ◌≤◌, ◌∙◌, [], ◌∷◌, ◌++◌, zero, suc, Bool, cond, List, length, refl, sym, ap, subst, arith, eqb}
use Rattle.ib_map.specs.Keys.{MapKey, end_rank, rank}
use Rattle.ib_heap.specs.declared.TheConstants.{MOST_RECORDS}
use Rattle.ib_walk.specs.Full.{full_run, is_root_full, need_of, path_of as path_to_root, run_of}
use Rattle.ib_walk.specs.Pages.{PageMemory, PageState}
use Rattle.ib_walk.specs.Search.{child_for, leaf_for, page_below}
use Rattle.ib_walk.specs.Trees.{IsLawfulUpTo, IsTreeOf, content_of, height_of, top_of, weight_of}
use Rattle.ib_walk.specs.Walk.{Visit, counts_page, weight_along, records_along, below}
use Rattle.ib_walk.proofs.MeetLaws.{IsSameTree-met}
use Rattle.ib_walk.proofs.SearchLaws.{above}
use Rattle.ib_walk.proofs.WalkLaws.{AllByRecursion-append, IsAlike-same, IsSameTree}
use Rattle.ib_plans.specs.Agreement.{path_down, path_of}
use Rattle.ib_plans.proofs.LevelLaws.{above-suc}
use Rattle.ib_plans.proofs.MetLaws.{root-met}
use Rattle.ib_plans.proofs.PathLaws.{PathPage-below, page_below-child}
use Rattle.ib_plans.proofs.PathListLaws.{pages_up, path_of-pages}

full_run-same : (m new : PageMemory) (ps : List ℕ) → AllByRecursion (λ p. new p ≡ m p) ps → full_run new ps ≡ full_run m ps
full_run-same m new [] same = refl
full_run-same m new (p ∷ ps) same =
    ap (λ (q : PageState). cond (eqb (length q.records) MOST_RECORDS) (suc (full_run new ps)) 0) same.0
    ∙ ap (λ k. cond (eqb (length (m p).records) MOST_RECORDS) (suc k) 0) (full_run-same m new ps same.1)

module _ (most : ℕ → ℕ) (m new : PageMemory) (bits : ℕ → ℕ) (roots : ℕ) (law : IsLawfulUpTo most m bits roots) (r : ℕ) (some : 0 < r) (le : r ≤ roots)
    (same : (n : ℕ) → 0 < weight_of (counts_page n) m r → new n ≡ m n) where
  pub height-stays : height_of new r ≡ height_of m r
  height-stays = ap (λ (p : PageState). p.level) (same r (let e = root-met m r in omega arith))

  tree : IsSameTree m new (height_of m r) (top_of r)
  tree = IsSameTree-met m new (height_of m r) (top_of r) (λ n met. IsAlike-same (new n) (m n) (same n met)) (law.trees r some le).0.tree

  pub weight-stays : (f : ℕ → Visit → ℕ) → weight_of f new r ≡ weight_of f m r
  weight-stays f = ap (λ h. weight_along f new h (top_of r)) height-stays ∙ tree.weighs f

  pub content-stays : content_of new r ≡ content_of m r
  content-stays = ap (λ h. records_along new (below new h (top_of r))) height-stays ∙ tree.holds

  module _ (key : MapKey) (in-range : rank key < end_rank) where
    -- each page of the path is as it was
    path-page : (height depth page : ℕ) → height_of m r ≡ above depth height → page_below m key depth r ≡ page → new page ≡ m page
    path-page height depth page tall at = same page (subst (λ n. 0 < weight_of (counts_page n) m r) at (let p = (PathPage-below most m bits roots law key in-range r some le depth height tall).met in omega arith))

    next-tall : (height depth : ℕ) → height_of m r ≡ above depth (suc height) → height_of m r ≡ above (suc depth) height
    next-tall height depth tall = tall ∙ above-suc depth height

    next-at : (depth page : ℕ) → page_below m key depth r ≡ page → page_below m key (suc depth) r ≡ child_for key 0 (m page).records
    next-at depth page at = page_below-child m key depth r ∙ ap (λ n. child_for key 0 (m n).records) at

    down : (height depth page : ℕ) → height_of m r ≡ above depth height → page_below m key depth r ≡ page → path_down new key height page ≡ path_down m key height page
    down zero depth page tall at = refl
    down (suc height) depth page tall at =
        ap (λ (q : PageState). page ∷ path_down new key height (child_for key 0 q.records)) (path-page (suc height) depth page tall at)
        ∙ ap (λ (ps : List ℕ). page ∷ ps) (down height (suc depth) (child_for key 0 (m page).records) (next-tall height depth tall) (next-at depth page at))

    pub path-stays : path_of new key r ≡ path_of m key r
    path-stays = ap (λ h. path_down new key h r) height-stays ∙ down (height_of m r) 0 r refl refl

    -- .. and so is the page that it comes to on each level
    to : (height depth page : ℕ) → height_of m r ≡ above depth height → page_below m key depth r ≡ page → page_below new key height page ≡ page_below m key height page
    to zero depth page tall at = refl
    to (suc height) depth page tall at =
        ap (λ (q : PageState). page_below new key height (child_for key 0 q.records)) (path-page (suc height) depth page tall at)
        ∙ to height (suc depth) (child_for key 0 (m page).records) (next-tall height depth tall) (next-at depth page at)

    pub leaf-stays : leaf_for new key r ≡ leaf_for m key r
    leaf-stays = ap (λ h. page_below new key h r) height-stays ∙ to (height_of m r) 0 r refl refl

    -- the path from the leaf up
    up : (height depth page : ℕ) → height_of m r ≡ above depth height → page_below m key depth r ≡ page → pages_up new key height page ≡ pages_up m key height page
    up zero depth page tall at = refl
    up (suc height) depth page tall at =
        ap (λ (q : PageState). pages_up new key height (child_for key 0 q.records) ++ page ∷ []) (path-page (suc height) depth page tall at)
        ∙ ap (λ (ps : List ℕ). ps ++ page ∷ []) (up height (suc depth) (child_for key 0 (m page).records) (next-tall height depth tall) (next-at depth page at))

    all-up : (height depth page : ℕ) → height_of m r ≡ above depth height → page_below m key depth r ≡ page → AllByRecursion (λ p. new p ≡ m p) (pages_up m key height page)
    all-up zero depth page tall at = (path-page zero depth page tall at, tt)
    all-up (suc height) depth page tall at =
        AllByRecursion-append (λ p. new p ≡ m p) (pages_up m key height (child_for key 0 (m page).records)) (page ∷ [])
        (all-up height (suc depth) (child_for key 0 (m page).records) (next-tall height depth tall) (next-at depth page at))
        (path-page (suc height) depth page tall at, tt)

    module _ (now : IsTreeOf new (height_of new r) r) where
      pages-stay : path_to_root new key r ≡ pages_up m key (height_of m r) r
      pages-stay = path_of-pages new key r in-range now ∙ (ap (λ h. pages_up new key h r) height-stays ∙ up (height_of m r) 0 r refl refl)

      pub run-stays : run_of new key r ≡ run_of m key r
      run-stays =
          ap (full_run new) pages-stay
          ∙ (full_run-same m new (pages_up m key (height_of m r) r) (all-up (height_of m r) 0 r refl refl)
          ∙ ap (full_run m) (sym (path_of-pages m key r in-range (law.trees r some le).0)))

      pub root_full-stays : is_root_full new key r ≡ is_root_full m key r
      root_full-stays = ap (λ k. eqb k (suc (height_of new r))) run-stays ∙ ap (λ h. eqb (run_of m key r) (suc h)) height-stays

      pub need-stays : need_of new key r ≡ need_of m key r
      need-stays = ap (λ k. k + cond (is_root_full new key r) 1 0) run-stays ∙ ap (λ (b : Bool). run_of m key r + cond b 1 0) root_full-stays
