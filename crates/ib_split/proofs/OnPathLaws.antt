-- The path of a key as a list from the root down, and its pages in a work set.
use Rattle.std.proofs.Common.{◌≡◌, ◌∙◌, ℕ, zero, suc, ◌+◌, ◌<◌, ◌≤◌, List, [], ◌∷◌, ◌++◌, length, get_or, drop, drop-cons, cond, Bool, ◌-◌, refl, sym, ap, subst, arith}
use Rattle.std.specs.Prelude.{reverse, IsSomeAnd, ◌==◌}
use Rattle.std.specs.List.{AllByRecursion}
use Rattle.std.proofs.lemmas.List.{reverse-append, length-reverse, get_or-reverse}
use Rattle.ib_map.specs.Keys.{MapKey, rank, end_rank}
use Rattle.ib_map.proofs.KeyLaws.{rank-lt_end}
use Rattle.ib_heap.specs.declared.TheConstants.{MOST_RECORDS}
use Rattle.ib_page.specs.Image.{IsTreePage}
use Rattle.ib_page.specs.Work.{WorkPage, changed_of}
use Rattle.ib_walk.specs.Pages.{PageMemory}
use Rattle.ib_walk.specs.Search.{child_for, page_below}
use Rattle.ib_walk.specs.Trees.{height_of}
use Rattle.ib_walk.specs.Full.{full_run, run_of}
use Rattle.ib_walk.proofs.SearchLaws.{above}
use Rattle.ib_walk.proofs.WalkLaws.{AllByRecursion-append}
use Rattle.ib_plans.specs.Agreement.{IsThere, memory_in, path_down, Agrees, HasTreePages, last_of}
use Rattle.ib_plans.proofs.EditLaws.{IsSome-and}
use Rattle.ib_plans.proofs.LevelLaws.{above-suc}
use Rattle.ib_plans.proofs.PathLaws.{PathPage, PathPage-below, page_below-child}
use Rattle.ib_plans.proofs.PathListLaws.{length-path_down, pages_up, path_of-pages}

-- from the root down is from the leaf up, turned
pub path_down-reverse : (m : PageMemory) (key : MapKey) (height page : ℕ) → reverse (path_down m key height page) ≡ pages_up m key height page
path_down-reverse m key zero page = refl
path_down-reverse m key (suc height) page =
    reverse-append (page ∷ []) (path_down m key height (child_for key 0 (m page).records))
    ∙ ap (λ ps. ps ++ page ∷ []) (path_down-reverse m key height (child_for key 0 (m page).records))

-- the page so many levels below the first one
pub path_down-at : (m : PageMemory) (key : MapKey) (depth height page : ℕ) → get_or (path_down m key (above depth height) page) depth 0 ≡ page_below m key depth page
path_down-at m key zero zero page = refl
path_down-at m key zero (suc height) page = refl
path_down-at m key (suc depth) height page = path_down-at m key depth height (child_for key 0 (m page).records)

pub last_of-path_down : (m : PageMemory) (key : MapKey) (height page : ℕ) → last_of (path_down m key height page) ≡ page_below m key height page
last_of-path_down m key zero page = refl
last_of-path_down m key (suc zero) page = refl
last_of-path_down m key (suc (suc height)) page = last_of-path_down m key (suc height) (child_for key 0 (m page).records)

-- full pages are a matter of the pages that are looked at
pub full_run-same : (a b : PageMemory) (ps : List ℕ) → AllByRecursion (λ p. a p ≡ b p) ps → full_run a ps ≡ full_run b ps
full_run-same a b [] same = refl
full_run-same a b (p ∷ ps) same = let here = same.0 in let rest = full_run-same a b ps same.1 in rw (here, rest) refl

-- the pages of the path of a work set that agrees with a memory
module _ (pages roots root : ℕ) (key : MapKey) (path : List ℕ) (work : List WorkPage) (m : PageMemory) (bits : ℕ → ℕ) (agrees : Agrees pages roots root key path work m bits) where
  pub in-range : rank key < end_rank
  in-range = rank-lt_end key

  pub path-length : length path ≡ suc (height_of m root)
  path-length = ap length agrees.way ∙ length-path_down m key (height_of m root) root

  pub path-last : last_of path ≡ page_below m key (height_of m root) root
  path-last = ap last_of agrees.way ∙ last_of-path_down m key (height_of m root) root

  module _ (depth height : ℕ) (tall : height_of m root ≡ above depth height) where
    pub path-at : get_or path depth 0 ≡ page_below m key depth root
    path-at = ap (λ ps. get_or ps depth 0) (agrees.way ∙ ap (λ h. path_down m key h root) tall) ∙ path_down-at m key depth height root

    pub path-page : PathPage m height root (page_below m key depth root)
    path-page = PathPage-below (λ n. MOST_RECORDS) m bits roots agrees.lawful key in-range root agrees.some agrees.within depth height tall

    module _ (there : HasTreePages path work) where
      pub path-tree : IsSomeAnd (changed_of (page_below m key depth root) work) IsTreePage
      path-tree = subst (λ p. IsSomeAnd (changed_of p work) IsTreePage) path-at (there depth 0 (let l = path-length in let d = above-depth depth height in omega arith))
        where
          above-depth : (d h : ℕ) → d ≤ above d h
          above-depth zero h = omega arith
          above-depth (suc d) h = let r = above-depth d h in omega arith

      pub path-there : IsThere work (page_below m key depth root)
      path-there = IsSome-and IsTreePage (changed_of (page_below m key depth root) work) path-tree

      pub path-same : memory_in work (page_below m key depth root) ≡ m (page_below m key depth root)
      path-same = agrees.same (page_below m key depth root) path-page.some path-there

  module _ (there : HasTreePages path work) where
    pub pages_up-same : (height depth : ℕ) → height_of m root ≡ above depth height → AllByRecursion (λ p. memory_in work p ≡ m p) (pages_up m key height (page_below m key depth root))
    pages_up-same zero depth tall = (path-same depth zero tall there, tt)
    pages_up-same (suc height) depth tall =
        let child = page_below-child m key depth root in
        let r = subst (λ c. AllByRecursion (λ p. memory_in work p ≡ m p) (pages_up m key height c)) child (pages_up-same height (suc depth) (tall ∙ above-suc depth height)) in
        AllByRecursion-append (λ p. memory_in work p ≡ m p) (pages_up m key height (child_for key 0 (m (page_below m key depth root)).records)) (page_below m key depth root ∷ []) r
        (path-same depth (suc height) tall there, tt)

    -- as many of them are full as the tree has full pages on the key's path
    pub full_run-path : full_run (memory_in work) (reverse path) ≡ run_of m key root
    full_run-path =
        ap (λ ps. full_run (memory_in work) (reverse ps)) agrees.way
        ∙ (ap (full_run (memory_in work)) (path_down-reverse m key (height_of m root) root)
        ∙ (full_run-same (memory_in work) m (pages_up m key (height_of m root) root) (pages_up-same (height_of m root) 0 refl)
        ∙ ap (full_run m) (sym (path_of-pages m key root in-range (agrees.lawful.trees root agrees.some agrees.within).0))))

-- one page of a path, counted from its end
pub full_run-at : (m : PageMemory) (path : List ℕ) (i : ℕ) (b : Bool) → i < length path → (length (m (get_or path (length path - 1 - i) 0)).records == MOST_RECORDS) ≡ b
    → full_run m (drop i (reverse path)) ≡ cond b (suc (full_run m (drop (i + 1) (reverse path)))) 0
full_run-at m path i b lt full =
    let cons = drop-cons (reverse path) i 0 (let l = length-reverse path in omega arith) in
    let page = get_or-reverse path i 0 lt in
    let e : suc i ≡ i + 1 = omega arith in
    ap (full_run m) (cons ∙ (ap (λ p. p ∷ drop (suc i) (reverse path)) page ∙ ap (λ k. get_or path (length path - 1 - i) 0 ∷ drop k (reverse path)) e))
    ∙ ap (λ c. cond c (suc (full_run m (drop (i + 1) (reverse path)))) 0) full
