-- The list of the pages whose range has a key is the key's path: one page of each level, each the child of the one above.
use Rattle.std.specs.List.{AllByRecursion}
use Rattle.std.proofs.Common.{◌≡◌, ℕ, ◌+◌, ◌-◌, ◌<◌, ◌≤◌, ◌∙◌, [], ◌∷◌, ◌++◌, zero, suc, Bool, true, false, cond, List, Some, length, get_or, slice_get, refl, ap, subst, arith, ltb, length-append, leb, map, filter}
use Rattle.std.specs.Prelude.{◌&&◌}
use Rattle.std.proofs.lemmas.Bool.{lt-ltb, le-ltb, le-leb, lt-leb, and_from, and_left, and_right}
use Rattle.ib_map.specs.Keys.{MapKey, end_rank, rank}
use Rattle.ib_map.proofs.RiseLaws.{Rises-le}
use Rattle.ib_walk.specs.Full.{pages_for, path_of, path_up}
use Rattle.ib_walk.specs.Pages.{PageMemory}
use Rattle.ib_walk.specs.Search.{IsPageFor, child_for}
use Rattle.ib_walk.specs.Trees.{IsTreeOf, height_of, top_of}
use Rattle.ib_walk.specs.Walk.{IsLeafAt, IsNodeAt, IsTiled, IsTree, Visit, children}
use Rattle.ib_walk.proofs.SearchLaws.{IsPageFor-children, IsTiled-children, IsTiled-left, IsTiled-right}
use Rattle.ib_walk.proofs.TreeLaws.{IsPageFor-top}
use Rattle.ib_walk.proofs.WalkLaws.{AllByRecursion-left, AllByRecursion-right}
use Rattle.ib_plans.specs.Agreement.{path_down, last_of}
use Rattle.ib_plans.proofs.LevelLaws.{IsTree-children}

-- the path from the leaf up to a page of this height
abbrev pub pages_up : PageMemory → MapKey → ℕ → ℕ → List ℕ
pages_up m key zero page = page ∷ []
pages_up m key (suc height) page = pages_up m key height (child_for key 0 (m page).records) ++ page ∷ []

pub length-pages_up : (m : PageMemory) (key : MapKey) (height page : ℕ) → length (pages_up m key height page) ≡ suc height
length-pages_up m key zero page = refl
length-pages_up m key (suc height) page =
    let r = length-pages_up m key height (child_for key 0 (m page).records) in
    let a = length-append (pages_up m key height (child_for key 0 (m page).records)) (page ∷ []) in omega arith

-- the path from the root down has as many pages
pub length-path_down : (m : PageMemory) (key : MapKey) (height page : ℕ) → length (path_down m key height page) ≡ suc height
length-path_down m key zero page = refl
length-path_down m key (suc height) page = ap suc (length-path_down m key height (child_for key 0 (m page).records))

-- the last page is the one with the last number
pub last_of-at : (path : List ℕ) (i : ℕ) → i + 1 ≡ length path → get_or path i 0 ≡ last_of path
last_of-at [] i e = absurd (omega arith)
last_of-at (x ∷ []) zero e = refl
last_of-at (x ∷ []) (suc i) e = absurd (omega arith)
last_of-at (x ∷ y ∷ ys) zero e = absurd (omega arith)
last_of-at (x ∷ y ∷ ys) (suc i) e = last_of-at (y ∷ ys) i (omega arith)

-- whether a visit's range has the key
abbrev has_key : MapKey → Visit → Bool
has_key key v = leb v.low (rank key) && ltb (rank key) v.high

-- a visit's range ends no lower than it begins
abbrev Ascends : Visit → Type 0
Ascends v = v.low ≤ v.high

pages_for-append : (key : MapKey) (xs ys : List Visit) → pages_for key (xs ++ ys) ≡ pages_for key xs ++ pages_for key ys
pages_for-append key [] ys = refl
pages_for-append key (x ∷ xs) ys =
    let r = pages_for-append key xs ys in
    elim (has_key key x) as (λ b. map (λ (v : Visit). v.page) (cond b (x ∷ filter (has_key key) (xs ++ ys)) (filter (has_key key) (xs ++ ys)))
    ≡ map (λ (v : Visit). v.page) (cond b (x ∷ filter (has_key key) xs) (filter (has_key key) xs)) ++ pages_for key ys) [
      | true ↦ ap (λ ps. x.page ∷ ps) r
      | false ↦ r
    ]

-- no range up to the key has it, nor one from above it on
IsTiled-le : (low : ℕ) (vs : List Visit) (high : ℕ) → IsTiled low vs high → AllByRecursion Ascends vs → low ≤ high
IsTiled-le low [] high t a = omega (arith, t)
IsTiled-le low (v ∷ vs) high t a = let r = IsTiled-le v.high vs high t.1 a.1 in let e = t.0 in let o = a.0 in omega arith

pages_for-before : (key : MapKey) (low : ℕ) (vs : List Visit) (high : ℕ) → IsTiled low vs high → AllByRecursion Ascends vs → high ≤ rank key → pages_for key vs ≡ []
pages_for-before key low [] high t a le = refl
pages_for-before key low (v ∷ vs) high t a le =
    let r = IsTiled-le v.high vs high t.1 a.1 in
    let no : has_key key v ≡ false = and_right _ _ (le-ltb (rank key) v.high (omega arith)) in
    rw no (pages_for-before key v.high vs high t.1 a.1 le)

pages_for-behind : (key : MapKey) (low : ℕ) (vs : List Visit) (high : ℕ) → IsTiled low vs high → AllByRecursion Ascends vs → rank key < low → pages_for key vs ≡ []
pages_for-behind key low [] high t a lt = refl
pages_for-behind key low (v ∷ vs) high t a lt =
    let e = t.0 in let o = a.0 in
    let no : has_key key v ≡ false = and_left _ _ (lt-leb v.low (rank key) (omega arith)) in
    rw no (pages_for-behind key v.high vs high t.1 a.1 (omega arith))

-- one range of a level has it
pages_for-one : (key : MapKey) (low : ℕ) (vs : List Visit) (high page : ℕ) → IsTiled low vs high → AllByRecursion Ascends vs → IsPageFor key vs page → pages_for key vs ≡ page ∷ []
pages_for-one key low vs high page t a p =
    let tiles = subst (λ us. IsTiled low us high) p.is t in
    let all = subst (AllByRecursion Ascends) p.is a in
    let rest = AllByRecursion-right Ascends p.before (p.visit ∷ p.behind) all in
    let before = pages_for-before key low p.before p.visit.low (IsTiled-left low p.before p.visit p.behind high tiles) (AllByRecursion-left Ascends p.before (p.visit ∷ p.behind) all) p.low in
    let behind = pages_for-behind key p.visit.high p.behind high (IsTiled-right low p.before p.visit p.behind high tiles) rest.1 p.high in
    let yes : has_key key p.visit ≡ true = and_from _ _ (le-leb p.visit.low (rank key) p.low) (lt-ltb (rank key) p.visit.high p.high) in
    let here : pages_for key (p.visit ∷ p.behind) ≡ page ∷ [] = rw yes (ap (λ ps. p.visit.page ∷ ps) behind ∙ ap (λ n. n ∷ []) p.here) in
    ap (pages_for key) p.is ∙ (pages_for-append key p.before (p.visit ∷ p.behind) ∙ (ap (λ ps. ps ++ pages_for key (p.visit ∷ p.behind)) before ∙ here))

nodes-ascend : (m : PageMemory) (height : ℕ) (vs : List Visit) → AllByRecursion (IsNodeAt m height) vs → AllByRecursion Ascends vs
nodes-ascend m height [] h = tt
nodes-ascend m height (v ∷ vs) h = (Rises-le v.low (m v.page).records v.high h.0.within, nodes-ascend m height vs h.1)

leaves-ascend : (m : PageMemory) (vs : List Visit) → AllByRecursion (IsLeafAt m) vs → AllByRecursion Ascends vs
leaves-ascend m [] h = tt
leaves-ascend m (v ∷ vs) h = (Rises-le v.low (m v.page).records v.high h.0.within, leaves-ascend m vs h.1)

-- so the pages for a key, level by level, are the pages of its path
pub path_up-pages : (m : PageMemory) (key : MapKey) (height low : ℕ) (vs : List Visit) (high page : ℕ) → IsTree m height vs → IsTiled low vs high → IsPageFor key vs page
    → path_up m key height vs ≡ pages_up m key height page
path_up-pages m key zero low vs high page t tiles p = pages_for-one key low vs high page tiles (leaves-ascend m vs t.leaves) p
path_up-pages m key (suc height) low vs high page t tiles p =
    let own = pages_for-one key low vs high page tiles (nodes-ascend m (suc height) vs t.nodes.0) p in
    let r = path_up-pages m key height low (children m vs) high (child_for key 0 (m page).records) (IsTree-children m height vs t) (IsTiled-children m (suc height) low vs high t.nodes.0 tiles)
    (IsPageFor-children m (suc height) key vs page t.nodes.0 p) in
    ap (λ ps. ps ++ pages_for key vs) r ∙ ap (λ ps. pages_up m key height (child_for key 0 (m page).records) ++ ps) own

-- the path of a key of a tree
pub path_of-pages : (m : PageMemory) (key : MapKey) (root : ℕ) → rank key < end_rank → IsTreeOf m (height_of m root) root → path_of m key root ≡ pages_up m key (height_of m root) root
path_of-pages m key root in-range t = path_up-pages m key (height_of m root) 0 (top_of root) end_rank root t.tree (refl, refl) (IsPageFor-top key root in-range)

-- the page that a look at the end of a path gives
pub last-got : (path : List ℕ) (page : ℕ) → slice_get path (length path - 1) ≡ Some page → last_of path ≡ page
last-got [] page got = cc
last-got (x ∷ []) page got = cc
last-got (x ∷ y ∷ ys) page got =
    let e : length (x ∷ y ∷ ys) - 1 ≡ suc (length (y ∷ ys) - 1) = omega arith in
    last-got (y ∷ ys) page (subst (λ n. slice_get (x ∷ y ∷ ys) n ≡ Some page) e got)
