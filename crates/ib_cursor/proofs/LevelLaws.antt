-- The pages of a path and those beside them under the same parents, level by level: each is there once, and the leaf behind them too.
use Rattle.std.specs.List.{AllByRecursion, flat_map}
use Rattle.std.specs.Prelude.{◌==◌, ◌||◌}
use Rattle.std.proofs.Common.{◌≡◌, ◌≢◌, ◌⊎◌, inl, inr, ℕ, zero, suc, ◌<◌, ◌≤◌, Bool, true, false, List, [], ◌∷◌, ◌++◌, length, refl, sym, ap, subst, ◌∙◌, arith, append_assoc, length-append, ne_eqb, eq-eqb}
use Rattle.std.proofs.lemmas.Bool.{cases_eq}
use Rattle.std.proofs.lemmas.List.{flat_map_more}
use Rattle.ib_map.specs.Keys.{MapKey, rank, end_rank}
use Rattle.ib_walk.specs.Pages.{PageMemory, Tree}
use Rattle.ib_walk.specs.Search.{child_for}
use Rattle.ib_walk.specs.Trees.{IsLawful, IsTreeOf, height_of, top_of, weight_of}
use Rattle.ib_walk.specs.Walk.{AreLinked, below, counts_page}
use Rattle.ib_walk.proofs.WalkLaws.{AllByRecursion-append}
use Rattle.ib_plans.specs.Agreement.{last_of, path_down, path_of}
use Rattle.ib_plans.proofs.MetLaws.{root-met}
use Rattle.ib_plans.proofs.PathListLaws.{length-path_down}
use Rattle.ib_tree.specs.PageLists.{is_listed, AreOnce}
use Rattle.ib_cursor.specs.OnPath.{IsOnPath}
use Rattle.ib_cursor.specs.Claims.{beside}
use Rattle.ib_cursor.specs.Siblings.{with_siblings}
use Rattle.ib_cursor.proofs.OnPathLaws.{root_on-path, child_on-path, page_on-path}
use Rattle.ib_cursor.proofs.OnceLaws.{among_append}
use Rattle.ib_cursor.proofs.RowLaws.{IsRowPage, siblings_met, siblings_once, siblings_row, child_among, behind_met, behind_once, some_siblings}

-- lists of pages by their levels
not-among : (m : PageMemory) (level page : ℕ) (ps : List ℕ) → (m page).level ≡ level → AllByRecursion (λ n. (m n).level < level) ps → is_listed ps page ≡ false
not-among m level page [] at low = refl
not-among m level page (p ∷ ps) at low =
    let differ : (p == page) ≡ false = ne_eqb p page (λ e. let z = ap (λ n. (m n).level) e in let l = low.0 in omega arith) in
    ap (λ t. t || is_listed ps page) differ ∙ not-among m level page ps at low.1

-- one level above others
level-once : (m : PageMemory) (level pages : ℕ) (xs ys : List ℕ) → AreOnce xs pages → AllByRecursion (IsRowPage m level) xs → AreOnce ys pages → AllByRecursion (λ n. (m n).level < level) ys → AreOnce (xs ++ ys) pages
level-once m level pages [] ys once row more low = more
level-once m level pages (x ∷ xs) ys once row more low = (once.0, among_append xs ys x once.1 (not-among m level x ys row.0.at low), level-once m level pages xs ys once.2 row.1 more low)

level-low : (m : PageMemory) (level : ℕ) (xs ys : List ℕ) → AllByRecursion (IsRowPage m level) xs → AllByRecursion (λ n. (m n).level < level) ys → AllByRecursion (λ n. (m n).level < suc level) (xs ++ ys)
level-low m level [] [] row low = tt
level-low m level [] (y ∷ ys) row low = (let l = low.0 in omega arith, level-low m level [] ys row low.1)
level-low m level (x ∷ xs) ys row low = (let l = row.0.at in omega arith, level-low m level xs ys row.1 low)

row-low : (m : PageMemory) (level : ℕ) (xs : List ℕ) → AllByRecursion (IsRowPage m level) xs → AllByRecursion (λ n. (m n).level < suc level) xs
row-low m level [] row = tt
row-low m level (x ∷ xs) row = (let l = row.0.at in omega arith, row-low m level xs row.1)

-- the last page of a list is one of it, and is what each page of it is
pub last_among : (xs : List ℕ) → 0 < length xs → is_listed xs (last_of xs) ≡ true
last_among [] some = absurd (omega arith)
last_among (x ∷ []) some = ap (λ t. t || false) (eq-eqb x x refl)
last_among (x ∷ y ∷ ys) some = by_first (x == last_of (y ∷ ys)) (last_among (y ∷ ys) (omega arith))
  where
    by_first : (t : Bool) → is_listed (y ∷ ys) (last_of (y ∷ ys)) ≡ true → (t || is_listed (y ∷ ys) (last_of (y ∷ ys))) ≡ true
    by_first true r = refl
    by_first false r = r

last-each : (P : ℕ → Type 0) (xs : List ℕ) → 0 < length xs → AllByRecursion P xs → P (last_of xs)
last-each P [] some all = absurd (omega arith)
last-each P (x ∷ []) some all = all.0
last-each P (x ∷ y ∷ ys) some all = last-each P (y ∷ ys) (omega arith) all.1

pub last_append : (xs ys : List ℕ) → 0 < length ys → last_of (xs ++ ys) ≡ last_of ys
last_append [] ys some = refl
last_append (x ∷ []) [] some = absurd (omega arith)
last_append (x ∷ []) (y ∷ ys) some = refl
last_append (x ∷ z ∷ zs) ys some = last_append (z ∷ zs) ys some

-- what is one of a part is one of the whole
pub among_right : (xs ys : List ℕ) (n : ℕ) → is_listed ys n ≡ true → is_listed (xs ++ ys) n ≡ true
among_right [] ys n e = e
among_right (x ∷ xs) ys n e = by_first (x == n) (among_right xs ys n e)
  where
    by_first : (t : Bool) → is_listed (xs ++ ys) n ≡ true → (t || is_listed (xs ++ ys) n) ≡ true
    by_first true r = refl
    by_first false r = r

pub among-left : (xs ys : List ℕ) (n : ℕ) → is_listed xs n ≡ true → is_listed (xs ++ ys) n ≡ true
among-left [] ys n e = cc
among-left (x ∷ xs) ys n e = by_first (x == n) e (among-left xs ys n)
  where
    by_first : (t : Bool) → (t || is_listed xs n) ≡ true → (is_listed xs n ≡ true → is_listed (xs ++ ys) n ≡ true) → (t || is_listed (xs ++ ys) n) ≡ true
    by_first true e later = refl
    by_first false e later = later e

pub among-child : (xs ys : List ℕ) (child n : ℕ) → is_listed xs child ≡ true → is_listed (child ∷ ys) n ≡ true → is_listed (xs ++ ys) n ≡ true
among-child xs ys child n here e = by_first (cases_eq child n)
  where
    by_first : (child ≡ n) ⊎ (child ≢ n) → is_listed (xs ++ ys) n ≡ true
    by_first (inl is) = among-left xs ys n (subst (λ k. is_listed xs k ≡ true) is here)
    by_first (inr ne) = among_right xs ys n (ap (λ t. t || is_listed ys n) (sym (ne_eqb child n ne)) ∙ e)

-- the first of a list, and the others
abbrev pub first-of : List ℕ → ℕ
first-of [] = 0
first-of (x ∷ xs) = x

abbrev pub others-of : List ℕ → List ℕ
others-of [] = []
others-of (x ∷ xs) = xs

-- a list has no page, or a last one
pub record HasLast (xs : List ℕ) : Type 0 where
  pub front : List ℕ
  pub last : ℕ
  pub is : xs ≡ front ++ last ∷ []

pub ends_of : (xs : List ℕ) → (xs ≡ []) ⊎ HasLast xs
ends_of [] = inl refl
ends_of (x ∷ xs) = elim (ends_of xs) [
  | inl none ↦ inr (record { front = []; last = x; is = ap (λ ps. x ∷ ps) none })
  | inr h ↦ inr (record { front = x ∷ h.front; last = h.last; is = ap (λ ps. x ∷ ps) h.is })
]

-- pages of which none is met by a tree, and others that are
pub apart_once : (m : PageMemory) (root pages : ℕ) (xs ys : List ℕ) → AreOnce xs pages → AllByRecursion (λ n. weight_of (counts_page n) m root ≡ 0) xs → AreOnce ys pages
    → AllByRecursion (λ n. 1 ≤ weight_of (counts_page n) m root) ys → AreOnce (xs ++ ys) pages
apart_once m root pages [] ys once none more met = more
apart_once m root pages (x ∷ xs) ys once none more met =
    (once.0, among_append xs ys x once.1 (not-met ys met), apart_once m root pages xs ys once.2 none.1 more met)
  where
    not-met : (ps : List ℕ) → AllByRecursion (λ n. 1 ≤ weight_of (counts_page n) m root) ps → is_listed ps x ≡ false
    not-met [] met = refl
    not-met (p ∷ ps) met =
        let differ : (p == x) ≡ false = ne_eqb p x (λ e. let z = ap (λ n. weight_of (counts_page n) m root) e in let w = none.0 in let o = met.0 in omega arith) in
        ap (λ t. t || is_listed ps x) differ ∙ not-met ps met.1

module _ (pages : ℕ) (m : PageMemory) (bits : ℕ → ℕ) (roots : ℕ) (law : IsLawful m bits roots) (root : ℕ) (some : 0 < root) (le : root ≤ roots) (within : (n : ℕ) → 1 ≤ weight_of (counts_page n) m root → n < pages)
    (key : MapKey) (lt : rank key < end_rank) where
  tree : IsTreeOf m (height_of m root) root
  tree = (law.trees root some le).0

  level-is : (page level : ℕ) → IsOnPath m root key page level → (m page).level ≡ level
  level-is page level o = (page_on-path m root key page level tree lt o).height

  -- a page of the path, by its place in it
  pub path_at : (level page : ℕ) → IsOnPath m root key page level → (above : List ℕ) (node : ℕ) (rest : List ℕ) → path_down m key level page ≡ above ++ node ∷ rest → IsOnPath m root key node (length rest)
  path_at zero page o [] node rest is =
      let e : page ≡ node = ap first-of is in
      let l = ap length is in
      let z : 0 ≡ length rest = omega arith in
      subst (λ n. IsOnPath m root key node n) z (subst (λ n. IsOnPath m root key n 0) e o)
  path_at (suc level) page o [] node rest is =
      let e : page ≡ node = ap first-of is in
      let l = ap length is in let w = length-path_down m key level (child_for key 0 (m page).records) in
      let z : suc level ≡ length rest = omega arith in
      subst (λ n. IsOnPath m root key node n) z (subst (λ n. IsOnPath m root key n (suc level)) e o)
  path_at zero page o (x ∷ xs) node rest is = absurd (let a = ap length is in let b = length-append xs (node ∷ rest) in omega arith)
  path_at (suc level) page o (x ∷ xs) node rest is = path_at level (child_for key 0 (m page).records) (child_on-path m root key page level o) xs node rest (ap others-of is)

  -- the pages of the levels below, with others that are lower still
  below-once : (level page : ℕ) → IsOnPath m root key page level → (above : List ℕ) (node : ℕ) (rest : List ℕ) → path_down m key level page ≡ above ++ node ∷ rest
      → (tail : List ℕ) → AreOnce tail pages → AllByRecursion (λ n. (m n).level < length rest) tail
      → AreOnce (flat_map (with_siblings m key) above ++ tail) pages × AllByRecursion (λ n. (m n).level < level) (flat_map (with_siblings m key) above ++ tail)
  below-once level page o [] node rest is tail once low =
      let same : length rest ≡ level = let a = ap length is in let b = length-path_down m key level page in omega arith in
      (once, subst (λ l. AllByRecursion (λ n. (m n).level < l) tail) same low)
  below-once zero page o (x ∷ xs) node rest is tail once low = absurd (let a = ap length is in let b = length-append xs (node ∷ rest) in omega arith)
  below-once (suc level) page o (x ∷ xs) node rest is tail once low =
      let e : page ≡ x = ap first-of is in
      let r = below-once level (child_for key 0 (m page).records) (child_on-path m root key page level o) xs node rest (ap others-of is) tail once low in
      let here = siblings_once pages m bits roots law root some le within key lt page level o in
      let row = siblings_row pages m bits roots law root some le within key lt page level o in
      let all = flat_map (with_siblings m key) xs ++ tail in
      let same : with_siblings m key page ++ all ≡ flat_map (with_siblings m key) (x ∷ xs) ++ tail =
      ap (λ n. with_siblings m key n ++ all) e ∙ sym (append_assoc (with_siblings m key x) (flat_map (with_siblings m key) xs) tail) in
      subst (λ ps. AreOnce ps pages × AllByRecursion (λ n. (m n).level < suc level) ps) same
      (level-once m level pages (with_siblings m key page) all here row r.0 r.1, level-low m level (with_siblings m key page) all row r.1)

  -- they are all met by the tree
  levels-met : (level page : ℕ) → IsOnPath m root key page level → (above : List ℕ) (node : ℕ) (rest : List ℕ) → path_down m key level page ≡ above ++ node ∷ rest
      → AllByRecursion (λ n. 1 ≤ weight_of (counts_page n) m root) (flat_map (with_siblings m key) above)
  levels-met level page o [] node rest is = tt
  levels-met zero page o (x ∷ xs) node rest is = absurd (let a = ap length is in let b = length-append xs (node ∷ rest) in omega arith)
  levels-met (suc level) page o (x ∷ xs) node rest is =
      let e : page ≡ x = ap first-of is in
      AllByRecursion-append (λ n. 1 ≤ weight_of (counts_page n) m root) (with_siblings m key x) (flat_map (with_siblings m key) xs)
      (subst (λ n. AllByRecursion (λ k. 1 ≤ weight_of (counts_page k) m root) (with_siblings m key n)) e (siblings_met pages m bits roots law root some le within key lt page level o))
      (levels-met level (child_for key 0 (m page).records) (child_on-path m root key page level o) xs node rest (ap others-of is))

  -- the nodes of a path are among them
  nodes-among : (level page : ℕ) → IsOnPath m root key page level → (above : List ℕ) (node : ℕ) (rest : List ℕ) → path_down m key level page ≡ above ++ node ∷ rest
      → AllByRecursion (λ n. is_listed (page ∷ flat_map (with_siblings m key) above) n ≡ true) (above ++ node ∷ [])
  nodes-among level page o [] node rest is =
      let e : page ≡ node = first level is in
      (ap (λ t. t || false) (eq-eqb page node e), tt)
    where
      first : (level : ℕ) → path_down m key level page ≡ node ∷ rest → page ≡ node
      first zero is = ap first-of is
      first (suc level) is = ap first-of is
  nodes-among zero page o (x ∷ xs) node rest is = absurd (let a = ap length is in let b = length-append xs (node ∷ rest) in omega arith)
  nodes-among (suc level) page o (x ∷ xs) node rest is =
      let e : page ≡ x = ap first-of is in
      let child = child_for key 0 (m page).records in
      let here = child_among pages m bits roots law root some le within key lt page level o in
      let r = nodes-among level child (child_on-path m root key page level o) xs node rest (ap others-of is) in
      let all = flat_map (with_siblings m key) xs in
      let more : AllByRecursion (λ n. is_listed (with_siblings m key page ++ all) n ≡ true) (xs ++ node ∷ []) =
      each (λ n. is_listed (child ∷ all) n ≡ true) (λ n. is_listed (with_siblings m key page ++ all) n ≡ true) (xs ++ node ∷ []) (λ n. among-child (with_siblings m key page) all child n here) r in
      subst (λ k. AllByRecursion (λ n. is_listed (page ∷ (with_siblings m key k ++ all)) n ≡ true) (k ∷ (xs ++ node ∷ []))) e
      (ap (λ t. t || is_listed (with_siblings m key page ++ all) page) (eq-eqb page page refl), each (λ n. is_listed (with_siblings m key page ++ all) n ≡ true) (λ n. is_listed (page ∷ (with_siblings m key page ++ all)) n ≡ true) (xs ++ node ∷ []) (λ n. among_right (page ∷ []) (with_siblings m key page ++ all) n) more)
    where
      each : (P Q : ℕ → Type 0) (ps : List ℕ) → ((n : ℕ) → P n → Q n) → AllByRecursion P ps → AllByRecursion Q ps
      each P Q [] f h = tt
      each P Q (p ∷ ps) f h = (f p h.0, each P Q ps f h.1)

  -- the root above them all
  module _ (path above : List ℕ) (node : ℕ) (rest : List ℕ) (on_path : path ≡ path_of m key root) (is : path ≡ above ++ node ∷ rest) where
    down : path_down m key (height_of m root) root ≡ above ++ node ∷ rest
    down = sym on_path ∙ is

    pub on : IsOnPath m root key node (length rest)
    on = path_at (height_of m root) root (root_on-path m root key) above node rest down

    root-in : root < pages
    root-in = within root (root-met m root)

    under-root : (tail : List ℕ) → AreOnce tail pages → AllByRecursion (λ n. (m n).level < length rest) tail → AreOnce ((root ∷ flat_map (with_siblings m key) above) ++ tail) pages
    under-root tail once low =
        let r = below-once (height_of m root) root (root_on-path m root key) above node rest down tail once low in
        (root-in, not-among m (height_of m root) root (flat_map (with_siblings m key) above ++ tail) refl r.1, r.0)

    pub path_among : AllByRecursion (λ n. is_listed (root ∷ flat_map (with_siblings m key) above) n ≡ true) (above ++ node ∷ [])
    path_among = nodes-among (height_of m root) root (root_on-path m root key) above node rest down

    pub rows_met : AllByRecursion (λ n. 1 ≤ weight_of (counts_page n) m root) (root ∷ flat_map (with_siblings m key) above)
    rows_met = (root-met m root, levels-met (height_of m root) root (root_on-path m root key) above node rest down)

    pub node_kind : (m node).kind ≡ Tree
    node_kind = (page_on-path m root key node (length rest) tree lt on).kind

    -- one row more
    pub row_once : (level : ℕ) → length rest ≡ suc level → AreOnce ((root ∷ flat_map (with_siblings m key) above) ++ with_siblings m key node) pages
    row_once level e =
        let o = subst (IsOnPath m root key node) e on in
        under-root (with_siblings m key node) (siblings_once pages m bits roots law root some le within key lt node level o)
        (subst (λ l. AllByRecursion (λ n. (m n).level < l) (with_siblings m key node)) (sym e) (row-low m level (with_siblings m key node) (siblings_row pages m bits roots law root some le within key lt node level o)))

    pub row_met : (level : ℕ) → length rest ≡ suc level → AllByRecursion (λ n. 1 ≤ weight_of (counts_page n) m root) (with_siblings m key node)
    row_met level e = siblings_met pages m bits roots law root some le within key lt node level (subst (IsOnPath m root key node) e on)

  -- a root that is a leaf has no leaf behind it
  root-alone : height_of m root ≡ 0 → (m root).next ≡ 0
  root-alone z = let linked : AreLinked m 0 (top_of root) 0 = subst (λ h. AreLinked m 0 (below m h (top_of root)) 0) z tree.linked in linked.1

  -- all levels, and the leaf behind the last page of them
  module _ (path above : List ℕ) (leaf : ℕ) (on_path : path ≡ path_of m key root) (ends : path ≡ above ++ leaf ∷ []) where
    abbrev AreAll : List ℕ → Type 0
    AreAll ps = AreOnce (ps ++ beside (m (last_of ps)).next) pages × ((m (last_of ps)).kind ≡ Tree)

    pub all_once : AreAll (root ∷ flat_map (with_siblings m key) above)
    all_once = elim (ends_of above) [
      | inl none ↦
          let low : height_of m root ≡ 0 = let a = ap length (sym on_path ∙ ends) in let b = length-path_down m key (height_of m root) root in let c = length-append above (leaf ∷ []) in let d = ap length none in omega arith in
          let once : AreOnce (root ∷ beside (m root).next) pages = subst (λ n. AreOnce (root ∷ beside n) pages) (sym (root-alone low)) (within root (root-met m root), refl, tt) in
          subst (λ ps. AreAll (root ∷ flat_map (with_siblings m key) ps)) (sym none) (once, node_kind path [] root [] on_path (alone low))
      | inr h ↦
          let is : path ≡ h.front ++ h.last ∷ leaf ∷ [] = ends ∙ (ap (λ ps. ps ++ leaf ∷ []) h.is ∙ append_assoc h.front (h.last ∷ []) (leaf ∷ [])) in
          let o = on path h.front h.last (leaf ∷ []) on_path is in
          let b = behind_once pages m bits roots law root some le within key lt h.last 0 o refl in
          let row = siblings_row pages m bits roots law root some le within key lt h.last 0 o in
          let next = (m (last_of (with_siblings m key h.last))).next in
          let r = under-root path h.front h.last (leaf ∷ []) on_path is (with_siblings m key h.last ++ beside next) b.0 (row-low m 0 (with_siblings m key h.last ++ beside next) (AllByRecursion-append (IsRowPage m 0) (with_siblings m key h.last) (beside next) row b.1)) in
          let same : (root ∷ flat_map (with_siblings m key) h.front) ++ with_siblings m key h.last ≡ root ∷ flat_map (with_siblings m key) above =
          flat_map_more (with_siblings m key) (root ∷ []) h.front h.last ∙ ap (λ ps. root ∷ flat_map (with_siblings m key) ps) (sym h.is) in
          let last : last_of (with_siblings m key h.last) ≡ last_of ((root ∷ flat_map (with_siblings m key) h.front) ++ with_siblings m key h.last) =
          sym (last_append (root ∷ flat_map (with_siblings m key) h.front) (with_siblings m key h.last) (some_siblings m key h.last)) in
          subst AreAll same (
            subst (λ n. AreOnce (((root ∷ flat_map (with_siblings m key) h.front) ++ with_siblings m key h.last) ++ beside (m n).next) pages) last
                (subst (λ ps. AreOnce ps pages) (sym (append_assoc (root ∷ flat_map (with_siblings m key) h.front) (with_siblings m key h.last) (beside next))) r),
            subst (λ n. (m n).kind ≡ Tree) last (last-each (IsRowPage m 0) (with_siblings m key h.last) (some_siblings m key h.last) row).kind,
          )
    ]
      where
        alone : height_of m root ≡ 0 → path ≡ [] ++ root ∷ []
        alone low = on_path ∙ ap (λ h. path_down m key h root) low

    pub behind_all_met : AllByRecursion (λ n. 1 ≤ weight_of (counts_page n) m root) (beside (m (last_of (root ∷ flat_map (with_siblings m key) above))).next)
    behind_all_met = elim (ends_of above) [
      | inl none ↦
          let low : height_of m root ≡ 0 = let a = ap length (sym on_path ∙ ends) in let b = length-path_down m key (height_of m root) root in let c = length-append above (leaf ∷ []) in let d = ap length none in omega arith in
          subst (λ ps. AllByRecursion (λ n. 1 ≤ weight_of (counts_page n) m root) (beside (m (last_of (root ∷ flat_map (with_siblings m key) ps))).next)) (sym none)
          (subst (λ k. AllByRecursion (λ n. 1 ≤ weight_of (counts_page n) m root) (beside k)) (sym (root-alone low)) tt)
      | inr h ↦
          let is : path ≡ h.front ++ h.last ∷ leaf ∷ [] = ends ∙ (ap (λ ps. ps ++ leaf ∷ []) h.is ∙ append_assoc h.front (h.last ∷ []) (leaf ∷ [])) in
          let o = on path h.front h.last (leaf ∷ []) on_path is in
          let same : (root ∷ flat_map (with_siblings m key) h.front) ++ with_siblings m key h.last ≡ root ∷ flat_map (with_siblings m key) above =
          flat_map_more (with_siblings m key) (root ∷ []) h.front h.last ∙ ap (λ ps. root ∷ flat_map (with_siblings m key) ps) (sym h.is) in
          let last : last_of (with_siblings m key h.last) ≡ last_of (root ∷ flat_map (with_siblings m key) above) =
          sym (last_append (root ∷ flat_map (with_siblings m key) h.front) (with_siblings m key h.last) (some_siblings m key h.last)) ∙ ap last_of same in
          subst (λ n. AllByRecursion (λ k. 1 ≤ weight_of (counts_page k) m root) (beside (m n).next)) last (behind_met pages m bits roots law root some le within key lt h.last 0 o refl)
    ]
