-- The pages of a level of a tree are each there once, so the key's child under a node, the pages beside it there and the leaf behind these are.
use Rattle.std.specs.List.{AllByRecursion}
use Rattle.std.specs.Prelude.{◌==◌, ◌||◌, map, Option}
use Rattle.std.proofs.Common.{◌≡◌, ◌≢◌, inl, inr, ℕ, zero, suc, ◌<◌, ◌≤◌, Bool, true, false, cond, List, [], ◌∷◌, ◌++◌, Some, None, length, refl, sym, ap, subst, ◌∙◌, arith, append_assoc, length-append, ne_eqb, eq-eqb}
use Rattle.std.proofs.lemmas.Bool.{cases_eq}
use Rattle.std.proofs.lemmas.List.{length-map, map-append}
use Rattle.ib_map.specs.Keys.{MapKey, rank, end_rank}
use Rattle.ib_map.specs.Pairs.{Pairs, first_rank}
use Rattle.ib_heap.specs.declared.TheConstants.{MOST_RECORDS}
use Rattle.ib_walk.specs.Pages.{PageMemory, Tree}
use Rattle.ib_walk.specs.Search.{IsPageFor, child_for}
use Rattle.ib_walk.specs.Trees.{IsLawful, IsTreeOf, height_of, top_of, weight_of}
use Rattle.ib_walk.specs.Walk.{AreLinked, IsLeafAt, IsNodeAt, IsTree, Visit, below, children, children_of, first_page, last_page, counts_page, sum_of, weight_along}
use Rattle.ib_walk.proofs.MeetLaws.{AreLinked-right, counts_page-own}
use Rattle.ib_walk.proofs.SearchLaws.{AllByRecursion-at, IsPageFor-below, IsTree-below, above, below-above}
use Rattle.ib_walk.proofs.TreeLaws.{IsPageFor-top, times_met-le, weight_of-le}
use Rattle.ib_walk.proofs.WalkLaws.{AllByRecursion-left, AllByRecursion-right, children-append, children_of-append}
use Rattle.ib_plans.specs.Agreement.{last_of}
use Rattle.ib_plans.specs.Merge.{Siblings, siblings_of}
use Rattle.ib_plans.proofs.LevelLaws.{AllByRecursion-both, above-sum, below-le_weight, below-zero, level-le_weight}
use Rattle.ib_plans.proofs.MetLaws.{met-some}
use Rattle.ib_plans.proofs.SiblingRecordLaws.{HasSiblings, HasSiblings-of, one_or_none}
use Rattle.ib_tree.specs.PageLists.{is_listed, AreOnce}
use Rattle.ib_cursor.specs.OnPath.{IsOnPath}
use Rattle.ib_cursor.specs.Claims.{beside}
use Rattle.ib_cursor.specs.Siblings.{child_if, with_siblings}
use Rattle.ib_cursor.proofs.OnceLaws.{among_parts}

abbrev pub pages_in : List Visit → List ℕ
pages_in vs = map (λ v. v.page) vs

-- pages that are counted once at most are each there once
none-counted : (n : ℕ) (vs : List Visit) → sum_of (counts_page n 0) vs ≡ 0 → is_listed (pages_in vs) n ≡ false
none-counted n [] z = refl
none-counted n (v ∷ vs) z = elim (cases_eq v.page n) [
  | inl e ↦ absurd (let o = counts_page-own n 0 v e in omega arith)
  | inr ne ↦ ap (λ t. t || is_listed (pages_in vs) n) (ne_eqb v.page n ne) ∙ none-counted n vs (omega (arith, z))
]

once-counted : (pages : ℕ) (vs : List Visit) → ((n : ℕ) → sum_of (counts_page n 0) vs ≤ 1) → AllByRecursion (λ v. v.page < pages) vs → AreOnce (pages_in vs) pages
once-counted pages [] few inside = tt
once-counted pages (v ∷ vs) few inside =
    (inside.0, none-counted v.page vs (let o = counts_page-own v.page 0 v refl in let f = few v.page in omega arith), once-counted pages vs (λ n. let f = few n in omega arith) inside.1)

-- what a page is, that there is where its number is not 0
pub beside_all : (P : ℕ → Type 0) (page : ℕ) → P page → AllByRecursion P (beside page)
beside_all P page is = by_test (page == 0)
  where
    by_test : (t : Bool) → AllByRecursion P (cond t [] (page ∷ []))
    by_test true = tt
    by_test false = (is, tt)

-- parts of such a list
pub once_right : (xs ys : List ℕ) (pages : ℕ) → AreOnce (xs ++ ys) pages → AreOnce ys pages
once_right [] ys pages o = o
once_right (x ∷ xs) ys pages o = once_right xs ys pages o.2

pub once_left : (xs ys : List ℕ) (pages : ℕ) → AreOnce (xs ++ ys) pages → AreOnce xs pages
once_left [] ys pages o = tt
once_left (x ∷ xs) ys pages o = (o.0, (among_parts xs ys x o.1).0, once_left xs ys pages o.2)

-- the pages of children
pages-children : (rs : Pairs) (high : ℕ) → pages_in (children_of rs high) ≡ map (λ r. r.1) rs
pages-children [] high = refl
pages-children (r ∷ rs) high = ap (λ ps. r.1 ∷ ps) (pages-children rs high)

middle-pages : (left : Option (MapKey × ℕ)) (here : MapKey × ℕ) (right : Option (MapKey × ℕ)) → map (λ r. r.1) (one_or_none left ++ here ∷ one_or_none right) ≡ child_if left ++ here.1 ∷ child_if right
middle-pages None here None = refl
middle-pages None here (Some r) = refl
middle-pages (Some l) here None = refl
middle-pages (Some l) here (Some r) = refl

-- the first record of a node of the path is not above the key
first-low : (xs : Pairs) (high k : ℕ) → 0 < length xs → first_rank xs high ≤ k → first_rank xs end_rank ≤ k
first-low [] high k some le = absurd (omega arith)
first-low (x ∷ xs) high k some le = le

-- the last one of some pages that are linked
last-linked : (m : PageMemory) (prev : ℕ) (xs ys : List Visit) (next : ℕ) → 0 < length xs → AreLinked m prev (xs ++ ys) next → (m (last_of (pages_in xs))).next ≡ first_page ys next
last-linked m prev [] ys next some l = absurd (omega arith)
last-linked m prev (x ∷ []) ys next some l = l.1
last-linked m prev (x ∷ y ∷ xs) ys next some l = last-linked m x.page (y ∷ xs) ys next (omega arith) l.2

-- what each page of a level is
pub record IsRowPage (m : PageMemory) (level page : ℕ) : Type 0 where
  pub kind : (m page).kind ≡ Tree
  pub at : (m page).level ≡ level
  pub some : page ≢ 0

tree-row : (m : PageMemory) (level : ℕ) (vs : List Visit) → IsTree m level vs → AllByRecursion (λ v. ((m v.page).kind ≡ Tree) × ((m v.page).level ≡ level)) vs
tree-row m zero vs t = leaves vs t.leaves
  where
    leaves : (vs : List Visit) → AllByRecursion (IsLeafAt m) vs → AllByRecursion (λ v. ((m v.page).kind ≡ Tree) × ((m v.page).level ≡ 0)) vs
    leaves [] a = tt
    leaves (v ∷ vs) a = ((a.0.kind, a.0.level), leaves vs a.1)
tree-row m (suc level) vs t = nodes vs t.nodes.0
  where
    nodes : (vs : List Visit) → AllByRecursion (IsNodeAt m (suc level)) vs → AllByRecursion (λ v. ((m v.page).kind ≡ Tree) × ((m v.page).level ≡ suc level)) vs
    nodes [] a = tt
    nodes (v ∷ vs) a = ((a.0.kind, a.0.level), nodes vs a.1)

-- each visit of a row is counted in it
row-each : (P : ℕ → Type 0) (vs : List Visit) → ((n : ℕ) → 1 ≤ sum_of (counts_page n 0) vs → P n) → AllByRecursion (λ v. P v.page) vs
row-each P [] f = tt
row-each P (v ∷ vs) f = (f v.page (let o = counts_page-own v.page 0 v refl in omega arith), row-each P vs (λ n some. f n (omega (arith, some))))

row-pages : (P : ℕ → Type 0) (vs : List Visit) → AllByRecursion (λ v. P v.page) vs → AllByRecursion P (pages_in vs)
row-pages P [] a = tt
row-pages P (v ∷ vs) a = (a.0, row-pages P vs a.1)

-- there is one at least, and three at most
pub some_siblings : (m : PageMemory) (key : MapKey) (node : ℕ) → 0 < length (with_siblings m key node)
some_siblings m key node = let t = siblings_of key (m node).records in let a = length-append (child_if t.left) (t.here.1 ∷ child_if t.right) in omega arith

pub one-at_most : (o : Option (MapKey × ℕ)) → length (child_if o) ≤ 1
one-at_most None = omega arith
one-at_most (Some r) = omega arith

pub few_siblings : (m : PageMemory) (key : MapKey) (node : ℕ) → length (with_siblings m key node) ≤ 3
few_siblings m key node =
    let t = siblings_of key (m node).records in let a = length-append (child_if t.left) (t.here.1 ∷ child_if t.right) in let b = one-at_most t.left in let c = one-at_most t.right in omega arith

-- a page between others is one of them
among-middle : (xs : List ℕ) (page : ℕ) (ys : List ℕ) (n : ℕ) → page ≡ n → is_listed (xs ++ page ∷ ys) n ≡ true
among-middle [] page ys n e = ap (λ t. t || is_listed ys n) (eq-eqb page n e)
among-middle (x ∷ xs) page ys n e = by_first (x == n) (among-middle xs page ys n e)
  where
    by_first : (t : Bool) → is_listed (xs ++ page ∷ ys) n ≡ true → (t || is_listed (xs ++ page ∷ ys) n) ≡ true
    by_first true r = refl
    by_first false r = r

-- the pages at and beside the key's child under a node of the path
module _ (pages : ℕ) (m : PageMemory) (bits : ℕ → ℕ) (roots : ℕ) (law : IsLawful m bits roots) (root : ℕ) (some : 0 < root) (le : root ≤ roots) (within : (n : ℕ) → 1 ≤ weight_of (counts_page n) m root → n < pages)
    (key : MapKey) (lt : rank key < end_rank) (node level : ℕ) (o : IsOnPath m root key node (suc level)) where
  tall : height_of m root ≡ above o.depth (suc level)
  tall = sym (above-sum o.depth (suc level) ∙ o.height)

  tree-of : IsTreeOf m (above o.depth (suc level)) root
  tree-of = subst (λ h. IsTreeOf m h root) tall (law.trees root some le).0

  place : IsPageFor key (below m o.depth (top_of root)) node
  place = subst (IsPageFor key (below m o.depth (top_of root))) o.below (IsPageFor-below m o.depth (suc level) key (top_of root) root tree-of.tree.nodes (IsPageFor-top key root lt))

  upper-tree : IsTree m (suc level) (place.before ++ place.visit ∷ place.behind)
  upper-tree = subst (IsTree m (suc level)) place.is (IsTree-below m o.depth (suc level) (top_of root) tree-of.tree)

  node-is : IsNodeAt m (suc level) place.visit
  node-is = AllByRecursion-at (IsNodeAt m (suc level)) place.before place.visit place.behind upper-tree.nodes.0

  there : 0 < length (m node).records
  there = subst (λ q. 0 < length (m q).records) place.here node-is.some

  siblings : HasSiblings (m node).records (child_for key 0 (m node).records) (siblings_of key (m node).records)
  siblings =
      let first = subst (λ q. first_rank (m q).records place.visit.high ≡ place.visit.low) place.here node-is.first in
      HasSiblings-of key (m node).records there (first-low (m node).records place.visit.high (rank key) there (let low = place.low in omega arith))

  abbrev trio : Siblings
  trio = siblings_of key (m node).records

  abbrev middle : Pairs
  middle = one_or_none trio.left ++ trio.here ∷ one_or_none trio.right

  abbrev front : List Visit
  front = children m place.before ++ children_of siblings.before (first_rank (middle ++ siblings.behind) place.visit.high)

  abbrev mids : List Visit
  mids = children_of middle (first_rank siblings.behind place.visit.high)

  abbrev back : List Visit
  back = children_of siblings.behind place.visit.high ++ children m place.behind

  records-are : (m place.visit.page).records ≡ siblings.before ++ (middle ++ siblings.behind)
  records-are = ap (λ q. (m q).records) place.here ∙ (siblings.is ∙ ap (λ rs. siblings.before ++ rs) (sym (append_assoc (one_or_none trio.left) (trio.here ∷ one_or_none trio.right) siblings.behind)))

  row-is : children m (place.before ++ place.visit ∷ place.behind) ≡ front ++ (mids ++ back)
  row-is =
      children-append m place.before (place.visit ∷ place.behind)
      ∙ (ap (λ rs. children m place.before ++ (children_of rs place.visit.high ++ children m place.behind)) records-are
      ∙ (ap (λ vs. children m place.before ++ (vs ++ children m place.behind)) (children_of-append siblings.before (middle ++ siblings.behind) place.visit.high)
      ∙ (ap (λ vs. children m place.before ++ ((children_of siblings.before (first_rank (middle ++ siblings.behind) place.visit.high) ++ vs) ++ children m place.behind)) (children_of-append middle siblings.behind place.visit.high)
      ∙ regrouped (children m place.before) (children_of siblings.before (first_rank (middle ++ siblings.behind) place.visit.high)) mids (children_of siblings.behind place.visit.high) (children m place.behind))))
    where
      regrouped : (a b c d e : List Visit) → a ++ ((b ++ (c ++ d)) ++ e) ≡ (a ++ b) ++ (c ++ (d ++ e))
      regrouped a b c d e = simp append_assoc

  row-tree : IsTree m level (front ++ (mids ++ back))
  row-tree = subst (IsTree m level) row-is (record { nodes = upper-tree.nodes.1; leaves = upper-tree.leaves })

  row-le : (n : ℕ) → sum_of (counts_page n 0) (front ++ (mids ++ back)) ≤ weight_of (counts_page n) m root
  row-le n =
      let a = below-le_weight (counts_page n) m o.depth (suc level) (top_of root) in
      let b = level-le_weight (counts_page n) m level (children m (place.before ++ place.visit ∷ place.behind)) in
      let c = ap (sum_of (counts_page n 0)) row-is in
      let d = ap (weight_along (counts_page n) m (suc level)) place.is in
      let f = ap (λ h. weight_along (counts_page n) m h (top_of root)) tall in omega arith

  row-few : (n : ℕ) → sum_of (counts_page n 0) (front ++ (mids ++ back)) ≤ 1
  row-few n = let a = row-le n in let b = weight_of-le (counts_page n) m root roots some le in let c = times_met-le (λ n. MOST_RECORDS) m bits roots n law in omega arith

  row-once : AreOnce (pages_in (front ++ (mids ++ back))) pages
  row-once = once-counted pages (front ++ (mids ++ back)) row-few (row-each (λ n. n < pages) (front ++ (mids ++ back)) (λ n one. within n (let a = row-le n in omega arith)))

  both-once : AreOnce (pages_in mids ++ pages_in back) pages
  both-once = subst (λ ps. AreOnce ps pages) (map-append (λ (v : Visit). v.page) mids back)
      (once_right (pages_in front) (pages_in (mids ++ back)) pages (subst (λ ps. AreOnce ps pages) (map-append (λ (v : Visit). v.page) front (mids ++ back)) row-once))

  mids-are : pages_in mids ≡ with_siblings m key node
  mids-are = pages-children middle (first_rank siblings.behind place.visit.high) ∙ middle-pages trio.left trio.here trio.right

  -- each of them is met by the tree
  row-met : AllByRecursion (λ v. 1 ≤ weight_of (counts_page v.page) m root) (front ++ (mids ++ back))
  row-met = row-each (λ n. 1 ≤ weight_of (counts_page n) m root) (front ++ (mids ++ back)) (λ n one. let a = row-le n in omega arith)

  both-met : AllByRecursion (λ v. 1 ≤ weight_of (counts_page v.page) m root) (mids ++ back)
  both-met = AllByRecursion-right (λ v. 1 ≤ weight_of (counts_page v.page) m root) front (mids ++ back) row-met

  pub siblings_met : AllByRecursion (λ n. 1 ≤ weight_of (counts_page n) m root) (with_siblings m key node)
  siblings_met = subst (AllByRecursion (λ n. 1 ≤ weight_of (counts_page n) m root)) mids-are
      (row-pages (λ n. 1 ≤ weight_of (counts_page n) m root) mids (AllByRecursion-left (λ v. 1 ≤ weight_of (counts_page v.page) m root) mids back both-met))

  -- they are each there once, and are pages of the level below
  pub siblings_once : AreOnce (with_siblings m key node) pages
  siblings_once = subst (λ ps. AreOnce ps pages) mids-are (once_left (pages_in mids) (pages_in back) pages both-once)

  row-each-is : AllByRecursion (λ v. IsRowPage m level v.page) (front ++ (mids ++ back))
  row-each-is =
      AllByRecursion-both (λ v. ((m v.page).kind ≡ Tree) × ((m v.page).level ≡ level)) (λ v. v.page ≢ 0) (λ v. IsRowPage m level v.page) (front ++ (mids ++ back)) (λ v a b. record { kind = a.0; at = a.1; some = b })
      (tree-row m level (front ++ (mids ++ back)) row-tree)
      (row-each (λ n. n ≢ 0) (front ++ (mids ++ back)) (λ n one. met-some (λ n. MOST_RECORDS) m bits roots law root some le n (let a = row-le n in omega arith)))

  both-are : AllByRecursion (λ v. IsRowPage m level v.page) (mids ++ back)
  both-are = AllByRecursion-right (λ v. IsRowPage m level v.page) front (mids ++ back) row-each-is

  pub siblings_row : AllByRecursion (IsRowPage m level) (with_siblings m key node)
  siblings_row = subst (AllByRecursion (IsRowPage m level)) mids-are (row-pages (IsRowPage m level) mids (AllByRecursion-left (λ v. IsRowPage m level v.page) mids back both-are))

  -- the key's child is one of them
  pub child_among : is_listed (with_siblings m key node) (child_for key 0 (m node).records) ≡ true
  child_among = among-middle (child_if trio.left) trio.here.1 (child_if trio.right) (child_for key 0 (m node).records) siblings.here

  -- the leaf behind the last one is none of them
  next-is : level ≡ 0 → (m (last_of (with_siblings m key node))).next ≡ first_page back 0
  next-is z =
      let low : below m (above o.depth (suc level)) (top_of root) ≡ front ++ (mids ++ back) =
      below-above m o.depth (suc level) (top_of root) ∙ (ap (below m (suc level)) place.is ∙ (ap (below m level) row-is ∙ below-zero m level (front ++ (mids ++ back)) z)) in
      let linked = subst (λ us. AreLinked m 0 us 0) low tree-of.linked in
      ap (λ ps. (m (last_of ps)).next) (sym mids-are) ∙ last-linked m (last_page 0 front) mids back 0 (let a = ap length mids-are in let b = length-map mids (λ (v : Visit). v.page) in let c = some_siblings m key node in omega arith) (AreLinked-right m 0 front (mids ++ back) 0 linked)

  pub behind_once : level ≡ 0 → AreOnce (with_siblings m key node ++ beside (m (last_of (with_siblings m key node))).next) pages × AllByRecursion (IsRowPage m level) (beside (m (last_of (with_siblings m key node))).next)
  behind_once z =
      subst (λ n. AreOnce (with_siblings m key node ++ beside n) pages × AllByRecursion (IsRowPage m level) (beside n)) (sym (next-is z))
      (first back (subst (λ ps. AreOnce (ps ++ pages_in back) pages) mids-are both-once) (AllByRecursion-right (λ v. IsRowPage m level v.page) mids back both-are))
    where
      first : (vs : List Visit) → AreOnce (with_siblings m key node ++ pages_in vs) pages → AllByRecursion (λ v. IsRowPage m level v.page) vs
          → AreOnce (with_siblings m key node ++ beside (first_page vs 0)) pages × AllByRecursion (IsRowPage m level) (beside (first_page vs 0))
      first [] once are = (once, tt)
      first (v ∷ vs) once are =
          let one : beside v.page ≡ v.page ∷ [] = ap (λ b. cond b [] (v.page ∷ [])) (ne_eqb v.page 0 are.0.some) in
          subst (λ ps. AreOnce (with_siblings m key node ++ ps) pages × AllByRecursion (IsRowPage m level) ps) (sym one)
          (once_left (with_siblings m key node ++ v.page ∷ []) (pages_in vs) pages (subst (λ ps. AreOnce ps pages) (sym (append_assoc (with_siblings m key node) (v.page ∷ []) (pages_in vs))) once), (are.0, tt))

  pub behind_met : level ≡ 0 → AllByRecursion (λ n. 1 ≤ weight_of (counts_page n) m root) (beside (m (last_of (with_siblings m key node))).next)
  behind_met z =
      subst (λ n. AllByRecursion (λ k. 1 ≤ weight_of (counts_page k) m root) (beside n)) (sym (next-is z))
      (first back (AllByRecursion-right (λ v. 1 ≤ weight_of (counts_page v.page) m root) mids back both-met))
    where
      first : (vs : List Visit) → AllByRecursion (λ v. 1 ≤ weight_of (counts_page v.page) m root) vs → AllByRecursion (λ n. 1 ≤ weight_of (counts_page n) m root) (beside (first_page vs 0))
      first [] are = tt
      first (v ∷ vs) are = beside_all (λ n. 1 ≤ weight_of (counts_page n) m root) v.page are.0
