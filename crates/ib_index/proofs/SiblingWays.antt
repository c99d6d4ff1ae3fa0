-- The pages of a key's path with those beside them under the same parents, in lawful trees.
use Rattle.std.specs.List.{AllByRecursion, flat_map}
use Rattle.std.specs.Prelude.{IsSomeAnd, slice_get, ◌||◌}
use Rattle.std.proofs.Common.{◌≡◌, ◌≢◌, ◌⊎◌, inl, inr, ℕ, zero, suc, ◌*◌, ◌<◌, ◌≤◌, true, List, [], ◌∷◌, ◌++◌, Option, Some, None, length, refl, sym, ap, subst, ◌∙◌, arith, eq-eqb, ne_eqb, length-append, append_assoc}
use Rattle.std.proofs.lemmas.Bool.{cases_eq}
use Rattle.ib_map.specs.Keys.{MapKey, rank, end_rank}
use Rattle.ib_map.specs.Pairs.{Pairs}
use Rattle.ib_heap.specs.declared.TheConstants.{MOST_RECORDS}
use Rattle.ib_walk.specs.Pages.{PageMemory}
use Rattle.ib_walk.specs.Search.{child_for, leaf_for, page_below}
use Rattle.ib_walk.specs.Trees.{IsLawful, height_of}
use Rattle.ib_walk.proofs.SearchLaws.{above}
use Rattle.ib_walk.proofs.WalkLaws.{AllByRecursion-append}
use Rattle.ib_plans.specs.Agreement.{last_of, path_down}
use Rattle.ib_plans.specs.Merge.{Siblings, siblings_of}
use Rattle.ib_plans.proofs.LinkLaws.{NextLeaf-leaf_for}
use Rattle.ib_plans.proofs.SiblingLaws.{SiblingPages, SiblingPages-path}
use Rattle.ib_plans.proofs.SiblingRecordLaws.{HasSiblings, HasSiblings-of, one_or_none}
use Rattle.ib_merge.specs.Deletes.{nodes_on_path}
use Rattle.ib_tree.specs.PageLists.{is_listed}
use Rattle.ib_plans.proofs.LevelLaws.{above-sum}
use Rattle.ib_cursor.specs.Siblings.{child_if, with_siblings}
use Rattle.ib_cursor.specs.OnPath.{IsOnPath}
use Rattle.ib_cursor.proofs.LevelLaws.{among-left, among_right}
use Rattle.ib_cursor.proofs.RowLaws.{one-at_most}
use Rattle.ib_cursor.proofs.OnPathLaws.{child_on-path, leaf_on-path, page_on-path}
use Rattle.ib_index.proofs.HeldLaws.{IsPageOfTree, page-kind}

-- the rightmost of a node's children that a delete may merge: the one to the right of the key's child, where there is one
abbrev pub last_child : Option (MapKey × ℕ) → MapKey × ℕ → ℕ
last_child None here = here.1
last_child (Some right) here = right.1

abbrev pub last_beside : PageMemory → MapKey → ℕ → ℕ
last_beside m key parent = let t = siblings_of key (m parent).records in last_child t.right t.here

-- lists of pages
pub among-flat : (f : ℕ → List ℕ) (ns : List ℕ) (parent n : ℕ) → is_listed ns parent ≡ true → is_listed (f parent) n ≡ true → is_listed (flat_map f ns) n ≡ true
among-flat f [] parent n there h = cc
among-flat f (x ∷ xs) parent n there h = elim (cases_eq x parent) [
  | inl e ↦ among-left (f x) (flat_map f xs) n (subst (λ p. is_listed (f p) n ≡ true) (sym e) h)
  | inr ne ↦ among_right (f x) (flat_map f xs) n (among-flat f xs parent n (sym (ap (λ b. b || is_listed xs parent) (ne_eqb x parent ne)) ∙ there) h)
]

-- the last page of lists behind each other
last-behind : (x : ℕ) (xs ys : List ℕ) → last_of (x ∷ (xs ++ ys)) ≡ last_of (last_of (x ∷ xs) ∷ ys)
last-behind x [] ys = refl
last-behind x (z ∷ zs) ys = last-behind z zs ys

last-here : (right : Option (MapKey × ℕ)) (here : MapKey × ℕ) → last_of (here.1 ∷ child_if right) ≡ last_child right here
last-here None here = refl
last-here (Some right) here = refl

-- the nodes of a path, from the first down
pub nodes-down : (m : PageMemory) (key : MapKey) (level page : ℕ) → nodes_on_path (path_down m key (suc level) page) ≡ page ∷ nodes_on_path (path_down m key level (child_for key 0 (m page).records))
nodes-down m key zero page = refl
nodes-down m key (suc level) page = refl

pub nodes-front : (front : List ℕ) (leaf : ℕ) → nodes_on_path (front ++ leaf ∷ []) ≡ front
nodes-front [] leaf = refl
nodes-front (x ∷ []) leaf = refl
nodes-front (x ∷ y ∷ ys) leaf = ap (λ ns. x ∷ ns) (nodes-front (y ∷ ys) leaf)

module _ (m : PageMemory) (key : MapKey) where
  -- the last page of the levels that are held
  last-level : (x page : ℕ) → last_of (x ∷ (with_siblings m key page ++ [])) ≡ last_beside m key page
  last-level x page =
      let t = siblings_of key (m page).records in
      last-behind x (with_siblings m key page) []
      ∙ (last-behind x (child_if t.left) (t.here.1 ∷ child_if t.right) ∙ last-here t.right t.here)

  pub last-levels : (depth x page : ℕ) → last_of (x ∷ flat_map (with_siblings m key) (nodes_on_path (path_down m key (suc depth) page))) ≡ last_beside m key (page_below m key depth page)
  last-levels zero x page = last-level x page
  last-levels (suc depth) x page =
      let child = child_for key 0 (m page).records in
      ap (λ ns. last_of (x ∷ flat_map (with_siblings m key) ns)) (nodes-down m key (suc depth) page)
      ∙ (last-behind x (with_siblings m key page) (flat_map (with_siblings m key) (nodes_on_path (path_down m key (suc depth) child)))
      ∙ last-levels depth (last_of (x ∷ with_siblings m key page)) child)

  -- three pages a level at most
  pub length-levels : (level page : ℕ) → length (flat_map (with_siblings m key) (nodes_on_path (path_down m key level page))) ≤ 3 * level
  length-levels zero page = omega arith
  length-levels (suc level) page =
      let t = siblings_of key (m page).records in
      let child = child_for key 0 (m page).records in
      let e = ap (λ ns. length (flat_map (with_siblings m key) ns)) (nodes-down m key level page) in
      let a = length-append (with_siblings m key page) (flat_map (with_siblings m key) (nodes_on_path (path_down m key level child))) in
      let b = length-append (child_if t.left) (t.here.1 ∷ child_if t.right) in
      let c = one-at_most t.left in let d = one-at_most t.right in
      let r = length-levels level child in omega arith

module _ (m : PageMemory) (bits : ℕ → ℕ) (roots root : ℕ) (some : 0 < root) (within : root ≤ roots) (law : IsLawful m bits roots) (key : MapKey) (lt : rank key < end_rank) where
  -- a node of the path
  module _ (level parent : ℕ) (o : IsOnPath m root key parent (suc level)) where
    abbrev t : Siblings
    t = siblings_of key (m parent).records

    records-of : (xs : Pairs) → IsSomeAnd (slice_get xs 0) (λ r. rank r.0 ≤ rank key) → HasSiblings xs (child_for key 0 xs) (siblings_of key xs)
    records-of [] none = absurd none
    records-of (x ∷ xs) first = HasSiblings-of key (x ∷ xs) (omega arith) first

    records : HasSiblings (m parent).records (child_for key 0 (m parent).records) t
    records = records-of (m parent).records ((page_on-path m root key parent (suc level) (law.trees root some within).0 lt o).first (omega arith))

    pub here-on : IsOnPath m root key t.here.1 level
    here-on = subst (λ n. IsOnPath m root key n level) (sym records.here) (child_on-path m root key parent level o)

    tall : height_of m root ≡ above o.depth (suc level)
    tall = sym o.height ∙ sym (above-sum o.depth (suc level))

    pub left-pages : (left : MapKey × ℕ) → t.left ≡ Some left → SiblingPages m level parent left.1 t.here.1
    left-pages left is = SiblingPages-path m bits roots law key lt root some within o.depth level tall parent o.below records.before left t.here (one_or_none t.right ++ records.behind)
        (records.is ∙ ap (λ (x : Option (MapKey × ℕ)). records.before ++ (one_or_none x ++ t.here ∷ (one_or_none t.right ++ records.behind))) is)

    pub right-pages : (right : MapKey × ℕ) → t.right ≡ Some right → SiblingPages m level parent t.here.1 right.1
    right-pages right is = SiblingPages-path m bits roots law key lt root some within o.depth level tall parent o.below (records.before ++ one_or_none t.left) t.here right records.behind
        (records.is ∙ (ap (λ (x : Option (MapKey × ℕ)). records.before ++ (one_or_none t.left ++ t.here ∷ (one_or_none x ++ records.behind))) is
        ∙ sym (append_assoc records.before (one_or_none t.left) (t.here ∷ right ∷ records.behind))))

    -- its children that are held are pages of the tree
    each-if : (child : Option (MapKey × ℕ)) → ((x : MapKey × ℕ) → child ≡ Some x → IsPageOfTree m x.1) → AllByRecursion (IsPageOfTree m) (child_if child)
    each-if None is = tt
    each-if (Some x) is = (is x refl, tt)

    pub sides : AllByRecursion (IsPageOfTree m) (with_siblings m key parent)
    sides = AllByRecursion-append (IsPageOfTree m) (child_if t.left) (t.here.1 ∷ child_if t.right)
        (each-if t.left (λ x is. let s = left-pages x is in (s.left_kind, s.left_some)))
        (page-kind m bits roots root some within law key lt level t.here.1 here-on, each-if t.right (λ x is. let s = right-pages x is in (s.gone_kind, s.gone_some)))

    -- the last of them
    pub last-page : IsPageOfTree m (last_beside m key parent) × ((m (last_beside m key parent)).level ≡ level)
    last-page = go t.right refl
      where
        go : (o : Option (MapKey × ℕ)) → t.right ≡ o → IsPageOfTree m (last_child o t.here) × ((m (last_child o t.here)).level ≡ level)
        go None is = (page-kind m bits roots root some within law key lt level t.here.1 here-on, (page_on-path m root key t.here.1 level (law.trees root some within).0 lt here-on).height)
        go (Some x) is = let s = right-pages x is in ((s.gone_kind, s.gone_some), s.gone_level)

    -- behind it there is a leaf of the tree, or none; a node has none
    pub behind-page : (m (last_beside m key parent)).next ≢ 0 → IsPageOfTree m (m (last_beside m key parent)).next × (level ≡ 0)
    behind-page = go t.right refl
      where
        go : (o : Option (MapKey × ℕ)) → t.right ≡ o → (m (last_child o t.here)).next ≢ 0 → IsPageOfTree m (m (last_child o t.here)).next × (level ≡ 0)
        go (Some x) is ne = let b = (right-pages x is).behind ne in ((b.kind, ne), b.low)
        go None is ne = elim (cases_eq level 0) [
          | inl z ↦
              let leaf : t.here.1 ≡ leaf_for m key root = leaf_on-path m root key t.here.1 (subst (IsOnPath m root key t.here.1) z here-on) in
              let b = NextLeaf-leaf_for (λ n. MOST_RECORDS) m bits roots key root law some within lt (λ q. ne (ap (λ n. (m n).next) leaf ∙ q)) in
              ((ap (λ n. (m (m n).next).kind) leaf ∙ b.kind, ne), z)
          | inr up ↦
              let h = (page_on-path m root key t.here.1 level (law.trees root some within).0 lt here-on).height in
              absurd (ne ((law.sound t.here.1 (page-kind m bits roots root some within law key lt level t.here.1 here-on).1).node (omega (arith, up, h))).1)
        ]

  -- every page of the levels is one of the tree
  pub levels-down : (level page : ℕ) → IsOnPath m root key page level → AllByRecursion (IsPageOfTree m) (flat_map (with_siblings m key) (nodes_on_path (path_down m key level page)))
  levels-down zero page o = tt
  levels-down (suc level) page o =
      let child = child_for key 0 (m page).records in
      subst (λ ns. AllByRecursion (IsPageOfTree m) (flat_map (with_siblings m key) ns)) (sym (nodes-down m key level page))
      (AllByRecursion-append (IsPageOfTree m) (with_siblings m key page) (flat_map (with_siblings m key) (nodes_on_path (path_down m key level child)))
      (sides level page o) (levels-down level child (child_on-path m root key page level o)))

  -- .. and the path is among them
  pub path-among : (level page n : ℕ) → IsOnPath m root key page level → is_listed (path_down m key level page) n ≡ true
      → is_listed (page ∷ flat_map (with_siblings m key) (nodes_on_path (path_down m key level page))) n ≡ true
  path-among zero page n o h = h
  path-among (suc level) page n o h =
      let child = child_for key 0 (m page).records in
      let rest = flat_map (with_siblings m key) (nodes_on_path (path_down m key level child)) in
      subst (λ ns. is_listed (page ∷ flat_map (with_siblings m key) ns) n ≡ true) (sym (nodes-down m key level page)) (elim (cases_eq page n) [
        | inl e ↦ ap (λ b. b || is_listed (with_siblings m key page ++ rest) n) (eq-eqb page n e)
        | inr ne ↦
            let no = ne_eqb page n ne in
            let r = path-among level child n (child_on-path m root key page level o) (sym (ap (λ b. b || is_listed (path_down m key level child) n) no) ∙ h) in
            ap (λ b. b || is_listed (with_siblings m key page ++ rest) n) no ∙ below n (cases_eq child n) r
      ])
    where
      below : (n : ℕ) → (child_for key 0 (m page).records ≡ n) ⊎ (child_for key 0 (m page).records ≢ n)
          → is_listed (child_for key 0 (m page).records ∷ flat_map (with_siblings m key) (nodes_on_path (path_down m key level (child_for key 0 (m page).records)))) n ≡ true
          → is_listed (with_siblings m key page ++ flat_map (with_siblings m key) (nodes_on_path (path_down m key level (child_for key 0 (m page).records)))) n ≡ true
      below n (inl e) r =
          let t = siblings_of key (m page).records in
          let here : t.here.1 ≡ n = (records level page o).here ∙ e in
          among-left (with_siblings m key page) (flat_map (with_siblings m key) (nodes_on_path (path_down m key level (child_for key 0 (m page).records)))) n
          (among_right (child_if t.left) (t.here.1 ∷ child_if t.right) n (ap (λ b. b || is_listed (child_if t.right) n) (eq-eqb t.here.1 n here)))
      below n (inr ne) r =
          among_right (with_siblings m key page) (flat_map (with_siblings m key) (nodes_on_path (path_down m key level (child_for key 0 (m page).records)))) n
          (sym (ap (λ b. b || is_listed (flat_map (with_siblings m key) (nodes_on_path (path_down m key level (child_for key 0 (m page).records)))) n) (ne_eqb (child_for key 0 (m page).records) n ne)) ∙ r)

  -- each node of the path stands on it above the leaf
  pub node-on : (level page n : ℕ) → IsOnPath m root key page level → is_listed (nodes_on_path (path_down m key level page)) n ≡ true → (k : ℕ) × IsOnPath m root key n (suc k)
  node-on zero page n o h = cc
  node-on (suc level) page n o h =
      let child = child_for key 0 (m page).records in
      let has : is_listed (page ∷ nodes_on_path (path_down m key level child)) n ≡ true = sym (ap (λ ns. is_listed ns n) (nodes-down m key level page)) ∙ h in
      elim (cases_eq page n) [
        | inl e ↦ (level, subst (λ p. IsOnPath m root key p (suc level)) e o)
        | inr ne ↦ node-on level child n (child_on-path m root key page level o) (sym (ap (λ b. b || is_listed (nodes_on_path (path_down m key level child)) n) (ne_eqb page n ne)) ∙ has)
      ]
