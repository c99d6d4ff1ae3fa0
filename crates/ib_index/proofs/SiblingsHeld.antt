-- The pages of a key's path with those beside them under the same parents, where they are held.
use Rattle.std.specs.List.{All, AllByRecursion, flat_map}
use Rattle.std.specs.Prelude.{IfSome, MatchOption, ◌==◌, ◌||◌}
use Rattle.std.proofs.Common.{◌≡◌, ◌≢◌, ◌⊎◌, inl, inr, ℕ, zero, suc, ◌+◌, ◌*◌, ◌<◌, ◌≤◌, Bool, true, false, List, [], ◌∷◌, ◌++◌, Option, Some, None, length, refl, sym, ap, subst, ◌∙◌, arith, eq-eqb, ne_eqb, length-append}
use Rattle.std.proofs.lemmas.Bool.{cases_eq}
use Rattle.std.proofs.lemmas.List.Elements.{All-from_recursion}
use Rattle.ib_map.specs.Keys.{MapKey, rank, end_rank}
use Rattle.ib_map.proofs.KeyLaws.{rank-lt_end}
use Rattle.ib_heap.specs.declared.TheConstants.{MOST_RECORDS}
use Rattle.ib_walk.specs.Pages.{PageMemory, PageState}
use Rattle.ib_walk.specs.Search.{page_below}
use Rattle.ib_walk.specs.Trees.{height_of}
use Rattle.ib_plans.specs.Agreement.{Agrees, IsThere, last_of, memory_in, path_down, path_of}
use Rattle.ib_plans.specs.Merge.{Siblings, siblings_of}
use Rattle.ib_plans.proofs.LinkLaws.{NextLeaf-leaf_for}
use Rattle.ib_merge.specs.Deletes.{HasNext, nodes_on_path}
use Rattle.ib_tree.specs.PageLists.{is_listed}
use Rattle.ib_cursor.specs.Claims.{beside}
use Rattle.ib_cursor.specs.Siblings.{IsPathWithSiblings, child_if, with_siblings}
use Rattle.ib_cursor.specs.OnPath.{IsOnPath}
use Rattle.ib_cursor.proofs.TakeLaws.{beside_few}
use Rattle.ib_cursor.proofs.OnPathLaws.{leaf_on-path, root_on-path}
use Rattle.ib_index.specs.Shrinks.{HasChildren, HasWithNext}
use Rattle.ib_page.specs.Work.{WorkPage}
use Rattle.ib_index.proofs.HeldLaws.{IsPageOfTree, among-beside, among-both, beside-own, each-among, each-of, held-same, page-kind}
use Rattle.ib_index.proofs.SiblingWays.{among-flat, behind-page, last-levels, last_beside, last_child, length-levels, levels-down, node-on, nodes-front, path-among}
use Rattle.ib_mtr.proofs.Lists.{or_true}

-- lists of pages
among-child : (o : Option (MapKey × ℕ)) (x : MapKey × ℕ) → o ≡ Some x → is_listed (child_if o) x.1 ≡ true
among-child o x is = subst (λ q. is_listed (child_if q) x.1 ≡ true) (sym is) (ap (λ b. b || false) (eq-eqb x.1 x.1 refl))

-- the nodes of a path are pages of it
nodes-among : (ns : List ℕ) (n : ℕ) → is_listed (nodes_on_path ns) n ≡ true → is_listed ns n ≡ true
nodes-among [] n h = cc
nodes-among (x ∷ []) n h = cc
nodes-among (x ∷ y ∷ ys) n h = elim (cases_eq x n) [
  | inl e ↦ ap (λ b. b || is_listed (y ∷ ys) n) (eq-eqb x n e)
  | inr ne ↦
      let no = ne_eqb x n ne in
      ap (λ b. b || is_listed (y ∷ ys) n) no ∙ nodes-among (y ∷ ys) n (sym (ap (λ b. b || is_listed (nodes_on_path (y ∷ ys)) n) no) ∙ h)
]

-- the path has nodes exactly where its root is one
some-node : (h : ℕ) → (h ≡ 0) ⊎ ((d : ℕ) × (h ≡ suc d))
some-node zero = inl refl
some-node (suc d) = inr (d, refl)

module _ (pages roots root : ℕ) (key : MapKey) (path held : List ℕ) (work : List WorkPage) (m : PageMemory) (bits : ℕ → ℕ) (a : Agrees pages roots root key path work m bits)
    (w : IsPathWithSiblings m root key path held) (there : (n : ℕ) → is_listed held n ≡ true → IsThere work n) where
  lt : rank key < end_rank
  lt = rank-lt_end key

  abbrev top : IsOnPath m root key root (height_of m root)
  top = root_on-path m root key

  -- the nodes of the path, and the pages of its levels
  abbrev nodes : List ℕ
  nodes = nodes_on_path (path_of m key root)

  abbrev levels : List ℕ
  levels = root ∷ flat_map (with_siblings m key) nodes

  pub nodes-are : nodes_on_path path ≡ nodes
  nodes-are = ap nodes_on_path a.way

  levels-are : w.levels ≡ levels
  levels-are = w.are ∙ ap (λ ns. root ∷ flat_map (with_siblings m key) ns) (sym (nodes-front w.front w.leaf) ∙ (ap nodes_on_path (sym w.ends) ∙ nodes-are))

  held-are : held ≡ levels ++ beside (m (last_of levels)).next
  held-are = w.behind ∙ ap (λ ns. ns ++ beside (m (last_of ns)).next) levels-are

  level-held : (n : ℕ) → is_listed levels n ≡ true → is_listed held n ≡ true
  level-held n among = ap (λ ns. is_listed ns n) held-are ∙ (among-both levels (beside (m (last_of levels)).next) n ∙ ap (λ b. b || is_listed (beside (m (last_of levels)).next) n) among)

  next-held : (m (last_of levels)).next ≢ 0 → is_listed held (m (last_of levels)).next ≡ true
  next-held ne =
      let n = (m (last_of levels)).next in
      ap (λ ns. is_listed ns n) held-are ∙ (among-both levels (beside n) n ∙ or_true (is_listed levels n) (is_listed (beside n) n) (beside-own n ne))

  pub path-held : (n : ℕ) → is_listed path n ≡ true → is_listed held n ≡ true
  path-held n among = level-held n (path-among m bits roots root a.some a.within a.lawful key lt (height_of m root) root n top (sym (ap (λ ns. is_listed ns n) a.way) ∙ among))

  -- the last page of the levels: the root, or the last of the children of the lowest node
  lowest : (d : ℕ) → height_of m root ≡ suc d → IsOnPath m root key (page_below m key d root) 1
  lowest d tall = record { depth = d; height = omega arith; below = refl }

  last-is : (d : ℕ) → height_of m root ≡ suc d → last_of levels ≡ last_beside m key (page_below m key d root)
  last-is d tall = ap (λ h. last_of (root ∷ flat_map (with_siblings m key) (nodes_on_path (path_down m key h root)))) tall ∙ last-levels m key d root root

  behind-kind : (m (last_of levels)).next ≢ 0 → IsPageOfTree m (m (last_of levels)).next
  behind-kind ne = elim (some-node (height_of m root)) [
    | inl low ↦
        let only : last_of levels ≡ root = ap (λ h. last_of (root ∷ flat_map (with_siblings m key) (nodes_on_path (path_down m key h root)))) low in
        let leaf = only ∙ leaf_on-path m root key root (subst (IsOnPath m root key root) low top) in
        let b = NextLeaf-leaf_for (λ n. MOST_RECORDS) m bits roots key root a.lawful a.some a.within lt (λ z. ne (ap (λ n. (m n).next) leaf ∙ z)) in
        (ap (λ n. (m (m n).next).kind) leaf ∙ b.kind, ne)
    | inr (d, tall) ↦
        let same = last-is d tall in
        subst (λ n. IsPageOfTree m (m n).next) (sym same)
        (behind-page m bits roots root a.some a.within a.lawful key lt 0 (page_below m key d root) (lowest d tall) (λ z. ne (ap (λ n. (m n).next) same ∙ z))).0
  ]

  -- all that is held are pages of the tree
  pub held-kind : (n : ℕ) → is_listed held n ≡ true → IsPageOfTree m n
  held-kind n among = go (is_listed levels n) refl (sym (ap (λ ns. is_listed ns n) held-are ∙ among-both levels (beside (m (last_of levels)).next) n) ∙ among)
    where
      all : AllByRecursion (IsPageOfTree m) levels
      all = (page-kind m bits roots root a.some a.within a.lawful key lt (height_of m root) root top, levels-down m bits roots root a.some a.within a.lawful key lt (height_of m root) root top)

      go : (b : Bool) → is_listed levels n ≡ b → (is_listed levels n || is_listed (beside (m (last_of levels)).next) n) ≡ true → IsPageOfTree m n
      go true here either = each-among (IsPageOfTree m) levels n all here
      go false away either =
          let b = among-beside (m (last_of levels)).next n (sym (ap (λ b. b || is_listed (beside (m (last_of levels)).next) n) away) ∙ either) in
          subst (IsPageOfTree m) b.0 (behind-kind b.1)

  -- none of them is page 0
  pub some-held : (n : ℕ) → is_listed held n ≡ true → n ≢ 0
  some-held n among = (held-kind n among).1

  same-page : (n : ℕ) → is_listed held n ≡ true → memory_in work n ≡ m n
  same-page = held-same pages roots root key path work m bits a held path-held there some-held

  -- of a node of the path
  module _ (parent : ℕ) (among : is_listed nodes parent ≡ true) where
    abbrev t : Siblings
    t = siblings_of key (m parent).records

    parent-on : (k : ℕ) × IsOnPath m root key parent (suc k)
    parent-on = node-on m bits roots root a.some a.within a.lawful key lt (height_of m root) root parent top among

    side-held : (n : ℕ) → is_listed (with_siblings m key parent) n ≡ true → is_listed held n ≡ true
    side-held n h = level-held n (or_true (root == n) (is_listed (flat_map (with_siblings m key) nodes) n) (among-flat (with_siblings m key) nodes parent n among h))

    left-held : (x : MapKey × ℕ) → t.left ≡ Some x → is_listed held x.1 ≡ true
    left-held x eq = side-held x.1 (among-both (child_if t.left) (t.here.1 ∷ child_if t.right) x.1 ∙ ap (λ b. b || is_listed (t.here.1 ∷ child_if t.right) x.1) (among-child t.left x eq))

    here-held : is_listed held t.here.1 ≡ true
    here-held = side-held t.here.1 (among-both (child_if t.left) (t.here.1 ∷ child_if t.right) t.here.1
        ∙ or_true (is_listed (child_if t.left) t.here.1) (is_listed (t.here.1 ∷ child_if t.right) t.here.1) (ap (λ b. b || is_listed (child_if t.right) t.here.1) (eq-eqb t.here.1 t.here.1 refl)))

    right-held : (x : MapKey × ℕ) → t.right ≡ Some x → is_listed held x.1 ≡ true
    right-held x eq = side-held x.1 (among-both (child_if t.left) (t.here.1 ∷ child_if t.right) x.1
        ∙ or_true (is_listed (child_if t.left) x.1) (is_listed (t.here.1 ∷ child_if t.right) x.1) (or_true (t.here.1 == x.1) (is_listed (child_if t.right) x.1) (among-child t.right x eq)))

    last-held : is_listed held (last_beside m key parent) ≡ true
    last-held = go t.right refl
      where
        go : (o : Option (MapKey × ℕ)) → t.right ≡ o → is_listed held (last_child o t.here) ≡ true
        go None eq = here-held
        go (Some x) eq = right-held x eq

    last-next : HasNext work (last_beside m key parent)
    last-next ne =
        let same = ap (λ s. s.next) (same-page (last_beside m key parent) last-held) in
        let b = behind-page m bits roots root a.some a.within a.lawful key lt parent-on.0 parent parent-on.1 (λ z. ne (same ∙ z)) in
        let o : IsOnPath m root key parent 1 = subst (λ k. IsOnPath m root key parent (suc k)) b.1 parent-on.1 in
        let tall : height_of m root ≡ suc o.depth = (let h = o.height in omega arith) in
        let last : last_of levels ≡ last_beside m key parent = last-is o.depth tall ∙ ap (last_beside m key) o.below in
        let next = ap (λ n. (m n).next) last in
        subst (IsThere work) (sym (same ∙ sym next)) (there (m (last_of levels)).next (next-held (λ z. ne (same ∙ (sym next ∙ z)))))

    has-siblings : IfSome t.left (λ x. IsThere work x.1) × IfSome t.right (λ x. IsThere work x.1)
    has-siblings = (if-some t.left (λ x eq. there x.1 (left-held x eq)), if-some t.right (λ x eq. there x.1 (right-held x eq)))
      where
        if-some : (o : Option (MapKey × ℕ)) → ((x : MapKey × ℕ) → o ≡ Some x → IsThere work x.1) → IfSome o (λ x. IsThere work x.1)
        if-some None f = tt
        if-some (Some x) f = f x refl

    has-last : MatchOption t.right (HasWithNext work t.here.1) (λ x. HasWithNext work x.1)
    has-last = by_right t.right (there (last_beside m key parent) last-held, last-next)
      where
        by_right : (o : Option (MapKey × ℕ)) → HasWithNext work (last_child o t.here) → MatchOption o (HasWithNext work t.here.1) (λ x. HasWithNext work x.1)
        by_right None both = both
        by_right (Some x) both = both

    node-held : is_listed held parent ≡ true
    node-held = path-held parent (ap (λ ns. is_listed ns parent) a.way ∙ nodes-among (path_of m key root) parent among)

    has-children : HasChildren key work parent
    has-children =
        let same = sym (same-page parent node-held) in
        record {
          node = there parent node-held;
          siblings = subst (λ (s : PageState). let t = siblings_of key s.records in IfSome t.left (λ x. IsThere work x.1) × IfSome t.right (λ x. IsThere work x.1)) same has-siblings;
          last = subst (λ (s : PageState). let t = siblings_of key s.records in MatchOption t.right (HasWithNext work t.here.1) (λ x. HasWithNext work x.1)) same has-last;
        }

  -- each node of the path, with the pages under it
  pub nodes-children : All (HasChildren key work) (nodes_on_path path)
  nodes-children = subst (All (HasChildren key work)) (sym nodes-are) (All-from_recursion (HasChildren key work) nodes (each-of (HasChildren key work) nodes has-children))

  -- the root, three pages a level below it, and one more
  pub held-long : length held ≤ 3 * height_of m root + 2
  held-long =
      let e = ap length held-are in let b = length-append levels (beside (m (last_of levels)).next) in let d = beside_few (m (last_of levels)).next in
      let f = length-levels m key (height_of m root) root in omega arith
