-- The path of a key, from the root down.
use Rattle.std.specs.List.{All}
use Rattle.std.specs.Prelude.{IsSomeAnd, slice_get}
use Rattle.std.proofs.Common.{◌≡◌, ℕ, suc, ◌+◌, ◌-◌, ◌^◌, ◌<◌, ◌≤◌, List, [], ◌∷◌, ◌++◌, length, get_or, Some, None, refl, sym, ap, subst, ◌∙◌, arith, inl, inr}
use Rattle.std.proofs.lemmas.Bool.{cases_eq, le-leb}
use Rattle.std.proofs.lemmas.List.{get_or_default}
use Rattle.ib_map.specs.Keys.{MapKey, rank}
use Rattle.ib_map.specs.Pairs.{Pairs, index_after}
use Rattle.ib_map.proofs.KeyLaws.{rank-lt_end}
use Rattle.ib_heap.specs.declared.TheConstants.{MOST_RECORDS, MOST_LEVEL}
use Rattle.ib_logrec.specs.declared.entry.Entry.{Entry}
use Rattle.ib_page.specs.Form.{page_of}
use Rattle.ib_page.specs.Image.{IsTreePage, IsFormed, level_of, records_of}
use Rattle.ib_page.specs.Memory.{image_at}
use Rattle.ib_plans.proofs.EditLaws.{state-level}
use Rattle.ib_walk.specs.Pages.{Tree, PageMemory, PageState}
use Rattle.ib_walk.specs.Search.{child_for, page_below, leaf_for}
use Rattle.ib_walk.specs.Trees.{height_of}
use Rattle.ib_walk.proofs.SearchLaws.{above}
use Rattle.ib_plans.specs.Agreement.{path_down, path_of, last_of}
use Rattle.ib_plans.specs.Merge.{siblings_of}
use Rattle.ib_plans.proofs.LevelLaws.{above-sum}
use Rattle.ib_plans.proofs.LinkLaws.{NextLeaf-leaf_for}
use Rattle.ib_planned_change.specs.Steps.{IsBeforeTree}
use Rattle.ib_plans.proofs.PathLaws.{PathPage, PathPage-below, page_below-child}
use Rattle.ib_plans.proofs.PathListLaws.{length-path_down}
use Rattle.ib_plans.proofs.SiblingRecordLaws.{HasSiblings-of}
use Rattle.ib_split.proofs.OnPathLaws.{last_of-path_down}
use Rattle.ib_merge.proofs.BesideLaws.{IsBeside-from}
use Rattle.ib_merge.proofs.NextLaws.{first-not_above}
use Rattle.ib_merge.proofs.OnPathLaws.{path_down-at, path_down-last}
use Rattle.ib_planned_log.specs.LeafChange.{kept_pages, leaf_after}
use Rattle.ib_planned_change.specs.Copies.{IsBehind}
use Rattle.ib_planned_change.proofs.BehindLaws.{lawful-behind, tree-within, tree-image, tree-formed, state-is, records-is, pages-few, bits-behind}

-- the last record whose key is not above this one is that of the key's child
pub routed-child : (key : MapKey) (xs : Pairs) (r : MapKey × ℕ) → IsSomeAnd (slice_get xs 0) (λ s. rank s.0 ≤ rank key) → slice_get xs (index_after key xs - 1) ≡ Some r → r.1 ≡ child_for key 0 xs
routed-child key [] r first at = absurd first
routed-child key (x ∷ xs) r first at =
    let s = HasSiblings-of key (x ∷ xs) (omega arith) first in
    let b = IsBeside-from key (None) x xs in
    let yes = le-leb (rank x.0) (rank key) first in
    let count : index_after key (x ∷ xs) ≡ 1 + index_after key xs = rw yes refl in
    let place : index_after key (x ∷ xs) - 1 ≡ index_after key xs = omega arith in
    let here : Some (siblings_of key (x ∷ xs)).here ≡ Some r = sym b.here_is ∙ (ap (slice_get (x ∷ xs)) (sym place) ∙ at) in
    let same : (siblings_of key (x ∷ xs)).here ≡ r = cc in
    ap (λ (q : MapKey × ℕ). q.1) (sym same) ∙ s.here

module _ (log : List Entry) (images : List (List ℕ)) (b : IsBehind log images) (key : MapKey) where
  abbrev m : PageMemory
  m = kept_pages (length images) log

  -- a page of the path, so many levels below the root
  module _ (depth : ℕ) (le : depth ≤ height_of (kept_pages (length images) log) 1) where
    pub path-page : PathPage (kept_pages (length images) log) (height_of (kept_pages (length images) log) 1 - depth) 1 (page_below (kept_pages (length images) log) key depth 1)
    path-page =
        let law = (lawful-behind log images b).law in
        let tall : height_of m 1 ≡ above depth (height_of m 1 - depth) = (let e = above-sum depth (height_of m 1 - depth) in omega arith) in
        PathPage-below (λ n. MOST_RECORDS) m (bits-behind log images b) 1 law key (rank-lt_end key) 1 (omega arith) (omega arith) depth (height_of m 1 - depth) tall

    pub path-within : page_below (kept_pages (length images) log) key depth 1 < length images
    path-within = tree-within log images b (page_below m key depth 1) path-page.kind

  -- a node's first record is not above the key
  pub path-first : (depth : ℕ) → depth < height_of (kept_pages (length images) log) 1
      → IsSomeAnd (slice_get (kept_pages (length images) log (page_below (kept_pages (length images) log) key depth 1)).records 0) (λ r. rank r.0 ≤ rank key)
  path-first depth lt =
      let law = (lawful-behind log images b).law in
      let tall : height_of m 1 ≡ above depth (suc (height_of m 1 - suc depth)) = (let e = above-sum depth (suc (height_of m 1 - suc depth)) in omega arith) in
      first-not_above m (bits-behind log images b) 1 law key (rank-lt_end key) 1 (omega arith) (omega arith) depth (height_of m 1 - suc depth) tall (page_below m key depth 1) refl

  pub path-low : height_of (kept_pages (length images) log) 1 ≤ MOST_LEVEL
  path-low = ((lawful-behind log images b).law.trees 1 (omega arith) (omega arith)).1

  -- the page below is the child of the page
  pub path-child : (depth : ℕ) → page_below (kept_pages (length images) log) key (depth + 1) 1 ≡ child_for key 0 (kept_pages (length images) log (page_below (kept_pages (length images) log) key depth 1)).records
  path-child depth = let one : depth + 1 ≡ suc depth = omega arith in ap (λ d. page_below m key d 1) one ∙ page_below-child m key depth 1

  pub path-more : (depth : ℕ) → path_down (kept_pages (length images) log) key (depth + 1) 1 ≡ path_down (kept_pages (length images) log) key depth 1 ++ page_below (kept_pages (length images) log) key (depth + 1) 1 ∷ []
  path-more depth =
      let one : depth + 1 ≡ suc depth = omega arith in
      ap (λ d. path_down m key d 1) one ∙ (path_down-last m key depth 1 ∙ ap (λ d. path_down m key depth 1 ++ page_below m key d 1 ∷ []) (sym one))

  pub path-long : (depth : ℕ) → length (path_down (kept_pages (length images) log) key depth 1) ≡ depth + 1
  path-long depth = let e = length-path_down m key depth 1 in omega arith

  -- the root's image
  module _ (image : List ℕ) (is : image_at images 1 ≡ image) where
    root-in : 1 < length images
    root-in = path-within 0 (omega arith)

    pub root-formed : IsFormed image
    root-formed = tree-formed (page_of image) (tree-image log images b 1 image root-in is (path-page 0 (omega arith)).kind)

    pub root-height : level_of image ≡ height_of (kept_pages (length images) log) 1
    root-height = sym (state-level (page_of image)) ∙ ap (λ (s : PageState). s.level) (state-is log images b 1 image root-in is)

  -- the image of a node of the path
  module _ (depth : ℕ) (lt : depth < height_of (kept_pages (length images) log) 1) (page : ℕ) (at : page ≡ page_below (kept_pages (length images) log) key depth 1) (image : List ℕ) (is : image_at images page ≡ image) where
    node-kind : (kept_pages (length images) log page).kind ≡ Tree
    node-kind = subst (λ n. (m n).kind ≡ Tree) (sym at) (path-page depth (omega arith)).kind

    node-in : page < length images
    node-in = tree-within log images b page node-kind

    node-records : records_of image ≡ (kept_pages (length images) log (page_below (kept_pages (length images) log) key depth 1)).records
    node-records = records-is log images b page image node-in is ∙ ap (λ n. (m n).records) at

    pub node-tree : IsTreePage image
    node-tree = tree-image log images b page image node-in is node-kind

    pub node-first : IsSomeAnd (slice_get (records_of image) 0) (λ r. rank r.0 ≤ rank key)
    node-first = subst (λ (rs : Pairs). IsSomeAnd (slice_get rs 0) (λ r. rank r.0 ≤ rank key)) (sym node-records) (path-first depth lt)

    pub node-child : child_for key 0 (records_of image) ≡ page_below (kept_pages (length images) log) key (depth + 1) 1
    node-child = ap (child_for key 0) node-records ∙ sym (path-child depth)

    pub node-small : child_for key 0 (records_of image) < 2 ^ 32
    node-small = let e = node-child in let a = path-within (depth + 1) (omega arith) in let f = pages-few (length images) b.space in omega arith

  -- the pages of the whole path
  module _ (path : List ℕ) (way : path ≡ path_of (kept_pages (length images) log) key 1) where
    pub way-length : length path ≡ height_of (kept_pages (length images) log) 1 + 1
    way-length = ap length way ∙ path-long (height_of m 1)

    pub way-at : (depth : ℕ) → depth < length path → get_or path depth 0 ≡ page_below (kept_pages (length images) log) key depth 1
    way-at depth lt = ap (λ ps. get_or ps depth 0) way ∙ path_down-at m key (height_of m 1) 1 depth (let l = way-length in omega arith)

    pub way-last : last_of path ≡ leaf_after (length images) log key
    way-last = ap last_of way ∙ last_of-path_down m key (height_of m 1) 1

    pub way-end : get_or path (length path - 1) 0 ≡ leaf_after (length images) log key
    way-end = let l = way-length in way-at (length path - 1) (omega arith) ∙ ap (λ d. page_below m key d 1) (let e : length path - 1 ≡ height_of m 1 = omega arith in e)

    pub way-ends : get_or path (length path - 1) 0 ≡ last_of path
    way-ends = way-end ∙ sym way-last

    pub way-trees : (P : ℕ → Type 0) → ((n : ℕ) → (kept_pages (length images) log n).kind ≡ Tree → P n) → All P path
    way-trees P f k d lt =
        let l = way-length in
        let p = path-page k (omega arith) in
        subst P (sym (get_or_default path k d 0 lt ∙ way-at k lt)) (f (page_below m key k 1) p.kind)

  -- the leaf
  pub leaf-page : PathPage (kept_pages (length images) log) 0 1 (leaf_after (length images) log key)
  leaf-page =
      let p = path-page (height_of m 1) (omega arith) in
      let z : height_of m 1 - height_of m 1 ≡ 0 = omega arith in
      subst (λ h. PathPage m h 1 (leaf_for m key 1)) z p

  -- .. is one of the tree, and so is the leaf behind it
  pub leaf-before : IsBeforeTree (kept_pages (length images) log) (leaf_after (length images) log key)
  leaf-before = (leaf-page.kind, λ ne. (NextLeaf-leaf_for (λ n. MOST_RECORDS) m (bits-behind log images b) 1 key 1 (lawful-behind log images b).law (omega arith) (omega arith) (rank-lt_end key) ne).kind)

  -- .. and so is the root
  pub root-before : IsBeforeTree (kept_pages (length images) log) 1
  root-before = elim (cases_eq (height_of (kept_pages (length images) log) 1) 0) [
    | inl low ↦ subst (IsBeforeTree m) (ap (λ d. page_below m key d 1) low) leaf-before
    | inr ne ↦
        let p = path-page 0 (omega arith) in
        let sound = (lawful-behind log images b).law.sound 1 p.some in
        (p.kind, λ some. absurd (some (sound.node (omega (arith, ne))).1))
  ]
