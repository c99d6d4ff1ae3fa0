-- The plan of a change that needs the leaf alone: an insert with room, and a delete that leaves enough.
use Rattle.std.proofs.Common.{◌≡◌, ℕ, zero, suc, ◌<◌, ◌≤◌, ◌∙◌, ◌⊎◌, Bool, true, false, cond, eqb, List, [], ◌∷◌, ◌++◌, length, None, Some, refl, sym, ap, subst, arith, inl, inr}
use Rattle.std.specs.Prelude.{◌&&◌}
use Rattle.std.proofs.lemmas.Bool.{le-ltb, ne_eqb}
use Rattle.ib_map.specs.Keys.{MapKey, rank, end_rank}
use Rattle.ib_map.specs.Pairs.{value_at, put, without}
use Rattle.ib_map.proofs.PairLaws.{length-put, length-without}
use Rattle.ib_heap.specs.declared.TheConstants.{MOST_RECORDS}
use Rattle.ib_walk.specs.Pages.{PageMemory, PageState}
use Rattle.ib_walk.specs.Full.{full_run, is_root_full, is_too_high, need_of, run_of}
use Rattle.ib_walk.specs.Search.{child_for, leaf_for, page_below}
use Rattle.ib_walk.specs.Trees.{IsLawful, content_of, height_of}
use Rattle.ib_walk.proofs.ChoiceLaws.{cond-eq, cond-ne}
use Rattle.ib_walk.proofs.SearchLaws.{above, above-zero}
use Rattle.ib_plans.specs.Delete.{Shrinkage, delete_below, drop_at, lift_single, merge_short, planned_delete, settled}
use Rattle.ib_plans.specs.Insert.{AreFresh, planned_insert, put_at}
use Rattle.ib_plans.specs.Marks.{mark, untouched}
use Rattle.ib_plans.specs.Moves.{Puts, Takes, unmoved, with_move}
use Rattle.ib_plans.specs.Merge.{siblings_of}
use Rattle.ib_plans.specs.Split.{with_records}
use Rattle.ib_plans.specs.declared.TheConstants.{FEWEST_RECORDS}
use Rattle.ib_plans.proofs.DeleteLaws.{IsDeletedBelow, IsDeletedBelow-path, PathAbove-delete, siblings}
use Rattle.ib_plans.proofs.LevelLaws.{above-suc}
use Rattle.ib_plans.proofs.PathLaws.{PathPage, PathPage-below, page_below-child}
use Rattle.ib_plans.proofs.PathListLaws.{pages_up, path_of-pages}
use Rattle.ib_plans.proofs.SettledLaws.{planned_delete-settled, planned_insert-short}

-- the leaf is the first page of its path
first-up : (m : PageMemory) (key : MapKey) (height page : ℕ) → (rest : List ℕ) × (pages_up m key height page ≡ page_below m key height page ∷ rest)
first-up m key zero page = ([], refl)
first-up m key (suc height) page =
    let r = first-up m key height (child_for key 0 (m page).records) in (r.0 ++ page ∷ [], ap (λ ps. ps ++ page ∷ []) r.1)

-- a page that lost a record and has enough is not merged, and a root that is a leaf is not lifted
merge_short-long : (key : MapKey) (parent : ℕ) (s : Shrinkage) → s.lost ≡ true → FEWEST_RECORDS ≤ length (s.memory (siblings_of key (s.memory parent).records).here.1).records
    → merge_short key parent s ≡ settled s
merge_short-long key parent s lost enough =
    let no = le-ltb (length (s.memory (siblings_of key (s.memory parent).records).here.1).records) FEWEST_RECORDS enough in rw lost (rw no refl)

lift_single-low : (root : ℕ) (s : Shrinkage) → s.lost ≡ true → (s.memory root).level ≡ 0 → lift_single root s ≡ s
lift_single-low root s lost low = rw lost (rw low refl)

module _ (m : PageMemory) (bits : ℕ → ℕ) (roots : ℕ) (law : IsLawful m bits roots) (key : MapKey) (in-range : rank key < end_rank) (root : ℕ) (some : 0 < root) (le : root ≤ roots) where
  abbrev leaf : ℕ
  leaf = leaf_for m key root

  -- the leaf is a page of the tree, on level 0
  pub leaf-page : PathPage m 0 root leaf
  leaf-page = PathPage-below (λ n. MOST_RECORDS) m bits roots law key in-range root some le (height_of m root) 0 (sym (above-zero (height_of m root)))

  -- with room in the leaf there is no run of full pages
  module _ (room : length (m leaf).records < MOST_RECORDS) where
    no-run : run_of m key root ≡ 0
    no-run =
        let up = first-up m key (height_of m root) root in
        ap (full_run m) (path_of-pages m key root in-range (law.trees root some le).0 ∙ up.1)
        ∙ cond-ne (length (m leaf).records) MOST_RECORDS (suc (full_run m up.0)) 0 (omega arith)

    not-full : is_root_full m key root ≡ false
    not-full = ne_eqb (run_of m key root) (suc (height_of m root)) (λ e. let z = no-run in omega arith)

    pub no-need : need_of m key root ≡ 0
    no-need = let a = no-run in let b = ap (λ (b : Bool). cond {A = ℕ} b 1 0) not-full in omega arith

    pub not-high : is_too_high 1 m key root ≡ false
    not-high = ap (λ b. b && eqb (height_of m root) 7) not-full

    -- the insert puts the pair into the leaf
    pub insert-leaf : (value : ℕ) (fresh : List ℕ) → AreFresh bits fresh → value_at key (content_of m root) ≡ None
        → planned_insert m bits fresh key value root ≡ record { memory = put_at m leaf key value; bits = bits; touched = mark leaf untouched; moves = with_move leaf (Puts key) unmoved; fresh = fresh }
    insert-leaf value fresh free missing =
        let now = cond-eq leaf leaf (with_records (put key value (m leaf).records) (m leaf)) (m leaf) refl in
        let short : length (put_at m leaf key value leaf).records ≤ MOST_RECORDS =
        (let a = ap (λ (p : PageState). length p.records) now in let b = length-put key value (m leaf).records in omega arith) in
        planned_insert-short m bits roots law key value in-range root some le fresh free missing (height_of m root) 0 leaf (sym (above-zero (height_of m root))) refl tt short

  -- what a delete makes of the leaf
  abbrev dropped : ℕ → Bool → Shrinkage
  dropped page lost = record { memory = drop_at m page key; bits = bits; touched = mark page untouched; moves = with_move page (Takes key) unmoved; lost = lost }

  -- the root is the leaf
  root-leaf : height_of m root ≡ 0 → planned_delete m bits key root ≡ dropped root true
  root-leaf low =
      let here = cond-eq root root (with_records (without key (m root).records) (m root)) (m root) refl in
      ap (λ h. lift_single root (delete_below m bits key h root)) low
      ∙ lift_single-low root (dropped root true) refl (ap (λ (p : PageState). p.level) here ∙ low)

  -- the leaf has a parent, and enough is left
  module _ (value : ℕ) (there : value_at key (m leaf).records ≡ Some value) (enough : FEWEST_RECORDS < length (m leaf).records) (height : ℕ) (is : height_of m root ≡ suc height) where
    abbrev parent : ℕ
    parent = page_below m key height root

    abbrev child : ℕ
    child = child_for key 0 (m parent).records

    tall : height_of m root ≡ above height 1
    tall = is ∙ (ap suc (sym (above-zero height)) ∙ sym (above-suc height 0))

    child-leaf : child ≡ leaf
    child-leaf = sym (page_below-child m key height root) ∙ ap (λ h. page_below m key h root) (sym is)

    was : IsDeletedBelow m roots key root 0 child (dropped child true)
    was = IsDeletedBelow-path m bits roots law key in-range root some le 0 (suc height) child (tall ∙ above-suc height 0) (page_below-child m key height root)

    here-is : (siblings_of key ((dropped child true).memory parent).records).here.1 ≡ child
    here-is =
        let sib = siblings m bits roots law key in-range root some le 0 height parent tall refl (dropped child true) was in
        let up = PathAbove-delete m bits roots law key in-range root some le 0 height parent tall refl (dropped child true) was in
        sib.here ∙ up.child

    left-enough : FEWEST_RECORDS ≤ length (drop_at m child key child).records
    left-enough =
        let here = cond-eq child child (with_records (without key (m child).records) (m child)) (m child) refl in
        let a = ap (λ (p : PageState). length p.records) here in
        let e = ap (λ n. length (m n).records) child-leaf in
        let b = length-without key value (m child).records (subst (λ n. value_at key (m n).records ≡ Some value) (sym child-leaf) there) in
        omega (arith, enough)

    settles : delete_below m bits key 1 parent ≡ dropped child false
    settles =
        merge_short-long key parent (dropped child true) refl
        (subst (λ n. FEWEST_RECORDS ≤ length (drop_at m child key n).records) (sym here-is) left-enough)

    below-leaf : planned_delete m bits key root ≡ dropped leaf false
    below-leaf =
        planned_delete-settled m bits key height 1 root parent tall refl (ap (λ (s : Shrinkage). s.lost) settles)
        ∙ (settles ∙ ap (λ n. dropped n false) child-leaf)

  -- the delete takes the pair from the leaf, where that is the root or keeps enough
  pub delete-leaf : (value : ℕ) → value_at key (m leaf).records ≡ Some value → (leaf ≡ root) ⊎ (FEWEST_RECORDS < length (m leaf).records)
      → (lost : Bool) × (planned_delete m bits key root ≡ record { memory = drop_at m leaf key; bits = bits; touched = mark leaf untouched; moves = with_move leaf (Takes key) unmoved; lost = lost })
  delete-leaf value there short = go (height_of m root) refl short
    where
      go : (h : ℕ) → height_of m root ≡ h → (leaf ≡ root) ⊎ (FEWEST_RECORDS < length (m leaf).records) → (lost : Bool) × (planned_delete m bits key root ≡ dropped leaf lost)
      go zero e either = (true, root-leaf e ∙ ap (λ n. dropped n true) (sym (ap (λ h. page_below m key h root) e)))
      go (suc h) e (inl same) = absurd (let low = leaf-page.level in let top = ap (λ n. (m n).level) same in omega arith)
      go (suc h) e (inr enough) = (false, below-leaf value there enough h e)
