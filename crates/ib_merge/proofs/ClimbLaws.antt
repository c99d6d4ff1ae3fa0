-- The climb of a delete: how far it has come, for every memory whose pages those of the work set are.
use Rattle.std.proofs.Common.{◌≡◌, ◌≢◌, ◌∙◌, ℕ, suc, ◌+◌, ◌-◌, ◌<◌, ◌^◌, List, [], ◌∷◌, ◌++◌, length, refl, sym, ap, subst, Bool, true, false, arith, ltb, eqb, get_or, Some, None}
use Rattle.std.specs.Prelude.{IsSomeAnd, MatchOption, ◌&&◌}
use Rattle.std.proofs.lemmas.List.Elements.{All-get_or}
use Rattle.ib_map.specs.Keys.{MapKey, end_rank, rank}
use Rattle.ib_map.proofs.KeyLaws.{rank-lt_end}
use Rattle.ib_heap.specs.declared.TheConstants.{MOST_RECORDS}
use Rattle.ib_page.specs.Image.{IsTreePage}
use Rattle.ib_page.specs.Work.{WorkPage, changed_of}
use Rattle.ib_walk.specs.Pages.{PageMemory}
use Rattle.ib_walk.specs.Search.{child_for, page_below}
use Rattle.ib_walk.specs.Trees.{height_of}
use Rattle.ib_walk.proofs.SearchLaws.{above}
use Rattle.ib_plans.specs.declared.TheConstants.{FEWEST_RECORDS}
use Rattle.ib_plans.specs.Delete.{Shrinkage, delete_below, merge_short, planned_delete, settled}
use Rattle.ib_plans.specs.Moves.{Takes, HasMoved}
use Rattle.ib_plans.specs.Merge.{first_child, siblings_of}
use Rattle.ib_plans.specs.Agreement.{IsThere, memory_in, Agrees, Sets, tick}
use Rattle.ib_plans.proofs.DeleteLaws.{IsDeletedBelow, IsDeletedBelow-path}
use Rattle.ib_plans.proofs.EditLaws.{IsSome-and}
use Rattle.ib_plans.proofs.LevelLaws.{above-suc, above-sum}
use Rattle.ib_plans.proofs.PathLaws.{PathPage-below, page_below-child}
use Rattle.ib_plans.proofs.PathListLaws.{length-path_down}
use Rattle.ib_plans.proofs.SettledLaws.{planned_delete-settled}
use Rattle.ib_merge.specs.declared.edits.Merger.{Merger}
use Rattle.ib_merge.specs.Deletes.{HasSiblings, HasNext, CanDelete, CanChoose, CanMerge, CanLift, IsMerged, IsLifted, IsDeleteClimbed, IsDeleteClimbedForAll, merger_of, without_record}
use Rattle.ib_merge.proofs.AtLaws.{IsAt, IsAt-leaf}
use Rattle.ib_merge.proofs.ImageLaws.{there-tree}
use Rattle.ib_merge.proofs.LiftEdits.{IsDeleteClimbed-at, root-tree, root-stays, can-lift, IsDeleteClimbed-lift}
use Rattle.ib_merge.proofs.MergerLaws.{short-none, long-settled}
use Rattle.ib_merge.proofs.NodeLaws.{mid-alike, here-is, can-choose, same-choice, can-merge, IsAt-step}
use Rattle.ib_merge.proofs.OnPathLaws.{path_down-at, nodes-at}

-- the pages of the path up to this height were seen to
abbrev pub IsAtForAll : List ℕ → MapKey → ℕ → List ℕ → List WorkPage → List WorkPage → Type 0
IsAtForAll path key height freed old new = (pages roots root : ℕ) (memory : PageMemory) (bits : ℕ → ℕ) → Agrees pages roots root key path old memory bits
    → (depth : ℕ) → depth + height + 1 ≡ length path → IsAt memory bits height (get_or path depth 0) (delete_below memory bits key height (get_or path depth 0)) freed old new

-- the path by its places
module _ (pages roots root : ℕ) (key : MapKey) (path : List ℕ) (old : List WorkPage) (m : PageMemory) (bits : ℕ → ℕ) (a : Agrees pages roots root key path old m bits) where
  in-range : rank key < end_rank
  in-range = rank-lt_end key

  pub length-path : length path ≡ suc (height_of m root)
  length-path = ap length a.way ∙ length-path_down m key (height_of m root) root

  pub tall-at : (depth height : ℕ) → depth + height + 1 ≡ length path → height_of m root ≡ above depth height
  tall-at depth height e = let s = above-sum depth height in let l = length-path in omega arith

  pub page-at : (depth height : ℕ) → depth + height + 1 ≡ length path → page_below m key depth root ≡ get_or path depth 0
  page-at depth height e = sym (ap (λ (ps : List ℕ). get_or ps depth 0) a.way ∙ path_down-at m key (height_of m root) root depth (let l = length-path in omega arith))

  pub some-at : (depth height : ℕ) → depth + height + 1 ≡ length path → get_or path depth 0 ≢ 0
  some-at depth height e z = (PathPage-below (λ n. MOST_RECORDS) m bits roots a.lawful key in-range root a.some a.within depth height (tall-at depth height e)).some (page-at depth height e ∙ z)

  pub child-at : (depth height : ℕ) → depth + suc height + 1 ≡ length path → get_or path (depth + 1) 0 ≡ child_for key 0 (m (get_or path depth 0)).records
  child-at depth height e =
      let up : suc depth ≡ depth + 1 = omega arith in
      sym (page-at (depth + 1) height (omega arith)) ∙ (ap (λ d. page_below m key d root) (sym up)
      ∙ (page_below-child m key depth root ∙ ap (λ n. child_for key 0 (m n).records) (page-at depth (suc height) e)))

  -- a node of the path, whose child was seen to
  module _ (depth height : ℕ) (e : depth + suc height + 1 ≡ length path) (freed : List ℕ) (mid : List WorkPage) (all : IsAtForAll path key height freed old mid) (page-was : IsThere old (get_or path depth 0)) where
    abbrev page : ℕ
    page = get_or path depth 0

    abbrev child : ℕ
    child = child_for key 0 (m (get_or path depth 0)).records

    abbrev s : Shrinkage
    s = delete_below m bits key height (child_for key 0 (m (get_or path depth 0)).records)

    tall : height_of m root ≡ above depth (suc height)
    tall = tall-at depth (suc height) e

    at : page_below m key depth root ≡ page
    at = page-at depth (suc height) e

    was : IsDeletedBelow m roots key root height child s
    was = IsDeletedBelow-path m bits roots a.lawful key in-range root a.some a.within height (suc depth) child (tall ∙ above-suc depth height) (page_below-child m key depth root ∙ ap (λ n. child_for key 0 (m n).records) at)

    x : IsAt m bits height child s freed old mid
    x = subst (λ n. IsAt m bits height n (delete_below m bits key height n) freed old mid) (child-at depth height e) (all pages roots root m bits a (depth + 1) (omega arith))

    child-there : IsThere mid child
    child-there = x.there child (λ z. some-at (depth + 1) height (omega arith) (child-at depth height e ∙ z)) x.own

    child-some : child ≢ 0
    child-some z = some-at (depth + 1) height (omega arith) (child-at depth height e ∙ z)

    pub child-tree : IsSomeAnd (changed_of (get_or path (depth + 1) 0) mid) IsTreePage
    child-tree = subst (λ n. IsSomeAnd (changed_of n mid) IsTreePage) (sym (child-at depth height e))
        (there-tree (changed_of child mid) ((mid-alike pages roots root key path old m bits a depth height page tall at s was freed mid x page-was child child-some child-there).kind ∙ was.kind))

    abbrev few : Bool
    few = ltb (length (memory_in mid (get_or path (depth + 1) 0)).records) FEWEST_RECORDS

    -- the work set's page has as many records as the plan's
    few-is : few ≡ ltb (length (s.memory (siblings_of key (s.memory page).records).here.1).records) FEWEST_RECORDS
    few-is =
        ap (λ n. ltb (length (memory_in mid n).records) FEWEST_RECORDS) (child-at depth height e)
        ∙ (ap (λ rs. ltb (length rs) FEWEST_RECORDS) (mid-alike pages roots root key path old m bits a depth height page tall at s was freed mid x page-was child child-some child-there).records
        ∙ ap (λ n. ltb (length (s.memory n).records) FEWEST_RECORDS) (sym (here-is pages roots root key path old m bits a depth height page tall at s was freed mid x page-was)))

    -- nothing more happens
    stops : merge_short key page s ≡ settled s → let u = planned_delete m bits key root in IsDeleteClimbed freed m u.memory u.bits bits u.touched u.moves old mid
    stops eq =
        let r : planned_delete m bits key root ≡ settled s = planned_delete-settled m bits key depth (suc height) root page tall at (ap (λ (u : Shrinkage). u.lost) eq) ∙ eq in
        let k : IsDeleteClimbed freed m (settled s).memory (settled s).bits bits (settled s).touched (settled s).moves old mid = IsDeleteClimbed-at m bits height child s freed old mid x in
        subst (λ (u : Shrinkage). IsDeleteClimbed freed m u.memory u.bits bits u.touched u.moves old mid) (sym r) k

    pub stops-long : few ≡ false → let u = planned_delete m bits key root in IsDeleteClimbed freed m u.memory u.bits bits u.touched u.moves old mid
    stops-long off = stops (long-settled key page s x.lost (sym few-is ∙ off))

    module _ (beside : HasSiblings key old (get_or path depth 0)) where
      pub chooses : CanChoose page key mid
      chooses = can-choose pages roots root key path old m bits a depth height page tall at s was freed mid x page-was beside

      picks-same : merger_of (memory_in mid) (siblings_of key (memory_in mid page).records) ≡ merger_of s.memory (siblings_of key (s.memory page).records)
      picks-same = same-choice pages roots root key path old m bits a depth height page tall at s was freed mid x page-was beside

      pub stops-none : few ≡ true → None ≡ merger_of (memory_in mid) (siblings_of key (memory_in mid page).records)
          → let u = planned_delete m bits key root in IsDeleteClimbed freed m u.memory u.bits bits u.touched u.moves old mid
      stops-none on none = stops (short-none key page s x.lost (sym few-is ∙ on) (sym picks-same ∙ sym none))

      module _ (g : Merger) (on : few ≡ true) (picks : Some g ≡ merger_of (memory_in mid) (siblings_of key (memory_in mid page).records)) where
        pub merges : MatchOption (siblings_of key (memory_in old page).records).right (HasNext old (siblings_of key (memory_in old page).records).here.1) (λ right. HasNext old right.1)
            → ((n : ℕ) → (memory_in old n).clock < 2 ^ 63) → CanMerge page g.left g.gone.1 g.beside mid
        merges behind clocks = can-merge pages roots root key path old m bits a depth height page tall at s was freed mid x page-was g (sym few-is ∙ on) (sym picks-same ∙ sym picks) beside behind clocks

        pub steps : (new : List WorkPage) → CanMerge page g.left g.gone.1 g.beside mid → IsMerged page g.left g.gone g.beside mid new
            → IsAt m bits (suc height) page (delete_below m bits key (suc height) page) (freed ++ g.gone.1 ∷ []) old new
        steps new can mg = IsAt-step pages roots root key path old m bits a depth height page tall at s was freed mid x page-was g (sym few-is ∙ on) (sym picks-same ∙ sym picks) new can mg

  -- the root, to which all was seen
  module _ (freed : List ℕ) (mid : List WorkPage) (all : IsAtForAll path key (length path - 1) freed old mid) where
    root-is : get_or path 0 0 ≡ root
    root-is = sym (page-at 0 (height_of m root) (let l = length-path in omega arith))

    root-x : IsAt m bits (height_of m root) root (delete_below m bits key (height_of m root) root) freed old mid
    root-x =
        let h : length path - 1 ≡ height_of m root = (let l = length-path in omega arith) in
        subst (λ k. IsAt m bits k root (delete_below m bits key k root) freed old mid) h
        (subst (λ n. IsAt m bits (length path - 1) n (delete_below m bits key (length path - 1) n) freed old mid) root-is (all pages roots root m bits a 0 (let l = length-path in omega arith)))

    root-was : IsDeletedBelow m roots key root (height_of m root) root (delete_below m bits key (height_of m root) root)
    root-was = IsDeletedBelow-path m bits roots a.lawful key in-range root a.some a.within (height_of m root) 0 root refl refl

    pub top-tree : IsSomeAnd (changed_of (get_or path 0 0) mid) IsTreePage
    top-tree = subst (λ n. IsSomeAnd (changed_of n mid) IsTreePage) (sym root-is) (root-tree pages roots root key path old m bits a (height_of m root) (delete_below m bits key (height_of m root) root) root-was freed mid root-x)

    abbrev single : ℕ → Bool
    single n = ltb 0 (memory_in mid n).level && eqb (length (memory_in mid n).records) 1

    pub top-stays : single (get_or path 0 0) ≡ false → let u = planned_delete m bits key root in IsDeleteClimbed freed m u.memory u.bits bits u.touched u.moves old mid
    top-stays off =
        let r : planned_delete m bits key root ≡ delete_below m bits key (height_of m root) root =
        root-stays pages roots root key path old m bits a (height_of m root) (delete_below m bits key (height_of m root) root) root-was freed mid root-x (ap single (sym root-is) ∙ off) in
        subst (λ (u : Shrinkage). IsDeleteClimbed freed m u.memory u.bits bits u.touched u.moves old mid) (sym r)
        (IsDeleteClimbed-at m bits (height_of m root) root (delete_below m bits key (height_of m root) root) freed old mid root-x)

    pub top-can_lift : single (get_or path 0 0) ≡ true → CanLift (get_or path 0 0) mid
    top-can_lift on = subst (λ n. CanLift n mid) (sym root-is)
        (can-lift pages roots root key path old m bits a (height_of m root) (delete_below m bits key (height_of m root) root) root-was freed mid root-x (ap single (sym root-is) ∙ on))

    pub top-lifts : single (get_or path 0 0) ≡ true → (q : ℕ) (new : List WorkPage) → q ≡ first_child (memory_in mid (get_or path 0 0)).records → IsLifted (get_or path 0 0) q mid new
        → let u = planned_delete m bits key root in IsDeleteClimbed (freed ++ q ∷ []) m u.memory u.bits bits u.touched u.moves old new
    top-lifts on q new is lift =
        IsDeleteClimbed-lift pages roots root key path old m bits a (height_of m root) (delete_below m bits key (height_of m root) root) root-was freed mid root-x (ap single (sym root-is) ∙ on) q new
        (is ∙ ap (λ n. first_child (memory_in mid n).records) root-is) (subst (λ n. IsLifted n q mid new) root-is lift)

-- a work set for which the delete may be planned
module _ (path : List ℕ) (key : MapKey) (old : List WorkPage) (can : CanDelete path key old) where
  path-length : length path ≡ suc (height_of can.memory can.root)
  path-length = length-path can.pages can.roots can.root key path old can.memory can.bits can.agrees

  pub path-some : 0 < length path
  path-some = let l = path-length in omega arith

  pub path-tree : (i : ℕ) → i < length path → IsSomeAnd (changed_of (get_or path i 0) old) IsTreePage
  path-tree i lt = All-get_or (λ page. IsSomeAnd (changed_of page old) IsTreePage) path i 0 lt can.images.path_there

  pub path-there : (i : ℕ) → i < length path → IsThere old (get_or path i 0)
  path-there i lt = IsSome-and IsTreePage _ (path-tree i lt)

  -- the record has left the leaf
  pub starts : (new : List WorkPage) → Sets (get_or path (length path - 1) 0) (tick (without_record key (memory_in old (get_or path (length path - 1) 0)))) old new
      → HasMoved (Takes key) (changed_of (get_or path (length path - 1) 0) old) (changed_of (get_or path (length path - 1) 0) new) → IsAtForAll path key 0 [] old new
  starts new sets taken pages roots root m bits a depth e =
      let d : length path - 1 ≡ depth = omega arith in
      let some = path-some in
      subst (λ i. IsAt m bits 0 (get_or path i 0) (delete_below m bits key 0 (get_or path i 0)) [] old new) d
      (IsAt-leaf m bits key (get_or path (length path - 1) 0) (some-at pages roots root key path old m bits a (length path - 1) 0 (omega arith)) old new a.same (path-there (length path - 1) (omega arith)) sets taken)

  module _ (height : ℕ) (inside : height < length path - 1) (freed : List ℕ) (mid : List WorkPage) (all : IsAtForAll path key height freed old mid) where
    abbrev place : ℕ
    place = length path - 2 - height

    place-is : place + suc height + 1 ≡ length path
    place-is = omega arith

    below-is : place + 1 ≡ length path - 1 - height
    below-is = omega arith

    beside-was : HasSiblings key old (get_or path place 0)
    beside-was = nodes-at (HasSiblings key old) path place can.images.siblings_there (omega arith)

    node-there : IsThere old (get_or path place 0)
    node-there = path-there place (omega arith)

    pub below-tree : IsSomeAnd (changed_of (get_or path (length path - 1 - height) 0) mid) IsTreePage
    below-tree = subst (λ i. IsSomeAnd (changed_of (get_or path i 0) mid) IsTreePage) below-is
        (child-tree can.pages can.roots can.root key path old can.memory can.bits can.agrees place height place-is freed mid all node-there)

    pub node-chooses : CanChoose (get_or path place 0) key mid
    node-chooses = chooses can.pages can.roots can.root key path old can.memory can.bits can.agrees place height place-is freed mid all node-there beside-was

    abbrev short : Bool
    short = ltb (length (memory_in mid (get_or path (length path - 1 - height) 0)).records) FEWEST_RECORDS

    short-is : short ≡ ltb (length (memory_in mid (get_or path (place + 1) 0)).records) FEWEST_RECORDS
    short-is = ap (λ i. ltb (length (memory_in mid (get_or path i 0)).records) FEWEST_RECORDS) (sym below-is)

    pub node-stops_long : short ≡ false → IsDeleteClimbedForAll path key freed old mid
    node-stops_long off pages roots root m bits a = stops-long pages roots root key path old m bits a place height place-is freed mid all node-there (sym short-is ∙ off)

    pub node-stops_none : short ≡ true → None ≡ merger_of (memory_in mid) (siblings_of key (memory_in mid (get_or path place 0)).records) → IsDeleteClimbedForAll path key freed old mid
    node-stops_none on none pages roots root m bits a = stops-none pages roots root key path old m bits a place height place-is freed mid all node-there beside-was (sym short-is ∙ on) none

    module _ (g : Merger) (on : short ≡ true) (picks : Some g ≡ merger_of (memory_in mid) (siblings_of key (memory_in mid (get_or path place 0)).records)) where
      pub node-merges : CanMerge (get_or path place 0) g.left g.gone.1 g.beside mid
      node-merges = merges can.pages can.roots can.root key path old can.memory can.bits can.agrees place height place-is freed mid all node-there beside-was g (sym short-is ∙ on) picks
          (nodes-at (λ parent. MatchOption (siblings_of key (memory_in old parent).records).right (HasNext old (siblings_of key (memory_in old parent).records).here.1) (λ right. HasNext old right.1)) path place can.images.behind_there (omega arith))
          can.clocks.0

      pub node-steps : (new : List WorkPage) → IsMerged (get_or path place 0) g.left g.gone g.beside mid new → IsAtForAll path key (height + 1) (freed ++ g.gone.1 ∷ []) old new
      node-steps new mg pages roots root m bits a depth e =
          let d : place ≡ depth = omega arith in
          let up : suc height ≡ height + 1 = omega arith in
          subst (λ h. IsAt m bits h (get_or path depth 0) (delete_below m bits key h (get_or path depth 0)) (freed ++ g.gone.1 ∷ []) old new) up
          (subst (λ i. IsAt m bits (suc height) (get_or path i 0) (delete_below m bits key (suc height) (get_or path i 0)) (freed ++ g.gone.1 ∷ []) old new) d
          (steps pages roots root key path old m bits a place height place-is freed mid all node-there beside-was g (sym short-is ∙ on) picks new node-merges mg))

  module _ (freed : List ℕ) (mid : List WorkPage) (all : IsAtForAll path key (length path - 1) freed old mid) where
    abbrev lifts : Bool
    lifts = ltb 0 (memory_in mid (get_or path 0 0)).level && eqb (length (memory_in mid (get_or path 0 0)).records) 1

    pub root-of_tree : IsSomeAnd (changed_of (get_or path 0 0) mid) IsTreePage
    root-of_tree = top-tree can.pages can.roots can.root key path old can.memory can.bits can.agrees freed mid all

    pub root-can_lift : lifts ≡ true → CanLift (get_or path 0 0) mid
    root-can_lift on = top-can_lift can.pages can.roots can.root key path old can.memory can.bits can.agrees freed mid all on

    pub root-ends : lifts ≡ false → IsDeleteClimbedForAll path key freed old mid
    root-ends off pages roots root m bits a = top-stays pages roots root key path old m bits a freed mid all off

    pub root-ends_lifted : lifts ≡ true → (q : ℕ) (new : List WorkPage) → q ≡ first_child (memory_in mid (get_or path 0 0)).records → IsLifted (get_or path 0 0) q mid new → IsDeleteClimbedForAll path key (freed ++ q ∷ []) old new
    root-ends_lifted on q new is lift pages roots root m bits a = top-lifts pages roots root key path old m bits a freed mid all on q new is lift
