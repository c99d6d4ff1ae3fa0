-- The steps of a planned insert along the path, counted from its end.
use Rattle.std.proofs.Common.{◌≡◌, ◌≢◌, ◌∙◌, ℕ, suc, ◌+◌, ◌-◌, ◌<◌, ◌≤◌, ◌^◌, true, false, List, length, take, get_or, None, refl, sym, ap, subst, arith, inl, inr, Option}
use Rattle.std.specs.Prelude.{IsSomeAnd, ◌==◌}
use Rattle.std.proofs.lemmas.Bool.{cases_eq, eq-eqb}
use Rattle.std.proofs.lemmas.Bool.Decides.{nat_tests}
use Rattle.ib_map.specs.Keys.{MapKey}
use Rattle.ib_map.specs.Pairs.{value_at}
use Rattle.ib_heap.specs.declared.TheConstants.{MOST_RECORDS}
use Rattle.ib_page.specs.Image.{IsTreePage}
use Rattle.ib_page.specs.Work.{WorkPage, changed_of}
use Rattle.ib_walk.specs.Pages.{PageState, PageMemory}
use Rattle.ib_walk.specs.Search.{child_for, leaf_for, page_below}
use Rattle.ib_walk.specs.Trees.{height_of}
use Rattle.ib_walk.specs.Full.{need_of}
use Rattle.ib_walk.proofs.SearchLaws.{above, above-zero}
use Rattle.ib_walk.proofs.TreeLaws.{value_at-content_of}
use Rattle.ib_plans.specs.Insert.{AreFresh, first_fresh, other_fresh, insert_below, planned_insert}
use Rattle.ib_plans.specs.Moves.{Puts, HasMoved}
use Rattle.ib_plans.specs.Agreement.{IsClimbed, IsThere, state_or_free, memory_in, Agrees, MayTick, last_of, Sets, tick}
use Rattle.ib_plans.proofs.ChosenLaws.{chosen-fresh, chosen-length}
use Rattle.ib_plans.proofs.EditLaws.{IsSome-and}
use Rattle.ib_plans.proofs.LevelLaws.{above-sum}
use Rattle.ib_plans.proofs.PathLaws.{page_below-child}
use Rattle.ib_split.specs.Inserts.{HasFresh, HasInsertImages, with_record, CanPut, CanSplit, IsSplit, CanRaise, IsRaised}
use Rattle.ib_split.proofs.OnPathLaws.{in-range, path-length, path-last, path-at, path-tree, path-same}
use Rattle.ib_split.proofs.Pending.{IsPending, HasRoom, on-path, clean-here, kept-here, now, absent-here}
use Rattle.ib_split.proofs.Putting.{put-climbed}
use Rattle.ib_split.proofs.Splitting.{fresh-at, height-few, can-split, split-pending}
use Rattle.ib_split.proofs.Raising.{left-at, right-at, two-few, can-raise, raise-climbed}

is-most : (n : ℕ) → (n == MOST_RECORDS) ≡ true → n ≡ MOST_RECORDS
is-most n e = grind (arith, nat_tests)

not-most : (n : ℕ) → (n == MOST_RECORDS) ≡ false → n ≢ MOST_RECORDS
not-most n e z = let y = eq-eqb n MOST_RECORDS z in cc

module _ (path fresh : List ℕ) (key : MapKey) (value : ℕ) (old : List WorkPage) (images : HasInsertImages path fresh old) (clocks : MayTick old) (absent : value_at key (memory_in old (last_of path)).records ≡ None)
    (pages roots root : ℕ) (m : PageMemory) (bits : ℕ → ℕ) (agrees : Agrees pages roots root key path old m bits) (fits : HasFresh pages roots root key fresh m bits) where
  abbrev H : ℕ
  H = height_of m root

  len : length path ≡ suc H
  len = path-length pages roots root key path old m bits agrees

  leaf-same : memory_in old (last_of path) ≡ m (leaf_for m key root)
  leaf-same =
      ap (memory_in old) (path-last pages roots root key path old m bits agrees)
      ∙ path-same pages roots root key path old m bits agrees H 0 (sym (above-zero H)) images.path_there

  pub has-room : HasRoom roots root key fresh m bits
  has-room = record {
    law = agrees.lawful;
    in_range = in-range pages roots root key path old m bits agrees;
    some = agrees.some;
    le = agrees.within;
    free = subst (AreFresh bits) (sym fits.chosen_are) (chosen-fresh bits pages (need_of m key root) agrees.few);
    missing = value_at-content_of m key root (in-range pages roots root key path old m bits agrees) (agrees.lawful.trees root agrees.some agrees.within).0
        ∙ (ap (λ (q : PageState). value_at key q.records) (sym leaf-same) ∙ absent);
    room = let l = ap length fits.chosen_are in let c = chosen-length bits pages (need_of m key root) fits.enough in omega arith;
  }

  -- the page of the path at a height
  module _ (height : ℕ) (le : height < length path) where
    abbrev depth : ℕ
    depth = length path - 1 - height

    tall : height_of m root ≡ above (length path - 1 - height) height
    tall = let p = above-sum (length path - 1 - height) height in let l = len in omega arith

    at : page_below m key (length path - 1 - height) root ≡ get_or path (length path - 1 - height) 0
    at = sym (path-at pages roots root key path old m bits agrees (length path - 1 - height) height tall)

    abbrev page : ℕ
    page = get_or path (length path - 1 - height) 0

    tree-old : IsSomeAnd (changed_of page old) IsTreePage
    tree-old = subst (λ q. IsSomeAnd (changed_of q old) IsTreePage) at (path-tree pages roots root key path old m bits agrees (length path - 1 - height) height tall images.path_there)

    there-old : IsThere old page
    there-old = IsSome-and IsTreePage (changed_of page old) tree-old

    module _ (k : MapKey) (v : ℕ) (work : List WorkPage) (p : IsPending key value fresh old m bits height (get_or path (length path - 1 - height) 0) k v work) where
      some : page ≢ 0
      some = (on-path roots root key value fresh old m bits has-room height (length path - 1 - height) page tall at k v work p).some

      off : p.touched page ≡ false
      off = clean-here roots root key value fresh old m bits has-room height (length path - 1 - height) page tall at k v work p

      pub tree-at : IsSomeAnd (changed_of page work) IsTreePage
      tree-at = subst (λ (o : Option (List ℕ)). IsSomeAnd o IsTreePage) (sym (kept-here roots root key value fresh old m bits has-room height (length path - 1 - height) page tall at k v work p)) tree-old

      page-now : memory_in work page ≡ m page
      page-now = now roots root key value fresh old m bits has-room height (length path - 1 - height) page tall at k v work p page some off there-old

      pub put-can : (length (memory_in work page).records == MOST_RECORDS) ≡ false → CanPut page k work
      put-can not_full = record {
        tree = tree-at;
        room = let n = not-most (length (memory_in work page).records) not_full in let e = ap (λ (q : PageState). length q.records) page-now in let s = (agrees.lawful.sound page some).short in omega (arith, n);
        absent = ap (λ (q : PageState). value_at k q.records) page-now ∙ absent-here roots root key value fresh old m bits has-room height (length path - 1 - height) page tall at k v work p;
        clock = subst (λ c. c < 2 ^ 63) (ap (λ o. (state_or_free o).clock) (sym (p.kept page some off))) (clocks.0 page);
      }

      pub put-done : (length (memory_in work page).records == MOST_RECORDS) ≡ false → (new : List WorkPage) → Sets page (tick (with_record k v (memory_in work page))) work new
          → HasMoved (Puts k) (changed_of page work) (changed_of page new)
          → let g = planned_insert m bits fresh key value root in IsClimbed 1 (take height fresh) m g.memory g.bits bits g.touched g.moves old new
      put-done not_full new sets puts =
          put-climbed roots root key value fresh old m bits has-room height (length path - 1 - height) page tall at k v work p there-old
          (let n = not-most (length (memory_in work page).records) not_full in let e = ap (λ (q : PageState). length q.records) page-now in let s = (agrees.lawful.sound page some).short in omega (arith, n))
          new sets puts

      pub few-at : height ≤ length fresh
      few-at = p.few

      full-old : (length (memory_in work page).records == MOST_RECORDS) ≡ true → length (m page).records ≡ MOST_RECORDS
      full-old full = ap (λ (q : PageState). length q.records) (sym page-now) ∙ is-most (length (memory_in work page).records) full

      -- the leaf behind the page, where there is one, is there
      next-there : length (m page).records ≡ MOST_RECORDS → (m page).next ≢ 0 → IsThere old (m page).next
      next-there full ne = elim (cases_eq height 0) [
        | inl z ↦
            let depth-is : length path - 1 - height ≡ height_of m root = (let l = len in omega arith) in
            let last : page ≡ leaf_for m key root = sym at ∙ ap (λ d. page_below m key d root) depth-is in
            let same : memory_in old (last_of path) ≡ m page = leaf-same ∙ ap m (sym last) in
            subst (IsThere old) (ap (λ (q : PageState). q.next) same)
            (images.next_there (ap (λ (q : PageState). length q.records) same ∙ full) (λ e. ne (ap (λ (q : PageState). q.next) (sym same) ∙ e)))
        | inr up ↦ absurd (ne ((agrees.lawful.sound page some).node (let l = (on-path roots root key value fresh old m bits has-room height (length path - 1 - height) page tall at k v work p).level in omega (arith, up))).1)
      ]

  -- a page below the root is split
  module _ (height : ℕ) (lt : height < length path - 1) (k : MapKey) (v : ℕ) (work : List WorkPage)
      (p : IsPending key value fresh old m bits height (get_or path (length path - 1 - height) 0) k v work)
      (full : (length (memory_in work (get_or path (length path - 1 - height) 0)).records == MOST_RECORDS) ≡ true) where
    abbrev above-it : ℕ
    above-it = length path - 1 - (height + 1)

    abbrev parent : ℕ
    parent = get_or path (length path - 1 - (height + 1)) 0

    tall-parent : height_of m root ≡ above (length path - 1 - (height + 1)) (suc height)
    tall-parent = let q = above-sum (length path - 1 - (height + 1)) (suc height) in let l = len in omega arith

    at-parent : page_below m key (length path - 1 - (height + 1)) root ≡ parent
    at-parent = sym (path-at pages roots root key path old m bits agrees (length path - 1 - (height + 1)) (suc height) tall-parent)

    child-is : get_or path (length path - 1 - height) 0 ≡ child_for key 0 (m parent).records
    child-is =
        let e : length path - 1 - height ≡ suc (length path - 1 - (height + 1)) = omega arith in
        sym (at height (omega arith)) ∙ (ap (λ d. page_below m key d root) e ∙ (page_below-child m key (length path - 1 - (height + 1)) root ∙ ap (λ n. child_for key 0 (m n).records) at-parent))

    pending-child : IsPending key value fresh old m bits height (child_for key 0 (m parent).records) k v work
    pending-child = subst (λ q. IsPending key value fresh old m bits height q k v work) child-is p

    full-child : length (m (child_for key 0 (m parent).records)).records ≡ MOST_RECORDS
    full-child = subst (λ q. length (m q).records ≡ MOST_RECORDS) child-is (full-old height (omega arith) k v work p full)

    fresh-is : first_fresh (insert_below m bits fresh key value height (child_for key 0 (m parent).records)).fresh ≡ get_or fresh height 0
    fresh-is = fresh-at roots root key value fresh old m bits has-room height (length path - 1 - (height + 1)) parent tall-parent at-parent k v work pending-child full-child

    pub fresh-few : height < length fresh
    fresh-few = height-few roots root key value fresh old m bits has-room height (length path - 1 - (height + 1)) parent tall-parent at-parent k v work pending-child full-child

    tree-child : IsSomeAnd (changed_of (child_for key 0 (m parent).records) old) IsTreePage
    tree-child = subst (λ q. IsSomeAnd (changed_of q old) IsTreePage) child-is (tree-old height (omega arith))

    free-there : IsThere old (first_fresh (insert_below m bits fresh key value height (child_for key 0 (m parent).records)).fresh)
    free-there = subst (IsThere old) (sym fresh-is) (images.fresh_there height 0 fresh-few)

    next-child : (m (child_for key 0 (m parent).records)).next ≢ 0 → IsThere old (m (child_for key 0 (m parent).records)).next
    next-child = subst (λ q. (m q).next ≢ 0 → IsThere old (m q).next) child-is (next-there height (omega arith) k v work p (full-old height (omega arith) k v work p full))

    pub split-can : CanSplit (get_or path (length path - 1 - height) 0) (get_or fresh height 0) k work
    split-can = subst (λ q. CanSplit q (get_or fresh height 0) k work) (sym child-is) (subst (λ f. CanSplit (child_for key 0 (m parent).records) f k work) fresh-is
        (can-split roots root key value fresh old m bits has-room height (length path - 1 - (height + 1)) parent tall-parent at-parent k v work pending-child full-child tree-child free-there next-child clocks.0 agrees.same))

    pub split-done : (first : MapKey) (new : List WorkPage) → IsSplit (get_or path (length path - 1 - height) 0) (get_or fresh height 0) k v work first new
        → IsPending key value fresh old m bits (height + 1) (get_or path (length path - 1 - (height + 1)) 0) first (get_or fresh height 0) new
    split-done first new is =
        let e : suc height ≡ height + 1 = omega arith in
        let s = subst (λ q. IsSplit q (first_fresh (insert_below m bits fresh key value height (child_for key 0 (m parent).records)).fresh) k v work first new) child-is
        (subst (λ f. IsSplit (get_or path (length path - 1 - height) 0) f k v work first new) (sym fresh-is) is) in
        let q = split-pending roots root key value fresh old m bits has-room height (length path - 1 - (height + 1)) parent tall-parent at-parent k v work pending-child full-child tree-child free-there next-child clocks.0 agrees.same first new s in
        subst (λ h. IsPending key value fresh old m bits h (get_or path (length path - 1 - (height + 1)) 0) first (get_or fresh height 0) new) e
        (subst (λ f. IsPending key value fresh old m bits (suc height) (get_or path (length path - 1 - (height + 1)) 0) first f new) fresh-is q)

  -- the root is raised
  module _ (k : MapKey) (v : ℕ) (work : List WorkPage) (p : IsPending key value fresh old m bits (length path - 1) (get_or path 0 0) k v work)
      (full : (length (memory_in work (get_or path 0 0)).records == MOST_RECORDS) ≡ true) where
    height-is : length path - 1 ≡ height_of m root
    height-is = let l = len in omega arith

    root-is : get_or path 0 0 ≡ root
    root-is = path-at pages roots root key path old m bits agrees 0 (height_of m root) refl

    pending-root : IsPending key value fresh old m bits (height_of m root) root k v work
    pending-root = subst (λ h. IsPending key value fresh old m bits h root k v work) height-is (subst (λ q. IsPending key value fresh old m bits (length path - 1) q k v work) root-is p)

    zero-depth : length path - 1 - (length path - 1) ≡ 0
    zero-depth = omega arith

    full-root : length (m root).records ≡ MOST_RECORDS
    full-root =
        let q : IsPending key value fresh old m bits (length path - 1) (get_or path (length path - 1 - (length path - 1)) 0) k v work = subst (λ d. IsPending key value fresh old m bits (length path - 1) (get_or path d 0) k v work) (sym zero-depth) p in
        let f : (length (memory_in work (get_or path (length path - 1 - (length path - 1)) 0)).records == MOST_RECORDS) ≡ true = subst (λ d. (length (memory_in work (get_or path d 0)).records == MOST_RECORDS) ≡ true) (sym zero-depth) full in
        subst (λ n. length (m n).records ≡ MOST_RECORDS) (ap (λ d. get_or path d 0) zero-depth ∙ root-is) (full-old (length path - 1) (let l = len in omega arith) k v work q f)

    left-is : first_fresh (insert_below m bits fresh key value (height_of m root) root).fresh ≡ get_or fresh (length path - 1) 0
    left-is = left-at roots root key value fresh old m bits has-room k v work pending-root full-root fits.low ∙ ap (λ h. get_or fresh h 0) (sym height-is)

    right-is : first_fresh (other_fresh (insert_below m bits fresh key value (height_of m root) root).fresh) ≡ get_or fresh (length path - 1 + 1) 0
    right-is = right-at roots root key value fresh old m bits has-room k v work pending-root full-root fits.low ∙ (let e : suc (height_of m root) ≡ length path - 1 + 1 = (let h = height-is in omega arith) in ap (λ h. get_or fresh h 0) e)

    pub fresh-two : length path - 1 + 2 ≤ length fresh
    fresh-two = let t = two-few roots root key value fresh old m bits has-room k v work pending-root full-root fits.low in let h = height-is in omega arith

    tree-root : IsSomeAnd (changed_of root old) IsTreePage
    tree-root = path-tree pages roots root key path old m bits agrees 0 (height_of m root) refl images.path_there

    left-there : IsThere old (first_fresh (insert_below m bits fresh key value (height_of m root) root).fresh)
    left-there = subst (IsThere old) (sym left-is) (images.fresh_there (length path - 1) 0 (let t = fresh-two in omega arith))

    right-there : IsThere old (first_fresh (other_fresh (insert_below m bits fresh key value (height_of m root) root).fresh))
    right-there = subst (IsThere old) (sym right-is) (images.fresh_there (length path - 1 + 1) 0 (let t = fresh-two in omega arith))

    pub raise-can : CanRaise (get_or path 0 0) (get_or fresh (length path - 1) 0) (get_or fresh (length path - 1 + 1) 0) k work
    raise-can =
        subst (λ q. CanRaise q (get_or fresh (length path - 1) 0) (get_or fresh (length path - 1 + 1) 0) k work) (sym root-is)
        (subst (λ a. CanRaise root a (get_or fresh (length path - 1 + 1) 0) k work) left-is
        (subst (λ b. CanRaise root (first_fresh (insert_below m bits fresh key value (height_of m root) root).fresh) b k work) right-is
        (can-raise roots root key value fresh old m bits has-room k v work pending-root full-root fits.low tree-root left-there right-there clocks.0 agrees.same)))

    pub raise-done : (new : List WorkPage) → IsRaised (get_or path 0 0) (get_or fresh (length path - 1) 0) (get_or fresh (length path - 1 + 1) 0) k v work new
        → let g = planned_insert m bits fresh key value root in IsClimbed 1 (take (length path - 1 + 2) fresh) m g.memory g.bits bits g.touched g.moves old new
    raise-done new is =
        let s = subst (λ b. IsRaised root (first_fresh (insert_below m bits fresh key value (height_of m root) root).fresh) b k v work new) (sym right-is)
        (subst (λ a. IsRaised root a (get_or fresh (length path - 1 + 1) 0) k v work new) (sym left-is)
        (subst (λ q. IsRaised q (get_or fresh (length path - 1) 0) (get_or fresh (length path - 1 + 1) 0) k v work new) root-is is)) in
        let c = raise-climbed roots root key value fresh old m bits has-room k v work pending-root full-root fits.low tree-root left-there right-there clocks.0 agrees.same new s in
        subst (λ h. let g = planned_insert m bits fresh key value root in IsClimbed 1 (take (h + 2) fresh) m g.memory g.bits bits g.touched g.moves old new) (sym height-is) c
