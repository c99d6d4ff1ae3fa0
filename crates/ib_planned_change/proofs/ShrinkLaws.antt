-- A delete that may change the tree's structure: all that it reads and writes was copied, and it is planned.
use Rattle.std.specs.List.{All}
use Rattle.std.specs.Prelude.{IsSome, IfSome, MatchOption, unwrap_or}
use Rattle.std.proofs.Common.{◌≡◌, ℕ, suc, ◌+◌, ◌<◌, ◌≤◌, List, length, get_or, Option, Some, None, refl, sym, ap, subst, ◌∙◌, arith, inl, inr}
use Rattle.std.proofs.lemmas.Bool.{cases_eq}
use Rattle.ib_map.specs.Keys.{MapKey}
use Rattle.ib_map.specs.Pairs.{value_at}
use Rattle.ib_map.specs.declared.call.Change.TheVariants.{Delete}
use Rattle.ib_logrec.specs.declared.entry.Entry.{Entry}
use Rattle.ib_logrec.specs.Log.{memory_after, by_place}
use Rattle.ib_page.specs.Work.{WorkPage, IsWork}
use Rattle.ib_walk.specs.Pages.{PageMemory, PageState}
use Rattle.ib_walk.specs.Search.{page_below}
use Rattle.ib_walk.specs.Trees.{height_of}
use Rattle.ib_walk.specs.Words.{bits_of}
use Rattle.ib_plans.specs.Agreement.{IsThere, last_of, memory_in, path_of, reads_of}
use Rattle.ib_plans.specs.Merge.{Siblings, siblings_of}
use Rattle.ib_merge.specs.Deletes.{CanDelete, HasNext, HasSiblings, IsPlannedDeleteForAll, nodes_on_path}
use Rattle.ib_merge.proofs.OnPathLaws.{nodes-all, nodes-at}
use Rattle.ib_tree.specs.TreeLog.{opening}
use Rattle.ib_planned_log.specs.LeafChange.{kept_pages}
use Rattle.ib_planned_change.specs.Changes.{IsPlannedIn, most_changed}
use Rattle.ib_planned_change.specs.Copies.{AreCopies, HasCopied, IsBehind}
use Rattle.ib_planned_change.specs.Steps.{HasBeside, HasLastBehind, last_beside}
use Rattle.ib_planned_change.proofs.BehindLaws.{memory-is, ticks-behind}
use Rattle.ib_planned_change.proofs.BesideLaws.{here-is, if-more, last-next}
use Rattle.ib_planned_change.proofs.ChangeLaws.{delete-planned}
use Rattle.ib_planned_change.proofs.ChooseLaws.{agrees-here, path-trees}
use Rattle.ib_planned_change.proofs.DescentLaws.{way-at, way-last, way-length}
use Rattle.ib_planned_change.proofs.MadeLaws.{made-delete, planned-tree}

-- pages that are there are beside a node when more are
pub beside-kept : (m : PageMemory) (key : MapKey) (images : List (List ℕ)) (most : ℕ) (old new : List WorkPage) (parent : ℕ) → HasCopied images most old new → HasBeside m key old parent → HasBeside m key new parent
beside-kept m key images most old new parent copied has =
    let t : Siblings = siblings_of key (m parent).records in (
      if-more (λ (r : MapKey × ℕ). IsThere old r.1) (λ (r : MapKey × ℕ). IsThere new r.1) t.left (λ r there. copied.kept r.1 there) has.0,
      if-more (λ (r : MapKey × ℕ). IsThere old r.1) (λ (r : MapKey × ℕ). IsThere new r.1) t.right (λ r there. copied.kept r.1 there) has.1,
    )

module _ (log : List Entry) (images : List (List ℕ)) (b : IsBehind log images) (key : MapKey) (path : List ℕ) (way : path ≡ path_of (kept_pages (length images) log) key 1)
    (work : List WorkPage) (copies : AreCopies images work) (there : All (IsThere work) path) (beside : All (HasBeside (kept_pages (length images) log) key work) (nodes_on_path path))
    (behind : HasLastBehind (kept_pages (length images) log) key work path) (zero-there : IsThere work 0) where
  abbrev m : PageMemory
  m = kept_pages (length images) log

  abbrev bits : ℕ → ℕ
  bits = bits_of (length images) (memory_after (by_place opening (length images)) log)

  -- a node of the path
  module _ (i : ℕ) (lt : i + 1 < length path) where
    abbrev parent : ℕ
    parent = get_or path i 0

    abbrev t : Siblings
    t = siblings_of key (kept_pages (length images) log (get_or path i 0)).records

    low : i < height_of (kept_pages (length images) log) 1
    low = let l = way-length log images b key path way in omega arith

    at : get_or path i 0 ≡ page_below (kept_pages (length images) log) key i 1
    at = way-at log images b key path way i (omega arith)

    parent-is : memory_in work (get_or path i 0) ≡ kept_pages (length images) log (get_or path i 0)
    parent-is = memory-is log images b work copies parent (there i 0 (omega arith))

    siblings-same : siblings_of key (memory_in work (get_or path i 0)).records ≡ siblings_of key (kept_pages (length images) log (get_or path i 0)).records
    siblings-same = ap (λ (s : PageState). siblings_of key s.records) parent-is

    has : HasBeside m key work (get_or path i 0)
    has = nodes-at (HasBeside m key work) path i beside lt

    here-there : IsThere work t.here.1
    here-there =
        let e = here-is log images b key parent i low at in
        let next = way-at log images b key path way (suc i) (omega arith) in
        let two : suc i ≡ i + 1 = omega arith in
        subst (IsThere work) (next ∙ sym e) (there (suc i) 0 (omega arith))

    last-there : (o : Option (MapKey × ℕ)) → t.right ≡ o → IsThere work (unwrap_or o t.here).1
    last-there None e = here-there
    last-there (Some r) e = subst (λ (q : Option (MapKey × ℕ)). IfSome q (λ r. IsThere work r.1)) e has.1

    last-has : HasNext work (last_beside m key parent)
    last-has ne =
        let same = ap (λ (s : PageState). s.next) (memory-is log images b work copies (last_beside m key parent) (last-there t.right refl)) in
        elim (cases_eq (suc i) (height_of m 1)) [
          | inl lowest ↦
              let l = way-length log images b key path way in
              subst (IsThere work) (sym same) (behind i (omega arith) (λ z. ne (same ∙ z)))
          | inr higher ↦ absurd (ne (same ∙ last-next log images b key parent i low at higher))
        ]

    by-right : (o : Option (MapKey × ℕ)) (here : MapKey × ℕ) → HasNext work (unwrap_or o here).1 → MatchOption o (HasNext work here.1) (λ r. HasNext work r.1)
    by-right None here h = h
    by-right (Some r) here h = h

    node-siblings : HasSiblings key work (get_or path i 0)
    node-siblings = subst (λ (u : Siblings). IfSome u.left (λ r. IsThere work r.1) × IfSome u.right (λ r. IsThere work r.1)) (sym siblings-same) has

    node-behind : let u = siblings_of key (memory_in work (get_or path i 0)).records in MatchOption u.right (HasNext work u.here.1) (λ r. HasNext work r.1)
    node-behind = subst (λ (u : Siblings). MatchOption u.right (HasNext work u.here.1) (λ r. HasNext work r.1)) (sym siblings-same) (by-right t.right t.here last-has)

  pub can-delete : CanDelete path key work
  can-delete = record {
    pages = length images;
    roots = 1;
    root = 1;
    memory = m;
    bits = bits;
    agrees = agrees-here log images b key path way work copies;
    images = record {
      path_there = path-trees log images b key path way work copies there;
      siblings_there = nodes-all (HasSiblings key work) path node-siblings;
      behind_there = nodes-all (λ parent. MatchOption (siblings_of key (memory_in work parent).records).right (HasNext work (siblings_of key (memory_in work parent).records).here.1) (λ right. HasNext work right.1)) path node-behind;
      space_there = λ some. zero-there;
    };
    clocks = ticks-behind log images b work copies;
  }

  module _ (leaf-there : IsThere work (last_of path)) where
    leaf-is : memory_in work (last_of path) ≡ kept_pages (length images) log (last_of path)
    leaf-is = memory-is log images b work copies (last_of path) leaf-there

    pub delete-present : IsSome (value_at key (kept_pages (length images) log (last_of path)).records) → value_at key (memory_in work (last_of path)).records ≡ None → ⊥
    delete-present some none =
        let z = ap (λ (s : PageState). value_at key s.records) (sym leaf-is) ∙ none in let bad = subst IsSome z some in cc

    pub delete-done : (new : List WorkPage) → IsSome (value_at key (kept_pages (length images) log (last_of path)).records) → IsPlannedDeleteForAll path key work new
        → reads_of new ≡ reads_of work → IsWork new → length work ≤ most_changed → IsPlannedIn log images (Delete key) new
    delete-done new some planned reads is-work few =
        planned-tree log images b key (Delete key) work new copies (made-delete log images b key (last_of path) (way-last log images b key path way) some) refl is-work few reads
        (delete-planned (length images) key m bits work new (planned (length images) 1 1 m bits (agrees-here log images b key path way work copies)))
