-- A change that is planned on the images of what is held may be committed.
use Rattle.std.specs.List.{AllByRecursion}
use Rattle.std.specs.Prelude.{IsSome, ◌||◌}
use Rattle.std.proofs.Common.{◌≤◌, ◌≡◌, inl, inr, ℕ, ◌+◌, ◌<◌, ◌^◌, true, false, List, [], ◌∷◌, ◌++◌, Option, Some, None, length, map, refl, sym, ap, subst, ◌∙◌, arith, ne_eqb}
use Rattle.std.proofs.lemmas.Bool.{cases_eq}
use Rattle.std.proofs.lemmas.List.{length-map}
use Rattle.ib_map.specs.Keys.{MapKey}
use Rattle.ib_map.specs.Map.{answer_of, is_made}
use Rattle.ib_map.specs.Pairs.{value_at}
use Rattle.ib_map.specs.Writes.{touches}
use Rattle.ib_map.specs.declared.call.Change.{Change}
use Rattle.ib_levels.specs.declared.level.Level.{Level}
use Rattle.ib_levels.specs.declared.level.Level.TheVariants.{Log}
use Rattle.ib_levels.specs.Holding.{on}
use Rattle.ib_levels.specs.Level.{may_follow}
use Rattle.ib_levels.proofs.Counts.{on-cons, part-here}
use Rattle.ib_layout.specs.Geometry.{Sizes}
use Rattle.ib_core.specs.declared.session.Session.{Session}
use Rattle.ib_core.specs.Sessions.{sx_grants, x_grants}
use Rattle.ib_page.specs.Work.{WorkPage, IsWork, changed_of}
use Rattle.ib_page.specs.Writes.{writes_of}
use Rattle.ib_page.proofs.StoreLaws.{untouched}
use Rattle.ib_logrec.specs.declared.entry.Entry.{Entry}
use Rattle.ib_logrec.specs.Log.{memory_after, map_of, by_place}
use Rattle.ib_walk.specs.Pages.{PageMemory}
use Rattle.ib_walk.specs.Trees.{height_of}
use Rattle.ib_walk.specs.Words.{bits_of}
use Rattle.ib_plans.specs.Agreement.{Agrees, last_of, memory_in, reads_of}
use Rattle.ib_split.proofs.OnPathLaws.{path-last, path-page}
use Rattle.ib_walk.proofs.SearchLaws.{above-zero}
use Rattle.ib_tree.specs.PageLists.{is_listed}
use Rattle.ib_tree.specs.TreeLog.{opening}
use Rattle.ib_planned_log.specs.Kept.{IsKeptLog}
use Rattle.ib_planned_log.specs.LeafChange.{kept_pages}
use Rattle.ib_planned_log.proofs.LeafChangeLaws.{in-leaf}
use Rattle.ib_rule.specs.Pass.{PassState}
use Rattle.ib_rule.specs.Stores.{IsHarmless}
use Rattle.ib_rule.specs.Views.{total}
use Rattle.ib_mtr.specs.Commits.{MayCommit, commit_entry}
use Rattle.ib_mtr.specs.Mtr.{with_work}
use Rattle.ib_cursor.specs.Claims.{claim_grant}
use Rattle.ib_cursor.specs.Grants.{Grant, IsAway, hold_of}
use Rattle.ib_cursor.proofs.EndLaws.{loaded_some}
use Rattle.ib_cursor.proofs.GrantLaws.{away-none, can_wish, hold-latch, may_grow}
use Rattle.ib_leaf.specs.Leaf.{IsSeated}
use Rattle.ib_index.specs.Grows.{IsGrowing, held_grant, most_held, pages_held}
use Rattle.ib_index.proofs.AgreeLaws.{agrees, images-before, images-now, still-in}
use Rattle.ib_planned_change.proofs.PlanCommits.{IsPlannedChange, entry-kept}
use Rattle.ib_leaf.proofs.LeafCommits.{own-behind}
use Rattle.ib_planned_change.proofs.WorkLaws.{count-same, none-same, pages-same, reads-same}

-- X is held on each of the pages
held-x : (held : List (ℕ × Level)) (page : ℕ) → is_listed (pages_held held) page ≡ true → 0 < on (page + 2) (λ h. h.x) (map hold_of (map held_grant held))
held-x [] page is = cc
held-x (h ∷ hs) page is =
    let c = on-cons (page + 2) (λ h. h.x) (hold_of (held_grant h)) (map hold_of (map held_grant hs)) in
    elim (cases_eq h.0 page) [
      | inl e ↦ let p = part-here (page + 2) (λ h. h.x) (hold_of (held_grant h)) (hold-latch (held_grant h) ∙ ap (λ n. n + 2) e) in omega arith
      | inr ne ↦ let r = held-x hs page (sym (ap (λ b. b || is_listed (pages_held hs) page) (ne_eqb h.0 page ne)) ∙ is) in omega arith
    ]

away-low : (l : ℕ) (held : List (ℕ × Level)) → l < 2 → IsAway l (map held_grant held)
away-low l [] low = tt
away-low l (h ∷ hs) low = ((λ e. absurd (omega arith)), away-low l hs low)

module _ (sizes : Sizes) (key : MapKey) (path : List ℕ) (held : List (ℕ × Level)) (p : PassState) (can : IsGrowing sizes key path held p) (seated : IsSeated sizes p) where
  abbrev start : ℕ → ℕ
  start = by_place opening sizes.pages

  abbrev seen : List Entry
  seen = p.view.memory.seen

  module _ (others : List Entry) (n : ℕ) (harmless : AllByRecursion (IsHarmless n p.view.memory.since) others) (legal : IsKeptLog sizes.pages (seen ++ others)) where
    abbrev m : PageMemory
    m = kept_pages sizes.pages (seen ++ others)

    pub agrees-then : Agrees sizes.pages 1 1 key path p.work m (bits_of sizes.pages (memory_after start (seen ++ others)))
    agrees-then = agrees sizes seated.fits key path p can.at n others harmless legal

    -- what the last page of the path has of the key is what the map has
    pub value-then : value_at key (map_of (seen ++ others)) ≡ value_at key (memory_in p.work (last_of path)).records
    value-then =
        let last = path-last sizes.pages 1 1 key path p.work m (bits_of sizes.pages (memory_after start (seen ++ others))) agrees-then in
        let leaf = path-page sizes.pages 1 1 key path p.work m (bits_of sizes.pages (memory_after start (seen ++ others))) agrees-then (height_of m 1) 0 (sym (above-zero (height_of m 1))) in
        in-leaf sizes.pages seated.fits (seen ++ others) legal key
        ∙ ap (λ s. value_at key s.records) (ap m (sym last) ∙ sym (agrees-then.same (last_of path) (λ z. leaf.some (sym last ∙ z)) can.leaf))

  module _ (few : total p.view.grants < 2 ^ 52) (short : length held ≤ most_held) (follow : AllByRecursion (λ (g : Grant). may_follow g.level Log ≡ true) (claim_grant ∷ map held_grant held))
      (change : Change)
      (made : (log : List Entry) → value_at key (map_of log) ≡ value_at key (memory_in p.work (last_of path)).records → is_made (answer_of (map_of log) change) ≡ true)
      (work : List WorkPage) (planned : (memory : PageMemory) (bits : ℕ → ℕ) → Agrees sizes.pages 1 1 key path p.work memory bits → IsPlannedChange sizes.pages change memory bits p.work work)
      (reads : reads_of work ≡ reads_of p.work) (is-work : IsWork work) where
    abbrev gs : List Grant
    gs = claim_grant ∷ map held_grant held

    exclusive : (page : ℕ) → touches page (writes_of work) ≡ true → 0 < x_grants (page + 2) p.view.session
    exclusive page touched = go (changed_of page p.work) refl
      where
        go : (o : Option (List ℕ)) → changed_of page p.work ≡ o → 0 < x_grants (page + 2) p.view.session
        go None none = absurd (let away = untouched work page (none-same page work p.work reads none) in let z : true ≡ false = sym touched ∙ away in cc)
        go (Some image) there =
            let loaded = (loaded_some page p.work).0 (subst IsSome (sym there) refl) in
            let x = held-x held page (sym (can.loaded page) ∙ loaded) in
            let c = on-cons (page + 2) (λ h. h.x) (hold_of claim_grant) (map hold_of (map held_grant held)) in
            subst (λ (a : Session). 0 < x_grants (page + 2) a) (sym can.grants.session) (omega arith)

    index-held : (0 < sx_grants 1 p.view.session) × (x_grants 1 p.view.session ≡ 0)
    index-held = (
      subst (λ (a : Session). 0 < sx_grants 1 a) (sym can.grants.session)
          (let c = on-cons 1 (λ h. h.sx) (hold_of claim_grant) (map hold_of (map held_grant held)) in let d = part-here 1 (λ h. h.sx) (hold_of claim_grant) (hold-latch claim_grant) in omega arith),
      subst (λ (a : Session). x_grants 1 a ≡ 0) (sym can.grants.session)
          (let c = on-cons 1 (λ h. h.x) (hold_of claim_grant) (map hold_of (map held_grant held)) in let d = part-here 1 (λ h. h.x) (hold_of claim_grant) (hold-latch claim_grant) in
          let e = away-none 1 (λ h. h.x) (map held_grant held) (away-low 1 held (omega arith)) in omega arith),
    )

    legal-then : (others : List Entry) → AllByRecursion (IsHarmless p.number p.view.memory.since) others → IsKeptLog sizes.pages (seen ++ others)
        → IsKeptLog sizes.pages ((seen ++ others) ++ commit_entry (with_work work p) change ∷ [])
    legal-then others harmless legal =
        let log = seen ++ others in
        let behind = own-behind p.number p.view.memory.since seen others harmless in
        let mine = ap length can.at.known.mine in
        let made-few = seated.made in let seen-few = seated.few in
        entry-kept sizes.pages seated.fits log legal change p.work work
        (planned (kept_pages sizes.pages log) (bits_of sizes.pages (memory_after start log)) (agrees-then others p.number harmless legal))
        (made log (value-then others p.number harmless legal))
        (record {
          work = is-work;
          few = let c = count-same work p.work reads in let n = can.count in omega arith;
          within = pages-same (λ n. n < sizes.pages) work p.work reads can.within;
          reads = reads;
          read = reads-same (memory_after start log) work p.work reads (images-before sizes seated.fits key path p can.at p.number others harmless legal);
          was = λ n. still-in (memory_after start log) n p.work (images-now sizes seated.fits key path p can.at p.number others harmless legal);
        })
        (commit_entry (with_work work p) change)
        (record {
          session = seated.number.0;
          most_session = seated.number.1;
          number = omega arith;
          most_number = omega arith;
          change_is = refl;
          writes_are = refl;
          structural = refl;
        })

    pub may-commit : MayCommit (IsKeptLog sizes.pages) (with_work work p) change
    may-commit = record {
      grows = may_grow gs p can.grants few (let l = length-map held held_grant in omega arith);
      log = can_wish gs p can.grants 0 Log ((λ e. absurd (omega arith)), away-low 0 held (omega arith)) follow;
      pages_x = exclusive;
      index = λ spans. index-held;
      legal = legal-then;
    }
