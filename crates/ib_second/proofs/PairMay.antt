-- Changes of both trees that are planned on the images of what is held may be committed: while the index is claimed nobody else writes.
use Rattle.std.specs.List.{All, AllByRecursion}
use Rattle.std.specs.Prelude.{IsSome, IfSome, ◌||◌}
use Rattle.std.proofs.Common.{◌≡◌, inl, inr, ℕ, ◌+◌, ◌<◌, ◌≤◌, ◌^◌, true, false, List, [], ◌∷◌, ◌++◌, Option, Some, None, length, map, refl, sym, ap, subst, ◌∙◌, arith, ne_eqb, append-nil}
use Rattle.std.proofs.lemmas.Bool.{cases_eq}
use Rattle.std.proofs.lemmas.List.{length-map}
use Rattle.ib_map.specs.Keys.{MapKey}
use Rattle.ib_map.specs.Map.{answer_of, is_made}
use Rattle.ib_map.specs.Writes.{touches}
use Rattle.ib_map.specs.declared.call.Change.{Change}
use Rattle.ib_levels.specs.declared.level.Level.{Level}
use Rattle.ib_levels.specs.declared.level.Level.TheVariants.{Log}
use Rattle.ib_levels.specs.Holding.{on}
use Rattle.ib_levels.specs.Level.{may_follow}
use Rattle.ib_levels.proofs.Counts.{on-cons, part-here}
use Rattle.ib_layout.specs.Geometry.{Sizes}
use Rattle.ib_core.specs.declared.session.Session.{Session}
use Rattle.ib_core.specs.Sessions.{sx_grants, x_grants}
use Rattle.ib_page.specs.Work.{WorkPage, IsWork, changed_of}
use Rattle.ib_page.specs.Writes.{writes_of}
use Rattle.ib_page.proofs.StoreLaws.{untouched}
use Rattle.ib_logrec.specs.declared.entry.Entry.{Entry}
use Rattle.ib_logrec.specs.Log.{map_of, by_place}
use Rattle.ib_walk.specs.Words.{bits_of, image_of, pages_of}
use Rattle.ib_walk.proofs.ImageLaws.{image_of-list}
use Rattle.ib_plans.specs.Agreement.{reads_of}
use Rattle.ib_tree.specs.PageLists.{is_listed}
use Rattle.ib_rule.specs.Pass.{PassState}
use Rattle.ib_rule.specs.Stores.{IsHarmless}
use Rattle.ib_rule.specs.Views.{total}
use Rattle.ib_mtr.specs.Commits.{MayCommit, commit_entry}
use Rattle.ib_mtr.specs.Mtr.{with_work}
use Rattle.ib_cursor.specs.Claims.{claim_grant}
use Rattle.ib_cursor.specs.Grants.{Grant, IsAway, hold_of}
use Rattle.ib_cursor.specs.Takings.{IsHeldPage}
use Rattle.ib_cursor.proofs.ClaimLaws.{singles}
use Rattle.ib_cursor.proofs.EndLaws.{all-read, loaded_some}
use Rattle.ib_cursor.proofs.GrantLaws.{away-none, can_wish, hold-latch, may_grow}
use Rattle.std.proofs.Common.{cond}
use Rattle.std.proofs.lemmas.Bool.{eq-eqb}
use Rattle.std.proofs.lemmas.List.Elements.{All-head, All-tail}
use Rattle.std.proofs.Common.{eqb, filter}
use Rattle.ib_map.specs.History.{changes_of}
use Rattle.ib_logrec.specs.Log.{history_of, logged}
use Rattle.ib_rule.specs.Memory.{entries_of}
use Rattle.ib_pair_law.specs.Opening.{pair_opening}
use Rattle.ib_pair_law.specs.PairKept.{IsPairLog}
use Rattle.ib_second_key.specs.SecondChanges.{IsPrimaryChange, second_change}
use Rattle.ib_pair_change.specs.PairCommits.{IsPlannedBoth, words_after}
use Rattle.ib_index.specs.Grows.{held_grant, pages_held}
use Rattle.ib_leaf.specs.Leaf.{IsSeated}
use Rattle.ib_second.specs.Stands.{StandsOnPair}
use Rattle.ib_pair_change.proofs.PairCommit.{entry-kept}
use Rattle.ib_pair_change.proofs.SpanLaws.{alone}
use Rattle.ib_planned_change.proofs.WorkLaws.{none-same, pages-same, reads-same}

-- the pages that words are, by the changed images of a work set that has them
pub still-in : (words : ℕ → ℕ) (page : ℕ) (ws : List WorkPage) → All (λ w. image_of words w.page ≡ w.changed) ws → IfSome (changed_of page ws) (λ image. image_of words page ≡ image)
still-in words page [] all = tt
still-in words page (w ∷ ws) all = elim (cases_eq w.page page) [
  | inl e ↦ subst (λ (o : Option (List ℕ)). IfSome o (λ image. image_of words page ≡ image)) (sym (ap (λ b. cond b (Some w.changed) (changed_of page ws)) (eq-eqb w.page page e)))
      (ap (image_of words) (sym e) ∙ All-head (λ w. image_of words w.page ≡ w.changed) w ws all)
  | inr ne ↦ subst (λ (o : Option (List ℕ)). IfSome o (λ image. image_of words page ≡ image)) (sym (ap (λ b. cond b (Some w.changed) (changed_of page ws)) (ne_eqb w.page page ne)))
      (still-in words page ws (All-tail (λ w. image_of words w.page ≡ w.changed) w ws all))
]

-- a session's changes in a history are its entries in the log
own-changes : (n : ℕ) (log : List Entry) → length (changes_of n (history_of log)) ≡ length (entries_of n log)
own-changes n [] = refl
own-changes n (e ∷ log) =
    let r = own-changes n log in
    elim (eqb e.session n) as (λ b. length (map (λ entry. entry.change) (cond b (logged e ∷ filter (λ entry. eqb entry.session n) (history_of log)) (filter (λ entry. eqb entry.session n) (history_of log))))
    ≡ length (cond b (e ∷ entries_of n log) (entries_of n log))) [ true ↦ omega arith | false ↦ r ]

-- work sets with the same reads have as many pages
count-same : (new old : List WorkPage) → reads_of new ≡ reads_of old → length new ≡ length old
count-same new old same = sym (length-map new (λ w. (w.page, w.before))) ∙ (ap length same ∙ length-map old (λ w. (w.page, w.before)))

-- X is held on each of the pages
held-x : (held : List (ℕ × Level)) (page : ℕ) → is_listed (pages_held held) page ≡ true → 0 < on (page + 2) (λ h. h.x) (map hold_of (map held_grant held))
held-x [] page is = cc
held-x (h ∷ hs) page is =
    let c = on-cons (page + 2) (λ h. h.x) (hold_of (held_grant h)) (map hold_of (map held_grant hs)) in
    elim (cases_eq h.0 page) [
      | inl e ↦ let p = part-here (page + 2) (λ h. h.x) (hold_of (held_grant h)) (hold-latch (held_grant h) ∙ ap (λ n. n + 2) e) in omega arith
      | inr ne ↦ let r = held-x hs page (sym (ap (λ b. b || is_listed (pages_held hs) page) (ne_eqb h.0 page ne)) ∙ is) in omega arith
    ]

away-low : (l : ℕ) (held : List (ℕ × Level)) → l < 2 → IsAway l (map held_grant held)
away-low l [] low = tt
away-low l (h ∷ hs) low = ((λ e. absurd (omega arith)), away-low l hs low)

module _ (sizes : Sizes) (key : MapKey) (path : List ℕ) (key2 : MapKey) (path2 : List ℕ) (held : List (ℕ × Level)) (p : PassState) (can : StandsOnPair sizes key path key2 path2 held p) (seated : IsSeated sizes p)
    (few : total p.view.grants < 2 ^ 52) (short : length held ≤ 25) (follow : AllByRecursion (λ (g : Grant). may_follow g.level Log ≡ true) (claim_grant ∷ map held_grant held))
    (change : Change) (primary : IsPrimaryChange change) (made : is_made (answer_of (map_of p.view.memory.seen) change) ≡ true) (mid work : List WorkPage)
    (plans : IsPlannedBoth sizes.pages (pages_of (words_after sizes.pages p.view.memory.seen)) (bits_of sizes.pages (words_after sizes.pages p.view.memory.seen)) change (second_change (map_of p.view.memory.seen) change) p.work mid work)
    (reads : reads_of work ≡ reads_of p.work) (is-work : IsWork work) where
  abbrev seen : List Entry
  seen = p.view.memory.seen

  abbrev words : ℕ → ℕ
  words = words_after sizes.pages seen

  abbrev gs : List Grant
  gs = claim_grant ∷ map held_grant held

  -- each image is as it was read
  image-now : (w : WorkPage) → IsHeldPage (by_place pair_opening sizes.pages) p w → image_of words w.page ≡ w.changed
  image-now w h = image_of-list words w.page w.before h.read.size (λ index lt. sym (h.read.is_page index lt)) ∙ sym h.read.unchanged

  images-now : All (λ w. image_of words w.page ≡ w.changed) p.work
  images-now = all-read (IsHeldPage (by_place pair_opening sizes.pages) p) (λ w. image_of words w.page ≡ w.changed) p.work image-now can.read

  images-before : All (λ w. image_of words w.page ≡ w.before) p.work
  images-before = all-read (IsHeldPage (by_place pair_opening sizes.pages) p) (λ w. image_of words w.page ≡ w.before) p.work (λ w h. image-now w h ∙ h.read.unchanged) can.read

  exclusive : (page : ℕ) → touches page (writes_of work) ≡ true → 0 < x_grants (page + 2) p.view.session
  exclusive page touched = go (changed_of page p.work) refl
    where
      go : (o : Option (List ℕ)) → changed_of page p.work ≡ o → 0 < x_grants (page + 2) p.view.session
      go None none = absurd (let away = untouched work page (none-same page work p.work reads none) in let z : true ≡ false = sym touched ∙ away in cc)
      go (Some image) there =
          let loaded = (loaded_some page p.work).0 (subst IsSome (sym there) refl) in
          let x = held-x held page (sym (can.loaded page) ∙ loaded) in
          let c = on-cons (page + 2) (λ h. h.x) (hold_of claim_grant) (map hold_of (map held_grant held)) in
          subst (λ (a : Session). 0 < x_grants (page + 2) a) (sym can.grants.session) (omega arith)

  index-held : (0 < sx_grants 1 p.view.session) × (x_grants 1 p.view.session ≡ 0)
  index-held = (
    subst (λ (a : Session). 0 < sx_grants 1 a) (sym can.grants.session)
        (let c = on-cons 1 (λ h. h.sx) (hold_of claim_grant) (map hold_of (map held_grant held)) in let d = part-here 1 (λ h. h.sx) (hold_of claim_grant) (hold-latch claim_grant) in omega arith),
    subst (λ (a : Session). x_grants 1 a ≡ 0) (sym can.grants.session)
        (let c = on-cons 1 (λ h. h.x) (hold_of claim_grant) (map hold_of (map held_grant held)) in let d = part-here 1 (λ h. h.x) (hold_of claim_grant) (hold-latch claim_grant) in
        let e = away-none 1 (λ h. h.x) (map held_grant held) (away-low 1 held (omega arith)) in omega arith),
  )

  -- nothing of others comes before it
  none-other : (others : List Entry) → AllByRecursion (IsHarmless p.number p.view.memory.since) others → IsPairLog sizes.pages (seen ++ others) → others ≡ []
  none-other others harmless legal = alone sizes.pages seated.fits seen others legal (singles p.number p.view.memory.since others can.claimed harmless)

  legal-now : IsPairLog sizes.pages (seen ++ commit_entry (with_work work p) change ∷ [])
  legal-now =
      let mine = ap length can.known.mine in
      let behind = own-changes p.number seen in
      let made-few = seated.made in let seen-few = seated.few in
      entry-kept sizes.pages seated.fits seen can.known.legal change p.work mid work (commit_entry (with_work work p) change) (record {
        primary = primary;
        made = made;
        plans = plans;
        from = record {
          work = is-work;
          few = let n = count-same work p.work reads in let c = can.count in omega arith;
          within = pages-same (λ n. n < sizes.pages) work p.work reads can.within;
          reads = reads;
          read = reads-same words work p.work reads images-before;
          was = λ n. still-in words n p.work images-now;
        };
        next = record {
          session = seated.number.0;
          most_session = seated.number.1;
          number = omega arith;
          most_number = omega arith;
          change_is = refl;
          writes_are = refl;
          structural = refl;
        };
      })

  legal-then : (others : List Entry) → AllByRecursion (IsHarmless p.number p.view.memory.since) others → IsPairLog sizes.pages (seen ++ others)
      → IsPairLog sizes.pages ((seen ++ others) ++ commit_entry (with_work work p) change ∷ [])
  legal-then others harmless legal =
      let none = none-other others harmless legal in
      subst (λ (log : List Entry). IsPairLog sizes.pages (log ++ commit_entry (with_work work p) change ∷ [])) (sym (ap (λ es. seen ++ es) none ∙ append-nil seen)) legal-now

  pub may-commit : MayCommit (IsPairLog sizes.pages) (with_work work p) change
  may-commit = record {
    grows = may_grow gs p can.grants few (let l = length-map held held_grant in omega arith);
    log = can_wish gs p can.grants 0 Log ((λ e. absurd (omega arith)), away-low 0 held (omega arith)) follow;
    pages_x = exclusive;
    index = λ spans. index-held;
    legal = legal-then;
  }
