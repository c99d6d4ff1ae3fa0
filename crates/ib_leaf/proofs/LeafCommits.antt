-- A change of the leaf on which a session stands may be committed.
use Rattle.std.specs.List.{AllByRecursion}
use Rattle.std.proofs.Common.{◌≡◌, ℕ, ◌+◌, ◌<◌, ◌^◌, ◌⊎◌, true, false, cond, eqb, List, [], ◌∷◌, ◌++◌, length, Some, None, refl, sym, ap, subst, ◌∙◌, arith, map, filter, length-append, inl, inr}
use Rattle.std.specs.Prelude.{not}
use Rattle.std.specs.List.{list_any}
use Rattle.std.proofs.lemmas.Bool.{eq-eqb, ne_eqb, cases_eq}
use Rattle.ib_map.specs.Keys.{MapKey}
use Rattle.ib_map.specs.Pairs.{value_at}
use Rattle.ib_map.specs.History.{changes_of}
use Rattle.ib_map.specs.Writes.{page_at, spans_pages, touches}
use Rattle.ib_map.specs.declared.TheConstants.{PAGE_WORDS}
use Rattle.ib_map.specs.declared.call.Change.{Change}
use Rattle.ib_map.specs.declared.call.Change.TheVariants.{Insert, Delete}
use Rattle.ib_map.specs.declared.write.Write.{Write}
use Rattle.ib_map.proofs.HistoryLaws.{changes_of-append}
use Rattle.ib_levels.specs.declared.level.Level.TheVariants.{Log}
use Rattle.ib_levels.specs.declared.level.Mode.TheVariants.{X}
use Rattle.ib_core.specs.declared.session.Session.{Session}
use Rattle.ib_core.specs.Sessions.{x_grants}
use Rattle.ib_heap.specs.declared.TheConstants.{MOST_RECORDS}
use Rattle.ib_heap.specs.Heap.{read_heap}
use Rattle.ib_page.specs.Form.{page_of}
use Rattle.ib_page.specs.Image.{records_of}
use Rattle.ib_page.specs.Work.{WorkPage, with_changed}
use Rattle.ib_page.specs.Writes.{writes_of, writes_below}
use Rattle.ib_page.proofs.BufferLaws.{AreOn, AreOn-append, writes_on}
use Rattle.ib_page.proofs.StoreLaws.{untouched}
use Rattle.ib_layout.specs.Geometry.{Sizes}
use Rattle.ib_logrec.specs.declared.entry.Entry.{Entry}
use Rattle.ib_logrec.specs.Log.{history_of, logged, by_place}
use Rattle.ib_logrec.proofs.LogLaws.{history_of-append}
use Rattle.ib_walk.specs.Pages.{PageState}
use Rattle.ib_walk.specs.Words.{state_of}
use Rattle.ib_plans.specs.declared.TheConstants.{FEWEST_RECORDS}
use Rattle.ib_plans.specs.Moves.{Move, Puts, Takes, IsMovedHeap}
use Rattle.ib_tree.specs.TreeLog.{opening}
use Rattle.ib_planned_log.specs.Kept.{IsKeptLog}
use Rattle.ib_planned_log.specs.LeafChange.{ChangesPage, kept_pages, leaf_after, with_pair, without_pair}
use Rattle.ib_planned_log.proofs.LeafChangeLaws.{delete-kept, insert-kept}
use Rattle.ib_rule.specs.declared.memory.Since.{Since}
use Rattle.ib_rule.specs.Memory.{entries_of}
use Rattle.ib_rule.specs.Pass.{PassState}
use Rattle.ib_rule.specs.Stores.{IsHarmless}
use Rattle.ib_rule.specs.Views.{total}
use Rattle.ib_mtr.specs.Commits.{MayCommit, commit_entry}
use Rattle.ib_mtr.specs.Mtr.{with_work}
use Rattle.ib_cursor.specs.Grants.{page_grant}
use Rattle.ib_cursor.proofs.GrantLaws.{can_wish, may_grow}
use Rattle.ib_leaf.specs.Leaf.{IsAtLeaf, IsSeated, leaf_page}
use Rattle.ib_leaf.proofs.LeafStays.{image-stays, leaf-stays, page-is, page-stays}

-- a session's changes in a history are its entries in the log
own-changes : (n : ℕ) (log : List Entry) → length (changes_of n (history_of log)) ≡ length (entries_of n log)
own-changes n [] = refl
own-changes n (e ∷ log) =
    let r = own-changes n log in
    elim (eqb e.session n) as (λ b. length (map (λ entry. entry.change) (cond b (logged e ∷ filter (λ entry. eqb entry.session n) (history_of log)) (filter (λ entry. eqb entry.session n) (history_of log))))
    ≡ length (cond b (e ∷ entries_of n log) (entries_of n log))) [ true ↦ omega arith | false ↦ r ]

-- harmless entries are of others
harmless-none : (n : ℕ) (since : List Since) (others : List Entry) → AllByRecursion (IsHarmless n since) others → entries_of n others ≡ []
harmless-none n since [] all = refl
harmless-none n since (e ∷ others) all = rw (ne_eqb e.session n all.0.0) (harmless-none n since others all.1)

pub own-behind : (n : ℕ) (since : List Since) (seen others : List Entry) → AllByRecursion (IsHarmless n since) others
    → length (changes_of n (history_of (seen ++ others))) ≡ length (entries_of n seen)
own-behind n since seen others all =
    let split = ap (λ h. length (changes_of n h)) (history_of-append seen others) ∙ ap length (changes_of-append n (history_of seen) (history_of others)) in
    let both = length-append (changes_of n (history_of seen)) (changes_of n (history_of others)) in
    let mine = own-changes n seen in
    let theirs = own-changes n others in
    let none = ap length (harmless-none n since others all) in
    omega arith

-- writes on one page do not span two
on-one : (page : ℕ) (ws : List Write) → AreOn page ws → (first : Write) → page_at first.place ≡ page → list_any (λ v. not (eqb (page_at v.place) (page_at first.place))) ws ≡ false
on-one page [] on first is = refl
on-one page (w ∷ ws) on first is = rw (eq-eqb (page_at w.place) (page_at first.place) (on.0 ∙ sym is)) (on-one page ws on.1 first is)

spans-none : (page : ℕ) (ws : List Write) → AreOn page ws → spans_pages ws ≡ false
spans-none page [] on = refl
spans-none page (w ∷ ws) on = on-one page ws on.1 w on.0

one-spans : (w : WorkPage) → spans_pages (writes_of (w ∷ [])) ≡ false
one-spans w = spans-none w.page (writes_of (w ∷ [])) (AreOn-append w.page (writes_below w.page w.before w.changed PAGE_WORDS) [] (writes_on w.page w.before w.changed PAGE_WORDS (omega arith)) tt)

one-alone : (w : WorkPage) (page : ℕ) → touches page (writes_of (w ∷ [])) ≡ true → w.page ≡ page
one-alone w page is = elim (cases_eq w.page page) [
  | inl here ↦ here
  | inr away ↦ absurd (let none = untouched (w ∷ []) page (let no = ne_eqb w.page page away in rw no refl) in let z : true ≡ false = sym is ∙ none in cc)
]

module _ (sizes : Sizes) (key : MapKey) (leaf : ℕ) (p : PassState) (at : IsAtLeaf sizes key leaf p) (seated : IsSeated sizes p) where
  abbrev start : ℕ → ℕ
  start = by_place opening sizes.pages

  abbrev seen : List Entry
  seen = p.view.memory.seen

  -- the pass, and its work set, with this image of the leaf
  abbrev pub leaf_work : List ℕ → List WorkPage
  leaf_work changed = record { page = leaf; before = at.image; changed = changed } ∷ []

  pub work-is : (changed : List ℕ) → with_changed leaf changed p.work ≡ leaf_work changed
  work-is changed = ap (with_changed leaf changed) at.work ∙ (let yes = eq-eqb leaf leaf refl in rw yes refl)

  -- X is owned on the leaf
  pub leaf-x : 0 < x_grants (leaf + 2) p.view.session
  leaf-x = subst (λ (a : Session). 0 < x_grants (leaf + 2) a) (sym at.grants.session) (let yes = eq-eqb (leaf + 2) (leaf + 2) refl in rw yes (omega arith))

  -- the next entry of the session changes the page, behind whatever harmless entries
  next-changes : (move : Move) (change : Change) (changed : List ℕ) → IsMovedHeap move (records_of at.image) (read_heap at.image) (read_heap changed) → (others : List Entry) → AllByRecursion (IsHarmless p.number p.view.memory.since) others → IsKeptLog sizes.pages (seen ++ others)
      → ChangesPage sizes.pages (seen ++ others) leaf (state_of (page_of changed)) move change (commit_entry (with_work (leaf_work changed) p) change)
  next-changes move change changed moved others harmless legal =
      let behind = own-behind p.number p.view.memory.since seen others harmless in
      let mine = ap length at.known.mine in
      let made = seated.made in let few = seated.few in
      record {
        session = seated.number.0;
        most_session = seated.number.1;
        number = omega arith;
        most_number = omega arith;
        change_is = refl;
        changed = changed;
        writes_are = ap (λ (ws : List ℕ). writes_of (record { page = leaf; before = ws; changed = changed } ∷ [])) (sym (image-stays sizes seated.fits key leaf p at p.number others harmless legal));
        structural = refl;
        state = refl;
        moved = subst (λ (ws : List ℕ). IsMovedHeap move (records_of ws) (read_heap ws) (read_heap changed)) (sym (image-stays sizes seated.fits key leaf p at p.number others harmless legal)) moved;
      }

  module _ (few : total p.view.grants < 2 ^ 52) where
    -- the condition on every log that others leave
    may-commit : (move : Move) (change : Change) (changed : List ℕ) → IsMovedHeap move (records_of at.image) (read_heap at.image) (read_heap changed)
        → ((log : List Entry) (e : Entry) → IsKeptLog sizes.pages log → leaf ≡ leaf_after sizes.pages log key → kept_pages sizes.pages log (leaf_after sizes.pages log key) ≡ leaf_page sizes key p
        → ChangesPage sizes.pages log leaf (state_of (page_of changed)) move change e → IsKeptLog sizes.pages (log ++ e ∷ []))
        → MayCommit (IsKeptLog sizes.pages) (with_work (leaf_work changed) p) change
    may-commit move change changed moved push = record {
      grows = may_grow (page_grant leaf X ∷ []) p at.grants few (omega arith);
      log = can_wish (page_grant leaf X ∷ []) p at.grants 0 Log ((λ e. absurd (omega arith)), tt) (refl, tt);
      pages_x = λ page touched. subst (λ n. 0 < x_grants (n + 2) p.view.session) (one-alone (record { page = leaf; before = at.image; changed = changed }) page touched) leaf-x;
      index = λ spans. absurd (let none = one-spans (record { page = leaf; before = at.image; changed = changed }) in let z : true ≡ false = sym spans ∙ none in cc);
      legal = λ others harmless legal. push (seen ++ others) (commit_entry (with_work (leaf_work changed) p) change) legal
          (leaf-stays sizes seated.fits key leaf p at p.number others harmless legal) (page-stays sizes seated.fits key leaf p at p.number others harmless legal)
          (next-changes move change changed moved others harmless legal);
    }

    pub may-insert : (value : ℕ) (changed : List ℕ) → value_at key (leaf_page sizes key p).records ≡ None → length (leaf_page sizes key p).records < MOST_RECORDS
        → state_of (page_of changed) ≡ with_pair key value (state_of (page_of at.image)) → IsMovedHeap (Puts key) (records_of at.image) (read_heap at.image) (read_heap changed) → MayCommit (IsKeptLog sizes.pages) (with_work (leaf_work changed) p) (Insert key value)
    may-insert value changed missing room put moved = may-commit (Puts key) (Insert key value) changed moved (λ log e legal here page changes.
        let state : state_of (page_of changed) ≡ with_pair key value (kept_pages sizes.pages log (leaf_after sizes.pages log key)) =
        put ∙ ap (with_pair key value) (sym (page-is sizes seated.fits key leaf p at) ∙ sym page) in
        insert-kept sizes.pages seated.fits log legal key e value
        (subst (λ (q : PageState). value_at key q.records ≡ None) (sym page) missing) (subst (λ (q : PageState). length q.records < MOST_RECORDS) (sym page) room)
        (subst (λ n. ChangesPage sizes.pages log n (with_pair key value (kept_pages sizes.pages log (leaf_after sizes.pages log key))) (Puts key) (Insert key value) e) here
        (subst (λ (q : PageState). ChangesPage sizes.pages log leaf q (Puts key) (Insert key value) e) state changes)))

    pub may-delete : (value : ℕ) (changed : List ℕ) → value_at key (leaf_page sizes key p).records ≡ Some value → (leaf ≡ 1) ⊎ (FEWEST_RECORDS < length (leaf_page sizes key p).records)
        → state_of (page_of changed) ≡ without_pair key (state_of (page_of at.image)) → IsMovedHeap (Takes key) (records_of at.image) (read_heap at.image) (read_heap changed) → MayCommit (IsKeptLog sizes.pages) (with_work (leaf_work changed) p) (Delete key)
    may-delete value changed there enough gone moved = may-commit (Takes key) (Delete key) changed moved (λ log e legal here page changes.
        let state : state_of (page_of changed) ≡ without_pair key (kept_pages sizes.pages log (leaf_after sizes.pages log key)) =
        gone ∙ ap (without_pair key) (sym (page-is sizes seated.fits key leaf p at) ∙ sym page) in
        delete-kept sizes.pages seated.fits log legal key e value
        (subst (λ (q : PageState). value_at key q.records ≡ Some value) (sym page) there)
        (elim enough [ inl root ↦ inl (sym here ∙ root) | inr more ↦ inr (subst (λ (q : PageState). FEWEST_RECORDS < length q.records) (sym page) more) ])
        (subst (λ n. ChangesPage sizes.pages log n (without_pair key (kept_pages sizes.pages log (leaf_after sizes.pages log key))) (Takes key) (Delete key) e) here
        (subst (λ (q : PageState). ChangesPage sizes.pages log leaf q (Takes key) (Delete key) e) state changes)))
