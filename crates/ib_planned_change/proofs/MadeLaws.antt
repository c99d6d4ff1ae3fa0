-- A change that was planned on a work set, put back, and what the leaf alone leaves.
use Rattle.std.specs.List.{All}
use Rattle.std.specs.Prelude.{IsSome, is_some}
use Rattle.std.proofs.Common.{◌≡◌, ◌⊎◌, ℕ, ◌<◌, ◌≤◌, true, false, cond, List, [], ◌∷◌, ◌++◌, length, Option, Some, None, refl, sym, ap, subst, ◌∙◌, arith}
use Rattle.std.proofs.lemmas.Bool.{le-ltb}
use Rattle.std.proofs.lemmas.List.Elements.{All-nil, All-cons}
use Rattle.ib_map.specs.Keys.{MapKey}
use Rattle.ib_map.specs.Map.{answer_of, delete_answer, is_made}
use Rattle.ib_map.specs.Pairs.{value_at}
use Rattle.ib_map.specs.declared.TheConstants.{PAGE_WORDS}
use Rattle.ib_map.specs.declared.call.Change.{Change}
use Rattle.ib_map.specs.declared.call.Change.TheVariants.{Insert, Delete}
use Rattle.ib_map.specs.declared.call.Reply.TheVariants.{Duplicate, Inserted}
use Rattle.ib_heap.specs.Heap.{read_heap}
use Rattle.ib_heap.specs.declared.TheConstants.{MOST_RECORDS}
use Rattle.ib_logrec.specs.declared.entry.Entry.{Entry}
use Rattle.ib_logrec.specs.Log.{memory_after, map_of, by_place}
use Rattle.ib_page.specs.Form.{page_of}
use Rattle.ib_page.specs.Image.{records_of}
use Rattle.ib_page.specs.Memory.{image_at}
use Rattle.ib_page.specs.Work.{WorkPage, IsWork, changed_of}
use Rattle.ib_page.specs.Writes.{writes_of}
use Rattle.ib_walk.specs.Full.{free_of, is_too_high, need_of}
use Rattle.ib_walk.specs.Pages.{PageMemory, PageState, Tree}
use Rattle.ib_walk.specs.Words.{image_of, state_of, bits_of}
use Rattle.ib_plans.specs.Agreement.{reads_of}
use Rattle.ib_plans.specs.Moves.{Move, Puts, Takes, IsMovedHeap}
use Rattle.ib_plans.specs.declared.TheConstants.{FEWEST_RECORDS}
use Rattle.ib_tree.specs.TreeLog.{opening}
use Rattle.ib_planned_log.specs.Kept.{IsKeptLog}
use Rattle.ib_planned_log.specs.LeafChange.{ChangesPage, kept_pages, leaf_after, with_pair, without_pair}
use Rattle.ib_planned_log.proofs.LeafChangeLaws.{delete-kept, in-leaf, insert-kept, insert-room}
use Rattle.ib_planned_change.specs.Changes.{IsNextEntry, IsPlannedIn, IsMade, most_changed}
use Rattle.ib_planned_change.specs.Copies.{AreCopies, IsBehind, put_back}
use Rattle.ib_planned_change.specs.Full.{full_behind}
use Rattle.ib_planned_change.proofs.BehindLaws.{copies-before, copies-was, copies-within, tree-within}
use Rattle.ib_planned_change.proofs.DescentLaws.{leaf-page}
use Rattle.ib_planned_change.proofs.PlanCommits.{IsPlannedChange, entry-kept}
use Rattle.ib_planned_change.proofs.PutBackLaws.{changed-each, length-put_back, put_back-changed, put_back-still}
use Rattle.ib_planned_change.proofs.WorkLaws.{count-same, image-after, image-still, pages-same, reads-same, work-count}

-- ---- put back

pub made-put_back : (log : List Entry) (images : List (List ℕ)) (change : Change) (work : List WorkPage) → IsBehind log images → All (λ w. length w.changed ≡ PAGE_WORDS) work → IsPlannedIn log images change work
    → IsMade log change work images (put_back work images)
made-put_back log images change work b whole p = record {
  made = p.made;
  may = p.may;
  few = let a = work-count (memory_after (by_place opening (length images)) log) work p.read in let c = p.few in omega arith;
  size = length-put_back work images;
  kept = p.kept;
  images_are = λ e next n lt. at e next n lt (changed_of n work) refl;
}
  where
    at : (e : Entry) → IsNextEntry log change work e → (n : ℕ) → n < length images → (o : Option (List ℕ)) → changed_of n work ≡ o
        → image_at (put_back work images) n ≡ image_of (memory_after (by_place opening (length images)) (log ++ e ∷ [])) n
    at e next n lt None is = put_back-still work images n is ∙ (b.images_are n lt ∙ sym (image-still (by_place opening (length images)) log e work next.writes_are n is))
    at e next n lt (Some image) is =
        put_back-changed 0 work images n image p.work_is.ascends p.within is
        ∙ sym (image-after (by_place opening (length images)) log e work next.writes_are p.work_is.ascends p.read n image is (changed-each (λ (ws : List ℕ). length ws ≡ PAGE_WORDS) work n image whole is))

-- ---- which changes the map makes

insert-made : (o : Option ℕ) → o ≡ None → is_made (cond (is_some o) Duplicate Inserted) ≡ true
insert-made o none = rw none refl

insert-unmade : (o : Option ℕ) → is_some o ≡ true → is_made (cond (is_some o) Duplicate Inserted) ≡ false
insert-unmade o some = rw some refl

delete-unmade : (o : Option ℕ) → o ≡ None → is_made (delete_answer o) ≡ false
delete-unmade o none = rw none refl

delete-made : (o : Option ℕ) → IsSome o → is_made (delete_answer o) ≡ true
delete-made None some = absurd (cc)
delete-made (Some v) some = refl

module _ (log : List Entry) (images : List (List ℕ)) (b : IsBehind log images) (key : MapKey) where
  abbrev m : PageMemory
  m = kept_pages (length images) log

  abbrev bits : ℕ → ℕ
  bits = bits_of (length images) (memory_after (by_place opening (length images)) log)

  -- what the map has of the key is what the leaf has
  pub leaf-has : value_at key (map_of log) ≡ value_at key (kept_pages (length images) log (leaf_after (length images) log key)).records
  leaf-has = in-leaf (length images) b.space log b.kept key

  module _ (leaf : ℕ) (at : leaf ≡ leaf_after (length images) log key) where
    has-at : value_at key (map_of log) ≡ value_at key (kept_pages (length images) log leaf).records
    has-at = leaf-has ∙ ap (λ n. value_at key (m n).records) (sym at)

    pub made-insert : (value : ℕ) → value_at key (kept_pages (length images) log leaf).records ≡ None → is_made (answer_of (map_of log) (Insert key value)) ≡ true
    made-insert value none = insert-made (value_at key (map_of log)) (has-at ∙ none)

    pub unmade-insert : (value : ℕ) → is_some (value_at key (kept_pages (length images) log leaf).records) ≡ true → is_made (answer_of (map_of log) (Insert key value)) ≡ false
    unmade-insert value some = insert-unmade (value_at key (map_of log)) (ap is_some has-at ∙ some)

    pub made-delete : IsSome (value_at key (kept_pages (length images) log leaf).records) → is_made (answer_of (map_of log) (Delete key)) ≡ true
    made-delete some = delete-made (value_at key (map_of log)) (subst IsSome (sym has-at) some)

    pub unmade-delete : value_at key (kept_pages (length images) log leaf).records ≡ None → is_made (answer_of (map_of log) (Delete key)) ≡ false
    unmade-delete none = delete-unmade (value_at key (map_of log)) (has-at ∙ none)

  -- ---- what is full

  pub not-full : (value : ℕ) → is_too_high 1 (kept_pages (length images) log) key 1 ≡ false
      → need_of (kept_pages (length images) log) key 1 ≤ free_of (bits_of (length images) (memory_after (by_place opening (length images)) log)) (length images)
      → full_behind (length images) log (Insert key value) ≡ None
  not-full value low enough = let no = le-ltb (free_of bits (length images)) (need_of m key 1) enough in rw low (rw no refl)

  -- ---- the leaf alone

  module _ (leaf : ℕ) (at : leaf ≡ leaf_after (length images) log key) (image changed : List ℕ) (is : image_at images leaf ≡ image) where
    abbrev page : WorkPage
    page = record { page = leaf; before = image; changed = changed }

    leaf-in : leaf < length images
    leaf-in = tree-within log images b leaf (subst (λ n. (m n).kind ≡ Tree) (sym at) (leaf-page log images b key).kind)

    before-is : image_of (memory_after (by_place opening (length images)) log) leaf ≡ image
    before-is = sym (b.images_are leaf leaf-in) ∙ is

    changes : (to : PageState) (move : Move) (change : Change) → state_of (page_of changed) ≡ to → IsMovedHeap move (records_of image) (read_heap image) (read_heap changed)
        → (e : Entry) → IsNextEntry log change (page ∷ []) e → ChangesPage (length images) log leaf to move change e
    changes to move change state moved e next = record {
      session = next.session;
      most_session = next.most_session;
      number = next.number;
      most_number = next.most_number;
      change_is = next.change_is;
      changed = changed;
      writes_are = next.writes_are ∙ ap (λ (ws : List ℕ). writes_of (record { page = leaf; before = ws; changed = changed } ∷ [])) (sym before-is);
      structural = next.structural;
      state = state;
      moved = subst (λ (ws : List ℕ). IsMovedHeap move (records_of ws) (read_heap ws) (read_heap changed)) (sym before-is) moved;
    }

    planned-leaf : (change : Change) → is_made (answer_of (map_of log) change) ≡ true → full_behind (length images) log change ≡ None
        → ((e : Entry) → IsNextEntry log change (page ∷ []) e → IsKeptLog (length images) (log ++ e ∷ [])) → IsPlannedIn log images change (page ∷ [])
    planned-leaf change made may kept = record {
      made = made;
      may = may;
      work_is = record { ascends = (omega arith, tt); few = omega arith };
      few = omega arith;
      within = All-cons (λ (w : WorkPage). w.page < length images) page [] leaf-in (All-nil (λ (w : WorkPage). w.page < length images));
      read = All-cons (λ (w : WorkPage). image_of (memory_after (by_place opening (length images)) log) w.page ≡ w.before) page [] before-is
          (All-nil (λ (w : WorkPage). image_of (memory_after (by_place opening (length images)) log) w.page ≡ w.before));
      kept = kept;
    }

    pub planned-insert_in_leaf : (value : ℕ) → value_at key (kept_pages (length images) log leaf).records ≡ None → length (kept_pages (length images) log leaf).records < MOST_RECORDS
        → state_of (page_of changed) ≡ with_pair key value (kept_pages (length images) log leaf) → IsMovedHeap (Puts key) (records_of image) (read_heap image) (read_heap changed)
        → IsPlannedIn log images (Insert key value) (page ∷ [])
    planned-insert_in_leaf value missing room state moved =
        let missing' : value_at key (m (leaf_after (length images) log key)).records ≡ None = subst (λ n. value_at key (m n).records ≡ None) at missing in
        let room' : length (m (leaf_after (length images) log key)).records < MOST_RECORDS = subst (λ n. length (m n).records < MOST_RECORDS) at room in
        let free = insert-room (length images) b.space log b.kept key room' in
        let need = free.1 in
        planned-leaf (Insert key value) (made-insert leaf at value missing) (not-full value free.0 (omega arith))
        (λ e next. insert-kept (length images) b.space log b.kept key e value missing' room'
        (subst (λ n. ChangesPage (length images) log n (with_pair key value (m n)) (Puts key) (Insert key value) e) at
        (changes (with_pair key value (m leaf)) (Puts key) (Insert key value) state moved e next)))

    pub planned-delete_in_leaf : IsSome (value_at key (kept_pages (length images) log leaf).records) → (leaf ≡ 1) ⊎ (FEWEST_RECORDS < length (kept_pages (length images) log leaf).records)
        → state_of (page_of changed) ≡ without_pair key (kept_pages (length images) log leaf) → IsMovedHeap (Takes key) (records_of image) (read_heap image) (read_heap changed)
        → IsPlannedIn log images (Delete key) (page ∷ [])
    planned-delete_in_leaf some enough state moved = go (value_at key (m leaf).records) refl some
      where
        go : (o : Option ℕ) → value_at key (m leaf).records ≡ o → IsSome o → IsPlannedIn log images (Delete key) (page ∷ [])
        go None none there = absurd (cc)
        go (Some value) found there =
            let found' : value_at key (m (leaf_after (length images) log key)).records ≡ Some value = subst (λ n. value_at key (m n).records ≡ Some value) at found in
            let enough' : (leaf_after (length images) log key ≡ 1) ⊎ (FEWEST_RECORDS < length (m (leaf_after (length images) log key)).records) =
            subst (λ n. (n ≡ 1) ⊎ (FEWEST_RECORDS < length (m n).records)) at enough in
            planned-leaf (Delete key) (made-delete leaf at some) refl
            (λ e next. delete-kept (length images) b.space log b.kept key e value found' enough'
            (subst (λ n. ChangesPage (length images) log n (without_pair key (m n)) (Takes key) (Delete key) e) at
            (changes (without_pair key (m leaf)) (Takes key) (Delete key) state moved e next)))

  -- ---- several pages

  -- what a plan made of copies
  pub planned-tree : (change : Change) (old new : List WorkPage) → AreCopies images old → is_made (answer_of (map_of log) change) ≡ true → full_behind (length images) log change ≡ None → IsWork new → length old ≤ most_changed → reads_of new ≡ reads_of old
      → IsPlannedChange (length images) change (kept_pages (length images) log) (bits_of (length images) (memory_after (by_place opening (length images)) log)) old new → IsPlannedIn log images change new
  planned-tree change old new copies made may is-work few reads plan =
      let count = count-same new old reads in
      let within = pages-same (λ n. n < length images) new old reads (copies-within log images b old copies) in
      let read = reads-same (memory_after (by_place opening (length images)) log) new old reads (copies-before log images b old copies) in
      record {
        made = made;
        may = may;
        work_is = is-work;
        few = omega arith;
        within = within;
        read = read;
        kept = λ e next. entry-kept (length images) b.space log b.kept change old new plan made
            (record { work = is-work; few = let few' : length new ≤ most_changed = omega arith in few'; within = within; reads = reads; read = read; was = copies-was log images b old copies }) e next;
      }
