-- A call that came to the key's leaf, by whatever way, and ended there was answered.
use Rattle.std.proofs.Common.{◌≡◌, ℕ, ◌<◌, true, false, cond, List, ◌++◌, length, Option, Some, None, take, refl, sym, ap, subst, ◌∙◌, arith}
use Rattle.std.specs.Prelude.{is_some}
use Rattle.std.proofs.Math.Seq.{take-length}
use Rattle.ib_map.specs.Keys.{MapKey}
use Rattle.ib_map.specs.Pairs.{value_at}
use Rattle.ib_map.specs.Map.{answer_of, delete_answer, is_made}
use Rattle.ib_map.specs.History.{map_after}
use Rattle.ib_map.specs.declared.call.Call.TheVariants.{Insert as InsertCall, Delete as DeleteCall}
use Rattle.ib_map.specs.declared.call.Change.{Change}
use Rattle.ib_map.specs.declared.call.Change.TheVariants.{Insert, Delete}
use Rattle.ib_map.specs.declared.call.Reply.TheVariants.{Inserted, Duplicate, Deleted, Missing}
use Rattle.ib_heap.specs.declared.TheConstants.{MOST_RECORDS}
use Rattle.ib_page.specs.Work.{WorkPage}
use Rattle.ib_layout.specs.Geometry.{Sizes}
use Rattle.ib_logrec.specs.declared.entry.Entry.{Entry}
use Rattle.ib_logrec.specs.Log.{history_of, map_of, by_place}
use Rattle.ib_logrec.proofs.LogLaws.{length-history_of}
use Rattle.ib_walk.specs.Full.{is_too_high, need_of}
use Rattle.ib_walk.specs.Pages.{PageState}
use Rattle.ib_tree.specs.Fits.{tree_at}
use Rattle.ib_tree.specs.TreeLog.{opening}
use Rattle.ib_planned_log.specs.Kept.{IsKeptLog}
use Rattle.ib_planned_log.specs.LeafChange.{kept_pages, leaf_after}
use Rattle.ib_planned_log.proofs.LeafChangeLaws.{insert-room}
use Rattle.ib_frames.specs.declared.appends.LogFull.{LogFull}
use Rattle.ib_rule.specs.declared.memory.Knowledge.{Knowledge}
use Rattle.ib_rule.specs.Pass.{PassState}
use Rattle.ib_rule.specs.Roles.{session_number_of}
use Rattle.ib_mtr.specs.Commits.{HasCommitted, HasRead, IsFull}
use Rattle.ib_mtr.specs.Mtr.{with_work}
use Rattle.ib_cursor.specs.Going.{WentOn}
use Rattle.ib_cursor.specs.Spaces.{space_of}
use Rattle.ib_leaf.specs.Calls.{HasCalled, tree_calls}
use Rattle.ib_leaf.specs.Ends.{full_answer}
use Rattle.ib_leaf.specs.Leaf.{IsAtLeaf, IsSeated, leaf_page}
use Rattle.ib_leaf.proofs.CallEnds.{called-committed, called-full, called-read, entry-c, known-f, log-full, map-c, map-r, within-c, within-f, within-r}
use Rattle.ib_leaf.proofs.LeafStays.{page-stays, value-stays}

module _ (sizes : Sizes) (key : MapKey) (leaf : ℕ) (p q : PassState) (went : WentOn p q) (looked : 0 < length went.added) (at : IsAtLeaf sizes key leaf q) (seated : IsSeated sizes q) where
  -- a call that ends there without a change
  module _ (place : ℕ) (r : PassState) (read : HasRead sizes (IsKeptLog sizes.pages) q place r) where
    seen-r : r.view.memory.seen ≡ q.view.memory.seen ++ read.looked.others
    seen-r = ap (λ (m : Knowledge). m.seen) read.ended.memory ∙ sym read.looked.longer

    legal-r : IsKeptLog sizes.pages (q.view.memory.seen ++ read.looked.others)
    legal-r = subst (IsKeptLog sizes.pages) (sym read.looked.longer) read.looked.legal

    -- what the map has of the key at the call's place
    pub value-r : value_at key (map_after (history_of r.view.memory.seen) place) ≡ value_at key (leaf_page sizes key q).records
    value-r =
        ap (value_at key) (map-r sizes (tree_calls sizes) p q went looked seated.role place r read)
        ∙ (ap (λ (log : List Entry). value_at key (map_of log)) seen-r
        ∙ value-stays sizes seated.fits key leaf q at (session_number_of q.view.role) read.looked.others read.looked.harmless legal-r)

  -- the log had no room for the change
  module _ (work : List WorkPage) (full : LogFull) (r : PassState) (f : IsFull sizes (IsKeptLog sizes.pages) (with_work work q) full r) where
    seen-f : r.view.memory.seen ≡ q.view.memory.seen ++ f.looked.others
    seen-f = ap (λ (m : Knowledge). m.seen) f.ended.memory ∙ sym f.looked.longer

    legal-f : IsKeptLog sizes.pages (q.view.memory.seen ++ f.looked.others)
    legal-f = subst (IsKeptLog sizes.pages) (sym f.looked.longer) f.looked.legal

    page-f : leaf_page sizes key r ≡ leaf_page sizes key q
    page-f =
        ap (λ (log : List Entry). kept_pages sizes.pages log (leaf_after sizes.pages log key)) seen-f
        ∙ page-stays sizes seated.fits key leaf q at (session_number_of q.view.role) f.looked.others f.looked.harmless legal-f

    value-f : value_at key (map_of r.view.memory.seen) ≡ value_at key (leaf_page sizes key q).records
    value-f =
        ap (λ (log : List Entry). value_at key (map_of log)) seen-f
        ∙ value-stays sizes seated.fits key leaf q at (session_number_of q.view.role) f.looked.others f.looked.harmless legal-f

    -- an insert into the leaf, which had room
    pub full-insert : (value : ℕ) → value_at key (leaf_page sizes key q).records ≡ None → length (leaf_page sizes key q).records < MOST_RECORDS
        → HasCalled sizes (IsKeptLog sizes.pages) (by_place opening sizes.pages) (InsertCall key value) (full_answer (InsertCall key value) full (length r.view.memory.seen)) p r
    full-insert value missing room =
        let long = length-history_of r.view.memory.seen in
        let made : is_made (answer_of (map_of r.view.memory.seen) (Insert key value)) ≡ true = ap (λ (o : Option ℕ). is_made (cond (is_some o) Duplicate Inserted)) (value-f ∙ missing) in
        let free = insert-room sizes.pages seated.fits r.view.memory.seen (known-f sizes (tree_calls sizes) p q went looked seated.role work full r f).legal key (subst (λ (s : PageState). length s.records < MOST_RECORDS) (sym page-f) room) in
        let whole : take (length r.view.memory.seen) r.view.memory.seen ≡ r.view.memory.seen = take-length r.view.memory.seen in
        called-full sizes (tree_calls sizes) p q went looked seated.role work full r f (InsertCall key value) (record {
          map = (within-f sizes (tree_calls sizes) p q went looked seated.role work full r f, (made, refl));
          tree = (
            subst (λ (log : List Entry). is_too_high 1 (kept_pages sizes.pages log) key 1 ≡ false) (sym whole) free.0,
            (let none : need_of (tree_at (space_of sizes (by_place opening sizes.pages)) r.view.memory.seen (length r.view.memory.seen)) key 1 ≡ 0 =
                subst (λ (log : List Entry). need_of (kept_pages sizes.pages log) key 1 ≡ 0) (sym whole) free.1 in omega arith),
            log-full sizes (tree_calls sizes) p q went looked seated.role work full r f,
          );
        })

    pub full-delete : (value : ℕ) → value_at key (leaf_page sizes key q).records ≡ Some value
        → HasCalled sizes (IsKeptLog sizes.pages) (by_place opening sizes.pages) (DeleteCall key) (full_answer (DeleteCall key) full (length r.view.memory.seen)) p r
    full-delete value there =
        let long = length-history_of r.view.memory.seen in
        let made : is_made (answer_of (map_of r.view.memory.seen) (Delete key)) ≡ true = ap (λ (o : Option ℕ). is_made (delete_answer o)) (value-f ∙ there) in
        called-full sizes (tree_calls sizes) p q went looked seated.role work full r f (DeleteCall key) (record { map = (within-f sizes (tree_calls sizes) p q went looked seated.role work full r f, (made, refl)); tree = log-full sizes (tree_calls sizes) p q went looked seated.role work full r f })

  -- the change was committed
  module _ (work : List WorkPage) (change : Change) (place : ℕ) (r : PassState) (c : HasCommitted sizes (IsKeptLog sizes.pages) (by_place opening sizes.pages) change (with_work work q) place r) where
    -- what the map has of the key before the entry
    value-c : value_at key (map_after (history_of r.view.memory.seen) place) ≡ value_at key (leaf_page sizes key q).records
    value-c =
        ap (value_at key) (map-c sizes (tree_calls sizes) p q went looked seated.role work change place r c)
        ∙ (ap (λ (log : List Entry). value_at key (map_of log)) (sym c.looked.longer)
        ∙ value-stays sizes seated.fits key leaf q at (session_number_of q.view.role) c.looked.others c.looked.harmless (subst (IsKeptLog sizes.pages) (sym c.looked.longer) c.looked.legal))

  pub called-inserted : (work : List WorkPage) (value place : ℕ) (r : PassState) → HasCommitted sizes (IsKeptLog sizes.pages) (by_place opening sizes.pages) (Insert key value) (with_work work q) place r
      → value_at key (leaf_page sizes key q).records ≡ None
      → HasCalled sizes (IsKeptLog sizes.pages) (by_place opening sizes.pages) (InsertCall key value) (record { call = InsertCall key value; reply = Inserted; place = place }) p r
  called-inserted work value place r c missing =
      let none : value_at key (map_after (history_of r.view.memory.seen) place) ≡ None = value-c work (Insert key value) place r c ∙ missing in
      called-committed sizes (tree_calls sizes) p q went looked seated.role work (Insert key value) place r c (InsertCall key value) Inserted refl (record {
        map = (within-c sizes (tree_calls sizes) p q went looked seated.role work (Insert key value) place r c, ((ap (λ (o : Option ℕ). cond (is_some o) Duplicate Inserted) none, entry-c sizes (tree_calls sizes) p q went looked seated.role work (Insert key value) place r c), refl));
        tree = tt;
      })

  pub called-deleted : (work : List WorkPage) (value place : ℕ) (r : PassState) → HasCommitted sizes (IsKeptLog sizes.pages) (by_place opening sizes.pages) (Delete key) (with_work work q) place r
      → value_at key (leaf_page sizes key q).records ≡ Some value
      → HasCalled sizes (IsKeptLog sizes.pages) (by_place opening sizes.pages) (DeleteCall key) (record { call = DeleteCall key; reply = Deleted value; place = place }) p r
  called-deleted work value place r c there =
      let some : value_at key (map_after (history_of r.view.memory.seen) place) ≡ Some value = value-c work (Delete key) place r c ∙ there in
      called-committed sizes (tree_calls sizes) p q went looked seated.role work (Delete key) place r c (DeleteCall key) (Deleted value) refl (record {
        map = (within-c sizes (tree_calls sizes) p q went looked seated.role work (Delete key) place r c, ((ap delete_answer some, entry-c sizes (tree_calls sizes) p q went looked seated.role work (Delete key) place r c), refl));
        tree = tt;
      })

  -- the key was there already, or was not there
  pub called-duplicate : (place : ℕ) (r : PassState) → HasRead sizes (IsKeptLog sizes.pages) q place r → (value old : ℕ) → value_at key (leaf_page sizes key q).records ≡ Some old
      → HasCalled sizes (IsKeptLog sizes.pages) (by_place opening sizes.pages) (InsertCall key value) (record { call = InsertCall key value; reply = Duplicate; place = place }) p r
  called-duplicate place r read value old there =
      called-read sizes (tree_calls sizes) p q went looked seated.role place r read (InsertCall key value) Duplicate refl (record {
        map = (within-r sizes (tree_calls sizes) p q went looked seated.role place r read, (ap (λ (o : Option ℕ). cond (is_some o) Duplicate Inserted) (value-r place r read ∙ there), refl));
        tree = tt;
      })

  pub called-missing : (place : ℕ) (r : PassState) → HasRead sizes (IsKeptLog sizes.pages) q place r → value_at key (leaf_page sizes key q).records ≡ None
      → HasCalled sizes (IsKeptLog sizes.pages) (by_place opening sizes.pages) (DeleteCall key) (record { call = DeleteCall key; reply = Missing; place = place }) p r
  called-missing place r read none =
      called-read sizes (tree_calls sizes) p q went looked seated.role place r read (DeleteCall key) Missing refl (record {
        map = (within-r sizes (tree_calls sizes) p q went looked seated.role place r read, (ap delete_answer (value-r place r read ∙ none), refl));
        tree = tt;
      })
