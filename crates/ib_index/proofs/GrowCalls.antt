-- An insert that came to the key's path and ended there was answered.
use Rattle.std.specs.Prelude.{is_some, Result, Ok, Err}
use Rattle.std.proofs.Common.{◌≡◌, ℕ, ◌<◌, ◌≤◌, true, false, cond, List, length, Option, Some, None, take, refl, sym, ap, subst, ◌∙◌}
use Rattle.ib_map.specs.Keys.{MapKey}
use Rattle.ib_map.specs.Map.{answer_of, is_made}
use Rattle.ib_map.specs.History.{map_after}
use Rattle.ib_map.specs.Replies.{FitsChange}
use Rattle.ib_map.specs.declared.call.Call.TheVariants.{Insert as InsertCall}
use Rattle.ib_map.specs.declared.call.Change.TheVariants.{Insert}
use Rattle.ib_map.specs.declared.call.Record.{Record}
use Rattle.ib_map.specs.declared.call.Reply.{Reply}
use Rattle.ib_map.specs.declared.call.Reply.TheVariants.{Inserted, Duplicate, LogFull as LogFullReply, SpaceFull, TooHigh}
use Rattle.ib_levels.specs.declared.level.Level.{Level}
use Rattle.ib_page.specs.Work.{WorkPage}
use Rattle.ib_layout.specs.Geometry.{Sizes}
use Rattle.ib_logrec.specs.declared.entry.Entry.{Entry}
use Rattle.ib_logrec.specs.Log.{history_of, map_of, memory_after, by_place}
use Rattle.ib_walk.specs.Full.{free_of, is_too_high, need_of}
use Rattle.ib_walk.specs.Pages.{PageMemory}
use Rattle.ib_walk.specs.Words.{bits_of}
use Rattle.ib_plans.specs.Agreement.{Agrees}
use Rattle.ib_tree.specs.Fits.{FitsTreeInsert}
use Rattle.ib_tree.specs.TreeLog.{opening}
use Rattle.ib_planned_log.specs.Kept.{IsKeptLog}
use Rattle.ib_planned_log.specs.LeafChange.{kept_pages}
use Rattle.ib_frames.specs.declared.appends.LogFull.{LogFull}
use Rattle.ib_rule.specs.Pass.{PassState}
use Rattle.ib_mtr.specs.Commits.{HasCommitted, HasRead, IsFull}
use Rattle.ib_mtr.specs.Mtr.{with_work}
use Rattle.ib_cursor.specs.Going.{WentOn}
use Rattle.ib_cursor.specs.Spaces.{space_of}
use Rattle.ib_leaf.specs.Calls.{HasCalled, tree_calls}
use Rattle.ib_leaf.specs.Leaf.{IsSeated}
use Rattle.ib_index.specs.Grows.{IsGrowing}
use Rattle.ib_leaf.proofs.CommitLaws.{CommitAnswered}
use Rattle.ib_leaf.proofs.CallEnds.{called-committed, called-full, called-read, entry-c, log-full, looked-f, whole-f, whole-r, within-c, within-f, within-r}
use Rattle.ib_index.proofs.PathCalls.{agrees-l, value-c, value-f, value-r, value_there}

module _ (sizes : Sizes) (key : MapKey) (path : List ℕ) (held : List (ℕ × Level)) (p q : PassState) (went : WentOn p q) (looked : 0 < length went.added) (can : IsGrowing sizes key path held q) (seated : IsSeated sizes q) where
  abbrev start : ℕ → ℕ
  start = by_place opening sizes.pages

  abbrev there : Option ℕ
  there = value_there sizes key path held p q went looked can seated

  -- what holds of each memory that agrees
  abbrev ForAll : (PageMemory → (ℕ → ℕ) → Type 0) → Type 0
  ForAll P = (memory : PageMemory) (bits : ℕ → ℕ) → Agrees sizes.pages 1 1 key path q.work memory bits → P memory bits

  -- the call ended without a change
  module _ (value place : ℕ) (r : PassState) (read : HasRead sizes (IsKeptLog sizes.pages) q place r) where
    answer-r : answer_of (map_after (history_of r.view.memory.seen) place) (Insert key value) ≡ cond (is_some there) Duplicate Inserted
    answer-r = ap (λ (o : Option ℕ). cond (is_some o) Duplicate Inserted) (value-r sizes key path held p q went looked can seated place r read)

    refused : (reply : Reply) → is_made reply ≡ false → FitsChange (history_of r.view.memory.seen) r.number (Insert key value) reply place → FitsTreeInsert (space_of sizes start) r.view.memory.seen key reply place
        → HasCalled sizes (IsKeptLog sizes.pages) start (InsertCall key value) (record { call = InsertCall key value; reply = reply; place = place }) p r
    refused reply not_made change tree =
        called-read sizes (tree_calls sizes) p q went looked seated.role place r read (InsertCall key value) reply not_made
        (record { map = (within-r sizes (tree_calls sizes) p q went looked seated.role place r read, (change, refl)); tree = tree })

    -- a memory that agrees is that after all seen
    seen-all : (P : List Entry → Type 0) → P read.log → P (take place r.view.memory.seen)
    seen-all P has = subst P (sym (whole-r sizes (tree_calls sizes) p q went looked seated.role place r read)) has

    agreed : Agrees sizes.pages 1 1 key path q.work (kept_pages sizes.pages read.log) (bits_of sizes.pages (memory_after start read.log))
    agreed = agrees-l sizes key path held p q went looked can seated read.log read.looked

    pub called-duplicate : (old : ℕ) → there ≡ Some old
        → HasCalled sizes (IsKeptLog sizes.pages) start (InsertCall key value) (record { call = InsertCall key value; reply = Duplicate; place = place }) p r
    called-duplicate old some = refused Duplicate refl (answer-r ∙ ap (λ (o : Option ℕ). cond (is_some o) Duplicate Inserted) some) tt

    module _ (missing : there ≡ None) where
      inserts-r : answer_of (map_after (history_of r.view.memory.seen) place) (Insert key value) ≡ Inserted
      inserts-r = answer-r ∙ ap (λ (o : Option ℕ). cond (is_some o) Duplicate Inserted) missing

      pub called-high : ForAll (λ memory bits. is_too_high 1 memory key 1 ≡ true)
          → HasCalled sizes (IsKeptLog sizes.pages) start (InsertCall key value) (record { call = InsertCall key value; reply = TooHigh; place = place }) p r
      called-high high = refused TooHigh refl inserts-r
          (seen-all (λ (log : List Entry). is_too_high 1 (kept_pages sizes.pages log) key 1 ≡ true) (high (kept_pages sizes.pages read.log) (bits_of sizes.pages (memory_after start read.log)) agreed))

      pub called-short : (free need : ℕ) → ForAll (λ memory bits. (is_too_high 1 memory key 1 ≡ false) × (free ≡ free_of bits sizes.pages) × (need ≡ need_of memory key 1) × (free < need))
          → HasCalled sizes (IsKeptLog sizes.pages) start (InsertCall key value) (record { call = InsertCall key value; reply = SpaceFull free need; place = place }) p r
      called-short free need short = refused (SpaceFull free need) refl inserts-r
          (seen-all (λ (log : List Entry). (is_too_high 1 (kept_pages sizes.pages log) key 1 ≡ false) × (free ≡ free_of (bits_of sizes.pages (memory_after start log)) sizes.pages) × (need ≡ need_of (kept_pages sizes.pages log) key 1) × (free < need))
          (short (kept_pages sizes.pages read.log) (bits_of sizes.pages (memory_after start read.log)) agreed))

  module _ (value : ℕ) (missing : there ≡ None) (work : List WorkPage) where
    -- the log had no room for the change
    pub called-full-insert : (full : LogFull) (r : PassState) → IsFull sizes (IsKeptLog sizes.pages) (with_work work q) full r
        → ForAll (λ memory bits. (is_too_high 1 memory key 1 ≡ false) × (need_of memory key 1 ≤ free_of bits sizes.pages))
        → HasCalled sizes (IsKeptLog sizes.pages) start (InsertCall key value) (record { call = InsertCall key value; reply = LogFullReply full.used full.cap; place = length r.view.memory.seen }) p r
    called-full-insert full r f free =
        let made : is_made (answer_of (map_of r.view.memory.seen) (Insert key value)) ≡ true =
        ap (λ (o : Option ℕ). is_made (cond (is_some o) Duplicate Inserted)) (value-f sizes key path held p q went looked can seated work full r f ∙ missing) in
        let both = subst (λ (log : List Entry). (is_too_high 1 (kept_pages sizes.pages log) key 1 ≡ false) × (need_of (kept_pages sizes.pages log) key 1 ≤ free_of (bits_of sizes.pages (memory_after start log)) sizes.pages))
        (sym (whole-f sizes (tree_calls sizes) p q went looked seated.role work full r f))
        (free (kept_pages sizes.pages f.log) (bits_of sizes.pages (memory_after start f.log)) (agrees-l sizes key path held p q went looked can seated f.log (looked-f sizes (tree_calls sizes) p q went looked seated.role work full r f))) in
        called-full sizes (tree_calls sizes) p q went looked seated.role work full r f (InsertCall key value) (record {
          map = (within-f sizes (tree_calls sizes) p q went looked seated.role work full r f, (made, refl));
          tree = (both.0, both.1, log-full sizes (tree_calls sizes) p q went looked seated.role work full r f);
        })

    -- the change was committed
    pub called-inserted : (place : ℕ) (r : PassState) → HasCommitted sizes (IsKeptLog sizes.pages) start (Insert key value) (with_work work q) place r
        → HasCalled sizes (IsKeptLog sizes.pages) start (InsertCall key value) (record { call = InsertCall key value; reply = Inserted; place = place }) p r
    called-inserted place r c =
        let none = value-c sizes key path held p q went looked can seated work (Insert key value) place r c ∙ missing in
        called-committed sizes (tree_calls sizes) p q went looked seated.role work (Insert key value) place r c (InsertCall key value) Inserted refl (record {
          map = (
            within-c sizes (tree_calls sizes) p q went looked seated.role work (Insert key value) place r c,
            ((ap (λ (o : Option ℕ). cond (is_some o) Duplicate Inserted) none, entry-c sizes (tree_calls sizes) p q went looked seated.role work (Insert key value) place r c), refl),
          );
          tree = tt;
        })

  -- what a commit of the insert was answered
  pub called-ended : (o : Result ℕ LogFull) (work : List WorkPage) (value : ℕ) (answer : Record) (r : PassState) → there ≡ None
      → ForAll (λ memory bits. (is_too_high 1 memory key 1 ≡ false) × (need_of memory key 1 ≤ free_of bits sizes.pages))
      → CommitAnswered sizes (tree_calls sizes) (InsertCall key value) (Insert key value) Inserted o answer (with_work work q) r
      → HasCalled sizes (IsKeptLog sizes.pages) start (InsertCall key value) answer p r
  called-ended (Ok place) work value answer r missing free ends =
      subst (λ a. HasCalled sizes (IsKeptLog sizes.pages) start (InsertCall key value) a p r) (sym ends.as_made) (called-inserted value missing work place r ends.committed)
  called-ended (Err fault) work value answer r missing free ends =
      subst (λ a. HasCalled sizes (IsKeptLog sizes.pages) start (InsertCall key value) a p r) (sym ends.as_full) (called-full-insert value missing work fault r ends.refused free)
