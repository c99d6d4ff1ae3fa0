-- A delete that came to the key's path and ended there was answered.
use Rattle.std.specs.Prelude.{Result, Ok, Err}
use Rattle.std.proofs.Common.{◌≡◌, ℕ, ◌<◌, List, Option, Some, None, length, refl, sym, ap, subst, ◌∙◌}
use Rattle.ib_map.specs.Keys.{MapKey}
use Rattle.ib_map.specs.Map.{delete_answer, is_made}
use Rattle.ib_map.specs.declared.call.Call.TheVariants.{Delete as DeleteCall}
use Rattle.ib_map.specs.declared.call.Change.TheVariants.{Delete}
use Rattle.ib_map.specs.declared.call.Record.{Record}
use Rattle.ib_map.specs.declared.call.Reply.TheVariants.{Deleted, Missing, LogFull as LogFullReply}
use Rattle.ib_levels.specs.declared.level.Level.{Level}
use Rattle.ib_page.specs.Work.{WorkPage}
use Rattle.ib_layout.specs.Geometry.{Sizes}
use Rattle.ib_logrec.specs.Log.{by_place}
use Rattle.ib_tree.specs.TreeLog.{opening}
use Rattle.ib_planned_log.specs.Kept.{IsKeptLog}
use Rattle.ib_frames.specs.declared.appends.LogFull.{LogFull}
use Rattle.ib_rule.specs.Pass.{PassState}
use Rattle.ib_mtr.specs.Commits.{HasCommitted, HasRead, IsFull}
use Rattle.ib_mtr.specs.Mtr.{with_work}
use Rattle.ib_cursor.specs.Going.{WentOn}
use Rattle.ib_leaf.specs.Calls.{HasCalled, tree_calls}
use Rattle.ib_leaf.specs.Leaf.{IsSeated}
use Rattle.ib_index.specs.Grows.{IsGrowing}
use Rattle.ib_leaf.proofs.CommitLaws.{CommitAnswered}
use Rattle.ib_leaf.proofs.CallEnds.{called-committed, called-full, called-read, entry-c, log-full, within-c, within-f, within-r}
use Rattle.ib_index.proofs.PathCalls.{value-c, value-f, value-r, value_there}

module _ (sizes : Sizes) (key : MapKey) (path : List ℕ) (held : List (ℕ × Level)) (p q : PassState) (went : WentOn p q) (looked : 0 < length went.added) (can : IsGrowing sizes key path held q) (seated : IsSeated sizes q) where
  abbrev start : ℕ → ℕ
  start = by_place opening sizes.pages

  abbrev there : Option ℕ
  there = value_there sizes key path held p q went looked can seated

  -- the key was not there
  pub called-missing : (place : ℕ) (r : PassState) → HasRead sizes (IsKeptLog sizes.pages) q place r → there ≡ None
      → HasCalled sizes (IsKeptLog sizes.pages) start (DeleteCall key) (record { call = DeleteCall key; reply = Missing; place = place }) p r
  called-missing place r read none =
      called-read sizes (tree_calls sizes) p q went looked seated.role place r read (DeleteCall key) Missing refl (record {
        map = (within-r sizes (tree_calls sizes) p q went looked seated.role place r read, (ap delete_answer (value-r sizes key path held p q went looked can seated place r read ∙ none), refl));
        tree = tt;
      })

  module _ (value : ℕ) (some : there ≡ Some value) (work : List WorkPage) where
    -- the log had no room for the change
    called-full-delete : (full : LogFull) (r : PassState) → IsFull sizes (IsKeptLog sizes.pages) (with_work work q) full r
        → HasCalled sizes (IsKeptLog sizes.pages) start (DeleteCall key) (record { call = DeleteCall key; reply = LogFullReply full.used full.cap; place = length r.view.memory.seen }) p r
    called-full-delete full r f =
        called-full sizes (tree_calls sizes) p q went looked seated.role work full r f (DeleteCall key) (record {
          map = (
            within-f sizes (tree_calls sizes) p q went looked seated.role work full r f,
            (ap (λ (o : Option ℕ). is_made (delete_answer o)) (value-f sizes key path held p q went looked can seated work full r f ∙ some), refl),
          );
          tree = log-full sizes (tree_calls sizes) p q went looked seated.role work full r f;
        })

    -- the change was committed
    called-deleted : (place : ℕ) (r : PassState) → HasCommitted sizes (IsKeptLog sizes.pages) start (Delete key) (with_work work q) place r
        → HasCalled sizes (IsKeptLog sizes.pages) start (DeleteCall key) (record { call = DeleteCall key; reply = Deleted value; place = place }) p r
    called-deleted place r c =
        called-committed sizes (tree_calls sizes) p q went looked seated.role work (Delete key) place r c (DeleteCall key) (Deleted value) refl (record {
          map = (
            within-c sizes (tree_calls sizes) p q went looked seated.role work (Delete key) place r c,
            (
              (
                ap delete_answer (value-c sizes key path held p q went looked can seated work (Delete key) place r c ∙ some),
                entry-c sizes (tree_calls sizes) p q went looked seated.role work (Delete key) place r c,
              ),
              refl,
            ),
          );
          tree = tt;
        })

    -- what a commit of the delete was answered
    pub called-shrunk : (o : Result ℕ LogFull) (answer : Record) (r : PassState)
        → CommitAnswered sizes (tree_calls sizes) (DeleteCall key) (Delete key) (Deleted value) o answer (with_work work q) r
        → HasCalled sizes (IsKeptLog sizes.pages) start (DeleteCall key) answer p r
    called-shrunk (Ok place) answer r ends =
        subst (λ a. HasCalled sizes (IsKeptLog sizes.pages) start (DeleteCall key) a p r) (sym ends.as_made) (called-deleted place r ends.committed)
    called-shrunk (Err fault) answer r ends =
        subst (λ a. HasCalled sizes (IsKeptLog sizes.pages) start (DeleteCall key) a p r) (sym ends.as_full) (called-full-delete fault r ends.refused)
