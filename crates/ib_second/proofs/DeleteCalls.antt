-- A delete from both trees was answered: a key that is missing, a log without room, or a commit.
use Rattle.std.specs.Prelude.{Result, Ok, Err}
use Rattle.std.proofs.Common.{◌≡◌, ◌∙◌, ℕ, ◌<◌, true, List, Option, Some, None, length, refl, sym, ap, subst, arith}
use Rattle.ib_map.specs.Keys.{MapKey}
use Rattle.ib_map.specs.Map.{delete_answer, is_made}
use Rattle.ib_map.specs.Pairs.{value_at}
use Rattle.ib_map.specs.declared.call.Call.TheVariants.{Delete as DeleteCall}
use Rattle.ib_map.specs.declared.call.Change.TheVariants.{Delete}
use Rattle.ib_map.specs.declared.call.Record.{Record}
use Rattle.ib_map.specs.declared.call.Reply.TheVariants.{Deleted, LogFull as LogFullReply, Missing}
use Rattle.ib_page.specs.Work.{WorkPage}
use Rattle.ib_layout.specs.Geometry.{Sizes}
use Rattle.ib_logrec.specs.Log.{by_place, map_of}
use Rattle.ib_logrec.proofs.LogLaws.{length-history_of}
use Rattle.ib_frames.specs.declared.appends.LogFull.{LogFull}
use Rattle.ib_rule.specs.Pass.{PassState}
use Rattle.ib_mtr.specs.Commits.{HasCommitted, HasRead, IsFull}
use Rattle.ib_mtr.specs.Mtr.{with_work}
use Rattle.ib_cursor.specs.Going.{IsKnown, WentOn}
use Rattle.ib_cursor.specs.Shapes.{is_claimed}
use Rattle.ib_leaf.specs.Leaf.{IsSeated}
use Rattle.ib_leaf.proofs.CallEnds.{at-r, called-committed, called-full, called-read, entry-c, log-full, within-c}
use Rattle.ib_leaf.proofs.CommitLaws.{CommitAnswered}
use Rattle.ib_pair_law.specs.Opening.{pair_opening}
use Rattle.ib_pair_law.specs.PairKept.{IsPairLog}
use Rattle.ib_second.specs.Calls.{HasCalledPair, pair_calls}
use Rattle.ib_second.proofs.PairCalls.{value-committed, value-full, value-read}

module _ (sizes : Sizes) (key : MapKey) (p q : PassState) (went : WentOn p q) (looked : 0 < length went.added) (claimed : is_claimed q.view.memory.since ≡ true) (known : IsKnown sizes (IsPairLog sizes.pages) q) (seated : IsSeated sizes q) where
  -- what the map has of the key
  abbrev there : Option ℕ
  there = value_at key (map_of q.view.memory.seen)

  -- the key was not there
  pub called-missing : (place : ℕ) (r : PassState) → HasRead sizes (IsPairLog sizes.pages) q place r → there ≡ None
      → HasCalledPair sizes (DeleteCall key) (record { call = DeleteCall key; reply = Missing; place = place }) p r
  called-missing place r read none =
      called-read sizes (pair_calls sizes) p q went looked seated.role place r read (DeleteCall key) Missing refl (
        (let at = at-r sizes (pair_calls sizes) p q went looked seated.role place r read in omega arith),
        (ap delete_answer (value-read sizes key p q went looked claimed known seated place r read ∙ none), tt, refl),
      )

  module _ (value : ℕ) (some : there ≡ Some value) (work : List WorkPage) where
    -- the log had no room for the change
    called-full-delete : (full : LogFull) (r : PassState) → IsFull sizes (IsPairLog sizes.pages) (with_work work q) full r
        → HasCalledPair sizes (DeleteCall key) (record { call = DeleteCall key; reply = LogFullReply full.used full.cap; place = length r.view.memory.seen }) p r
    called-full-delete full r f =
        called-full sizes (pair_calls sizes) p q went looked seated.role work full r f (DeleteCall key) (
          omega arith,
          (
            ap (λ (o : Option ℕ). is_made (delete_answer o)) (value-full sizes key p q went looked claimed known seated work full r f ∙ some),
            log-full sizes (pair_calls sizes) p q went looked seated.role work full r f,
            refl,
          ),
        )

    -- the change was committed
    called-deleted : (place : ℕ) (r : PassState) → HasCommitted sizes (IsPairLog sizes.pages) (by_place pair_opening sizes.pages) (Delete key) (with_work work q) place r
        → HasCalledPair sizes (DeleteCall key) (record { call = DeleteCall key; reply = Deleted value; place = place }) p r
    called-deleted place r c =
        let within = within-c sizes (pair_calls sizes) p q went looked seated.role work (Delete key) place r c in
        let long = length-history_of r.view.memory.seen in
        called-committed sizes (pair_calls sizes) p q went looked seated.role work (Delete key) place r c (DeleteCall key) (Deleted value) refl (
          omega arith,
          (
            (
              ap delete_answer (value-committed sizes key p q went looked claimed known seated work (Delete key) place r c ∙ some),
              entry-c sizes (pair_calls sizes) p q went looked seated.role work (Delete key) place r c,
            ),
            tt,
            refl,
          ),
        )

    -- what a commit of the delete was answered
    pub called-ended : (o : Result ℕ LogFull) (answer : Record) (r : PassState)
        → CommitAnswered sizes (pair_calls sizes) (DeleteCall key) (Delete key) (Deleted value) o answer (with_work work q) r
        → HasCalledPair sizes (DeleteCall key) answer p r
    called-ended (Ok place) answer r ends = subst (λ a. HasCalledPair sizes (DeleteCall key) a p r) (sym ends.as_made) (called-deleted place r ends.committed)
    called-ended (Err fault) answer r ends = subst (λ a. HasCalledPair sizes (DeleteCall key) a p r) (sym ends.as_full) (called-full-delete fault r ends.refused)
