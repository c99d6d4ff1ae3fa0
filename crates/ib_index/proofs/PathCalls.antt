-- A call that came to the key's path and ended there was answered.
use Rattle.std.proofs.Common.{◌≡◌, ℕ, ◌<◌, List, ◌++◌, length, Option, sym, ap, subst, ◌∙◌}
use Rattle.ib_map.specs.Keys.{MapKey}
use Rattle.ib_map.specs.Pairs.{value_at}
use Rattle.ib_map.specs.History.{map_after}
use Rattle.ib_map.specs.declared.call.Change.{Change}
use Rattle.ib_levels.specs.declared.level.Level.{Level}
use Rattle.ib_page.specs.Work.{WorkPage}
use Rattle.ib_layout.specs.Geometry.{Sizes}
use Rattle.ib_logrec.specs.declared.entry.Entry.{Entry}
use Rattle.ib_logrec.specs.Log.{history_of, map_of, memory_after, by_place}
use Rattle.ib_walk.specs.Words.{bits_of}
use Rattle.ib_plans.specs.Agreement.{Agrees, last_of, memory_in}
use Rattle.ib_tree.specs.TreeLog.{opening}
use Rattle.ib_planned_log.specs.Kept.{IsKeptLog}
use Rattle.ib_planned_log.specs.LeafChange.{kept_pages}
use Rattle.ib_frames.specs.declared.appends.LogFull.{LogFull}
use Rattle.ib_rule.specs.Pass.{PassState}
use Rattle.ib_rule.specs.Roles.{session_number_of}
use Rattle.ib_rule.specs.Stores.{IsLook}
use Rattle.ib_mtr.specs.Commits.{HasCommitted, HasRead, IsFull}
use Rattle.ib_mtr.specs.Mtr.{with_work}
use Rattle.ib_cursor.specs.Going.{WentOn}
use Rattle.ib_leaf.specs.Calls.{tree_calls}
use Rattle.ib_leaf.specs.Leaf.{IsSeated}
use Rattle.ib_index.specs.Grows.{IsGrowing}
use Rattle.ib_leaf.proofs.CallEnds.{log-f, log-r, looked-c, looked-f, map-c, map-r}
use Rattle.ib_index.proofs.PathMay.{agrees-then, value-then}

module _ (sizes : Sizes) (key : MapKey) (path : List ℕ) (held : List (ℕ × Level)) (p q : PassState) (went : WentOn p q) (looked : 0 < length went.added) (can : IsGrowing sizes key path held q) (seated : IsSeated sizes q) where
  abbrev start : ℕ → ℕ
  start = by_place opening sizes.pages

  -- what the last page of the path has of the key
  abbrev pub value_there : Option ℕ
  value_there = value_at key (memory_in q.work (last_of path)).records

  -- after a look
  module _ (log : List Entry) (look : IsLook sizes (IsKeptLog sizes.pages) q.view log) where
    legal-l : IsKeptLog sizes.pages (q.view.memory.seen ++ look.others)
    legal-l = subst (IsKeptLog sizes.pages) (sym look.longer) look.legal

    pub value-l : value_at key (map_of log) ≡ value_there
    value-l =
        ap (λ (log : List Entry). value_at key (map_of log)) (sym look.longer)
        ∙ value-then sizes key path held q can seated look.others (session_number_of q.view.role) look.harmless legal-l

    pub agrees-l : Agrees sizes.pages 1 1 key path q.work (kept_pages sizes.pages log) (bits_of sizes.pages (memory_after start log))
    agrees-l = subst (λ (log : List Entry). Agrees sizes.pages 1 1 key path q.work (kept_pages sizes.pages log) (bits_of sizes.pages (memory_after start log))) look.longer
        (agrees-then sizes key path held q can seated look.others (session_number_of q.view.role) look.harmless legal-l)

  -- what the map has of the key at the call's place, and before its entry
  pub value-r : (place : ℕ) (r : PassState) → HasRead sizes (IsKeptLog sizes.pages) q place r → value_at key (map_after (history_of r.view.memory.seen) place) ≡ value_there
  value-r place r read =
      ap (value_at key) (map-r sizes (tree_calls sizes) p q went looked seated.role place r read)
      ∙ (ap (λ (log : List Entry). value_at key (map_of log)) (log-r sizes (tree_calls sizes) p q went looked seated.role place r read) ∙ value-l read.log read.looked)

  pub value-f : (work : List WorkPage) (full : LogFull) (r : PassState) → IsFull sizes (IsKeptLog sizes.pages) (with_work work q) full r → value_at key (map_of r.view.memory.seen) ≡ value_there
  value-f work full r f =
      ap (λ (log : List Entry). value_at key (map_of log)) (log-f sizes (tree_calls sizes) p q went looked seated.role work full r f) ∙ value-l f.log (looked-f sizes (tree_calls sizes) p q went looked seated.role work full r f)

  pub value-c : (work : List WorkPage) (change : Change) (place : ℕ) (r : PassState) → HasCommitted sizes (IsKeptLog sizes.pages) start change (with_work work q) place r
      → value_at key (map_after (history_of r.view.memory.seen) place) ≡ value_there
  value-c work change place r c =
      ap (value_at key) (map-c sizes (tree_calls sizes) p q went looked seated.role work change place r c) ∙ value-l c.log (looked-c sizes (tree_calls sizes) p q went looked seated.role work change place r c)
