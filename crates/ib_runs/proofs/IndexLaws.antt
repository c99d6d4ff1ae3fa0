-- What kept logs, and records that fit them by the map and by the tree, say of an index as what sessions share.
use Rattle.std.proofs.Common.{◌≡◌, ℕ, ◌<◌, ◌≤◌, true, List, take, drop, length, refl, sym, subst, ◌∙◌, arith, take-append-drop}
use Rattle.std.proofs.lemmas.Bool.Decides.{nat_tests}
use Rattle.ib_map.specs.Keys.{MapKey}
use Rattle.ib_map.specs.History.{map_after}
use Rattle.ib_map.specs.Replies.{Span}
use Rattle.ib_map.specs.Space.{has_pages}
use Rattle.ib_map.specs.declared.call.Call.{Call}
use Rattle.ib_map.specs.declared.call.Call.TheVariants.{Insert, Delete, Get, Scan}
use Rattle.ib_map.specs.declared.call.Reply.{Reply}
use Rattle.ib_map.specs.declared.call.Reply.TheVariants.{LogFull}
use Rattle.ib_layout.specs.Geometry.{Sizes}
use Rattle.ib_logrec.specs.declared.entry.Entry.{Entry}
use Rattle.ib_logrec.specs.Log.{by_place, history_of, map_of, memory_after}
use Rattle.ib_logrec.proofs.LogLaws.{length-history_of}
use Rattle.ib_walk.specs.Trees.{content_of, free_page}
use Rattle.ib_walk.specs.Words.{IsLawfulMemory, pages_of}
use Rattle.ib_walk.proofs.SpaceLaws.{pages_of-other}
use Rattle.ib_tree.specs.Fits.{FitsDelete, FitsTree, FitsTreeInsert, TreeSpace}
use Rattle.ib_tree.specs.Logs.{pages_after}
use Rattle.ib_tree.specs.TreeLog.{opening}
use Rattle.ib_tree.proofs.FitLaws.{FitsLog-longer, FitsLog-whole}
use Rattle.ib_tree.proofs.OpeningLaws.{by_place-opening}
use Rattle.ib_planned_log.specs.Kept.{IsKeptLog}
use Rattle.ib_planned_log.specs.KeptLog.{IsKeptLog-front, IsKeptLog-grammar, IsKeptLog-none}
use Rattle.ib_scan.proofs.WholeLaws.{map-taken}
use Rattle.ib_leaf.specs.Calls.{tree_calls}
use Rattle.ib_runs.specs.Alone.{IsNotFull}
use Rattle.ib_runs.specs.Sessions.{index_space}
use Rattle.ib_index.specs.IndexLaw.{index_law}
use Rattle.ib_runs.specs.Shared.{FitLaws, IsFreeOfLength, LogLaws}

module _ (sizes : Sizes) (fits : has_pages sizes.pages ≡ true) (memory : (log : List Entry) → IsKeptLog sizes.pages log → IsLawfulMemory sizes.pages 1 (memory_after (by_place opening sizes.pages) log))
    (content : (log : List Entry) → IsKeptLog sizes.pages log → content_of (pages_after (by_place opening sizes.pages) log) 1 ≡ map_of log) where
  abbrev start : ℕ → ℕ
  start = by_place opening sizes.pages

  -- the map at a place of a kept log is what the tree has there
  content_at : (log : List Entry) → IsKeptLog sizes.pages log → (n : ℕ) → n ≤ length log → content_of (pages_after start (take n log)) 1 ≡ map_after (history_of log) n
  content_at log kept n le =
      let front = IsKeptLog-front sizes.pages (take n log) (drop n log) (subst (IsKeptLog sizes.pages) (sym (take-append-drop n log)) kept) in
      content (take n log) front ∙ map-taken log n le

  pub index_logs : LogLaws (tree_calls sizes) 1 sizes.pages
  index_logs = record {
    none = IsKeptLog-none sizes.pages;
    grammar = IsKeptLog-grammar sizes.pages;
    free = λ page far.
        let least : 1 < sizes.pages = grind (arith, nat_tests, fits) in
        subst (λ (words : ℕ → ℕ). pages_of words page ≡ free_page) (sym (by_place-opening sizes.pages)) (pages_of-other 1 page (omega arith));
    roots = 1;
    few = omega arith;
    some = omega arith;
    within = omega arith;
    memory = memory;
    content = content;
    scanned = λ log kept. record { changes = history_of log; count = length-history_of log; content = content_at log kept };
    whole = λ log session reach low high spans kept le whole. FitsLog-whole (index_space sizes) log (content_at log kept) high session reach low reach spans (length log) le whole;
  }

pub index_records : (sizes : Sizes) → FitLaws (tree_calls sizes)
index_records sizes = record {
  longer = λ log more session reach r is. FitsLog-longer (index_space sizes) log more session reach r is;
  by_map = λ log session reach r plain is. is.map;
  empty = λ log session low high lt. record { map = (let l = length-history_of log in omega arith, (refl, (lt, refl))); tree = tt };
}

-- beside a log that gets full nothing of a reply depends on how long the log is
module _ (space : TreeSpace) (words : ℕ) (log : List Entry) where
  abbrev other : TreeSpace
  other = record space { log_words = words }

  insert-wider : (key : MapKey) (reply : Reply) (place : ℕ) → IsNotFull reply → FitsTreeInsert space log key reply place → FitsTreeInsert other log key reply place
  insert-wider key (LogFull used cap) place room fits = absurd room
  insert-wider key reply place room fits = fits

  delete-wider : (reply : Reply) (place : ℕ) → IsNotFull reply → FitsDelete space log reply place → FitsDelete other log reply place
  delete-wider (LogFull used cap) place room fits = absurd room
  delete-wider reply place room fits = fits

  tree-wider : (call : Call) (reply : Reply) (place : ℕ) (spans : List Span) → IsNotFull reply → FitsTree space log call reply place spans → FitsTree other log call reply place spans
  tree-wider (Insert key value) reply place spans room fits = insert-wider key reply place room fits
  tree-wider (Delete key) reply place spans room fits = delete-wider reply place room fits
  tree-wider (Get key) reply place spans room fits = fits
  tree-wider (Scan low high) reply place spans room fits = fits

pub index_free : IsFreeOfLength index_law
index_free = record { wider = λ space words log session reach r room is. record { map = is.map; tree = tree-wider space words log r.call r.reply r.place r.spans room is.tree } }
