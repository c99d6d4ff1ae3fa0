-- The chunks of a run's scans have the second keys of the pairs that the map has at their places.
use Rattle.std.specs.List.{AllByRecursion}
use Rattle.std.proofs.Common.{◌≡◌, ◌∙◌, ℕ, suc, ◌≤◌, inl, inr, List, [], ◌∷◌, take, drop, length, ap, sym, subst, take-append-drop}
use Rattle.ib_map.specs.History.{History, map_after}
use Rattle.ib_map.specs.Keys.{MapKey}
use Rattle.ib_map.specs.Pairs.{Pairs, cut}
use Rattle.ib_map.specs.Replies.{FullRecord, Span}
use Rattle.ib_map.specs.Runs.{AreAnswers, IsLegalRun, Runs, reach_after, run_of}
use Rattle.ib_map.specs.declared.call.Call.{Call}
use Rattle.ib_map.specs.declared.call.Call.TheVariants.{Insert, Delete, Get, Scan}
use Rattle.ib_map.specs.declared.call.Reply.{Reply}
use Rattle.ib_second_key.specs.SecondKeys.{second_of}
use Rattle.ib_layout.specs.Geometry.{Sizes}
use Rattle.ib_logrec.specs.declared.entry.Entry.{Entry}
use Rattle.ib_logrec.specs.Log.{by_place, history_of, map_of}
use Rattle.ib_walk.specs.Trees.{content_of}
use Rattle.ib_walk.proofs.WalkLaws.{AllByRecursion-append}
use Rattle.ib_tree.specs.Logs.{pages_after}
use Rattle.ib_tree.specs.Scans.{AreFront, AreWhole, IsReadAt}
use Rattle.ib_scan.proofs.WholeLaws.{map-taken}
use Rattle.ib_pair_law.specs.Opening.{pair_opening}
use Rattle.ib_pair_law.specs.PairFits.{FitsPairCall, FitsPairLog, FitsSecondScan}
use Rattle.ib_pair_law.specs.PairKept.{IsPairLog}
use Rattle.ib_pair_law.specs.PairLog.{IsPairLog-front}
use Rattle.ib_cursor.specs.Spaces.{space_of}
use Rattle.ib_pair_form.specs.Answers.{HasKeysAt, HaveKeys}

module _ (sizes : Sizes) (second : (log : List Entry) → IsPairLog sizes.pages log → content_of (pages_after (by_place pair_opening sizes.pages) log) 2 ≡ second_of (map_of log))
    (log : List Entry) (kept : IsPairLog sizes.pages log) where
  abbrev start : ℕ → ℕ
  start = by_place pair_opening sizes.pages

  abbrev h : History
  h = history_of log

  -- what the second tree has at a place
  second-at : (n : ℕ) → n ≤ length log → content_of (pages_after start (take n log)) 2 ≡ second_of (map_after h n)
  second-at n le =
      let front = IsPairLog-front sizes.pages (take n log) (drop n log) (subst (IsPairLog sizes.pages) (sym (take-append-drop n log)) kept) in
      second (take n log) front ∙ ap second_of (map-taken log n le)

  chunk-keys : (low high : MapKey) (floor : ℕ) (span : Span) → IsReadAt start log 2 low high floor span → HasKeysAt h span
  chunk-keys low high floor span read =
      read.chunk.holds ∙ (ap (λ (m : Pairs). cut m low span.high) (second-at span.place read.within) ∙ ap (λ (k : MapKey). cut (second_of (map_after h span.place)) k span.high) (sym read.begins))

  front-keys : (low high : MapKey) (floor : ℕ) (spans : List Span) (next : MapKey) (last : ℕ) → AreFront start log 2 low high floor spans next last → AllByRecursion (HasKeysAt h) spans
  front-keys low high floor [] next last are = tt
  front-keys low high floor (span ∷ spans) next last are = (chunk-keys low high floor span are.0, front-keys are.2.0 high span.place spans next last are.2.2)

  whole-keys : (low high : MapKey) (floor : ℕ) (spans : List Span) (end : ℕ) → AreWhole start log 2 low high floor spans end → AllByRecursion (HasKeysAt h) spans
  whole-keys low high floor spans end w =
      subst (AllByRecursion (HasKeysAt h)) (sym w.are)
      (AllByRecursion-append (HasKeysAt h) w.front (w.last ∷ []) (front-keys low high floor w.front w.next w.before_place w.before) (chunk-keys w.next high w.before_place w.last w.read, tt))

  no-spans : (spans : List Span) → spans ≡ [] → AllByRecursion (HasKeysAt h) spans
  no-spans spans none = subst (AllByRecursion (HasKeysAt h)) (sym none) tt

  scan-keys : (reach : ℕ) (low high : MapKey) (place : ℕ) (spans : List Span) → FitsSecondScan (space_of sizes start) log reach low high place spans → AllByRecursion (HasKeysAt h) spans
  scan-keys reach low high place spans (inl none) = no-spans spans none.0
  scan-keys reach low high place spans (inr whole) = whole-keys low high reach spans place whole.1

  call-keys : (session reach : ℕ) (call : Call) (reply : Reply) (place : ℕ) (spans : List Span) → FitsPairCall (space_of sizes start) log session reach call reply place spans → AllByRecursion (HasKeysAt h) spans
  call-keys session reach (Insert key value) reply place spans fits = no-spans spans fits.2
  call-keys session reach (Delete key) reply place spans fits = no-spans spans fits.2
  call-keys session reach (Get key) reply place spans fits = no-spans spans fits.1
  call-keys session reach (Scan low high) reply place spans fits = scan-keys reach low high place spans fits.1

  records-keys : (session reach : ℕ) (records : List FullRecord) → AreAnswers (FitsPairLog (space_of sizes start) log session) reach records → AllByRecursion (λ (r : FullRecord). AllByRecursion (HasKeysAt h) r.spans) records
  records-keys session reach [] are = tt
  records-keys session reach (r ∷ rs) are =
      (call-keys session reach r.call r.reply r.place r.spans are.0.1, records-keys session (reach_after r) rs are.3)

  -- those of the sessions from a number on
  runs-keys : (runs : Runs) → ((n : ℕ) → AllByRecursion (λ (r : FullRecord). AllByRecursion (HasKeysAt h) r.spans) (run_of runs (suc n))) → HaveKeys h runs
  runs-keys [] each = tt
  runs-keys (rs ∷ runs) each = (each 0, runs-keys runs (λ n. each (suc n)))

  pub run-keys : (runs : Runs) → IsLegalRun (λ k. FitsPairLog (space_of sizes start) log) h runs → HaveKeys h runs
  run-keys runs legal = runs-keys runs (λ n. records-keys (suc n) 0 (run_of runs (suc n)) (legal (suc n)).answers)
