-- Changes that are refused: the map would have made them, and at one place of one log there is one refusal of a call.
use Rattle.std.proofs.Common.{◌≡◌, ◌∙◌, ℕ, ◌<◌, ◌≤◌, Bool, true, false, List, [], Some, Option, None, refl, ap, subst, sym, arith}
use Rattle.ib_map.specs.Keys.{MapKey}
use Rattle.ib_map.specs.Pairs.{value_at}
use Rattle.ib_map.specs.Map.{answer_of, delete_answer, is_made, lookup_answer}
use Rattle.ib_map.specs.History.{History, map_after}
use Rattle.ib_map.specs.Replies.{Span, FullRecord, FitsCall, FitsChange, change_of}
use Rattle.ib_map.specs.declared.call.Call.{Call}
use Rattle.ib_map.specs.declared.call.Call.TheVariants.{Insert, Delete, Get, Scan}
use Rattle.ib_map.specs.declared.call.Change.{Change}
use Rattle.ib_map.specs.declared.call.Change.TheVariants.{Insert as InsertChange, Delete as DeleteChange}
use Rattle.ib_map.specs.declared.call.Reply.{Reply}
use Rattle.ib_map.specs.declared.call.Reply.TheVariants.{Inserted, LogFull, SpaceFull, TooHigh}
use Rattle.ib_logrec.specs.declared.entry.Entry.{Entry}
use Rattle.ib_logrec.specs.Log.{history_of}
use Rattle.ib_walk.specs.Full.{is_too_high, need_of}
use Rattle.ib_tree.specs.Fits.{TreeSpace, tree_at, free_at, is_refused, IsLogFull, FitsTreeInsert, FitsDelete, FitsTree, FitsLog}

-- a lookup is not refused
lookup-not : (found : Option ℕ) → is_refused (lookup_answer found) ≡ true → ⊥
lookup-not (Some value) refused = cc
lookup-not None refused = cc

-- the map would have made it
change-made : (h : History) (session : ℕ) (change : Change) (reply : Reply) (place : ℕ) → is_refused reply ≡ true → FitsChange h session change reply place
    → is_made (answer_of (map_after h place) change) ≡ true
change-made h session change (LogFull words cap) place refused fits = fits
change-made h session change (SpaceFull free need) place refused fits = ap is_made fits
change-made h session change TooHigh place refused fits = ap is_made fits
change-made h session change reply place refused fits = absurd (cc)

-- no delete is answered that it put a pair in
pub delete-inserted : (found : Option ℕ) → delete_answer found ≡ Inserted → ⊥
delete-inserted (Some value) is = cc
delete-inserted None is = cc

-- what is refused is a change, and has no chunk
call-made : (h : History) (session reach : ℕ) (call : Call) (reply : Reply) (place : ℕ) (spans : List Span) → is_refused reply ≡ true → FitsCall h session reach call reply place spans
    → (change : Change) × (change_of call ≡ Some change) × (is_made (answer_of (map_after h place) change) ≡ true) × (spans ≡ [])
call-made h session reach (Insert key value) reply place spans refused fits =
    (InsertChange key value, refl, change-made h session (InsertChange key value) reply place refused fits.0, fits.1)
call-made h session reach (Delete key) reply place spans refused fits =
    (DeleteChange key, refl, change-made h session (DeleteChange key) reply place refused fits.0, fits.1)
call-made h session reach (Get key) reply place spans refused fits = absurd (lookup-not (value_at key (map_after h place)) (rw fits.0 at refused))
call-made h session reach (Scan low high) reply place spans refused fits = let bad = rw fits.0 at refused in absurd (cc)

high-or-not : (high : Bool) → high ≡ false → high ≡ true → ⊥
high-or-not high low raised = cc

few-or-not : (free need told asked : ℕ) → need ≤ free → told ≡ free → asked ≡ need → told < asked → ⊥
few-or-not free need told asked room told_is asked_is few = omega arith

module _ (space : TreeSpace) (log : List Entry) where
  full-same : (place words cap more most : ℕ) → IsLogFull space log place words cap → IsLogFull space log place more most → LogFull words cap ≡ LogFull more most
  full-same place words cap more most one two =
      let same : words ≡ more = one.words_are ∙ sym two.words_are in
      let caps : cap ≡ most = one.cap_is ∙ sym two.cap_is in
      cc

  space-same : (a b free need other asked : ℕ) → free ≡ a → need ≡ b → other ≡ a → asked ≡ b → SpaceFull free need ≡ SpaceFull other asked
  space-same a b free need other asked p q r s = cc

  insert-one : (key : MapKey) (reply other : Reply) (place : ℕ) → is_refused reply ≡ true → is_refused other ≡ true
      → FitsTreeInsert space log key reply place → FitsTreeInsert space log key other place → reply ≡ other
  insert-one key (LogFull words cap) (LogFull more most) place refused again one two = full-same place words cap more most one.2 two.2
  insert-one key (LogFull words cap) (SpaceFull free need) place refused again one two =
      absurd (few-or-not (free_at space log place) (need_of (tree_at space log place) key 1) free need one.1 two.1 two.2 two.3)
  insert-one key (LogFull words cap) TooHigh place refused again one two = absurd (high-or-not (is_too_high 1 (tree_at space log place) key 1) one.0 two)
  insert-one key (SpaceFull free need) (LogFull words cap) place refused again one two =
      absurd (few-or-not (free_at space log place) (need_of (tree_at space log place) key 1) free need two.1 one.1 one.2 one.3)
  insert-one key (SpaceFull free need) (SpaceFull other asked) place refused again one two =
      space-same (free_at space log place) (need_of (tree_at space log place) key 1) free need other asked one.1 one.2 two.1 two.2
  insert-one key (SpaceFull free need) TooHigh place refused again one two = absurd (high-or-not (is_too_high 1 (tree_at space log place) key 1) one.0 two)
  insert-one key TooHigh (LogFull words cap) place refused again one two = absurd (high-or-not (is_too_high 1 (tree_at space log place) key 1) two.0 one)
  insert-one key TooHigh (SpaceFull free need) place refused again one two = absurd (high-or-not (is_too_high 1 (tree_at space log place) key 1) two.0 one)
  insert-one key TooHigh TooHigh place refused again one two = refl
  insert-one key reply other place refused again one two = absurd (cc)

  delete-one : (session seen : ℕ) (key : MapKey) (reply other : Reply) (place : ℕ) → is_refused reply ≡ true → is_refused other ≡ true
      → FitsChange (history_of log) session (DeleteChange key) reply place → FitsChange (history_of log) seen (DeleteChange key) other place
      → FitsDelete space log reply place → FitsDelete space log other place → reply ≡ other
  delete-one session seen key (LogFull words cap) (LogFull more most) place refused again by_map too one two = full-same place words cap more most one two
  delete-one session seen key (LogFull words cap) (SpaceFull free need) place refused again by_map too one two = absurd (delete-inserted (value_at key (map_after (history_of log) place)) too)
  delete-one session seen key (LogFull words cap) TooHigh place refused again by_map too one two = absurd (delete-inserted (value_at key (map_after (history_of log) place)) too)
  delete-one session seen key (SpaceFull free need) other place refused again by_map too one two = absurd (delete-inserted (value_at key (map_after (history_of log) place)) by_map)
  delete-one session seen key TooHigh other place refused again by_map too one two = absurd (delete-inserted (value_at key (map_after (history_of log) place)) by_map)
  delete-one session seen key reply other place refused again by_map too one two = absurd (cc)

  call-one : (session reach seen grasp : ℕ) (call : Call) (reply other : Reply) (place : ℕ) (spans chunks : List Span) → is_refused reply ≡ true → is_refused other ≡ true
      → FitsCall (history_of log) session reach call reply place spans → FitsCall (history_of log) seen grasp call other place chunks
      → FitsTree space log call reply place spans → FitsTree space log call other place chunks → reply ≡ other
  call-one session reach seen grasp (Insert key value) reply other place spans chunks refused again by_map too one two = insert-one key reply other place refused again one two
  call-one session reach seen grasp (Delete key) reply other place spans chunks refused again by_map too one two = delete-one session seen key reply other place refused again by_map.0 too.0 one two
  call-one session reach seen grasp (Get key) reply other place spans chunks refused again by_map too one two = absurd (lookup-not (value_at key (map_after (history_of log) place)) (rw by_map.0 at refused))
  call-one session reach seen grasp (Scan low high) reply other place spans chunks refused again by_map too one two = let bad = rw by_map.0 at refused in absurd (cc)

  call-full : (session reach : ℕ) (call : Call) (words cap place : ℕ) (spans : List Span) → FitsCall (history_of log) session reach call (LogFull words cap) place spans
      → FitsTree space log call (LogFull words cap) place spans → IsLogFull space log place words cap
  call-full session reach (Insert key value) words cap place spans by_map full = full.2
  call-full session reach (Delete key) words cap place spans by_map full = full
  call-full session reach (Get key) words cap place spans by_map full = absurd (lookup-not (value_at key (map_after (history_of log) place)) (sym (ap is_refused by_map.0)))
  call-full session reach (Scan low high) words cap place spans by_map full = let bad = by_map.0 in absurd (cc)

  -- two refusals of one call at one place are the same
  pub refusal-one : (session reach seen grasp : ℕ) (r s : FullRecord) → FitsLog space log session reach r → FitsLog space log seen grasp s → r.call ≡ s.call → r.place ≡ s.place
      → is_refused r.reply ≡ true → is_refused s.reply ≡ true → r.reply ≡ s.reply
  refusal-one session reach seen grasp r s one two calls places refused again =
      call-one session reach seen grasp r.call r.reply s.reply r.place r.spans s.spans refused again one.map.1
      (subst (λ call. FitsCall (history_of log) seen grasp call s.reply r.place s.spans) (sym calls) (subst (λ place. FitsCall (history_of log) seen grasp s.call s.reply place s.spans) (sym places) two.map.1))
      one.tree
      (subst (λ call. FitsTree space log call s.reply r.place s.spans) (sym calls) (subst (λ place. FitsTree space log s.call s.reply place s.spans) (sym places) two.tree))

  -- the map would have made what is refused
  pub refusal-made : (session reach : ℕ) (r : FullRecord) → FitsLog space log session reach r → is_refused r.reply ≡ true
      → (change : Change) × (change_of r.call ≡ Some change) × (is_made (answer_of (map_after (history_of log) r.place) change) ≡ true) × (r.spans ≡ [])
  refusal-made session reach r fits refused = call-made (history_of log) session reach r.call r.reply r.place r.spans refused fits.map.1

  -- the numbers of a full log
  pub refusal-full : (session reach words cap : ℕ) (r : FullRecord) → FitsLog space log session reach r → r.reply ≡ LogFull words cap → IsLogFull space log r.place words cap
  refusal-full session reach words cap r fits is =
      call-full session reach r.call words cap r.place r.spans
      (subst (λ reply. FitsCall (history_of log) session reach r.call reply r.place r.spans) is fits.map.1) (subst (λ reply. FitsTree space log r.call reply r.place r.spans) is fits.tree)

  -- an insert that is refused for its log alone
  pub refusal-grows : (session reach words cap : ℕ) (key : MapKey) (value : ℕ) (r : FullRecord) → FitsLog space log session reach r → r.call ≡ Insert key value → r.reply ≡ LogFull words cap
      → (is_too_high 1 (tree_at space log r.place) key 1 ≡ false) × (need_of (tree_at space log r.place) key 1 ≤ free_at space log r.place)
  refusal-grows session reach words cap key value r fits call reply =
      let row : FitsTreeInsert space log key (LogFull words cap) r.place =
      subst (λ it. FitsTree space log it (LogFull words cap) r.place r.spans) call (subst (λ it. FitsTree space log r.call it r.place r.spans) reply fits.tree) in
      (row.0, row.1)
