-- What is answered at a place of a log, where it is not full, is determined by the map, the pages and the bits there.
use Rattle.std.proofs.Common.{◌≡◌, ◌∙◌, ℕ, ◌<◌, ◌≤◌, Bool, true, false, cond, ltb, List, Some, length, take, refl, sym, ap, subst, arith}
use Rattle.std.proofs.lemmas.Bool.{lt-ltb, le-ltb}
use Rattle.ib_map.specs.Keys.{MapKey}
use Rattle.ib_map.specs.Pairs.{Pairs, value_at}
use Rattle.ib_map.specs.Map.{answer_of, is_made, lookup_of}
use Rattle.ib_map.specs.History.{map_after}
use Rattle.ib_map.specs.Replies.{FitsCall, FitsChange, Span, change_of, pair_count}
use Rattle.ib_map.specs.Runs.{first_span_place}
use Rattle.ib_map.specs.declared.call.Call.{Call}
use Rattle.ib_map.specs.declared.call.Call.TheVariants.{Insert, Delete, Get, Scan}
use Rattle.ib_map.specs.declared.call.Change.{Change}
use Rattle.ib_map.specs.declared.call.Change.TheVariants.{Insert as InsertChange, Delete as DeleteChange}
use Rattle.ib_map.specs.declared.call.Reply.{Reply}
use Rattle.ib_map.specs.declared.call.Reply.TheVariants.{Inserted, Duplicate, Deleted, Missing, Found, NotFound, LogFull, SpaceFull, TooHigh, Scanned}
use Rattle.ib_layout.specs.Geometry.{Sizes}
use Rattle.ib_logrec.specs.declared.entry.Entry.{Entry}
use Rattle.ib_logrec.specs.Log.{history_of}
use Rattle.ib_walk.specs.Pages.{PageMemory}
use Rattle.ib_walk.specs.Full.{free_of, is_too_high, need_of}
use Rattle.ib_tree.specs.Fits.{FitsTreeInsert, FitsTree, free_at, tree_at}
use Rattle.ib_tree.proofs.RefusalLaws.{delete-inserted}
use Rattle.ib_planned_log.specs.Kept.{IsKeptLog, MayPlan}
use Rattle.ib_runs.specs.Alone.{IsNotFull}
use Rattle.ib_runs.specs.Sessions.{index_space}
use Rattle.ib_runs.proofs.AloneChunkLaws.{scan-one}
use Rattle.ib_runs.proofs.AlonePageLaws.{HasChange, SaySame, change-at, map-same}
use Rattle.ib_index.proofs.LookupLaws.{lookup-made}

-- the answer to an insert, by the map's and by the tree: it is refused where the map would make it and the tree cannot
abbrev with_tree : Reply → Bool → ℕ → ℕ → Reply
with_tree Inserted high free need = cond high TooHigh (cond (ltb free need) (SpaceFull free need) Inserted)
with_tree answer high free need = answer

-- a change that was made stands in the history
change-entry : (log : List Entry) (session : ℕ) (change : Change) (place : ℕ) (reply : Reply) → FitsChange (history_of log) session change reply place → is_made reply ≡ true → HasChange log place session change
change-entry log session change place Inserted fits done_so = change-at log place session change fits.1
change-entry log session change place (Deleted value) fits done_so = change-at log place session change fits.1
change-entry log session change place Duplicate fits done_so = absurd (cc)
change-entry log session change place Missing fits done_so = absurd (cc)
change-entry log session change place (LogFull used cap) fits done_so = absurd (cc)
change-entry log session change place (SpaceFull free need) fits done_so = absurd (cc)
change-entry log session change place TooHigh fits done_so = absurd (cc)
change-entry log session change place (Found value) fits done_so = absurd (cc)
change-entry log session change place NotFound fits done_so = absurd (cc)
change-entry log session change place (Scanned chunks pairs) fits done_so = absurd (cc)

-- a call that made a change has it in the log
pub record HasMade (log : List Entry) (session : ℕ) (call : Call) (place : ℕ) : Type 0 where
  pub change : Change
  pub asked : change_of call ≡ Some change
  pub stands : HasChange log place session change

pub call-entry : (log : List Entry) (session reach : ℕ) (call : Call) (reply : Reply) (place : ℕ) (spans : List Span) → FitsCall (history_of log) session reach call reply place spans → is_made reply ≡ true
    → HasMade log session call place
call-entry log session reach (Insert key value) reply place spans fits done_so =
    record { change = InsertChange key value; asked = refl; stands = change-entry log session (InsertChange key value) place reply fits.0 done_so }
call-entry log session reach (Delete key) reply place spans fits done_so =
    record { change = DeleteChange key; asked = refl; stands = change-entry log session (DeleteChange key) place reply fits.0 done_so }
call-entry log session reach (Get key) reply place spans fits done_so =
    let not_so : is_made reply ≡ false = ap is_made fits.0 ∙ look (map_after (history_of log) place) key in absurd (cc)
  where
    look : (m : Pairs) (k : MapKey) → is_made (lookup_of m k) ≡ false
    look m k = lookup-made _
call-entry log session reach (Scan low high) reply place spans fits done_so =
    let not_so : is_made reply ≡ false = ap is_made fits.0 in absurd (cc)

module _ (sizes : Sizes) (log : List Entry) (session place : ℕ) (kept : IsKeptLog sizes.pages log) where
  abbrev m : PageMemory
  m = tree_at (index_space sizes) log place

  abbrev free : ℕ
  free = free_at (index_space sizes) log place

  abbrev answer : Change → Reply
  answer change = answer_of (map_after (history_of log) place) change

  -- an insert that stands in the log could be made
  may : (key : MapKey) (value : ℕ) → HasChange log place session (InsertChange key value) → (is_too_high 1 m key 1 ≡ false) × (need_of m key 1 ≤ free)
  may key value c =
      let at = c.at in
      let p = kept.planned_are (take place log) at.entry at.back at.is in
      subst (λ (change : Change). MayPlan 1 1 m _ sizes.pages change) c.change_is p.may

  insert-reply : (key : MapKey) (value : ℕ) (reply : Reply) → FitsChange (history_of log) session (InsertChange key value) reply place → FitsTreeInsert (index_space sizes) log key reply place → IsNotFull reply
      → reply ≡ with_tree (answer (InsertChange key value)) (is_too_high 1 m key 1) free (need_of m key 1)
  insert-reply key value Inserted fits tree room =
      let c = may key value (change-at log place session (InsertChange key value) fits.1) in
      let enough = le-ltb free (need_of m key 1) c.1 in
      rw (fits.0, c.0, enough) refl
  insert-reply key value (SpaceFull left need) fits tree room =
      let few : free < need_of m key 1 = let a = tree.1 in let b = tree.2 in let c = tree.3 in omega arith in
      let short = lt-ltb free (need_of m key 1) few in
      rw (fits, tree.0, short, tree.1, tree.2) refl
  insert-reply key value TooHigh fits tree room = rw (fits, tree) refl
  insert-reply key value Duplicate fits tree room = rw fits refl
  insert-reply key value Missing fits tree room = rw fits refl
  insert-reply key value (Deleted old) fits tree room = rw fits.0 refl
  insert-reply key value (LogFull words cap) fits tree room = absurd room
  insert-reply key value (Found old) fits tree room = absurd fits
  insert-reply key value NotFound fits tree room = absurd fits
  insert-reply key value (Scanned chunks pairs) fits tree room = absurd fits

  delete-reply : (key : MapKey) (reply : Reply) → FitsChange (history_of log) session (DeleteChange key) reply place → IsNotFull reply → reply ≡ answer (DeleteChange key)
  delete-reply key Inserted fits room = sym fits.0
  delete-reply key (Deleted old) fits room = sym fits.0
  delete-reply key Duplicate fits room = sym fits
  delete-reply key Missing fits room = sym fits
  delete-reply key (LogFull words cap) fits room = absurd room
  delete-reply key (SpaceFull left need) fits room = absurd (delete-inserted (value_at key (map_after (history_of log) place)) fits)
  delete-reply key TooHigh fits room = absurd (delete-inserted (value_at key (map_after (history_of log) place)) fits)
  delete-reply key (Found old) fits room = absurd fits
  delete-reply key NotFound fits room = absurd fits
  delete-reply key (Scanned chunks pairs) fits room = absurd fits

module _ (sizes : Sizes) (log other : List Entry) (session place : ℕ) (kept : IsKeptLog sizes.pages log) (also : IsKeptLog sizes.pages other)
    (same : SaySame sizes.pages (take place log) (take place other)) where
  maps : map_after (history_of log) place ≡ map_after (history_of other) place
  maps = map-same sizes.pages log other place same

  abbrev told : MapKey → ℕ → Pairs → PageMemory → ℕ → Reply
  told key value pairs memory free = with_tree (answer_of pairs (InsertChange key value)) (is_too_high 1 memory key 1) free (need_of memory key 1)

  told-same : (key : MapKey) (value : ℕ) → told key value (map_after (history_of log) place) (tree_at (index_space sizes) log place) (free_at (index_space sizes) log place)
      ≡ told key value (map_after (history_of other) place) (tree_at (index_space sizes) other place) (free_at (index_space sizes) other place)
  told-same key value =
      ap (λ (p : Pairs). told key value p (tree_at (index_space sizes) log place) (free_at (index_space sizes) log place)) maps
      ∙ (ap (λ (m : PageMemory). told key value (map_after (history_of other) place) m (free_at (index_space sizes) log place)) same.pages_are
      ∙ ap (λ (b : ℕ → ℕ). told key value (map_after (history_of other) place) (tree_at (index_space sizes) other place) (free_of b sizes.pages)) same.bits_are)

  -- one reply fits, with one list of chunks
  pub reply-one : (call : Call) (reply reply' : Reply) (xs ys : List Span) → FitsCall (history_of log) session place call reply place xs → FitsCall (history_of other) session place call reply' place ys
      → FitsTree (index_space sizes) log call reply place xs → FitsTree (index_space sizes) other call reply' place ys → IsNotFull reply → IsNotFull reply'
      → place ≤ first_span_place xs place → place ≤ first_span_place ys place → (reply ≡ reply') × (xs ≡ ys)
  reply-one (Insert key value) reply reply' xs ys f g t u room too at here =
      (insert-reply sizes log session place kept key value reply f.0 t room ∙ (told-same key value ∙ sym (insert-reply sizes other session place also key value reply' g.0 u too)), f.1 ∙ sym g.1)
  reply-one (Delete key) reply reply' xs ys f g t u room too at here =
      (delete-reply sizes log session place kept key reply f.0 room ∙ (ap (λ (p : Pairs). answer_of p (DeleteChange key)) maps ∙ sym (delete-reply sizes other session place also key reply' g.0 too)), f.1 ∙ sym g.1)
  reply-one (Get key) reply reply' xs ys f g t u room too at here = (f.0 ∙ (ap (λ (p : Pairs). lookup_of p key) maps ∙ sym g.0), f.1 ∙ sym g.1)
  reply-one (Scan low high) reply reply' xs ys f g t u room too at here =
      let spans : xs ≡ ys = scan-one (history_of log) (history_of other) (tree_at (index_space sizes) log) (tree_at (index_space sizes) other) high place same.pages_are place low xs ys f.1 g.1 t u at here in
      (f.0 ∙ (ap (λ (s : List Span). Scanned (length s) (pair_count s)) spans ∙ sym g.0), spans)
