-- An insert into both trees that ended where it holds both paths was answered: while the index is claimed nothing of others comes to the log, so it has at the call's place what had been seen.
use Rattle.std.specs.Prelude.{is_some, Result, Ok, Err, ◌||◌}
use Rattle.std.proofs.Common.{◌≡◌, ◌⊎◌, inl, inr, ◌∙◌, ℕ, ◌<◌, ◌≤◌, Bool, true, false, cond, List, length, Option, Some, None, take, refl, sym, ap, subst, arith}
use Rattle.ib_map.specs.Keys.{MapKey}
use Rattle.ib_map.specs.Map.{answer_of, is_made}
use Rattle.ib_map.specs.Pairs.{value_at}
use Rattle.ib_map.specs.History.{map_after}
use Rattle.ib_map.specs.Replies.{FitsChange, FullRecord}
use Rattle.ib_map.specs.declared.call.Call.TheVariants.{Insert as InsertCall}
use Rattle.ib_map.specs.declared.call.Change.TheVariants.{Insert}
use Rattle.ib_map.specs.declared.call.Record.{Record}
use Rattle.ib_map.specs.declared.call.Reply.{Reply}
use Rattle.ib_map.specs.declared.call.Reply.TheVariants.{Inserted, Duplicate, LogFull as LogFullReply, SpaceFull, TooHigh}
use Rattle.ib_levels.specs.declared.level.Level.{Level}
use Rattle.ib_page.specs.Work.{WorkPage}
use Rattle.ib_layout.specs.Geometry.{Sizes}
use Rattle.ib_logrec.specs.declared.entry.Entry.{Entry}
use Rattle.ib_logrec.specs.Log.{history_of, map_of, by_place}
use Rattle.ib_logrec.proofs.LogLaws.{length-history_of}
use Rattle.ib_walk.specs.Full.{free_of}
use Rattle.ib_walk.specs.Words.{bits_of, pages_of}
use Rattle.ib_plans.specs.Agreement.{HasTreePages, last_of, memory_in}
use Rattle.ib_tree.specs.Fits.{FitsInsert}
use Rattle.ib_frames.specs.declared.appends.LogFull.{LogFull}
use Rattle.ib_rule.specs.Pass.{PassState}
use Rattle.ib_rule.specs.Stores.{IsLook}
use Rattle.ib_mtr.specs.Commits.{HasCommitted, HasRead, IsFull}
use Rattle.ib_mtr.specs.Mtr.{with_work}
use Rattle.ib_cursor.specs.Going.{WentOn}
use Rattle.ib_cursor.specs.Spaces.{space_of}
use Rattle.ib_leaf.specs.Calls.{HasCalledBy}
use Rattle.ib_second_key.specs.SecondKeys.{second_key_of}
use Rattle.ib_pair_law.specs.Opening.{pair_opening}
use Rattle.ib_pair_law.specs.PairFits.{FitsPairLog, is_pair_too_high, pair_need_of}
use Rattle.ib_pair_law.specs.PairKept.{IsPairLog}
use Rattle.ib_pair_law.proofs.PushLaws.{first-before}
use Rattle.ib_pair_change.specs.PairCommits.{words_after}
use Rattle.ib_pair_change.proofs.BehindLaws.{leaf-content}
use Rattle.ib_second.specs.Calls.{HasCalledPair, pair_calls}
use Rattle.ib_second.specs.PairComes.{HasRefused, HasTakenAll, LacksPages}
use Rattle.ib_second.specs.PairReady.{bits_seen, pages_seen}
use Rattle.ib_leaf.specs.Leaf.{IsSeated}
use Rattle.ib_second.specs.Stands.{StandsOnPair}
use Rattle.ib_leaf.proofs.CallEnds.{called-committed, called-full, called-read, at-r, entry-c, log-full, looked-f, whole-f, whole-r, within-c}
use Rattle.ib_leaf.proofs.CommitLaws.{CommitAnswered}
use Rattle.ib_second.proofs.PairCalls.{log-seen, value-committed, value-full, value-read}
use Rattle.ib_second.proofs.StandLaws.{agrees-first}

-- one of two tests is true, or neither is
pub either-high : (a b : Bool) → (a ≡ true) ⊎ (b ≡ true) → (a || b) ≡ true
either-high true b h = refl
either-high false b (inl first) = absurd (let z : false ≡ true = first in cc)
either-high false b (inr second) = second

pub neither : (a b : Bool) → a ≡ false → b ≡ false → (a || b) ≡ false
neither true b first second = first
neither false b first second = second

module _ (sizes : Sizes) (key : MapKey) (value : ℕ) (path path2 : List ℕ) (held : List (ℕ × Level)) (p q : PassState) (went : WentOn p q) (looked : 0 < length went.added)
    (stands : StandsOnPair sizes key path (second_key_of key value) path2 held q) (trees : HasTreePages path q.work) (seated : IsSeated sizes q) where
  abbrev start : ℕ → ℕ
  start = by_place pair_opening sizes.pages

  abbrev lawful : List Entry → Type 0
  lawful = IsPairLog sizes.pages

  abbrev fits_log : List Entry → ℕ → ℕ → FullRecord → Type 0
  fits_log = FitsPairLog (space_of sizes start)

  abbrev seen : List Entry
  seen = q.view.memory.seen

  -- what the last page of the path has of the key
  abbrev pub value_there : Option ℕ
  value_there = value_at key (memory_in q.work (last_of path)).records

  value-seen : value_at key (map_of seen) ≡ value_there
  value-seen =
      ap (value_at key) (sym (first-before sizes.pages seated.fits seen stands.known.legal))
      ∙ leaf-content sizes.pages 2 1 key path q.work (pages_seen sizes q) (bits_seen sizes q) (agrees-first sizes seated.fits key path (second_key_of key value) path2 held q stands) trees

  -- nothing of others is seen
  others-none : (log : List Entry) → IsLook sizes lawful q.view log → log ≡ seen
  others-none = log-seen sizes key p q went looked stands.claimed stands.known seated

  abbrev would : Option ℕ → Reply
  would o = cond (is_some o) Duplicate Inserted

  -- the call ended without a change
  module _ (place : ℕ) (r : PassState) (read : HasRead sizes lawful q place r) where
    whole : take place r.view.memory.seen ≡ seen
    whole = whole-r sizes (pair_calls sizes) p q went looked seated.role place r read ∙ others-none read.log read.looked

    answer-r : answer_of (map_after (history_of r.view.memory.seen) place) (Insert key value) ≡ would value_there
    answer-r = ap would (value-read sizes key p q went looked stands.claimed stands.known seated place r read ∙ value-seen)

    refused : (reply : Reply) → is_made reply ≡ false → FitsChange (history_of r.view.memory.seen) r.number (Insert key value) reply place
        → FitsInsert (is_pair_too_high (pages_of (words_after sizes.pages (take place r.view.memory.seen))) key value) (pair_need_of (pages_of (words_after sizes.pages (take place r.view.memory.seen))) key value) (space_of sizes start) r.view.memory.seen reply place
        → HasCalledBy fits_log sizes lawful (InsertCall key value) (record { call = InsertCall key value; reply = reply; place = place }) p r
    refused reply not_made change tree =
        called-read sizes (pair_calls sizes) p q went looked seated.role place r read (InsertCall key value) reply not_made
        ((let at = at-r sizes (pair_calls sizes) p q went looked seated.role place r read in omega arith), (change, tree, refl))

    pub called-duplicate : (old : ℕ) → value_there ≡ Some old
        → HasCalledBy fits_log sizes lawful (InsertCall key value) (record { call = InsertCall key value; reply = Duplicate; place = place }) p r
    called-duplicate old some = refused Duplicate refl (answer-r ∙ ap would some) tt

    module _ (missing : value_there ≡ None) where
      inserts : answer_of (map_after (history_of r.view.memory.seen) place) (Insert key value) ≡ Inserted
      inserts = answer-r ∙ ap would missing

      pub called-high : is_pair_too_high (pages_seen sizes q) key value ≡ true
          → HasCalledBy fits_log sizes lawful (InsertCall key value) (record { call = InsertCall key value; reply = TooHigh; place = place }) p r
      called-high high = refused TooHigh refl inserts (subst (λ (log : List Entry). is_pair_too_high (pages_of (words_after sizes.pages log)) key value ≡ true) (sym whole) high)

      pub called-short : (free need : ℕ) → LacksPages sizes key value free need q
          → HasCalledBy fits_log sizes lawful (InsertCall key value) (record { call = InsertCall key value; reply = SpaceFull free need; place = place }) p r
      called-short free need lacks = refused (SpaceFull free need) refl inserts
          (subst (λ (log : List Entry). (is_pair_too_high (pages_of (words_after sizes.pages log)) key value ≡ false) × (free ≡ free_of (bits_of sizes.pages (words_after sizes.pages log)) sizes.pages)
          × (need ≡ pair_need_of (pages_of (words_after sizes.pages log)) key value) × (free < need)) (sym whole)
          (neither _ _ lacks.low lacks.other_low, lacks.free_is, lacks.need_is, lacks.short))

  module _ (missing : value_there ≡ None) (work : List WorkPage) where
    -- the log had no room for the change
    called-full-insert : (full : LogFull) (r : PassState) → IsFull sizes lawful (with_work work q) full r
        → is_pair_too_high (pages_seen sizes q) key value ≡ false → pair_need_of (pages_seen sizes q) key value ≤ free_of (bits_seen sizes q) sizes.pages
        → HasCalledBy fits_log sizes lawful (InsertCall key value) (record { call = InsertCall key value; reply = LogFullReply full.used full.cap; place = length r.view.memory.seen }) p r
    called-full-insert full r f low enough =
        let same = others-none f.log (looked-f sizes (pair_calls sizes) p q went looked seated.role work full r f) in
        let made : is_made (answer_of (map_of r.view.memory.seen) (Insert key value)) ≡ true =
        ap (λ (o : Option ℕ). is_made (would o)) (value-full sizes key p q went looked stands.claimed stands.known seated work full r f ∙ (value-seen ∙ missing)) in
        let both = subst (λ (log : List Entry). (is_pair_too_high (pages_of (words_after sizes.pages log)) key value ≡ false)
        × (pair_need_of (pages_of (words_after sizes.pages log)) key value ≤ free_of (bits_of sizes.pages (words_after sizes.pages log)) sizes.pages))
        (sym (whole-f sizes (pair_calls sizes) p q went looked seated.role work full r f ∙ same)) (low, enough) in
        called-full sizes (pair_calls sizes) p q went looked seated.role work full r f (InsertCall key value)
        ((omega arith), (made, (both.0, both.1, log-full sizes (pair_calls sizes) p q went looked seated.role work full r f), refl))

    -- the change was committed
    called-inserted : (place : ℕ) (r : PassState) → HasCommitted sizes lawful start (Insert key value) (with_work work q) place r
        → HasCalledBy fits_log sizes lawful (InsertCall key value) (record { call = InsertCall key value; reply = Inserted; place = place }) p r
    called-inserted place r c =
        let none = value-committed sizes key p q went looked stands.claimed stands.known seated work (Insert key value) place r c ∙ (value-seen ∙ missing) in
        let within = within-c sizes (pair_calls sizes) p q went looked seated.role work (Insert key value) place r c in
        let long = length-history_of r.view.memory.seen in
        called-committed sizes (pair_calls sizes) p q went looked seated.role work (Insert key value) place r c (InsertCall key value) Inserted refl
        ((omega arith), ((ap would none, entry-c sizes (pair_calls sizes) p q went looked seated.role work (Insert key value) place r c), tt, refl))

  -- what a commit of the insert was answered
  pub called-ended : (o : Result ℕ LogFull) (work : List WorkPage) (answer : Record) (r : PassState) → value_there ≡ None
      → is_pair_too_high (pages_seen sizes q) key value ≡ false → pair_need_of (pages_seen sizes q) key value ≤ free_of (bits_seen sizes q) sizes.pages
      → CommitAnswered sizes (pair_calls sizes) (InsertCall key value) (Insert key value) Inserted o answer (with_work work q) r
      → HasCalledBy fits_log sizes lawful (InsertCall key value) answer p r
  called-ended (Ok place) work answer r missing low enough ends =
      subst (λ a. HasCalledBy fits_log sizes lawful (InsertCall key value) a p r) (sym ends.as_made) (called-inserted missing work place r ends.committed)
  called-ended (Err fault) work answer r missing low enough ends =
      subst (λ a. HasCalledBy fits_log sizes lawful (InsertCall key value) a p r) (sym ends.as_full) (called-full-insert missing work fault r ends.refused low enough)

-- an insert that was refused was answered
pub called-refused : (sizes : Sizes) (key : MapKey) (value : ℕ) (reply : Reply) (p q : PassState) → HasRefused sizes key value reply p q → IsSeated sizes q
    → (place : ℕ) (r : PassState) → HasRead sizes (IsPairLog sizes.pages) q place r → HasCalledPair sizes (InsertCall key value) (record { call = InsertCall key value; reply = reply; place = place }) p r
called-refused sizes key value reply p q h seated place r read = elim h.why [
  | inl there ↦ back there.0 (called-duplicate sizes key value h.path h.other_path h.held p q h.went h.looked h.stands h.trees seated place r read there.1 there.2)
  | inr (inl high) ↦ back high.0 (called-high sizes key value h.path h.other_path h.held p q h.went h.looked h.stands h.trees seated place r read high.1 (either-high _ _ high.2))
  | inr (inr few) ↦ back few.2 (called-short sizes key value h.path h.other_path h.held p q h.went h.looked h.stands h.trees seated place r read few.3 few.0 few.1 few.4)
]
  where
    back : {other : Reply} → reply ≡ other → HasCalledPair sizes (InsertCall key value) (record { call = InsertCall key value; reply = other; place = place }) p r
        → HasCalledPair sizes (InsertCall key value) (record { call = InsertCall key value; reply = reply; place = place }) p r
    back is called = subst (λ (a : Reply). HasCalledPair sizes (InsertCall key value) (record { call = InsertCall key value; reply = a; place = place }) p r) (sym is) called

-- an insert that holds all was answered by its commit
pub called-taken : (sizes : Sizes) (key : MapKey) (value : ℕ) (path path2 fresh fresh2 : List ℕ) (p q : PassState) → HasTakenAll sizes key value path path2 fresh fresh2 p q → IsSeated sizes q
    → (o : Result ℕ LogFull) (work : List WorkPage) (answer : Record) (r : PassState)
    → CommitAnswered sizes (pair_calls sizes) (InsertCall key value) (Insert key value) Inserted o answer (with_work work q) r → HasCalledPair sizes (InsertCall key value) answer p r
called-taken sizes key value path path2 fresh fresh2 p q h seated o work answer r ends =
    let ready = h.taken.ready in
    called-ended sizes key value path path2 h.taken.held p q h.went h.looked ready.stands ready.images.path_there seated o work answer r
    ready.missing (neither _ _ ready.low ready.other_low) ready.enough ends
