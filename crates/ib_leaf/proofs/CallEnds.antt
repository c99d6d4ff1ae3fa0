-- The ends of a call that went on to a state and ended there: without a change, with the log full, or by a commit. The law says which logs are lawful, and when a record fits one.
use Rattle.std.specs.Prelude.{slice_get}
use Rattle.std.proofs.Common.{◌≡◌, ℕ, ◌+◌, ◌<◌, ◌≤◌, true, false, List, [], ◌∷◌, ◌++◌, length, Some, take, refl, sym, ap, subst, ◌∙◌, arith, length-append}
use Rattle.std.proofs.Math.Seq.{take-length}
use Rattle.ib_map.specs.Map.{is_made}
use Rattle.ib_map.specs.History.{map_after}
use Rattle.ib_map.specs.Replies.{IsEntryOf, full_record}
use Rattle.ib_map.specs.declared.call.Call.{Call}
use Rattle.ib_map.specs.declared.call.Change.{Change}
use Rattle.ib_map.specs.declared.call.LoggedChange.{LoggedChange}
use Rattle.ib_map.specs.declared.call.Reply.{Reply}
use Rattle.ib_map.specs.declared.call.Reply.TheVariants.{LogFull as LogFullReply}
use Rattle.ib_map.proofs.HistoryLaws.{map_after-append, slice_get-last}
use Rattle.ib_page.specs.Work.{WorkPage}
use Rattle.ib_layout.specs.Geometry.{Sizes}
use Rattle.ib_logrec.specs.declared.entry.Entry.{Entry}
use Rattle.ib_logrec.specs.Log.{history_of, logged, map_of, used}
use Rattle.ib_logrec.proofs.LogLaws.{history_of-push, length-history_of}
use Rattle.ib_tree.specs.Fits.{IsLogFull}
use Rattle.ib_frames.specs.declared.appends.LogFull.{LogFull}
use Rattle.ib_rule.specs.declared.memory.Knowledge.{Knowledge}
use Rattle.ib_rule.specs.declared.view.Role.TheVariants.{Session}
use Rattle.ib_rule.specs.Memory.{entries_of}
use Rattle.ib_rule.specs.Pass.{PassState}
use Rattle.ib_rule.specs.Stores.{IsLook}
use Rattle.ib_mtr.specs.Commits.{HasCommitted, HasEnded, HasRead, IsFull, commit_entry, commit_grants}
use Rattle.ib_mtr.specs.Mtr.{with_work}
use Rattle.ib_cursor.specs.Going.{IsKnown, WentOn}
use Rattle.ib_cursor.specs.Spaces.{space_of}
use Rattle.ib_leaf.specs.Calls.{CallLaw, HasCalledBy}
use Rattle.ib_leaf.specs.Ends.{IsEnd}
use Rattle.ib_leaf.proofs.CallLaws.{called-by, ended-before, push-end, read-end, read-known}

module _ (sizes : Sizes) (law : CallLaw) (p q : PassState) (went : WentOn p q) (looked : 0 < length went.added) (role : q.view.role ≡ Session q.number) where
  -- the call ended without a change
  module _ (place : ℕ) (r : PassState) (read : HasRead sizes law.lawful q place r) where
    pub log-r : r.view.memory.seen ≡ read.log
    log-r = ap (λ (m : Knowledge). m.seen) read.ended.memory

    pub at-r : place ≡ length r.view.memory.seen
    at-r = read.place ∙ ap length (sym log-r)

    pub whole-r : take place r.view.memory.seen ≡ read.log
    whole-r = ap (λ n. take n r.view.memory.seen) at-r ∙ (take-length r.view.memory.seen ∙ log-r)

    pub within-r : place ≤ length (history_of r.view.memory.seen)
    within-r = let long = length-history_of r.view.memory.seen in let at = at-r in omega arith

    -- the map at the place is that of all seen
    pub map-r : map_after (history_of r.view.memory.seen) place ≡ map_of r.view.memory.seen
    map-r = ap (map_after (history_of r.view.memory.seen)) at-r

    pub known-r : IsKnown sizes law.lawful r
    known-r = read-known sizes law.lawful q r read.log place q.view.grants read.looked read.place role read.ended

    pub called-read : (call : Call) (reply : Reply) → is_made reply ≡ false
        → law.fits r.view.memory.seen r.number (length p.view.memory.seen) (full_record (record { call = call; reply = reply; place = place }) [])
        → HasCalledBy law.fits sizes law.lawful call (record { call = call; reply = reply; place = place }) p r
    called-read call reply not_made fits =
        called-by law.fits sizes law.lawful call reply place p q r went looked
        (read-end sizes law.lawful q r read.log place q.view.grants read.looked read.place read.ended) known-r
        (sym at-r ∙ rw not_made refl) fits (rw not_made (ap (λ (m : Knowledge). m.own) read.ended.memory))

  -- the log had no room for the change
  module _ (work : List WorkPage) (full : LogFull) (r : PassState) (f : IsFull sizes law.lawful (with_work work q) full r) where
    -- of the pass with its pages as they were
    ended-f : HasEnded q (commit_grants q) f.log q.view.memory.own (q.view.memory.ends ++ length f.log ∷ []) r
    ended-f = ended-before q r work (commit_grants q) f.log q.view.memory.own (q.view.memory.ends ++ length f.log ∷ []) f.ended

    pub looked-f : IsLook sizes law.lawful q.view f.log
    looked-f = f.looked

    pub log-f : r.view.memory.seen ≡ f.log
    log-f = ap (λ (m : Knowledge). m.seen) f.ended.memory

    pub whole-f : take (length r.view.memory.seen) r.view.memory.seen ≡ f.log
    whole-f = take-length r.view.memory.seen ∙ log-f

    pub within-f : length r.view.memory.seen ≤ length (history_of r.view.memory.seen)
    within-f = let long = length-history_of r.view.memory.seen in omega arith

    pub log-full : IsLogFull (space_of sizes law.start) r.view.memory.seen (length r.view.memory.seen) full.used full.cap
    log-full = record {
      words_are = f.words ∙ ap used (sym whole-f);
      cap_is = f.cap;
      short = let a = f.short in let b = f.words in omega arith;
    }

    pub known-f : IsKnown sizes law.lawful r
    known-f = read-known sizes law.lawful q r f.log (length f.log) (commit_grants q) looked-f refl role ended-f

    pub called-full : (call : Call)
        → law.fits r.view.memory.seen r.number (length p.view.memory.seen) (full_record (record { call = call; reply = LogFullReply full.used full.cap; place = length r.view.memory.seen }) [])
        → HasCalledBy law.fits sizes law.lawful call (record { call = call; reply = LogFullReply full.used full.cap; place = length r.view.memory.seen }) p r
    called-full call fits =
        let end = subst (IsEnd q r) (ap length (sym log-f)) (read-end sizes law.lawful q r f.log (length f.log) (commit_grants q) looked-f refl ended-f) in
        called-by law.fits sizes law.lawful call (LogFullReply full.used full.cap) (length r.view.memory.seen) p q r went looked end known-f refl fits
        (ap (λ (m : Knowledge). m.own) f.ended.memory)

  -- the change was committed
  module _ (work : List WorkPage) (change : Change) (place : ℕ) (r : PassState) (c : HasCommitted sizes law.lawful law.start change (with_work work q) place r) where
    abbrev e : Entry
    e = commit_entry (with_work work q) change

    ended-c : HasEnded q (commit_grants q) (c.log ++ e ∷ []) (q.view.memory.own ++ e ∷ []) (q.view.memory.ends ++ place ∷ []) r
    ended-c = ended-before q r work (commit_grants q) (c.log ++ e ∷ []) (q.view.memory.own ++ e ∷ []) (q.view.memory.ends ++ place ∷ []) c.ended

    pub looked-c : IsLook sizes law.lawful q.view c.log
    looked-c = c.looked

    seen-c : r.view.memory.seen ≡ c.log ++ e ∷ []
    seen-c = ap (λ (m : Knowledge). m.seen) c.ended.memory

    pub end-c : IsEnd q r place
    end-c = push-end sizes law.lawful q r c.log place (commit_grants q) looked-c c.place e (q.view.memory.own ++ e ∷ []) ended-c

    number-c : r.number ≡ q.number
    number-c = ap (λ (s : PassState). s.number) c.ended.pass

    known-c : IsKnown sizes law.lawful r
    known-c =
        let own : r.view.memory.own ≡ q.view.memory.own ++ e ∷ [] = ap (λ (m : Knowledge). m.own) c.ended.memory in
        record {
          legal = subst law.lawful (sym seen-c) c.legal;
          room = subst (λ (es : List Entry). used es ≤ sizes.log_words) (sym seen-c) c.room;
          mine = ap (λ n. entries_of n r.view.memory.seen) number-c ∙ (ap (entries_of q.number) seen-c ∙ (c.mine ∙ sym own));
        }

    history-c : history_of r.view.memory.seen ≡ history_of c.log ++ logged e ∷ []
    history-c = ap history_of seen-c ∙ history_of-push c.log e

    -- the map at the place is that of the log before, and the entry stands there
    pub map-c : map_after (history_of r.view.memory.seen) place ≡ map_of c.log
    map-c =
        let long = length-history_of c.log in let at = c.place in
        ap (λ n. map_after (history_of r.view.memory.seen) n) at
        ∙ (ap (λ (hs : List LoggedChange). map_after hs (length c.log)) history-c ∙ map_after-append (history_of c.log) (logged e ∷ []) (length c.log) (omega arith))

    pub entry-c : IsEntryOf (history_of r.view.memory.seen) place r.number change
    entry-c =
        let at : place ≡ length (history_of c.log) = c.place ∙ sym (length-history_of c.log) in
        let stands = subst (λ n. slice_get (history_of c.log ++ logged e ∷ []) n ≡ Some (logged e)) (sym at) (slice_get-last (history_of c.log) (logged e)) in
        (logged e, subst (λ (hs : List LoggedChange). slice_get hs place ≡ Some (logged e)) (sym history-c) stands, sym number-c, refl)

    pub within-c : place ≤ length (history_of r.view.memory.seen)
    within-c = let long = length-history_of r.view.memory.seen in let high = end-c.high in omega arith

    pub called-committed : (call : Call) (reply : Reply) → is_made reply ≡ true
        → law.fits r.view.memory.seen r.number (length p.view.memory.seen) (full_record (record { call = call; reply = reply; place = place }) [])
        → HasCalledBy law.fits sizes law.lawful call (record { call = call; reply = reply; place = place }) p r
    called-committed call reply made fits =
        let reach : length r.view.memory.seen ≡ place + 1 = (let a = ap length seen-c in let b = length-append c.log (e ∷ []) in let at = c.place in omega arith) in
        called-by law.fits sizes law.lawful call reply place p q r went looked end-c known-c (reach ∙ rw made refl) fits
        (rw made (c.log, e, seen-c, ap (λ (m : Knowledge). m.own) c.ended.memory))
