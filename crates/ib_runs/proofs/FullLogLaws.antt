-- Runs in which no reply tells of a full log: how they are told apart, and that they could have come of a longer log.
use Rattle.std.specs.List.{AllByRecursion, list_any}
use Rattle.std.proofs.Common.{◌≡◌, ◌∙◌, ◌↔◌, ℕ, zero, suc, ◌≤◌, false, List, [], ◌∷◌, map, drop, get_or, refl, ap, subst, arith}
use Rattle.ib_map.specs.FullRecords.{chunk_count, full_records}
use Rattle.ib_map.specs.Replies.{FullRecord, Span}
use Rattle.ib_map.specs.Runs.{AreAnswers, Runs, reach_after, run_of}
use Rattle.ib_map.specs.declared.call.Call.{Call}
use Rattle.ib_map.specs.declared.call.Record.{Record}
use Rattle.ib_map.specs.declared.call.Reply.{Reply}
use Rattle.ib_map.specs.declared.call.Reply.TheVariants.{LogFull}
use Rattle.ib_layout.specs.Geometry.{Sizes}
use Rattle.ib_logrec.specs.declared.entry.Entry.{Entry}
use Rattle.ib_logrec.specs.Log.{by_place}
use Rattle.ib_walk.specs.Trees.{content_of}
use Rattle.ib_tree.specs.Fits.{TreeSpace}
use Rattle.ib_tree.specs.Logs.{pages_after}
use Rattle.ib_runs.specs.Alone.{AreNeverFull, IsNotFull, tells_full}
use Rattle.ib_runs.specs.Answers.{KeptAnswers, answers_of}
use Rattle.ib_runs.specs.Outcomes.{HasRanUnder, IsOutcomeUnder}
use Rattle.ib_shared.specs.SharedLaw.{SharedLaw}
use Rattle.ib_runs.specs.Shared.{IsFreeOfLength, calls_under}
use Rattle.ib_runs.specs.declared.ran.Ran.{Ran}
use Rattle.ib_cursor.specs.Spaces.{space_of}
use Rattle.ib_rule.proofs.Lists.{or_denies}
use Rattle.ib_rule.proofs.RoomLaws.{had_room-wider}

-- the test of one reply
not-full : (reply : Reply) → tells_full reply ≡ false → IsNotFull reply
not-full (LogFull words cap) never = absurd (cc)
not-full reply never = tt

tells-none : (reply : Reply) → IsNotFull reply → tells_full reply ≡ false
tells-none (LogFull words cap) room = absurd room
tells-none reply room = refl

-- .. of a session's records, whose chunks do not count
records-not : (rs : List Record) (spans : List Span) → list_any (λ r. tells_full r.reply) rs ≡ false → AllByRecursion (λ r. IsNotFull r.reply) (full_records rs spans)
records-not [] spans never = tt
records-not (r ∷ rs) spans never =
    let both = or_denies (tells_full r.reply) (list_any (λ (q : Record). tells_full q.reply) rs) never in
    (not-full r.reply both.0, records-not rs (drop (chunk_count r.reply) spans) both.1)

records-tell : (rs : List Record) (spans : List Span) → AllByRecursion (λ r. IsNotFull r.reply) (full_records rs spans) → list_any (λ r. tells_full r.reply) rs ≡ false
records-tell [] spans room = refl
records-tell (r ∷ rs) spans room = rw (tells-none r.reply room.0) (records-tell rs (drop (chunk_count r.reply) spans) room.1)

-- .. of all sessions
sessions-not : (outs : List KeptAnswers) → list_any (λ out. list_any (λ r. tells_full r.reply) out.records) outs ≡ false → AreNeverFull (map answers_of outs)
sessions-not [] never = tt
sessions-not (out ∷ outs) never =
    let both = or_denies (list_any (λ (r : Record). tells_full r.reply) out.records) (list_any (λ (o : KeptAnswers). list_any (λ r. tells_full r.reply) o.records) outs) never in
    (records-not out.records _ both.0, sessions-not outs both.1)

sessions-tell : (outs : List KeptAnswers) → AreNeverFull (map answers_of outs) → list_any (λ out. list_any (λ r. tells_full r.reply) out.records) outs ≡ false
sessions-tell [] room = refl
sessions-tell (out ∷ outs) room = rw (records-tell out.records _ room.0) (sessions-tell outs room.1)

pub never_full : (outs : List KeptAnswers) → (list_any (λ out. list_any (λ r. tells_full r.reply) out.records) outs ≡ false) ↔ AreNeverFull (map answers_of outs)
never_full outs = (sessions-not outs, sessions-tell outs)

-- of one session among all
pub room_at : (runs : Runs) (n : ℕ) → AreNeverFull runs → AllByRecursion (λ r. IsNotFull r.reply) (get_or runs n [])
room_at [] n all = tt
room_at (rs ∷ runs) zero all = all.0
room_at (rs ∷ runs) (suc n) all = room_at runs n all.1

room-of : (runs : Runs) (session : ℕ) → AreNeverFull runs → AllByRecursion (λ r. IsNotFull r.reply) (run_of runs session)
room-of runs zero all = tt
room-of runs (suc n) all = room_at runs n all

-- beside a log that gets full nothing of a reply depends on how long the log is
module _ (law : SharedLaw) (free : IsFreeOfLength law) where
  answers-wider : (space : TreeSpace) (words : ℕ) (log : List Entry) (session reach : ℕ) (rs : List FullRecord) → AllByRecursion (λ r. IsNotFull r.reply) rs → AreAnswers (law.fits space log session) reach rs
      → AreAnswers (law.fits (record space { log_words = words }) log session) reach rs
  answers-wider space words log session reach [] room are = tt
  answers-wider space words log session reach (r ∷ rs) room are =
      (free.wider space words log session reach r room.0 are.0, are.1, are.2, answers-wider space words log session (reach_after r) rs room.1 are.3)

  module _ (small big : Sizes) (same : small.pages ≡ big.pages) (longer : small.log_words ≤ big.log_words) (commands : List (List Call)) where
    -- an outcome in which no log gets full is one beside a longer log
    pub outcome_wider : (runs : Runs) (log : List Entry) → AreNeverFull runs → IsOutcomeUnder (calls_under law small) small commands runs log → IsOutcomeUnder (calls_under law big) big commands runs log
    outcome_wider runs log room is = record {
      same_calls = is.same_calls;
      kept = subst (λ (n : ℕ). law.lawful n log) same is.kept;
      room = let r = is.room in omega arith;
      had_room = had_room-wider small.log_words big.log_words log longer is.had_room;
      run = λ session. record {
        answers = subst (λ (n : ℕ). AreAnswers (law.fits (record { pages = n; log_words = big.log_words; opening = by_place law.opening n }) log session) 0 (run_of runs session)) same
            (answers-wider (space_of small (by_place law.opening small.pages)) big.log_words log session 0 (run_of runs session) (room-of runs session room) (is.run session).answers);
        changes = (is.run session).changes;
      };
    }

    -- so is what came of a script's run, of the same log
    pub ran_wider : (ran : Ran) → AreNeverFull (map answers_of ran.sessions.items) → (h : HasRanUnder (calls_under law) small commands ran) → (wider : HasRanUnder (calls_under law) big commands ran) × (wider.log ≡ h.log)
    ran_wider ran room h = (
      record {
        log = h.log;
        outcome = outcome_wider (map answers_of ran.sessions.items) h.log room h.outcome;
        pages_are = h.pages_are ∙ same;
        words = h.words;
        read_off = record {
          history_is = h.read_off.history_is;
          walked = subst (λ (n : ℕ). ran.map ≡ content_of (pages_after (by_place law.opening n) h.log) 1) same h.read_off.walked;
          map_is = h.read_off.map_is;
        };
        whole = h.whole;
      },
      refl,
    )

    -- .. where the logs are as long
    pub ran_same : (ran : Ran) → small.log_words ≡ big.log_words → (h : HasRanUnder (calls_under law) small commands ran) → (wider : HasRanUnder (calls_under law) big commands ran) × (wider.log ≡ h.log)
    ran_same ran long h =
        let one : small ≡ big = ap (λ n. record { pages = n; log_words = small.log_words }) same ∙ ap (λ n. record { pages = big.pages; log_words = n }) long in
        subst (λ (k : Sizes). (wider : HasRanUnder (calls_under law) k commands ran) × (wider.log ≡ h.log)) one (h, refl)
