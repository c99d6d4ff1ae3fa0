-- The events of a text are of sessions and latches that there are.
use Rattle.std.proofs.Common.{◌≡◌, ◌≤◌, ℕ, List, [], ◌∷◌, Bool, true, false, map, refl, sym, ap, ◌∙◌, cond}
use Rattle.std.specs.Prelude.{Result, Ok, Err, nat_le, ◌&&◌}
use Rattle.std.specs.List.{AllByRecursion}
use Rattle.std.proofs.lemmas.Bool.{and_parts, leb-true}
use Rattle.ib_core.specs.declared.event.Event.{Event}
use Rattle.ib_core.specs.declared.event.Event.TheVariants.{S, Sx, X, Arm}
use Rattle.ib_core.specs.Responses.{latch_of}
use Rattle.ib_levels.specs.declared.level.Level.{Level}
use Rattle.ib_levels.specs.declared.level.Mode.{Mode}
use Rattle.ib_latch_form.specs.Events.{EventReading, IsEventInRange, events_in, event_of, event_on_latch, event_word, event_reading_of, event_reading_of_fields, latch_in, latch_in_mode, level_in, mode_in}
use Rattle.ib_io.specs.Fields.{◌>>=◌, number_in, one_field, session_in, two_fields}
use Rattle.ib_io.specs.Lines.{fields_of}
use Rattle.ib_io.specs.Lines.{is_skipped}
use Rattle.ib_latch_form.specs.declared.event_line.TheConstants.{MOST_LATCH}
use Rattle.ib_latch_form.specs.declared.event_line.EventLine.TheVariants.{Skipped, Event as EventOf}
use Rattle.ib_latch_form.specs.declared.event_line.EventWord.{EventWord}
use Rattle.ib_latch_form.specs.declared.event_line.EventWord.TheVariants.{S as WordS, Sx as WordSx, X as WordX, Arm as WordArm, OnLatch}
use Rattle.ib_latch_form.specs.declared.event_line.LatchEventWord.{LatchEventWord}
use Rattle.ib_latch_form.specs.declared.event_line.LatchEventWord.TheVariants.{Us as WordUs, Usx as WordUsx, Ux as WordUx, Flag as WordFlag, Again as WordAgain, Quit as WordQuit, Sleep as WordSleep, Ready as WordReady, Exarm as WordExarm, Look as WordLook, Clear as WordClear, Raise as WordRaise}
use Rattle.ib_io.specs.declared.line_kind.LineKind.{LineKind}
use Rattle.ib_io.specs.declared.line_kind.LineKind.TheVariants.{Session, Latch}
use Rattle.ib_io.specs.declared.line_kind.TheConstants.{MOST_SCRIPT_SESSIONS}

-- both parts of a reading that is good are good
both-ok : {A B : Type 0} (r : Result A LineKind) (f : A → Result B LineKind) (b : B) → (r >>= f) ≡ Ok b → (a : A) × (r ≡ Ok a) × (f a ≡ Ok b)
both-ok (Ok a) f b is = (a, refl, is)
both-ok (Err kind) f b is = absurd (cc)

-- a number that is taken where it passes a test has passed it
passed : (passes : ℕ → Bool) (kind : LineKind) (field : List ℕ) (n : ℕ) → (number_in field >>= (λ m. cond {A = Result ℕ LineKind} (passes m) (Ok m) (Err kind))) ≡ Ok n → passes n ≡ true
passed passes kind field n is =
    let read = both-ok (number_in field) (λ m. cond {A = Result ℕ LineKind} (passes m) (Ok m) (Err kind)) n is in
    test read.0 (passes read.0) refl read.2
  where
    test : (m : ℕ) (b : Bool) → passes m ≡ b → cond {A = Result ℕ LineKind} b (Ok m) (Err kind) ≡ Ok n → passes n ≡ true
    test m true pass is = let same : m ≡ n = cc in rw same at pass
    test m false pass is = absurd (cc)

session_in-range : (field : List ℕ) (n : ℕ) → session_in field ≡ Ok n → (1 ≤ n) × (n ≤ MOST_SCRIPT_SESSIONS)
session_in-range field n is =
    let within = and_parts (nat_le 1 n) (nat_le n MOST_SCRIPT_SESSIONS) (passed (λ n. nat_le 1 n && nat_le n MOST_SCRIPT_SESSIONS) Session field n is) in
    (leb-true 1 n within.0, leb-true n MOST_SCRIPT_SESSIONS within.1)

latch_in-range : (field : List ℕ) (n : ℕ) → latch_in field ≡ Ok n → n ≤ MOST_LATCH
latch_in-range field n is = leb-true n MOST_LATCH (passed (λ n. nat_le n MOST_LATCH) Latch field n is)

alone-range : (fields : List (List ℕ)) (n : ℕ) → one_field latch_in fields ≡ Ok n → n ≤ MOST_LATCH
alone-range [] n is = absurd (cc)
alone-range (l ∷ []) n is = latch_in-range l n is
alone-range (l ∷ m ∷ fields) n is = absurd (cc)

level-range : (fields : List (List ℕ)) (at : ℕ × Level) → two_fields latch_in level_in fields ≡ Ok at → at.0 ≤ MOST_LATCH
level-range [] at is = absurd (cc)
level-range (l ∷ []) at is = absurd (cc)
level-range (l ∷ v ∷ []) at is =
    let latch = both-ok (latch_in l) (λ latch. level_in v >>= (λ level. Ok (latch, level))) at is in
    let level = both-ok (level_in v) (λ level. Ok (latch.0, level)) at latch.2 in
    let same : latch.0 ≡ at.0 = cc in
    rw same at (latch_in-range l latch.0 latch.1)
level-range (l ∷ v ∷ m ∷ fields) at is = absurd (cc)

mode-range : (fields : List (List ℕ)) (at : ℕ × Mode × Level) → latch_in_mode fields ≡ Ok at → at.0 ≤ MOST_LATCH
mode-range [] at is = absurd (cc)
mode-range (l ∷ []) at is = absurd (cc)
mode-range (l ∷ m ∷ []) at is = absurd (cc)
mode-range (l ∷ m ∷ v ∷ []) at is =
    let latch = both-ok (latch_in l) (λ latch. mode_in m >>= (λ mode. level_in v >>= (λ level. Ok (latch, mode, level)))) at is in
    let mode = both-ok (mode_in m) (λ mode. level_in v >>= (λ level. Ok (latch.0, mode, level))) at latch.2 in
    let level = both-ok (level_in v) (λ level. Ok (latch.0, mode.0, level)) at mode.2 in
    let same : latch.0 ≡ at.0 = cc in
    rw same at (latch_in-range l latch.0 latch.1)
mode-range (l ∷ m ∷ v ∷ n ∷ fields) at is = absurd (cc)

-- an event made of a latch that is read
made-alone : (make : ℕ → Event) → ((n : ℕ) → latch_of (make n) ≡ n) → (fields : List (List ℕ)) (event : Event) → (one_field latch_in fields >>= (λ latch. Ok (make latch))) ≡ Ok event → latch_of event ≤ MOST_LATCH
made-alone make of fields event is =
    let read = both-ok (one_field latch_in fields) (λ latch. Ok (make latch)) event is in
    let same : latch_of event ≡ read.0 = let e : make read.0 ≡ event = cc in ap latch_of (sym e) ∙ of read.0 in
    rw (sym same) at (alone-range fields read.0 read.1)

made-at-level : (make : ℕ → Level → Event) → ((n : ℕ) (v : Level) → latch_of (make n v) ≡ n) → (fields : List (List ℕ)) (event : Event)
    → (two_fields latch_in level_in fields >>= (λ at. Ok (make at.0 at.1))) ≡ Ok event → latch_of event ≤ MOST_LATCH
made-at-level make of fields event is =
    let read = both-ok (two_fields latch_in level_in fields) (λ at. Ok (make at.0 at.1)) event is in
    let same : latch_of event ≡ read.0.0 = let e : make read.0.0 read.0.1 ≡ event = cc in ap latch_of (sym e) ∙ of read.0.0 read.0.1 in
    rw (sym same) at (level-range fields read.0 read.1)

latch-on : (word : LatchEventWord) (latch : ℕ) → latch_of (event_on_latch word latch) ≡ latch
latch-on WordUs latch = refl
latch-on WordUsx latch = refl
latch-on WordUx latch = refl
latch-on WordFlag latch = refl
latch-on WordAgain latch = refl
latch-on WordQuit latch = refl
latch-on WordSleep latch = refl
latch-on WordReady latch = refl
latch-on WordExarm latch = refl
latch-on WordLook latch = refl
latch-on WordClear latch = refl
latch-on WordRaise latch = refl

event-range : (word : EventWord) (fields : List (List ℕ)) (event : Event) → event_of word fields ≡ Ok event → latch_of event ≤ MOST_LATCH
event-range WordS fields event is = made-at-level S (λ n v. refl) fields event is
event-range WordSx fields event is = made-at-level Sx (λ n v. refl) fields event is
event-range WordX fields event is = made-at-level X (λ n v. refl) fields event is
event-range WordArm fields event is =
    let read = both-ok (latch_in_mode fields) (λ at. Ok (Arm at.0 at.1 at.2)) event is in
    let same : latch_of event ≡ read.0.0 = let e : Arm read.0.0 read.0.1 read.0.2 ≡ event = cc in ap latch_of (sym e) in
    rw (sym same) at (mode-range fields read.0 read.1)
event-range (OnLatch word) fields event is = made-alone (event_on_latch word) (latch-on word) fields event is

fields-range : (fields : List (List ℕ)) (session : ℕ) (event : Event) → event_reading_of_fields fields ≡ Ok (EventOf session event) → IsEventInRange (session, event)
fields-range [] session event is = absurd (cc)
fields-range (n ∷ []) session event is = absurd (cc)
fields-range (n ∷ word ∷ fields) session event is =
    let first = both-ok (session_in n) (λ session. event_word word >>= (λ step. event_of step fields >>= (λ event. Ok (EventOf session event)))) (EventOf session event) is in
    let second = both-ok (event_word word) (λ step. event_of step fields >>= (λ event. Ok (EventOf first.0 event))) (EventOf session event) first.2 in
    let third = both-ok (event_of second.0 fields) (λ event. Ok (EventOf first.0 event)) (EventOf session event) second.2 in
    let same : first.0 ≡ session = cc in
    let same-event : third.0 ≡ event = cc in
    let sessions : (1 ≤ session) × (session ≤ MOST_SCRIPT_SESSIONS) = rw same at (session_in-range n first.0 first.1) in
    let latch : latch_of event ≤ MOST_LATCH = rw same-event at (event-range second.0 fields third.0 third.1) in
    (sessions.0, sessions.1, latch)

line-range : (line : List ℕ) (session : ℕ) (event : Event) → event_reading_of line ≡ Ok (EventOf session event) → IsEventInRange (session, event)
line-range line session event = go (is_skipped line)
  where
    go : (b : Bool) → cond {A = EventReading} b (Ok Skipped) (event_reading_of_fields (fields_of line)) ≡ Ok (EventOf session event) → IsEventInRange (session, event)
    go true is = absurd (cc)
    go false is = fields-range (fields_of line) session event is

one-more : (reading : EventReading) (readings : List EventReading) → ((session : ℕ) (event : Event) → reading ≡ Ok (EventOf session event) → IsEventInRange (session, event))
    → AllByRecursion IsEventInRange (events_in readings) → AllByRecursion IsEventInRange (events_in (reading ∷ readings))
one-more (Ok (EventOf session event)) readings known all = (known session event refl, all)
one-more (Ok Skipped) readings known all = all
one-more (Err kind) readings known all = all

pub events-in-range : (lines : List (List ℕ)) → AllByRecursion IsEventInRange (events_in (map event_reading_of lines))
events-in-range [] = tt
events-in-range (line ∷ lines) = one-more (event_reading_of line) (map event_reading_of lines) (line-range line) (events-in-range lines)
