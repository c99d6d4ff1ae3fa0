-- One more line of events is read.
use Rattle.std.proofs.Common.{◌≡◌, ◌∙◌, ℕ, ◌+◌, ◌<◌, List, [], ◌∷◌, ◌++◌, ap, sym, refl, length, append-nil, arith}
use Rattle.std.specs.Prelude.{None, Ok, true}
use Rattle.std.proofs.lemmas.Bool.{lt-ltb}
use Rattle.std.proofs.lemmas.List.{length_push}
use Rattle.std.proofs.lemmas.List.Elements.{filter_map-append}
use Rattle.ib_core.specs.declared.event.Event.{Event}
use Rattle.ib_latch_form.specs.Events.{EventReading, AreEvents, AreMany, event_in, events_in, event_fault_behind, is_event}
use Rattle.ib_latch_form.specs.declared.event_line.TheConstants.{MOST_EVENTS}
use Rattle.ib_latch_form.specs.declared.event_line.EventLine.TheVariants.{Skipped, Event as EventOf}

-- a line that says nothing
pub taken_skipped : (reading : EventReading) (events : List (ℕ × Event)) → reading ≡ Ok Skipped → (before : List EventReading) → AreEvents before events
    → (event_fault_behind before reading ≡ None) × AreEvents (before ++ reading ∷ []) events
taken_skipped reading events is before are =
    let none : events_in (reading ∷ []) ≡ [] = rw is in
    let good : event_fault_behind before reading ≡ None = rw is in
    (good, are ∙ sym (filter_map-append event_in before (reading ∷ []) ∙ ap (λ more. events_in before ++ more) none ∙ append-nil (events_in before)))

-- nothing is wrong with a line with an event, where there is room
pub good_event : (reading : EventReading) (events : List (ℕ × Event)) (session : ℕ) (event : Event) → reading ≡ Ok (EventOf session event) → length events < MOST_EVENTS
    → (before : List EventReading) → AreEvents before events → (event_fault_behind before reading ≡ None) × (is_event reading ≡ true)
good_event reading events session event is few before are =
    let room : length (events_in before) < MOST_EVENTS = omega (arith, few, ap length are) in
    let good : event_fault_behind before reading ≡ None = rw (is, lt-ltb _ _ room) in
    let said : is_event reading ≡ true = rw is in
    (good, said)

-- a line with an event
pub taken_event : (reading : EventReading) (events new : List (ℕ × Event)) (session : ℕ) (event : Event) → reading ≡ Ok (EventOf session event) → length events < MOST_EVENTS
    → new ≡ events ++ (session, event) ∷ [] → (before : List EventReading) → AreEvents before events
    → (event_fault_behind before reading ≡ None) × AreEvents (before ++ reading ∷ []) new
taken_event reading events new session event is few added before are =
    let one : events_in (reading ∷ []) ≡ (session, event) ∷ [] = rw is in
    ((good_event reading events session event is few before are).0, added ∙ ap (λ list. list ++ (session, event) ∷ []) are ∙ ap (λ more. events_in before ++ more) (sym one) ∙ sym (filter_map-append event_in before (reading ∷ [])))

-- the same of how many there are
pub counted_skipped : (reading : EventReading) (count : ℕ) → reading ≡ Ok Skipped → (before : List EventReading) → AreMany before count
    → (event_fault_behind before reading ≡ None) × AreMany (before ++ reading ∷ []) count
counted_skipped reading count is before are =
    let taken : (event_fault_behind before reading ≡ None) × AreEvents (before ++ reading ∷ []) (events_in before) = taken_skipped reading (events_in before) is before refl in
    (taken.0, are ∙ ap length taken.1)

pub counted_event : (reading : EventReading) (count session : ℕ) (event : Event) → reading ≡ Ok (EventOf session event) → count < MOST_EVENTS
    → (before : List EventReading) → AreMany before count → (event_fault_behind before reading ≡ None) × AreMany (before ++ reading ∷ []) (count + 1)
counted_event reading count session event is few before are =
    let room : length (events_in before) < MOST_EVENTS = omega (arith, few, are) in
    let more : List (ℕ × Event) = events_in before ++ (session, event) ∷ [] in
    let taken : (event_fault_behind before reading ≡ None) × AreEvents (before ++ reading ∷ []) more = taken_event reading (events_in before) more session event is room refl before refl in
    (taken.0, ap (λ n. n + 1) are ∙ sym (length_push (events_in before) (session, event)) ∙ ap length taken.1)
