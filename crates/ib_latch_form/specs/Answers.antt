-- What is owed for a text of events.
use Rattle.std.specs.Prelude.{◌≡◌, ℕ, List}
use Rattle.ib_io.specs.Told.{Ending, OwesLines}
use Rattle.ib_io.specs.Lines.{readings_by}
use Rattle.ib_latch_form.specs.Events.{event_fault, event_reading_of, events_in}
use Rattle.ib_latch_form.specs.Latching.{latch_output}

-- the first bad line is told, or else the events are made and printed
abbrev pub AnswersEvents : List ℕ → Ending → Type 0
AnswersEvents input e = OwesLines (event_fault input) (λ text. text ≡ latch_output (events_in (readings_by event_reading_of input))) e
