use Rattle.std.proofs.Common.{◌≡◌, ◌∙◌, ℕ, List, ap}
use Rattle.std.specs.Prelude.{Err, None}
use Rattle.ib_io.proofs.Telling.{owed_good, told_as, told_fault}
use Rattle.ib_io.specs.Lines.{readings_by}
use Rattle.ib_io.specs.Told.{IsOutOfMemory, IsOutOfMemoryWhere, ends}
use Rattle.ib_io.specs.declared.status.Status.TheVariants.{Done}
use Rattle.ib_latch_form.specs.Answers.{AnswersEvents}
use Rattle.ib_latch_form.specs.Events.{event_fault, event_reading_of, events_in}
use Rattle.ib_latch_form.specs.Latching.{latch_output}
use Rattle.ib_latch_form.proofs.answer.answer_events.Goals as goal

pub returns-in-Ok : goal.returns-in-Ok
returns-in-Ok g c =
    let input : List ℕ = c.args.input.now in
    let events = c.in-Ok.events in
    record {
      told =
          told_as (λ e. e ≡ ends Done (latch_output events)) (AnswersEvents input) IsOutOfMemory (IsOutOfMemoryWhere (event_fault input ≡ None))
          (λ e is. owed_good (event_fault input) (λ text. text ≡ latch_output (events_in (readings_by event_reading_of input))) e c.in-Ok.ensures.good (ap (λ x. x.status) is, ap (λ x. x.text) is ∙ ap latch_output c.in-Ok.ensures.events))
          (λ s calm. (calm, c.in-Ok.ensures.good)) _ _ _ c.make_events.ensures.told;
      write = c.make_events.ensures.write;
    }

pub returns-in-Err : goal.returns-in-Err
returns-in-Err g c =
    let input : List ℕ = c.args.input.now in
    record {
      told =
          told_fault (event_fault input) (λ text. text ≡ latch_output (events_in (readings_by event_reading_of input))) (event_fault input ≡ None) c.in-Err.fault
          (λ line kind is. c.in-Err.ensures.bad line kind (ap Err is)) (λ is. c.in-Err.ensures.memory (ap Err is)) _ _ _ c.refuse.ensures.told;
      write = c.refuse.ensures.write;
    }
