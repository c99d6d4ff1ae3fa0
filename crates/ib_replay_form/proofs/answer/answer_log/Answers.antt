use Rattle.std.proofs.Common.{◌≡◌, None, ap, inl, inr, refl}
use Rattle.std.specs.Prelude.{Err}
use Rattle.ib_io.specs.Told.{ends}
use Rattle.ib_io.specs.declared.status.Status.TheVariants.{Done}
use Rattle.ib_replay_form.specs.Answers.{AnswersLog}
use Rattle.ib_replay_form.specs.Replaying.{replay_output}
use Rattle.ib_replay.specs.Files.{file_fault}
use Rattle.ib_replay.specs.RawLogs.{IsRawFault}
use Rattle.ib_replay_form.proofs.Refusals.{told_refused}
use Rattle.ib_replay_form.proofs.answer.answer_log.Goals as goal

pub returns-in-Ok : goal.returns-in-Ok
returns-in-Ok g c =
    let log = c.in-Ok.replayed.entries.items in
    let is = c.in-Ok.ensures.log in
    record {
      told = inl (ends Done (replay_output log), inl (is.0, log, is.1, refl), c.show.ensures.told);
      write = c.show.ensures.write;
    }

pub returns-in-Err : goal.returns-in-Err
returns-in-Err g c =
    let input = c.args.input.now in
    record {
      told =
          told_refused (IsRawFault input) (AnswersLog input) (file_fault input ≡ None) (λ fault found. inr (fault, found, refl))
          c.in-Err.fault _ _ _ c.in-Err.ensures.fault (λ is. c.in-Err.ensures.memory (ap Err is)) c.refuse.ensures.told;
      write = c.refuse.ensures.write;
    }
