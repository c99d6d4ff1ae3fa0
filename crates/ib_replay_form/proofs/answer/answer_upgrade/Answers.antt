use Rattle.std.proofs.Common.{◌≡◌, None, ap, inl, inr, refl}
use Rattle.std.specs.Prelude.{Err}
use Rattle.ib_io.specs.Told.{ends}
use Rattle.ib_io.specs.declared.status.Status.TheVariants.{Done}
use Rattle.ib_replay_form.specs.Answers.{AnswersUpgrade}
use Rattle.ib_replay.specs.Files.{file_of}
use Rattle.ib_replay.specs.OldLogs.{IsOldFault, old_file_fault}
use Rattle.ib_replay_form.proofs.Refusals.{told_refused}
use Rattle.ib_replay_form.proofs.answer.answer_upgrade.Goals as goal

pub returns-in-Ok : goal.returns-in-Ok
returns-in-Ok g c =
    let log = c.in-Ok.log in
    record {
      told = inl (ends Done (file_of log.pages log.words), inl (log.pages, log.words, c.in-Ok.ensures.brought, refl), c.write_file.ensures.told);
      write = c.write_file.ensures.write;
    }

pub returns-in-Err : goal.returns-in-Err
returns-in-Err g c =
    let input = c.args.input.now in
    record {
      told =
          told_refused (IsOldFault input) (AnswersUpgrade input) (old_file_fault input ≡ None) (λ fault found. inr (fault, found, refl))
          c.in-Err.fault _ _ _ c.in-Err.ensures.fault (λ is. c.in-Err.ensures.memory (ap Err is)) c.refuse.ensures.told;
      write = c.refuse.ensures.write;
    }
