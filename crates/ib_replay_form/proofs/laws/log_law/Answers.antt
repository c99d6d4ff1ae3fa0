-- Bytes are the file of one lawful log, and then they have no fault.
use Rattle.std.proofs.Common.{◌≡◌, ◌∙◌, ℕ, List, ap, inl, inr}
use Rattle.ib_io.specs.Told.{Ending, ends}
use Rattle.ib_io.specs.declared.status.Status.TheVariants.{Done}
use Rattle.ib_logrec.specs.declared.entry.Entry.{Entry}
use Rattle.ib_replay_form.specs.Answers.{AnswersLog}
use Rattle.ib_replay_form.specs.Replaying.{replay_output}
use Rattle.ib_replay.proofs.OneFault.{raw_log-no_fault, raw_log-one}
use Rattle.ib_replay.specs.RawLogs.{IsRawLog}
use Rattle.ib_replay_form.proofs.laws.log_law.Goals as goal

owed-one : (input : List ℕ) (pages : ℕ) (log : List Entry) (e : Ending) → IsRawLog input pages log → AnswersLog input e → e ≡ ends Done (replay_output log)
owed-one input pages log e is (inl (read, entries, found, ending)) =
    ending ∙ ap (λ (it : List Entry). ends Done (replay_output it)) (raw_log-one input read pages entries log found is).1
owed-one input pages log e is (inr (fault, found, ending)) = absurd (raw_log-no_fault input pages log fault is found)

pub returns : goal.returns
returns c = owed-one
