-- What is owed for the file of a run's log is the end of the run's text.
use Rattle.std.proofs.Common.{◌≡◌, ◌∙◌, ℕ, List, ◌++◌, ap, append_assoc, sym}
use Rattle.ib_io.specs.Told.{Ending, ends}
use Rattle.ib_io.specs.declared.status.Status.TheVariants.{Done}
use Rattle.ib_logrec.specs.Log.{history_of, map_of}
use Rattle.ib_replay_form.specs.Replaying.{replay_output}
use Rattle.ib_map.specs.Pairs.{Pairs}
use Rattle.ib_script.specs.Script.{ScriptValue}
use Rattle.ib_text.specs.Output.{log_text, map_text, output_of, sessions_from}
use Rattle.ib_tool.specs.Texts.{IsRawText, IsRunText}
use Rattle.ib_tool.proofs.TextLaws.{map-walked}
use Rattle.ib_tool.proofs.laws.raw_law.Goals as goal

module _ (script : ScriptValue) (bytes : List ℕ) (raw : IsRawText script bytes) where
  run-end : (e : Ending) → e ≡ ends Done (replay_output raw.log) → (e.status ≡ Done) × IsRunText script (sessions_from 1 raw.runs ++ e.text)
  run-end e is = (
    ap (λ (it : Ending). it.status) is,
    record {
      runs = raw.runs;
      log = raw.log;
      outcome = raw.outcome;
      printed = ap (λ (it : Ending). sessions_from 1 raw.runs ++ it.text) is
          ∙ sym (append_assoc (sessions_from 1 raw.runs) (log_text (history_of raw.log)) (map_text (map_of raw.log)))
          ∙ ap (λ (m : Pairs). output_of raw.runs (history_of raw.log) m) (sym (let written = raw.written in map-walked script.sizes raw.log written.space written.lawful));
    },
  )

pub returns-clause-lawful : goal.returns-clause-lawful
returns-clause-lawful c script bytes raw = raw.written

pub returns-clause-replayed : goal.returns-clause-replayed
returns-clause-replayed c script bytes e raw owed = run-end script bytes raw e (c.log_law.ensures bytes script.sizes.pages raw.log e raw.written owed)
