-- A script that was read is run; else its first bad line is told, or memory is wanting.
use Rattle.std.proofs.Common.{◌≡◌, ℕ, List, ap}
use Rattle.std.specs.Prelude.{Err, None}
use Rattle.ib_io.proofs.Telling.{owed_good, told_as, told_fault}
use Rattle.ib_io.specs.Lines.{readings_by}
use Rattle.ib_io.specs.Told.{Ending, IsOutOfMemory, IsOutOfMemoryWhere}
use Rattle.ib_io.specs.declared.status.Status.TheVariants.{Done}
use Rattle.ib_script.specs.PairScript.{pair_reading_of}
use Rattle.ib_script.specs.Script.{IsScript, ScriptValue, first_fault}
use Rattle.ib_pair_form.specs.Answers.{AnswersPairScript, IsPairRunText, IsPairScriptText}
use Rattle.ib_pair_form.proofs.ScriptCalls.{script_taken}
use Rattle.ib_pair_form.proofs.answer.answer_pair.Goals as goal

owed_output : (input : List ℕ) (script : ScriptValue) (e : Ending) → first_fault (readings_by pair_reading_of input) ≡ None → IsScript (readings_by pair_reading_of input) script
    → (e.status ≡ Done) × IsPairRunText script e.text → AnswersPairScript input e
owed_output input script e good is owed = owed_good (first_fault (readings_by pair_reading_of input)) (IsPairScriptText input) e good (owed.0, (script, is, owed.1))

pub run-requires-clause-taken : goal.run-requires-clause-taken
run-requires-clause-taken g c = λ κs live. script_taken c.args.input.now c.in-Ok.script c.in-Ok.ensures.script

pub returns-in-Ok : goal.returns-in-Ok
returns-in-Ok g c =
    let script = c.in-Ok.script in
    record {
      told =
          told_as (λ e. (e.status ≡ Done) × IsPairRunText script e.text) (AnswersPairScript c.args.input.now) IsOutOfMemory (IsOutOfMemoryWhere (first_fault (readings_by pair_reading_of c.args.input.now) ≡ None))
          (λ e owed. owed_output c.args.input.now script e c.in-Ok.ensures.good c.in-Ok.ensures.script owed) (λ s calm. (calm, c.in-Ok.ensures.good)) _ _ _ c.run.ensures.told;
      write = c.run.ensures.write;
    }

pub returns-in-Err : goal.returns-in-Err
returns-in-Err g c = record {
  told =
      told_fault (first_fault (readings_by pair_reading_of c.args.input.now)) (IsPairScriptText c.args.input.now) (first_fault (readings_by pair_reading_of c.args.input.now) ≡ None) c.in-Err.fault
      (λ line kind is. c.in-Err.ensures.bad line kind (ap Err is)) (λ is. c.in-Err.ensures.memory (ap Err is)) _ _ _ c.refuse.ensures.told;
  write = c.refuse.ensures.write;
}
