use Rattle.std.proofs.Common.{◌≡◌, ℕ, List, ap}
use Rattle.std.specs.Prelude.{Err, None}
use Rattle.ib_io.proofs.Telling.{owed_good, told_as, told_fault}
use Rattle.ib_io.specs.Lines.{readings_by}
use Rattle.ib_io.specs.Told.{Ending, IsOutOfMemory, IsOutOfMemoryWhere}
use Rattle.ib_io.specs.declared.status.Status.TheVariants.{Done}
use Rattle.ib_script.specs.Script.{IsScript, ScriptValue, first_fault, reading_of}
use Rattle.ib_tool.specs.Answers.{AnswersScript, IsScriptText}
use Rattle.ib_tool.specs.Texts.{IsWrittenRun}
use Rattle.ib_tool.specs.declared.shape.Shape.{Shape}
use Rattle.ib_tool.proofs.answer.answer_script.Goals as goal

owed_output : (shape : Shape) (input : List ℕ) (script : ScriptValue) (e : Ending) → first_fault (readings_by reading_of input) ≡ None → IsScript (readings_by reading_of input) script
    → (e.status ≡ Done) × IsWrittenRun shape script e.text → AnswersScript shape input e
owed_output shape input script e good is owed =
    owed_good (first_fault (readings_by reading_of input)) (IsScriptText shape input) e good (owed.0, (script, is, owed.1))

pub returns-in-Ok : goal.returns-in-Ok
returns-in-Ok g c =
    let script = c.in-Ok.script in
    record {
      told =
          told_as (λ e. (e.status ≡ Done) × IsWrittenRun c.args.shape script e.text) (AnswersScript c.args.shape c.args.input.now) IsOutOfMemory (IsOutOfMemoryWhere (first_fault (readings_by reading_of c.args.input.now) ≡ None))
          (λ e owed. owed_output c.args.shape c.args.input.now script e c.in-Ok.ensures.good c.in-Ok.ensures.script owed) (λ s calm. (calm, c.in-Ok.ensures.good)) _ _ _ c.run.ensures.told;
      write = c.run.ensures.write;
    }

pub returns-in-Err : goal.returns-in-Err
returns-in-Err g c = record {
  told =
      told_fault (first_fault (readings_by reading_of c.args.input.now)) (IsScriptText c.args.shape c.args.input.now) (first_fault (readings_by reading_of c.args.input.now) ≡ None) c.in-Err.fault
      (λ line kind is. c.in-Err.ensures.bad line kind (ap Err is)) (λ is. c.in-Err.ensures.memory (ap Err is)) _ _ _ c.refuse.ensures.told;
  write = c.refuse.ensures.write;
}
