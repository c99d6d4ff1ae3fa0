use Rattle.ib_tool.proofs.CountLaws.{few-records}
use Rattle.ib_tool.proofs.answer.answer_load.Goals as goal

pub invariant_of-tell : goal.invariant_of-tell
invariant_of-tell g c =
    let h = c.in-Ok-run_script.ensures.ran.ran_is in
    record { few = few-records c.in-Ok.script c.in-Ok-run_script.ran.sessions.items h.log c.in-Ok.ensures.small h.outcome }
