use Rattle.std.proofs.Common.{ap, inl}
use Rattle.std.specs.Prelude.{Err}
use Rattle.ib_c.proofs.ReplayLaws.{refusal-answer, refusal-refused, told_log-is}
use Rattle.ib_c.proofs.replay.replay.Goals as goal

pub returns-in-Ok-clause-only : goal.returns-in-Ok-clause-only
returns-in-Ok-clause-only c = λ pages log is. inl (told_log-is c.args.bytes.now c.args.out.now c.put_pairs-status.new.out pages log c.in-Ok.log.entries.items c.in-Ok.log.memory c.in-Ok.log.map
    c.put_pairs-status.result c.told_counts.result c.in-Ok.ensures.log c.in-Ok.ensures.map c.put_pairs-status.ensures c.told_counts.ensures is)

pub returns-in-Ok-clause-refused : goal.returns-in-Ok-clause-refused
returns-in-Ok-clause-refused c = λ fault is. absurd (c.in-Ok.ensures.refused fault is)

pub returns-in-Err-clause-answer : goal.returns-in-Err-clause-answer
returns-in-Err-clause-answer c = refusal-answer c.args.bytes.now c.args.out.now c.in-Err.fault c.told_refusal.result c.told_refusal.ensures c.in-Err.ensures.fault (λ none. c.in-Err.ensures.memory (ap Err none))

pub returns-in-Err-clause-refused : goal.returns-in-Err-clause-refused
returns-in-Err-clause-refused c = λ other is. refusal-refused c.args.bytes.now c.args.out.now c.in-Err.fault c.told_refusal.result c.told_refusal.ensures other (c.in-Err.ensures.refused other is)
