use Rattle.ib_replay.proofs.OldLogLaws.{only_brought, only_old_fault}
use Rattle.ib_replay.proofs.old_log.bring_over.Goals as goal

pub returns-clause-only : goal.returns-clause-only
returns-clause-only c = only_brought c.args.bytes.now c.bring_bytes.result c.bring_bytes.ensures.brought c.bring_bytes.ensures.fault

pub returns-clause-refused : goal.returns-clause-refused
returns-clause-refused c = only_old_fault c.args.bytes.now c.bring_bytes.result c.bring_bytes.ensures.brought c.bring_bytes.ensures.fault
