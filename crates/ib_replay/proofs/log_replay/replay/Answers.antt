use Rattle.ib_replay.proofs.OnlyLog.{only_entries}
use Rattle.ib_replay.proofs.log_replay.replay.Goals as goal

pub returns-clause-only : goal.returns-clause-only
returns-clause-only c = only_entries c.args.pages c.args.words.now c.put_entries.result c.put_entries.ensures.entries c.put_entries.ensures.lawful c.put_entries.ensures.fault
