use Rattle.ib_replay.proofs.OneFault.{only_raw_log, only_raw_fault}
use Rattle.ib_replay.proofs.raw_log_replay.replay_file.Goals as goal

pub returns-clause-only : goal.returns-clause-only
returns-clause-only c = only_raw_log c.args.bytes.now c.replay_bytes.result c.replay_bytes.ensures.log c.replay_bytes.ensures.fault

pub returns-clause-refused : goal.returns-clause-refused
returns-clause-refused c = only_raw_fault c.args.bytes.now c.replay_bytes.result c.replay_bytes.ensures.log c.replay_bytes.ensures.fault
