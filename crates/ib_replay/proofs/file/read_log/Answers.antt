use Rattle.ib_replay.proofs.FileLaws.{only_log}
use Rattle.ib_replay.proofs.file.read_log.Goals as goal

pub returns-clause-only : goal.returns-clause-only
returns-clause-only c = only_log c.args.bytes.now c.log_of.result c.log_of.ensures.found c.log_of.ensures.pages c.log_of.ensures.fits c.log_of.ensures.fault
