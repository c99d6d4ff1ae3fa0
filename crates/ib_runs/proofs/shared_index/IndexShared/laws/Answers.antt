-- What kept logs, and records that fit them, say of an index.
use Rattle.ib_runs.proofs.IndexLaws.{index_free, index_logs, index_records}
use Rattle.ib_runs.proofs.shared_index.IndexShared.laws.Goals as goal

pub returns-clause-logs : goal.returns-clause-logs
returns-clause-logs c = λ sizes fits. index_logs sizes fits (λ log kept. c.trees_law.ensures.memory sizes.pages log fits kept) (λ log kept. c.trees_law.ensures.content sizes.pages log fits kept)

pub returns-clause-records : goal.returns-clause-records
returns-clause-records c = index_records

pub returns-clause-wider : goal.returns-clause-wider
returns-clause-wider c = index_free
