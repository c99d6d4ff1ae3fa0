-- What kept logs, and records that fit them, say of a pair.
use Rattle.ib_pair_form.proofs.PairFitLaws.{pair_free, pair_records}
use Rattle.ib_pair_form.proofs.SecondLaws.{pair_logs}
use Rattle.ib_pair_form.proofs.shared_pair.SharedPairShared.laws.Goals as goal

pub returns-clause-logs : goal.returns-clause-logs
returns-clause-logs c = λ sizes fits. pair_logs c.second_map_law.ensures.effect sizes fits (λ log kept. c.pair_law.ensures.memory sizes.pages log fits kept) (λ log kept. c.pair_law.ensures.first sizes.pages log fits kept)
    (λ log kept. c.pair_law.ensures.second sizes.pages log fits kept) (λ log kept. c.pair_law.ensures.primary sizes.pages log kept)

pub returns-clause-records : goal.returns-clause-records
returns-clause-records c = pair_records

pub returns-clause-wider : goal.returns-clause-wider
returns-clause-wider c = pair_free
