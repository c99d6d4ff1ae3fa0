-- The law of changes of both trees, clause by clause.
use Rattle.ib_pair_change.proofs.PairCommit.{entry-kept, entry-planned}
use Rattle.ib_pair_change.proofs.SpanLaws.{alone, structural}
use Rattle.ib_pair_change.proofs.PairBoth.{both-insert}
use Rattle.ib_pair_change.proofs.PairBothDeletes.{both-delete}
use Rattle.ib_pair_change.proofs.laws.pair_change_law.Goals as goal

pub returns-clause-push : goal.returns-clause-push
returns-clause-push c pages log change old mid new e fits kept h = (entry-planned pages fits log kept change old mid new e h, entry-kept pages fits log kept change old mid new e h)

pub returns-clause-structural : goal.returns-clause-structural
returns-clause-structural c pages log e fits kept = structural pages fits log e kept

pub returns-clause-alone : goal.returns-clause-alone
returns-clause-alone c pages log others fits kept single = alone pages fits log others kept single

pub returns-clause-inserts : goal.returns-clause-inserts
returns-clause-inserts c path fresh key value path2 fresh2 old new can planned = both-insert path fresh key value path2 fresh2 old new can planned

pub returns-clause-deletes : goal.returns-clause-deletes
returns-clause-deletes c path key value path2 old new can planned = both-delete path key value path2 old new can planned
