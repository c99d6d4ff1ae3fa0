-- What a pair-kept log says of the pages after it.
use Rattle.ib_tree.proofs.OpeningLaws.{structural-grammar}
use Rattle.ib_pair_law.proofs.PushLaws.{first-before, lawful-before}
use Rattle.ib_pair_law.proofs.law.PairLawTrees.trees_law.Goals as goal

pub returns-clause-memory : goal.returns-clause-memory
returns-clause-memory c pages log fits kept = lawful-before pages fits log kept

pub returns-clause-content : goal.returns-clause-content
returns-clause-content c pages log fits kept = first-before pages fits log kept

pub returns-clause-structural : goal.returns-clause-structural
returns-clause-structural c pages log fits kept = let lawful = kept.lawful in structural-grammar pages log lawful.grammar
