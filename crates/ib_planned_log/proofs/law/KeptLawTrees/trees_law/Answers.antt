-- What a kept log says of the pages after it: it is a lawful log of one tree.
use Rattle.ib_logrec.specs.Log.{by_place}
use Rattle.ib_tree.specs.TreeLog.{opening}
use Rattle.ib_tree.proofs.LogLaws.{IsLawfulMemory-after, content_of-after}
use Rattle.ib_tree.proofs.OpeningLaws.{opens, opens-empty, structural-grammar}
use Rattle.ib_planned_log.proofs.law.KeptLawTrees.trees_law.Goals as goal

pub returns-clause-memory : goal.returns-clause-memory
returns-clause-memory c pages log fits kept = IsLawfulMemory-after pages 1 (by_place opening pages) (opens pages fits) (opens-empty pages) log kept.lawful

pub returns-clause-content : goal.returns-clause-content
returns-clause-content c pages log fits kept = content_of-after pages 1 (by_place opening pages) (opens pages fits) (opens-empty pages) log kept.lawful

pub returns-clause-structural : goal.returns-clause-structural
returns-clause-structural c pages log fits kept = let lawful = kept.lawful in structural-grammar pages log lawful.grammar
