-- What a lawful log of one tree says of the pages after it.
use Rattle.ib_logrec.specs.Log.{by_place}
use Rattle.ib_tree.specs.TreeLog.{opening}
use Rattle.ib_tree.proofs.LogLaws.{IsLawfulMemory-after, content_of-after}
use Rattle.ib_tree.proofs.OpeningLaws.{opens, opens-empty, structural-grammar}
use Rattle.ib_tree.proofs.tree_law.TreeLawTrees.trees_law.Goals as goal

pub returns-clause-memory : goal.returns-clause-memory
returns-clause-memory c pages log fits lawful = IsLawfulMemory-after pages 1 (by_place opening pages) (opens pages fits) (opens-empty pages) log lawful

pub returns-clause-content : goal.returns-clause-content
returns-clause-content c pages log fits lawful = content_of-after pages 1 (by_place opening pages) (opens pages fits) (opens-empty pages) log lawful

pub returns-clause-structural : goal.returns-clause-structural
returns-clause-structural c pages log fits lawful = structural-grammar pages log lawful.grammar
