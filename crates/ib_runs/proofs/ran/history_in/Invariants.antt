use Rattle.std.proofs.Common.{◌≡◌, ◌-◌, List, length}
use Rattle.ib_logrec.specs.declared.entry.Entry.{Entry}
use Rattle.ib_logrec.specs.Law.{AreInGrammar}
use Rattle.ib_logrec.specs.Log.{log_words}
use Rattle.ib_rule.specs.Closed.{log_in}
use Rattle.ib_runs.proofs.ReadOffLaws.{IsReadTo}
use Rattle.ib_runs.proofs.ran.history_in.Given as goal

abbrev pub invariant-loop-place : goal.invariant-loop-place
invariant-loop-place l = (log : List Entry) → AreInGrammar l.closed.sizes.pages log → log_in l.closed.sizes l.closed.words ≡ log_words log → IsReadTo log l.place l.history.items

abbrev pub decreases-loop-place : goal.decreases-loop-place
decreases-loop-place l = length (log_in l.closed.sizes l.closed.words) - l.place
