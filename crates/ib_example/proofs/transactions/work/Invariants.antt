-- Between two mini-transactions the session is at rest.
use Rattle.ib_rule.specs.Pass.{IsAtRest}
use Rattle.ib_example.proofs.transactions.work.Given as goal

abbrev pub invariant-loop-round : goal.invariant-loop-round
invariant-loop-round g l = IsAtRest l.table l.pass
