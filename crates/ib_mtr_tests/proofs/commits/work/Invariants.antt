-- The session holds nothing, and its scratch is free.
use Rattle.ib_rule.specs.Pass.{IsAtRest}
use Rattle.ib_mtr_tests.proofs.commits.work.Given as goal

abbrev pub invariant-loop-round : goal.invariant-loop-round
invariant-loop-round g l = IsAtRest l.table l.pass
