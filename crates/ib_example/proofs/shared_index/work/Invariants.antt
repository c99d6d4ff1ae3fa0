-- Between two pairs the session is at rest.
use Rattle.ib_rule.specs.Pass.{IsAtRest}
use Rattle.ib_example.proofs.shared_index.work.Given as goal

abbrev pub invariant-loop-n : goal.invariant-loop-n
invariant-loop-n g l = IsAtRest l.index l.pass
