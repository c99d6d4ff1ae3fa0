use Rattle.ib_plan_tests.specs.Reads.{IsReadFrom}
use Rattle.ib_plan_tests.proofs.beside.load_siblings.Given as goal

abbrev pub invariant-loop-height : goal.invariant-loop-height
invariant-loop-height g l = IsReadFrom l.memory l.work
