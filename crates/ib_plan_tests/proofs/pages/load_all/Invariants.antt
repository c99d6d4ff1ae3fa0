use Rattle.ib_plan_tests.specs.Reads.{IsReadFrom}
use Rattle.ib_plan_tests.proofs.pages.load_all.Given as goal

abbrev pub invariant-loop-page : goal.invariant-loop-page
invariant-loop-page g l = IsReadFrom l.memory l.work
