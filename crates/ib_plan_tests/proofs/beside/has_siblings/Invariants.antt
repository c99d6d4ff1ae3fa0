use Rattle.std.proofs.Common.{ℕ, ◌<◌, get_or}
use Rattle.ib_merge.specs.Deletes.{HasSiblings}
use Rattle.ib_plan_tests.specs.Reads.{HasBehind}
use Rattle.ib_plan_tests.proofs.beside.has_siblings.Given as goal

abbrev pub invariant-loop-height : goal.invariant-loop-height
invariant-loop-height l = (i : ℕ) → i < l.height → HasSiblings l.key l.work (get_or l.path i 0) × HasBehind l.key l.work (get_or l.path i 0)
