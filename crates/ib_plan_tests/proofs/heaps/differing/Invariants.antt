-- No more words differ than were looked at.
use Rattle.std.proofs.Common.{◌≤◌}
use Rattle.ib_plan_tests.proofs.heaps.differing.Given as goal

abbrev pub invariant-loop-i : goal.invariant-loop-i
invariant-loop-i l = l.count ≤ l.i
