use Rattle.std.proofs.Common.{◌≤◌}
use Rattle.ib_latch.proofs.parkers.ParkersSleep.admit.Given as goal

abbrev pub invariant-loop : goal.invariant-loop
invariant-loop l = (l.counter ≤ l.self-inside.sleepers) × (l.initial.self-inside.sleepers ≤ l.self-inside.sleepers)
