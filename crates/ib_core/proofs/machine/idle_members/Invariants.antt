-- As many idle members as the counter says.
use Rattle.std.proofs.Common.{◌≡◌, replicate}
use Rattle.ib_core.specs.Member.{idle_among}
use Rattle.ib_core.proofs.machine.idle_members.Given as goal

abbrev pub invariant-loop : goal.invariant-loop
invariant-loop l = l.members.items ≡ replicate l.counter (idle_among l.latches)
