use Rattle.std.proofs.Common.{◌≡◌, length}
use Rattle.ib_c.specs.SpaceStates.{AreAtRest, IsWhole, ended_with}
use Rattle.ib_c.proofs.pool.disconnect_all.Given as goal

abbrev pub invariant-loop-pass : goal.invariant-loop-pass
invariant-loop-pass l = AreAtRest l.table l.pool.items × IsWhole l.table l.pool.items × (ended_with l.pool.items l.table ≡ ended_with l.initial.pool.items l.initial.table)

abbrev pub decreases-loop-pass : goal.decreases-loop-pass
decreases-loop-pass l = length l.pool.items
