use Rattle.std.proofs.Common.{◌≡◌, ◌≤◌, [], length, vec_capacity}
use Rattle.ib_c.specs.SpaceStates.{AreAtRest, AreUnused, IsWhole}
use Rattle.ib_c.proofs.pool.connect_all.Given as goal

abbrev pub invariant-loop : goal.invariant-loop
invariant-loop l = AreAtRest l.table l.pool.items × IsWhole l.table l.pool.items × (l.table.sizes ≡ l.initial.table.sizes)
    × (l.table.ended ≡ []) × AreUnused 1 l.pool.items × (length l.pool.items ≡ l.counter) × (l.initial.sessions ≤ vec_capacity l.pool)
