use Rattle.std.proofs.Common.{List, subst}
use Rattle.ib_rule.specs.Pass.{PassState}
use Rattle.ib_c.specs.SpaceStates.{AreAtRest}
use Rattle.ib_c.proofs.Pools.{one_fewer}
use Rattle.ib_c.proofs.pool.disconnect_all.Goals as goal

pub disconnect-requires : goal.disconnect-requires
disconnect-requires c =
    let s = c.loop-pass.table in
    (one_fewer s c.pop.new.self.items c.in-Some.pass (subst (λ (xs : List PassState). AreAtRest s xs) c.in-Some.ensures.items c.loop-pass.invariant.0)).1
