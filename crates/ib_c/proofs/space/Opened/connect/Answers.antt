use Rattle.std.proofs.Common.{List, subst, sym}
use Rattle.std.specs.Arc.{arc_value}
use Rattle.ib_rule.specs.Pass.{PassState, IsOf}
use Rattle.ib_rule.specs.Space.{SpaceState}
use Rattle.ib_c.specs.SpaceStates.{AreAtRest}
use Rattle.ib_c.proofs.Pools.{one_fewer}
use Rattle.ib_c.proofs.space.Opened.connect.Goals as goal

pub invariant_of-new : goal.invariant_of-new
invariant_of-new c =
    let s = arc_value c.self.inside.table in
    let rest = one_fewer s c.pop.new.self.items c.in-Some.pass (subst (λ (xs : List PassState). AreAtRest s xs) c.in-Some.ensures.items c.self.invariant.rest) in
    subst (λ (t : SpaceState). IsOf t c.in-Some.pass) (sym c.in-Ok.ensures) rest.1.own
