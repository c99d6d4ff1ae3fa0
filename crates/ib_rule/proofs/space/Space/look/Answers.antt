use Rattle.std.proofs.Common.{ap}
use Rattle.ib_rule.specs.Space.{SpaceState}
use Rattle.ib_rule.proofs.Moves.{look_allowed_at}
use Rattle.ib_rule.proofs.space.Space.look.Goals as goal

pub act-requires-clause-allowed : goal.act-requires-clause-allowed
act-requires-clause-allowed g c =
    look_allowed_at g.L.Law.lawful g.L.Law.opening _ _ _ _ _ _ c.args.latch.0 c.place-place.ensures.place
    (rw (c.self.invariant.key, ap (λ (o : SpaceState). o.sizes) c.self.view_is) c.requires.latch)
