use Rattle.std.proofs.Common.{ap, sym, ◌∙◌}
use Rattle.ib_rule.specs.Roles.{session_number_of}
use Rattle.ib_rule.specs.Space.{SpaceState}
use Rattle.ib_rule.specs.Pass.{PassState}
use Rattle.ib_rule.proofs.Moves.{store_allowed_at}
use Rattle.ib_rule.proofs.space.Space.sign.Goals as goal

pub act-requires-clause-allowed : goal.act-requires-clause-allowed
act-requires-clause-allowed g c =
    let mine = ap (λ (p : PassState). p.view) c.pass.view_is in
    store_allowed_at g.L.Law.lawful g.L.Law.opening _ _ _ _ _ _ c.args.latch.0 _ c.place-place.ensures.place
    (rw (c.self.invariant.key, ap (λ (o : SpaceState). o.sizes) c.self.view_is) c.requires.latch)
    (rw c.pass.invariant.role (λ e. absurd (cc)))
    (rw mine c.requires.own.closed)
    (rw mine c.requires.claims)
    (c.from.ensures ∙ sym (ap session_number_of c.pass.invariant.role))
