-- The load is allowed by the rule.
use Rattle.std.proofs.Common.{◌≡◌, sym, ap, ◌∙◌}
use Rattle.ib_rule.specs.Pass.{PassState}
use Rattle.ib_rule.specs.Space.{SpaceState}
use Rattle.ib_rule.proofs.Seeing.{log_allowed_at}
use Rattle.ib_rule.proofs.space.Space.load_log_word.Goals as goal

pub act-requires-clause-allowed : goal.act-requires-clause-allowed
act-requires-clause-allowed g c =
    let mine = ap (λ (p : PassState). p.view) c.pass.view_is in
    let same : c.self.inside.table.shared.key ≡ c.pass.inside.geometry =
    c.self.invariant.key ∙ (ap (λ (o : SpaceState). o.sizes) c.self.view_is ∙ sym (ap (λ (p : PassState). p.sizes) c.pass.view_is ∙ c.requires.own.1)) in
    log_allowed_at g.L.Law.lawful g.L.Law.opening _ _ _ _ _ _ c.args.number
    (rw same c.log_place.ensures.place)
    (rw mine c.requires.below)
