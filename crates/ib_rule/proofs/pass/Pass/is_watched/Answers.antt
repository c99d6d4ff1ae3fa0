-- Where no grant was taken since the look, what is held is watched.
use Rattle.std.proofs.Common.{◌≡◌, ◌∙◌, ap, subst, sym, true}
use Rattle.ib_levels.specs.Holding.{is_held}
use Rattle.ib_core.specs.declared.session.Session.{Session}
use Rattle.ib_rule.specs.Pass.{PassState}
use Rattle.ib_rule.specs.Views.{is_watched, total}
use Rattle.ib_rule.proofs.Watching.{watched_there}
use Rattle.ib_rule.proofs.pass.Pass.is_watched.Goals as goal

pub returns-then-self-s : goal.returns-then-self-s
returns-then-self-s c = λ yes.
    let i = c.self.invariant in
    let same = c.if-self-s.true ∙ ap total i.counts in
    let held : is_held c.args.latch.0 c.self.inside.seat.me.0.session.held ≡ true = sym (ap (λ (a : Session). is_held c.args.latch.0 a.held) i.session) ∙ (sym c.holds.ensures ∙ yes) in
    subst (λ (p : PassState). is_watched c.args.latch.0 p.view.memory.since ≡ true) c.self.view_is (watched_there c.self.inside.looked_after c.self.inside.seat.me.0 c.args.latch.0 i.watches same held)
