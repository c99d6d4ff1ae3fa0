use Rattle.std.proofs.Common.{ℕ, ◌≤◌, ap, ◌∙◌, sym, subst}
use Rattle.ib_core.specs.declared.session.Session.{Session}
use Rattle.ib_core.specs.Sessions.{holdings}
use Rattle.ib_rule.proofs.HeldNow.{held_few}
use Rattle.ib_rule.proofs.pass.Pass.grants_held.Goals as goal

pub grants_of-requires : goal.grants_of-requires
grants_of-requires c =
    held_few c.held.result.now c.self.inside.seat.me.0.session (c.held.ensures.held ∙ ap (λ (a : Session). a.held) c.self.invariant.session)
    (c.held.ensures.few (subst (λ a. (l : ℕ) → holdings l a ≤ 1) (sym c.self.invariant.session) c.self.invariant.proper.single)) c.self.invariant.few
