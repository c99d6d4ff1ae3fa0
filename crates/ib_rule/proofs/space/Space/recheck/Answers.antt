-- Where the wish is refused the pass makes the same turn.
use Rattle.std.proofs.Common.{ℕ, ◌≤◌, refl, ap, sym, ◌∙◌, subst}
use Rattle.std.specs.Prelude.{if◌then◌else◌, Some, None}
use Rattle.ib_core.specs.declared.event.Event.TheVariants.{Again}
use Rattle.ib_core.specs.declared.session.Session.{Session}
use Rattle.ib_core.specs.Sessions.{grants, holdings}
use Rattle.ib_rule.specs.declared.pass.TheConstants.{MOST_HELD}
use Rattle.ib_rule.specs.Space.{SpaceState}
use Rattle.ib_rule.specs.Pass.{PassState}
use Rattle.ib_rule.specs.Views.{with_looks, turned_by}
use Rattle.ib_rule.specs.Steps.{looked, refuses}
use Rattle.ib_rule.proofs.Moves.{recheck_allowed_at}
use Rattle.ib_rule.proofs.Passing.{pass_turned}
use Rattle.ib_rule.proofs.space.Space.recheck.Goals as goal

pub act-found-requires-clause-allowed : goal.act-found-requires-clause-allowed
act-found-requires-clause-allowed g c =
    let mine = ap (λ (p : PassState). p.view) c.pass.view_is in
    recheck_allowed_at g.L.Law.lawful g.L.Law.opening _ _ _ _ _ _ c.args.latch.0 c.place-place.ensures.place
    (rw (c.self.invariant.key, ap (λ (o : SpaceState). o.sizes) c.self.view_is) c.requires.latch)
    (rw c.pass.invariant.role (λ e. absurd (cc)))
    (rw mine c.requires.own.closed)

pub turn_on-answer-requires-clause-few : goal.turn_on-answer-requires-clause-few
turn_on-answer-requires-clause-few g c = subst (λ a. (l : ℕ) → grants l a ≤ MOST_HELD) (sym c.pass.invariant.session) c.pass.invariant.few

pub invariant_of-pass : goal.invariant_of-pass
invariant_of-pass g c =
    let told = c.act-found.ensures.told in
    let refused = ap (λ p. refuses p c.act-found.result) (sym (ap (λ (a : Session). a.phase) c.pass.invariant.session) ∙ sym c.phase-before.ensures) ∙ (sym c.is_refused.ensures ∙ c.if-is_refused.true) in
    pass_turned c.pass.inside _ (Again c.args.latch.0) c.act-found.result c.turn_on-answer.result _ c.pass.invariant
    told.1 (told.0.view ∙ ap (λ b. with_looks (looked c.args.latch.0 c.act-found.result None (holdings c.args.latch.0 c.pass.inside.seat.me.0.session) c.pass.inside.seat.me.0.looks) (turned_by (if b then Some (Again c.args.latch.0) else None) c.act-found.result c.pass.inside.seat.me.0)) refused) told.0.proper told.0.known told.0.few told.0.taken
    c.turn_on-answer.ensures.turn
    (rw c.phase-before.ensures at c.counted-pass-inside.ensures)
    c.turn_on-answer.ensures.latches refl refl refl refl refl refl refl refl
