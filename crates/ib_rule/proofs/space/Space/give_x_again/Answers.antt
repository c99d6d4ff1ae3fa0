use Rattle.std.proofs.Common.{◌≤◌, refl, ap, sym, ◌∙◌, subst, arith}
use Rattle.ib_core.specs.Sessions.{holdings, x_grants}
use Rattle.ib_core.specs.declared.event.Event.TheVariants.{Ux}
use Rattle.ib_rule.specs.Pass.{PassState, with_view}
use Rattle.ib_rule.proofs.LockSteps.{either_small, x_back_step}
use Rattle.ib_rule.specs.declared.kind.StepKind.TheVariants.{Turn}
use Rattle.ib_rule.specs.Steps.{view_after}
use Rattle.ib_rule.proofs.Outcomes.{x_back_view}
use Rattle.ib_rule.proofs.Results.{x_back_session}
use Rattle.ib_rule.proofs.space.Space.give_x_again.Goals as goal

pub counts-requires : goal.counts-requires
counts-requires g c = subst (λ a. holdings c.args.latch.0 a ≤ 1) (sym c.pass.invariant.session) (c.pass.invariant.proper.single c.args.latch.0)

pub turn-found-requires-clause-step : goal.turn-found-requires-clause-step
turn-found-requires-clause-step g c = λ proper n found. x_back_step c.args.pass.now.view c.args.latch.0 n c.requires.free.phase proper c.from-weight.result c.counts.result.x (c.counts.ensures.x ∙ (ap (x_grants c.args.latch.0) c.pass.invariant.session ∙ ap (λ (p : PassState). x_grants c.args.latch.0 p.view.session) c.pass.view_is)) (omega arith) (rw c.from-weight.ensures c.give_x.ensures.weighs) (either_small _ c.from-weight.result (c.from-weight.ensures ∙ c.give_x.ensures.table)) found

pub returns-clause-left : goal.returns-clause-left
returns-clause-left g c =
    let v = c.args.pass.now.view in let n = c.turn-found.result.0 in
    c.turn-found.ensures.view ∙ ap (with_view c.args.pass.now) (x_back_view v (view_after (Turn (Ux c.args.latch.0)) n v) c.args.latch.0 n _ refl (x_back_session v _ c.args.latch.0 n c.requires.free.phase c.turn-found.ensures.proper c.requires.more refl))
