use Rattle.std.proofs.Common.{refl, ap, ◌∙◌}
use Rattle.ib_core.specs.declared.event.Event.TheVariants.{Ux}
use Rattle.ib_rule.specs.Pass.{with_view}
use Rattle.ib_rule.proofs.LockSteps.{last_x_step}
use Rattle.ib_rule.specs.declared.kind.StepKind.TheVariants.{Turn}
use Rattle.ib_rule.specs.Steps.{view_after}
use Rattle.ib_rule.proofs.Outcomes.{x_back_view}
use Rattle.ib_rule.proofs.Results.{last_x_session}
use Rattle.ib_rule.proofs.space.Space.give_x.Goals as goal

pub turn-found-requires-clause-step : goal.turn-found-requires-clause-step
turn-found-requires-clause-step g c = λ proper n found. last_x_step c.args.pass.now.view c.args.latch.0 n c.requires.free.phase proper c.requires.last found

pub returns-clause-left : goal.returns-clause-left
returns-clause-left g c =
    let v = c.args.pass.now.view in let n = c.turn-found.result.0 in
    c.turn-found.ensures.view ∙ ap (with_view c.args.pass.now) (x_back_view v (view_after (Turn (Ux c.args.latch.0)) n v) c.args.latch.0 n _ refl (last_x_session v _ c.args.latch.0 n c.requires.free.phase c.turn-found.ensures.proper c.requires.last refl))
