use Rattle.std.proofs.Common.{◌<◌, refl, ap, ◌∙◌, arith}
use Rattle.ib_core.specs.declared.event.Event.TheVariants.{Usx}
use Rattle.ib_core.specs.Sessions.{claims, sx_grants}
use Rattle.ib_core.proofs.OnLatch.{counted}
use Rattle.ib_rule.specs.declared.kind.StepKind.TheVariants.{Turn}
use Rattle.ib_rule.specs.Pass.{with_view}
use Rattle.ib_rule.specs.Steps.{view_after}
use Rattle.ib_rule.proofs.MarkSteps.{counted_back_step, counted_back_word}
use Rattle.ib_rule.proofs.Outcomes.{counted_back_view}
use Rattle.ib_rule.proofs.Results.{sx_back_session}
use Rattle.ib_rule.proofs.space.Space.give_sx_again.Goals as goal

pub turn-requires-clause-word : goal.turn-requires-clause-word
turn-requires-clause-word g c = counted_back_word c.args.pass.now.view c.args.latch.0 0 c.requires.more

pub turn-requires-clause-step : goal.turn-requires-clause-step
turn-requires-clause-step g c = λ proper n found. counted_back_step c.args.pass.now.view c.args.latch.0 n

pub returns-clause-left : goal.returns-clause-left
returns-clause-left g c =
    let v = c.args.pass.now.view in let l = c.args.latch.0 in let n = c.turn.result.0 in
    let proper = c.turn.ensures.proper in
    let one = counted c.args.latch.0 c.args.pass.now.view.session (proper.single c.args.latch.0) in
    let more = c.requires.more in
    let has : 0 < sx_grants c.args.latch.0 c.args.pass.now.view.session = omega arith in
    let claim : 1 < claims c.args.latch.0 c.args.pass.now.view.session = omega arith in
    c.turn.ensures.view ∙ ap (with_view c.args.pass.now) (counted_back_view v (view_after (Turn (Usx l)) n v) l n _ c.requires.more refl
    (sx_back_session v _ l n c.requires.free.phase proper has claim refl))
