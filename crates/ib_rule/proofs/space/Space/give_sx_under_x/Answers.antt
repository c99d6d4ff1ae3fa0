use Rattle.std.proofs.Common.{◌<◌, ◌-◌, refl, ap, ◌∙◌, arith}
use Rattle.ib_core.specs.Sessions.{claims, sx_grants}
use Rattle.ib_core.proofs.OnLatch.{counted}
use Rattle.ib_word.specs.Word.{cell_of}
use Rattle.ib_word.specs.declared.word.TheConstants.{X_LOCK_HALF_DECR}
use Rattle.ib_core.specs.declared.event.Event.TheVariants.{Usx}
use Rattle.ib_rule.specs.declared.kind.StepKind.TheVariants.{Turn}
use Rattle.ib_rule.specs.Steps.{view_after}
use Rattle.ib_rule.specs.Pass.{with_view}
use Rattle.ib_rule.proofs.Outcomes.{sx_back_view}
use Rattle.ib_rule.proofs.Results.{sx_back_session}
use Rattle.ib_rule.proofs.space.Space.give_sx_under_x.Goals as goal

pub returns-clause-left : goal.returns-clause-left
returns-clause-left g c =
    let v = c.args.pass.now.view in let n = cell_of c.last_sx_on.result.0 - X_LOCK_HALF_DECR in
    let proper = c.last_sx_on.ensures.proper in
    let one = counted c.args.latch.0 c.args.pass.now.view.session (proper.single c.args.latch.0) in
    let last = c.requires.last in let owns = c.requires.owns_x in
    let has : 0 < sx_grants c.args.latch.0 c.args.pass.now.view.session = omega arith in
    let more : 1 < claims c.args.latch.0 c.args.pass.now.view.session = omega arith in
    c.last_sx_on.ensures.turn.0 ∙ ap (with_view c.args.pass.now) (sx_back_view v (view_after (Turn (Usx c.args.latch.0)) n v) c.args.latch.0 n _ c.requires.last refl
    (sx_back_session v _ c.args.latch.0 n c.requires.free.phase proper has more refl))
