use Rattle.std.proofs.Common.{◌-◌, refl, ap, ◌∙◌}
use Rattle.ib_word.specs.Word.{cell_of}
use Rattle.ib_word.specs.declared.word.TheConstants.{X_LOCK_HALF_DECR}
use Rattle.ib_core.specs.declared.event.Event.TheVariants.{Usx}
use Rattle.ib_rule.specs.declared.kind.StepKind.TheVariants.{Turn}
use Rattle.ib_rule.specs.Steps.{view_after}
use Rattle.ib_rule.specs.Pass.{with_view}
use Rattle.ib_rule.proofs.Outcomes.{sx_back_view}
use Rattle.ib_rule.proofs.Results.{last_sx_session}
use Rattle.ib_rule.proofs.space.Space.give_sx.Goals as goal

pub returns-clause-left : goal.returns-clause-left
returns-clause-left g c =
    let v = c.args.pass.now.view in let n = cell_of c.last_sx_on.result.0 - X_LOCK_HALF_DECR in
    c.last_sx_on.ensures.turn.0 ∙ ap (with_view c.args.pass.now) (sx_back_view v (view_after (Turn (Usx c.args.latch.0)) n v) c.args.latch.0 n _ c.requires.last refl
    (last_sx_session v _ c.args.latch.0 n c.requires.free.phase c.last_sx_on.ensures.proper c.requires.last c.requires.no_x refl))
