use Rattle.std.proofs.Common.{◌≡◌, ap, ◌∙◌, subst, arith}
use Rattle.std.proofs.lemmas.Grind.{common_steps}
use Rattle.ib_word.specs.Word.{cell_of}
use Rattle.ib_rule.specs.Conditions.{word_kind}
use Rattle.ib_rule.specs.Pass.{PassState, with_view}
use Rattle.ib_rule.specs.Steps.{view_after}
use Rattle.ib_rule.specs.Views.{KnowsHeld}
use Rattle.ib_rule.proofs.Outcomes.{word_view}
use Rattle.ib_rule.proofs.space.Space.load_word.Goals as goal

pub returns-clause-same : goal.returns-clause-same
returns-clause-same g c =
    let known = subst KnowsHeld (ap (λ (p : PassState). p.view) c.pass.view_is) c.pass.invariant.known in
    let view : c.match-phase.pass ≡ with_view c.args.pass.now (view_after (word_kind c.args.latch.0 c.args.pass.now.view.session.phase) (cell_of c.from_cell.result.0) c.args.pass.now.view) = grind (arith, common_steps) in
    view ∙ ap (with_view c.args.pass.now) (word_view c.args.pass.now.view (cell_of c.from_cell.result.0) known c.args.latch.0)
