use Rattle.std.proofs.Common.{refl, ap, ◌∙◌}
use Rattle.ib_core.specs.Turns.{word_for}
use Rattle.ib_rule.specs.declared.kind.StepKind.TheVariants.{Turn}
use Rattle.ib_rule.specs.Pass.{with_view}
use Rattle.ib_rule.specs.Steps.{view_after}
use Rattle.ib_rule.proofs.MarkSteps.{gen_step, gen_word}
use Rattle.ib_rule.proofs.Outcomes.{gen_view}
use Rattle.ib_rule.proofs.space.Space.load_gen.Goals as goal

pub turn-requires-clause-word : goal.turn-requires-clause-word
turn-requires-clause-word g c = ap (λ e. word_for e c.args.pass.now.view.session) c.gen_event-event.ensures ∙ gen_word c.args.pass.now.view c.args.latch.0 0 c.args.wish _ refl c.requires.may

pub turn-requires-clause-step : goal.turn-requires-clause-step
turn-requires-clause-step g c = λ proper n found. gen_step c.args.pass.now.view c.args.latch.0 n c.args.wish c.gen_event-event.result c.gen_event-event.ensures

pub returns-clause-same : goal.returns-clause-same
returns-clause-same g c =
    let p = c.args.pass.now in
    c.turn.ensures.view ∙ ap (λ e. with_view p (view_after (Turn e) c.turn.result.0 p.view)) c.gen_event-event.ensures
    ∙ ap (with_view p) (gen_view p.view c.args.latch.0 c.turn.result.0 c.turn.ensures.known c.args.wish c.requires.may)
