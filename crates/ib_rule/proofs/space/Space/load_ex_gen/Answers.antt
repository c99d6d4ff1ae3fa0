use Rattle.std.proofs.Common.{refl, ap, ◌∙◌}
use Rattle.ib_core.specs.declared.session.Session.{Session}
use Rattle.ib_core.specs.Turns.{word_for}
use Rattle.ib_rule.specs.declared.kind.StepKind.TheVariants.{Turn}
use Rattle.ib_rule.specs.Pass.{PassState, with_view}
use Rattle.ib_rule.specs.Steps.{view_after}
use Rattle.ib_rule.specs.Conditions.{ex_gen_event}
use Rattle.ib_rule.proofs.MarkSteps.{ex_gen_step, ex_gen_word}
use Rattle.ib_rule.proofs.Outcomes.{ex_gen_view}
use Rattle.ib_rule.proofs.space.Space.load_ex_gen.Goals as goal

pub turn-requires-clause-word : goal.turn-requires-clause-word
turn-requires-clause-word g c =
    let phase = (c.phase-phase.ensures ∙ (ap (λ (a : Session). a.phase) c.pass.invariant.session ∙ ap (λ (p : PassState). p.view.session.phase) c.pass.view_is)) in
    ap (λ e. word_for e c.args.pass.now.view.session) (c.ex_gen_event-event.ensures ∙ ap (ex_gen_event c.args.latch.0) phase) ∙ ex_gen_word c.args.pass.now.view c.args.latch.0 0 _ refl c.requires.may

pub turn-requires-clause-step : goal.turn-requires-clause-step
turn-requires-clause-step g c = λ proper n found. ex_gen_step c.args.pass.now.view c.args.latch.0 n c.phase-phase.result c.ex_gen_event-event.result c.ex_gen_event-event.ensures

pub returns-clause-same : goal.returns-clause-same
returns-clause-same g c =
    let p = c.args.pass.now in
    let phase = (c.phase-phase.ensures ∙ (ap (λ (a : Session). a.phase) c.pass.invariant.session ∙ ap (λ (p : PassState). p.view.session.phase) c.pass.view_is)) in
    c.turn.ensures.view ∙ ap (λ e. with_view p (view_after (Turn e) c.turn.result.0 p.view)) (c.ex_gen_event-event.ensures ∙ ap (ex_gen_event c.args.latch.0) phase)
    ∙ ap (with_view p) (ex_gen_view p.view c.args.latch.0 c.turn.result.0 c.turn.ensures.known c.requires.may)
