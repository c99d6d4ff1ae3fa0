use Rattle.std.proofs.Common.{ap, ◌∙◌}
use Rattle.ib_core.specs.declared.session.Session.{Session}
use Rattle.ib_core.specs.Turns.{word_for}
use Rattle.ib_rule.specs.declared.kind.StepKind.TheVariants.{Turn}
use Rattle.ib_rule.specs.Pass.{PassState, with_view}
use Rattle.ib_rule.specs.Steps.{view_after}
use Rattle.ib_rule.specs.Conditions.{flag_event}
use Rattle.ib_rule.proofs.MarkSteps.{flag_load_step, flag_load_word}
use Rattle.ib_rule.proofs.Outcomes.{flag_view}
use Rattle.ib_rule.proofs.space.Space.load_waiters.Goals as goal

pub turn-requires-clause-word : goal.turn-requires-clause-word
turn-requires-clause-word g c = ap (λ e. word_for e c.args.pass.now.view.session) c.flag_event-event.ensures ∙ flag_load_word c.args.pass.now.view c.args.latch.0 0 c.phase-phase.result

pub turn-requires-clause-step : goal.turn-requires-clause-step
turn-requires-clause-step g c = λ proper n found. flag_load_step c.args.pass.now.view c.args.latch.0 n c.phase-phase.result c.flag_event-event.result c.flag_event-event.ensures found

pub returns-clause-same : goal.returns-clause-same
returns-clause-same g c =
    let p = c.args.pass.now in
    let phase = (c.phase-phase.ensures ∙ (ap (λ (a : Session). a.phase) c.pass.invariant.session ∙ ap (λ (p : PassState). p.view.session.phase) c.pass.view_is)) in
    c.turn.ensures.view ∙ ap (λ e. with_view p (view_after (Turn e) c.turn.result.0 p.view)) (c.flag_event-event.ensures ∙ ap (flag_event c.args.latch.0) phase)
    ∙ ap (with_view p) (flag_view p.view c.args.latch.0 c.turn.result.0 c.turn.ensures.known c.requires.may)
