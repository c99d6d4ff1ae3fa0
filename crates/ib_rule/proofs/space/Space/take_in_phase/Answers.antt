-- A first try takes off what it weighs.
use Rattle.std.proofs.Common.{ap, ◌∙◌}
use Rattle.ib_core.specs.declared.session.Session.{Session}
use Rattle.ib_core.specs.Turns.{word_for}
use Rattle.ib_rule.specs.Pass.{PassState}
use Rattle.ib_rule.specs.Conditions.{try_event}
use Rattle.ib_rule.proofs.Firsts.{first_lost, first_won}
use Rattle.ib_rule.proofs.LockSteps.{first_word, first_try}
use Rattle.ib_rule.proofs.space.Space.take_in_phase.Goals as goal

pub exchange_turn-requires-clause-word : goal.exchange_turn-requires-clause-word
exchange_turn-requires-clause-word g c =
    let is = c.try_event-event.ensures ∙ ap (try_event c.args.mode c.args.latch.0 c.args.level) (c.phase.ensures ∙ (ap (λ (a : Session). a.phase) c.pass.invariant.session ∙ ap (λ (p : PassState). p.view.session.phase) c.pass.view_is)) in
    ap (λ e. word_for e c.args.pass.now.view.session) is ∙ first_word c.args.pass.now.view c.args.latch.0 c.args.level c.args.mode _ c.requires.may.may

pub exchange_turn-requires-clause-step : goal.exchange_turn-requires-clause-step
exchange_turn-requires-clause-step g c =
    let is = c.try_event-event.ensures ∙ ap (try_event c.args.mode c.args.latch.0 c.args.level) (c.phase.ensures ∙ (ap (λ (a : Session). a.phase) c.pass.invariant.session ∙ ap (λ (p : PassState). p.view.session.phase) c.pass.view_is)) in
    λ _ _. first_try c.args.pass.now.view c.args.latch.0 c.args.level c.args.mode c.args.expected.0 c.try_event-event.result c.first_weight.result is c.first_weight.ensures c.requires.may.may c.requires.may.grows c.requires.may.given

pub returns-in-Ok : goal.returns-in-Ok
returns-in-Ok g c =
    let is = c.try_event-event.ensures ∙ ap (try_event c.args.mode c.args.latch.0 c.args.level) (c.phase.ensures ∙ (ap (λ (a : Session). a.phase) c.pass.invariant.session ∙ ap (λ (p : PassState). p.view.session.phase) c.pass.view_is)) in
    first_won c.args.mode c.args.latch.0 c.args.level c.args.expected c.args.pass.now c.exchange_turn.new.pass c.try_event-event.result is _
    c.exchange_turn.ensures.known c.requires.may.may c.requires.may.given c.in-Ok.ensures.view c.in-Ok.ensures.event c.in-Ok.ensures.answer

pub returns-in-Err : goal.returns-in-Err
returns-in-Err g c =
    let is = c.try_event-event.ensures ∙ ap (try_event c.args.mode c.args.latch.0 c.args.level) (c.phase.ensures ∙ (ap (λ (a : Session). a.phase) c.pass.invariant.session ∙ ap (λ (p : PassState). p.view.session.phase) c.pass.view_is)) in
    first_lost c.args.mode c.args.latch.0 c.args.level c.args.expected c.args.pass.now c.exchange_turn.new.pass c.try_event-event.result is
    c.in-Err.found c.in-Err.ensures.view c.in-Err.ensures.refused c.in-Err.ensures.lost
