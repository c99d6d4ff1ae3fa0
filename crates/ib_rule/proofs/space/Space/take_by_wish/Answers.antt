-- The try of a session in the middle of nothing is its first wish.
use Rattle.std.proofs.Common.{ap, sym, ◌∙◌, subst}
use Rattle.std.specs.Prelude.{Some}
use Rattle.ib_core.specs.Turns.{word_for}
use Rattle.ib_core.specs.declared.event.Event.{Event}
use Rattle.ib_rule.specs.Conditions.{MayTry, try_event}
use Rattle.ib_rule.specs.Wished.{IsWished}
use Rattle.ib_rule.proofs.Firsts.{first_lost, first_won}
use Rattle.ib_rule.proofs.Wishes.{wish_known}
use Rattle.ib_rule.proofs.LockSteps.{first_word, first_try}
use Rattle.ib_rule.proofs.space.Space.take_by_wish.Goals as goal

pub exchange_turn-requires-clause-word : goal.exchange_turn-requires-clause-word
exchange_turn-requires-clause-word g c =
    let is = c.wish_event-event.ensures ∙ ap (try_event c.args.mode c.args.latch.0 c.args.level) (sym c.requires.free) in
    ap (λ e. word_for e c.args.pass.now.view.session) is ∙ first_word c.args.pass.now.view c.args.latch.0 c.args.level c.args.mode _ c.requires.may.may

pub exchange_turn-requires-clause-step : goal.exchange_turn-requires-clause-step
exchange_turn-requires-clause-step g c =
    let is = c.wish_event-event.ensures ∙ ap (try_event c.args.mode c.args.latch.0 c.args.level) (sym c.requires.free) in
    λ _ _. first_try c.args.pass.now.view c.args.latch.0 c.args.level c.args.mode c.args.expected.0 c.wish_event-event.result c.first_weight.result is c.first_weight.ensures c.requires.may.may c.requires.may.grows c.requires.may.given

pub exchange_turn-requires-clause-wish : goal.exchange_turn-requires-clause-wish
exchange_turn-requires-clause-wish g c =
    let a = c.args.pass.now.view.session in
    subst (λ (e : Event). IsWished (Some (c.args.mode, c.args.level)) e c.args.expected.0 a) (sym c.wish_event-event.ensures)
    (wish_known c.args.mode c.args.latch.0 c.args.level c.args.expected.0 a (subst (MayTry c.args.mode c.args.latch.0 c.args.level a) c.requires.free c.requires.may.may) c.requires.may.given)

pub returns-in-Ok : goal.returns-in-Ok
returns-in-Ok g c =
    let is = c.wish_event-event.ensures ∙ ap (try_event c.args.mode c.args.latch.0 c.args.level) (sym c.requires.free) in
    first_won c.args.mode c.args.latch.0 c.args.level c.args.expected c.args.pass.now c.exchange_turn.new.pass c.wish_event-event.result is _
    c.exchange_turn.ensures.known c.requires.may.may c.requires.may.given c.in-Ok.ensures.view c.in-Ok.ensures.event c.in-Ok.ensures.answer

pub returns-in-Err : goal.returns-in-Err
returns-in-Err g c =
    let is = c.wish_event-event.ensures ∙ ap (try_event c.args.mode c.args.latch.0 c.args.level) (sym c.requires.free) in
    first_lost c.args.mode c.args.latch.0 c.args.level c.args.expected c.args.pass.now c.exchange_turn.new.pass c.wish_event-event.result is
    c.in-Err.found c.in-Err.ensures.view c.in-Err.ensures.refused c.in-Err.ensures.lost
