-- A first grant is the turn of its wish.
use Rattle.std.proofs.Common.{◌≡◌, ℕ, ◌<◌, ℤ, sym, ap, ◌∙◌, subst}
use Rattle.std.specs.Prelude.{Some}
use Rattle.ib_core.specs.declared.event.Event.{Event}
use Rattle.ib_core.specs.Holders.{CanWish}
use Rattle.ib_core.specs.Table.{response_of}
use Rattle.ib_core.specs.Takings.{wish}
use Rattle.ib_core.specs.Turns.{marks_found}
use Rattle.ib_rule.specs.Wished.{IsWished}
use Rattle.ib_rule.proofs.mirror.try_on.Goals as goal

pub grant_first-requires-clause-latch : goal.grant_first-requires-clause-latch
grant_first-requires-clause-latch c = subst (λ (l : ℕ). l < c.args.member.now.latches) (sym c.latch.ensures) c.requires.latch

pub grant_first-requires-clause-may : goal.grant_first-requires-clause-may
grant_first-requires-clause-may c =
    let known : IsWished (Some c.in-Some.it) c.args.event c.args.expected.0 c.args.member.now.session = subst (λ o. IsWished o c.args.event c.args.expected.0 c.args.member.now.session) c.in-Some.is c.requires.wish in
    subst (λ (l : ℕ). CanWish l c.in-Some.it.1 c.args.member.now.session) (sym c.latch.ensures) known.0

pub grant_first-requires-clause-given : goal.grant_first-requires-clause-given
grant_first-requires-clause-given c =
    let known : IsWished (Some c.in-Some.it) c.args.event c.args.expected.0 c.args.member.now.session = subst (λ o. IsWished o c.args.event c.args.expected.0 c.args.member.now.session) c.in-Some.is c.requires.wish in known.2

pub returns-in-Some-clause-turn : goal.returns-in-Some-clause-turn
returns-in-Some-clause-turn c =
    let known : IsWished (Some c.in-Some.it) c.args.event c.args.expected.0 c.args.member.now.session = subst (λ o. IsWished o c.args.event c.args.expected.0 c.args.member.now.session) c.in-Some.is c.requires.wish in
    let event : wish c.in-Some.it.0 c.latch.result c.in-Some.it.1 ≡ c.args.event = ap (λ (l : ℕ). wish c.in-Some.it.0 l c.in-Some.it.1) c.latch.ensures ∙ sym known.1 in
    c.grant_first.ensures.turn (marks_found c.args.found)
    ∙ (ap (λ (e : Event). response_of c.args.expected.0 (marks_found c.args.found) e c.args.member.now.session) event
    ∙ ap (λ (w : ℤ). response_of w (marks_found c.args.found) c.args.event c.args.member.now.session) (sym c.requires.is))
