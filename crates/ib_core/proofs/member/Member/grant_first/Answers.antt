-- A first grant is the turn of the wish, and takes the room that was there for it.
use Rattle.std.proofs.Common.{◌≡◌, ℕ, ◌<◌, refl, sym, ap, ◌∙◌, subst}
use Rattle.ib_levels.specs.declared.level.Level.{Level}
use Rattle.ib_levels.specs.declared.level.Mode.{Mode}
use Rattle.ib_levels.specs.declared.level.Mode.TheVariants.{S, Sx, X}
use Rattle.ib_core.specs.Good.{IsProper}
use Rattle.ib_core.specs.Holders.{CanWish}
use Rattle.ib_core.specs.Actor.{session_of}
use Rattle.ib_core.specs.Machine.{fresh}
use Rattle.ib_core.specs.Member.{SessionAmong}
use Rattle.ib_core.specs.Responses.{Response, latch_of}
use Rattle.ib_core.specs.Table.{response_of}
use Rattle.ib_core.specs.Takings.{wish}
use Rattle.ib_core.proofs.After.{after_first}
use Rattle.ib_core.proofs.Roomy.{room_for, roomy_after}
use Rattle.ib_core.proofs.member.Member.grant_first.Goals as goal

wish_latch : (mode : Mode) (l : ℕ) (v : Level) → latch_of (wish mode l v) ≡ l
wish_latch S l v = refl
wish_latch Sx l v = refl
wish_latch X l v = refl

pub grant_first-requires-clause-free : goal.grant_first-requires-clause-free
grant_first-requires-clause-free c = (subst (λ (m : SessionAmong). CanWish c.args.latch.0 c.args.level m.session) (sym c.self.view_is) c.requires.may).free

pub grant_first-requires-clause-none : goal.grant_first-requires-clause-none
grant_first-requires-clause-none c = (subst (λ (m : SessionAmong). CanWish c.args.latch.0 c.args.level m.session) (sym c.self.view_is) c.requires.may).none

pub grant_first-requires-clause-room : goal.grant_first-requires-clause-room
grant_first-requires-clause-room c =
    let view = sym c.self.view_is in
    room_for c.self.inside.latches c.self.inside.actor c.args.latch.0 c.self.invariant
    (subst (λ (m : SessionAmong). IsProper m.session) view c.requires.proper)
    (subst (λ (m : SessionAmong). c.args.latch.0 < m.latches) view c.requires.latch)

pub invariant_of-self : goal.invariant_of-self
invariant_of-self c =
    let view = sym c.self.view_is in
    let may = subst (λ (m : SessionAmong). CanWish c.args.latch.0 c.args.level m.session) view c.requires.may in
    roomy_after c.self.inside.latches c.self.inside.actor c.grant_first.new.self c.args.word.0 fresh (wish c.args.mode c.args.latch.0 c.args.level) c.self.invariant
    (subst (λ (m : SessionAmong). IsProper m.session) view c.requires.proper)
    (subst (λ (l : ℕ). l < c.self.inside.latches) (sym (wish_latch c.args.mode c.args.latch.0 c.args.level)) (subst (λ (m : SessionAmong). c.args.latch.0 < m.latches) view c.requires.latch))
    (ap (λ (r : Response). r.session) (c.grant_first.ensures.responds ∙ sym (after_first c.args.word.0 fresh c.args.latch.0 (session_of c.self.inside.actor) c.args.mode c.args.level may c.requires.given))) c.grant_first.ensures.capacity

pub returns-clause-turn : goal.returns-clause-turn
returns-clause-turn c = λ marks.
    let may = subst (λ (m : SessionAmong). CanWish c.args.latch.0 c.args.level m.session) (sym c.self.view_is) c.requires.may in
    c.grant_first.ensures.responds ∙ (sym (after_first c.args.word.0 marks c.args.latch.0 (session_of c.self.inside.actor) c.args.mode c.args.level may c.requires.given)
    ∙ ap (λ (s : SessionAmong). response_of c.args.word.0 marks (wish c.args.mode c.args.latch.0 c.args.level) s.session) c.self.view_is)
