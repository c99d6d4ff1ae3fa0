-- The exchange is allowed, and where it was won the pass makes the same turn.
use Rattle.std.proofs.Common.{ℕ, ◌≤◌, ◌-◌, refl, ap, sym, ◌∙◌, subst, eq-eqb}
use Rattle.std.specs.Prelude.{if◌then◌else◌, Some, None}
use Rattle.ib_word.specs.Word.{cell_of, word_in}
use Rattle.ib_core.specs.declared.latch_word.LatchWord.TheVariants.{Lock}
use Rattle.ib_core.specs.Good.{IsProper}
use Rattle.ib_core.specs.Responses.{latch_of}
use Rattle.ib_core.specs.Sessions.{grants, holdings}
use Rattle.ib_core.specs.Turns.{Leaves}
use Rattle.ib_rule.specs.declared.pass.TheConstants.{MOST_HELD}
use Rattle.ib_rule.specs.declared.view.View.{View}
use Rattle.ib_rule.specs.Space.{SpaceState}
use Rattle.ib_rule.specs.Pass.{PassState}
use Rattle.ib_rule.specs.Views.{with_looks, turned_by}
use Rattle.ib_rule.specs.Steps.{looked, latch_word_place}
use Rattle.ib_rule.specs.Told.{CanBe}
use Rattle.ib_rule.specs.Conditions.{CanTake}
use Rattle.ib_rule.specs.Wished.{IsWished}
use Rattle.ib_rule.proofs.Moves.{try_allowed_at}
use Rattle.ib_rule.proofs.Passing.{pass_turned}
use Rattle.ib_rule.proofs.space.Space.exchange_turn.Goals as goal

pub act-found-requires-clause-allowed : goal.act-found-requires-clause-allowed
act-found-requires-clause-allowed g c =
    let mine = ap (λ (p : PassState). p.view) c.pass.view_is in
    try_allowed_at g.L.Law.lawful g.L.Law.opening _ _ _ _ _ _ c.args.event _ _
    (rw mine c.requires.word) (c.place-place.ensures.place ∙ ap (latch_word_place Lock) c.latch.ensures)
    (rw (c.self.invariant.key, ap (λ (o : SpaceState). o.sizes) c.self.view_is) c.requires.latch)
    (rw c.pass.invariant.role (λ e. absurd (cc)))
    (rw mine c.requires.own.closed)
    (subst (λ (n : ℕ). CanBe Lock (latch_of c.args.event) c.pass.inside.seat.me.0.session n → CanTake c.args.event c.pass.inside.seat.me.0 n × Leaves Lock c.args.event c.pass.inside.seat.me.0.session n (n - c.args.taken)) (sym c.to_cell-old.ensures.cell)
    ((subst (λ (v : View). IsProper v.session → CanBe Lock (latch_of c.args.event) v.session (cell_of c.args.expected.0) → CanTake c.args.event v (cell_of c.args.expected.0) × Leaves Lock c.args.event v.session (cell_of c.args.expected.0) (cell_of c.args.expected.0 - c.args.taken)) (sym mine) c.requires.step) c.pass.invariant.proper))

pub try_on-answer-requires-clause-few : goal.try_on-answer-requires-clause-few
try_on-answer-requires-clause-few g c = subst (λ a. (l : ℕ) → grants l a ≤ MOST_HELD) (sym c.pass.invariant.session) c.pass.invariant.few

pub try_on-answer-requires-clause-is : goal.try_on-answer-requires-clause-is
try_on-answer-requires-clause-is g c = ap word_in c.if-found-old.false ∙ c.to_cell-old.ensures.inverse

pub try_on-answer-requires-clause-wish : goal.try_on-answer-requires-clause-wish
try_on-answer-requires-clause-wish g c = subst (λ a. IsWished c.args.wish c.args.event c.args.expected.0 a) (sym (c.pass.invariant.session ∙ ap (λ (p : PassState). p.view.session) c.pass.view_is)) c.requires.wish

pub invariant_of-pass-2 : goal.invariant_of-pass-2
invariant_of-pass-2 g c =
    let told = c.act-found.ensures.told in
    pass_turned c.pass.inside _ c.args.event c.act-found.result c.try_on-answer.result _ c.pass.invariant
    told.1 (told.0.view ∙ ap (λ b. with_looks (looked (latch_of c.args.event) c.act-found.result (Some c.to_cell-old.result) (holdings (latch_of c.args.event) c.pass.inside.seat.me.0.session) c.pass.inside.seat.me.0.looks) (turned_by (if b then Some c.args.event else None) c.act-found.result c.pass.inside.seat.me.0)) (eq-eqb c.act-found.result c.to_cell-old.result c.if-found-old.false)) told.0.proper told.0.known told.0.few told.0.taken
    c.try_on-answer.ensures.turn
    (rw c.phase-before.ensures at c.counted-pass-inside.ensures)
    c.try_on-answer.ensures.latches refl refl refl refl refl refl refl refl
