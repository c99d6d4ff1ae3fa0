-- The step is allowed as a turn, and the pass makes the same turn.
use Rattle.std.proofs.Common.{ℕ, ◌≤◌, refl, ap, sym, ◌∙◌, subst}
use Rattle.ib_core.specs.Good.{IsProper}
use Rattle.ib_core.specs.Responses.{latch_of}
use Rattle.ib_core.specs.Sessions.{grants}
use Rattle.ib_core.specs.Turns.{Leaves}
use Rattle.ib_rule.specs.declared.pass.TheConstants.{MOST_HELD}
use Rattle.ib_rule.specs.declared.view.View.{View}
use Rattle.ib_rule.specs.Space.{SpaceState}
use Rattle.ib_rule.specs.Pass.{PassState}
use Rattle.ib_rule.specs.Steps.{latch_word_place, run}
use Rattle.ib_rule.specs.Told.{CanBe}
use Rattle.ib_rule.specs.Conditions.{CanTake}
use Rattle.ib_rule.proofs.Moves.{turn_allowed_at}
use Rattle.ib_rule.proofs.Passing.{pass_turned}
use Rattle.ib_rule.proofs.space.Space.turn.Goals as goal

pub act-found-requires-clause-allowed : goal.act-found-requires-clause-allowed
act-found-requires-clause-allowed g c =
    let mine = ap (λ (p : PassState). p.view) c.pass.view_is in
    turn_allowed_at g.L.Law.lawful g.L.Law.opening _ _ _ _ _ c.args.word _ c.args.event (λ n. run c.args.op n)
    (rw mine c.requires.word) (c.place-place.ensures.place ∙ ap (latch_word_place c.args.word) c.latch.ensures)
    (rw (c.self.invariant.key, ap (λ (o : SpaceState). o.sizes) c.self.view_is) c.requires.latch)
    (rw c.pass.invariant.role (λ e. absurd (cc)))
    (rw mine c.requires.own.closed)
    ((subst (λ (v : View). IsProper v.session → (n : ℕ) → CanBe c.args.word (latch_of c.args.event) v.session n → CanTake c.args.event v n × Leaves c.args.word c.args.event v.session n (run c.args.op n)) (sym mine) c.requires.step) c.pass.invariant.proper)

pub turn_on-answer-requires-clause-few : goal.turn_on-answer-requires-clause-few
turn_on-answer-requires-clause-few g c = subst (λ a. (l : ℕ) → grants l a ≤ MOST_HELD) (sym c.pass.invariant.session) c.pass.invariant.few

pub invariant_of-pass : goal.invariant_of-pass
invariant_of-pass g c =
    let told = c.act-found.ensures.told in
    pass_turned c.pass.inside _ c.args.event c.act-found.result c.turn_on-answer.result _ c.pass.invariant
    told.1 told.0.view told.0.proper told.0.known told.0.few told.0.taken
    c.turn_on-answer.ensures.turn
    (rw c.phase-before.ensures at c.counted-pass-inside.ensures)
    c.turn_on-answer.ensures.latches refl refl refl refl refl refl refl refl
