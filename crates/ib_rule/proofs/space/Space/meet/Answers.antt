-- Both passes know no less than before, and nothing else of them changes.
use Rattle.std.proofs.Common.{◌≡◌, ℕ, refl, sym, ap, ◌∙◌, subst}
use mathlib.Core.List.{IsPrefix}
use Rattle.atomic_table.specs.Table.{Me}
use Rattle.ib_rule.specs.declared.view.View.{View}
use Rattle.ib_rule.specs.Pass.{PassState, IsFront}
use Rattle.ib_rule.specs.Views.{KnowsHeld}
use Rattle.ib_rule.proofs.Passing.{pass_knows, longer_front, longer_fits}
use Rattle.ib_rule.proofs.Watching.{watching_same}
use Rattle.ib_rule.proofs.Knowing.{prefix_short}
use Rattle.ib_rule.proofs.space.Space.meet.Goals as goal

pub invariant_of-to : goal.invariant_of-to
invariant_of-to g c =
    let to = c.to.invariant in let from = c.from.invariant in
    let same : c.from.inside.geometry ≡ c.to.inside.geometry =
    ap (λ (p : PassState). p.sizes) c.from.view_is ∙ (c.requires.from.1 ∙ sym (ap (λ (p : PassState). p.sizes) c.to.view_is ∙ c.requires.to.1)) in
    let front = c.further-front.ensures ∙ longer_front _ _ _ _ (λ j. (to.place j, to.used j)) (λ j. (from.place j, from.used j)) in
    let mine : IsPrefix c.to.inside.seat.me.0.memory.seen c.tell.new.to.me.0.memory.seen = (c.tell.ensures.looked.others, c.tell.ensures.looked.longer) in
    pass_knows c.to.inside _ _ to c.tell.ensures.to.2 (subst KnowsHeld (sym (ap (λ (m : Me (Unit {0}) View). m.0) c.tell.ensures.to.2)) (let k = to.known in record { since = k.since; loaded = k.loaded; written = k.written })) (ap (λ (z : ℕ × ℕ). z.0) front) (ap (λ (z : ℕ × ℕ). z.1) front) to.made
    (longer_fits _ _ _ to.front (subst (λ z. IsFront z c.from.inside.seat.me.0.memory) same from.front) (prefix_short _ _ (subst (λ es. IsPrefix c.to.inside.seat.me.0.memory.seen es) (ap (λ (m : Me (Unit {0}) View). m.0.memory.seen) c.tell.ensures.to.2) mine)))
    refl refl refl refl refl refl
    (watching_same c.to.inside.looked_after c.to.inside.seat.me.0 _ (ap (λ (m : Me (Unit {0}) View). m.0.grants) c.tell.ensures.to.2) (ap (λ (m : Me (Unit {0}) View). m.0.session) c.tell.ensures.to.2) (ap (λ (m : Me (Unit {0}) View). m.0.memory.since) c.tell.ensures.to.2) to.watches)

pub invariant_of-from : goal.invariant_of-from
invariant_of-from g c =
    let from = c.from.invariant in
    pass_knows c.from.inside _ c.from.inside.seat.me.0.memory from c.tell.ensures.from.2 (subst KnowsHeld (sym (ap (λ (m : Me (Unit {0}) View). m.0) c.tell.ensures.from.2)) from.known) from.place from.used from.made from.front refl refl refl refl refl refl
    (watching_same c.from.inside.looked_after c.from.inside.seat.me.0 _ (ap (λ (m : Me (Unit {0}) View). m.0.grants) c.tell.ensures.from.2) (ap (λ (m : Me (Unit {0}) View). m.0.session) c.tell.ensures.from.2) (ap (λ (m : Me (Unit {0}) View). m.0.memory.since) c.tell.ensures.from.2) from.watches)
