-- The store is allowed by the rule.
use Rattle.std.proofs.Common.{◌≡◌, ℕ, ◌+◌, ◌-◌, ◌<◌, ◌≤◌, List, length, sym, ap, ◌∙◌, subst, arith}
use Rattle.std.specs.Prelude.{slice_index_or}
use Rattle.ib_layout.specs.Geometry.{Sizes}
use Rattle.ib_layout.specs.Places.{log_place}
use Rattle.ib_logrec.specs.Words.{entry_in, words_of_entry}
use Rattle.ib_logrec.specs.Log.{used}
use Rattle.ib_rule.specs.declared.view.View.{View}
use Rattle.ib_rule.specs.Pass.{PassState}
use Rattle.ib_rule.specs.Space.{SpaceState}
use Rattle.ib_rule.specs.Stores.{IsReady}
use Rattle.ib_rule.proofs.Stored.{store_log_allowed}
use Rattle.ib_rule.proofs.space.Space.store_log_word.Goals as goal

pub store-requires-clause-allowed : goal.store-requires-clause-allowed
store-requires-clause-allowed g c =
    let mine = ap (λ (p : PassState). p.view) c.pass.view_is in
    let words : c.as_slice.result.now ≡ c.args.pass.now.words = c.as_slice.ensures.value ∙ ap (λ (p : PassState). p.words) c.pass.view_is in
    let sizes = c.self.invariant.key ∙ ap (λ (o : SpaceState). o.sizes) c.self.view_is in
    let same : c.self.inside.table.shared.key ≡ c.pass.inside.geometry = sizes ∙ sym (ap (λ (p : PassState). p.sizes) c.pass.view_is ∙ c.requires.own.1) in
    let behind : used c.pass.inside.seat.me.0.memory.seen ≤ c.args.number = rw mine c.requires.behind in
    let used_is : c.pass.inside.used ≡ used c.args.pass.now.view.memory.seen = c.pass.invariant.used ∙ ap (λ (v : View). used v.memory.seen) mine in
    let number : (c.args.number - c.pass.inside.used) ≡ (c.args.number - used c.args.pass.now.view.memory.seen) = ap (λ (u : ℕ). c.args.number - u) used_is in
    let sum : used c.pass.inside.seat.me.0.memory.seen + (c.args.number - c.pass.inside.used) ≡ c.args.number = let u = c.pass.invariant.used in omega arith in
    store_log_allowed g.L.Law.lawful g.L.Law.opening c.self.inside.table.shared.key (entry_in c.as_slice.result.now) _ _ c.pass.inside.seat.me
    (subst (λ (z : Sizes × View × List ℕ). IsReady z.0 (g.L.Law.lawful z.0.pages) z.1 (entry_in z.2)) (λ j. (sym sizes j, sym mine j, sym words j)) c.requires.ready.ready)
    _ (c.args.number - c.pass.inside.used) c.args.value
    (c.log_place.ensures.place ∙ (λ i. log_place (sym same i) (sym sum i)))
    (subst (λ (z : ℕ × List ℕ). z.0 < length (words_of_entry (entry_in z.1))) (λ i. (sym number i, sym words i)) c.requires.number)
    (subst (λ (z : ℕ × List ℕ). c.args.value ≡ slice_index_or (words_of_entry (entry_in z.1)) z.0 0) (λ i. (sym number i, sym words i)) c.requires.value)
