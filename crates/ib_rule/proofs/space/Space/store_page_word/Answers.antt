-- The store is allowed by the rule.
use Rattle.std.proofs.Common.{◌≡◌, ℕ, true, List, sym, ap, ◌∙◌, subst}
use Rattle.ib_map.specs.Writes.{stored, word_place, writes_at}
use Rattle.ib_layout.specs.Geometry.{Sizes}
use Rattle.ib_logrec.specs.Words.{entry_in}
use Rattle.ib_rule.specs.declared.view.View.{View}
use Rattle.ib_rule.specs.Pass.{PassState}
use Rattle.ib_rule.specs.Space.{SpaceState}
use Rattle.ib_rule.specs.Stores.{IsReady}
use Rattle.ib_rule.proofs.Stored.{store_page_allowed}
use Rattle.ib_rule.proofs.space.Space.store_page_word.Goals as goal

pub store-requires-clause-allowed : goal.store-requires-clause-allowed
store-requires-clause-allowed g c =
    let mine = ap (λ (p : PassState). p.view) c.pass.view_is in
    let words : c.as_slice.result.now ≡ c.args.pass.now.words = c.as_slice.ensures.value ∙ ap (λ (p : PassState). p.words) c.pass.view_is in
    let sizes = c.self.invariant.key ∙ ap (λ (o : SpaceState). o.sizes) c.self.view_is in
    store_page_allowed g.L.Law.lawful g.L.Law.opening c.self.inside.table.shared.key (entry_in c.as_slice.result.now) _ _ c.pass.inside.seat.me
    (subst (λ (z : Sizes × View × List ℕ). IsReady z.0 (g.L.Law.lawful z.0.pages) z.1 (entry_in z.2)) (λ j. (sym sizes j, sym mine j, sym words j)) c.requires.ready.ready)
    _ c.args.page c.args.index c.args.value
    (rw c.self.invariant.key c.page_place.ensures.place)
    (subst (λ ws. writes_at (word_place c.args.page c.args.index) (entry_in ws).writes ≡ true) (sym words) c.requires.written)
    (subst (λ ws. c.args.value ≡ stored (entry_in ws).writes (word_place c.args.page c.args.index) 0) (sym words) c.requires.value)
