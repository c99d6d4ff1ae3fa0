-- One word more of the image is that of the page.
use Rattle.std.proofs.Common.{◌≡◌, ◌∙◌, ℕ, List, sym, ap, subst, arith, slice_index, slice_set, get_or-set_same, get_or-set_other}
use mathlib.Core.Logic.{dite}
use native.Mathlib.Decide.{ℕ_discrete}
use Rattle.std.specs.Slots.{slots_items}
use Rattle.ib_layout.specs.Geometry.{Sizes}
use Rattle.ib_layout.specs.Places.{page_place}
use Rattle.ib_rule.specs.Closed.{ClosedState}
use Rattle.ib_rule.proofs.Closing.{elem_get}
use Rattle.ib_rule.proofs.space_words.SpaceWords.page.Goals as goal

pub loop-i-preserved : goal.loop-i-preserved
loop-i-preserved c = λ k h.
    let i : ℕ = c.loop-i.i in
    let sizes = ap (λ (s : ClosedState). s.sizes) c.self.view_is in
    let words = ap (λ (s : ClosedState). s.words) c.self.view_is in
    let inside : List ℕ = slots_items c.self.inside.table.words in
    let word : slice_index c.args.self.now.words (page_place c.args.self.now.sizes c.args.page i) ≡ c.word.result =
    ap (λ (ws : List ℕ). slice_index ws (page_place c.args.self.now.sizes c.args.page i)) (sym words)
    ∙ (ap (λ (s : Sizes). slice_index inside (page_place s c.args.page i)) (sym sizes) ∙ (ap (slice_index inside) (sym c.page_place.ensures.place) ∙ elem_get inside c.page_place.result c.word.result c.word.ensures)) in
    ap (λ (ws : List ℕ). slice_index ws k) c.set_word.ensures.word ∙ dite (ℕ_discrete i k)
    (λ here. subst (λ k. slice_index (slice_set c.loop-i.image i c.word.result) k ≡ slice_index c.args.self.now.words (page_place c.args.self.now.sizes c.args.page k)) here
    (get_or-set_same c.loop-i.image i c.word.result 0 (let s = c.set_word.ensures.size in let t = c.loop-i-test.true in omega arith) ∙ sym word))
    (λ away. get_or-set_other c.loop-i.image i k c.word.result 0 (λ e. omega arith) ∙ c.loop-i.invariant k (omega arith))
