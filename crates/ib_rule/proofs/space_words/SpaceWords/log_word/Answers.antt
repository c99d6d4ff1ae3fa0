-- The word at the place of the log's word is that one.
use Rattle.std.proofs.Common.{◌≡◌, ◌<◌, ◌∙◌, ℕ, List, length, slice_index, sym, ap, subst}
use Rattle.std.specs.Slots.{slots_items}
use Rattle.ib_rule.specs.Closed.{ClosedState, log_in}
use Rattle.ib_rule.proofs.Closing.{elem_get, log_at}
use Rattle.ib_rule.proofs.space_words.SpaceWords.log_word.Goals as goal

pub returns : goal.returns
returns c =
    let inside : List ℕ = slots_items c.self.inside.table.words in
    let low = subst (λ (s : ClosedState). c.args.number < length (log_in s.sizes s.words)) (sym c.self.view_is) c.requires in
    let there = ap (slice_index inside) (sym c.log_place.ensures.place) ∙ elem_get inside c.log_place.result c.word.result c.word.ensures in
    subst (λ (s : ClosedState). c.word.result ≡ slice_index (log_in s.sizes s.words) c.args.number) c.self.view_is
    (sym (log_at c.self.inside.geometry inside c.args.number c.self.invariant.sized low ∙ there))
