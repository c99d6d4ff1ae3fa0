use Rattle.std.specs.Prelude.{◌≡◌, ◌<◌, ℕ, slice_index}
use Rattle.ib_layout.specs.Places.{page_place}
use Rattle.ib_rule.proofs.space_words.SpaceWords.page.Given as goal

abbrev pub invariant-loop-i : goal.invariant-loop-i
invariant-loop-i l = (k : ℕ) → k < l.i → slice_index l.image k ≡ slice_index l.fn.self.words (page_place l.fn.self.sizes l.fn.page k)
