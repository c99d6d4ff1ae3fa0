-- An image has all words.
use Rattle.std.proofs.Common.{◌≡◌, ◌∙◌, List, ℕ, [], length, get_or, sym, ap, arith}
use Rattle.std.proofs.lemmas.List.{get_or_default}
use Rattle.ib_walk.proofs.ImageLaws.{image_of-images}
use Rattle.ib_plan_tests.proofs.pages.image_at.Goals as goal

pub returns-clause-words : goal.returns-clause-words
returns-clause-words g c =
    let image : List ℕ = c.index-memory-place_of.result in
    let place = c.place_of.ensures.place in
    let lt = c.place_of.ensures.in_range in
    let is : image ≡ get_or c.args.memory.now c.args.page [] =
    c.index-memory-place_of.is ∙ (ap (λ i. get_or c.args.memory.now i image) place ∙ get_or_default c.args.memory.now c.args.page image [] (omega arith)) in
    image_of-images c.args.memory.now c.args.page (sym (ap length is) ∙ c.word-first.ensures.size) ∙ sym is
