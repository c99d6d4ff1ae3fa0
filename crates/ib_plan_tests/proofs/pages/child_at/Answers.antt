use Rattle.std.proofs.Common.{◌∙◌, sym, ap}
use Rattle.ib_page.specs.Form.{page_of}
use Rattle.ib_walk.specs.Words.{state_of, pages_of}
use Rattle.ib_walk.specs.Search.{child_for}
use Rattle.ib_plan_tests.proofs.pages.child_at.Goals as goal

pub returns : goal.returns
unfolding pages_of
returns g c = c.page_number.ensures ∙ (c.beside_in.ensures.child ∙ ap (λ ws. child_for c.args.key 0 (state_of (page_of ws)).records) (sym c.image_at-image.ensures.words))
