-- Each kind of page has its words.
use Rattle.std.proofs.Common.{arith, ◌∙◌, sym}
use Rattle.ib_page.proofs.OpeningLaws.{opening_space, opening_leaf, opening_free}
use Rattle.ib_page.proofs.opening.opening_image.Goals as goal

pub returns-in-0 : goal.returns-in-0
returns-in-0 c = c.opening_image.ensures ∙ sym (opening_space 1 c.args.page c.in-0.is)

pub returns-in-1 : goal.returns-in-1
returns-in-1 c = c.leaf.ensures.words ∙ sym (opening_leaf 1 c.args.page (λ e. omega arith) (omega arith))

pub returns-in_default : goal.returns-in_default
returns-in_default c = c.free.ensures.words ∙ sym (opening_free 1 c.args.page (omega arith))
