-- Each kind of page has its words.
use Rattle.std.proofs.Common.{arith, ◌∙◌, ap, sym, get_or}
use Rattle.ib_heap.proofs.FreeLaws.{free_word}
use Rattle.ib_page.proofs.OpeningLaws.{opening_space, opening_leaf, opening_free}
use Rattle.ib_page.proofs.opening.opening_word.Goals as goal

pub returns-then-page-eq0 : goal.returns-then-page-eq0
returns-then-page-eq0 c = c.opening_word.ensures ∙ ap (λ ws. get_or ws c.args.index 0) (sym (opening_space c.args.roots c.args.page c.if-page-eq0.true))

pub returns-then-page-roots : goal.returns-then-page-roots
returns-then-page-roots c = c.empty_leaf_word.ensures ∙ ap (λ ws. get_or ws c.args.index 0) (sym (opening_leaf c.args.roots c.args.page c.if-page-eq0.false c.if-page-roots.true))

pub returns : goal.returns
returns c = sym (ap (λ ws. get_or ws c.args.index 0) (opening_free c.args.roots c.args.page (let no = c.if-page-roots.false in omega arith)) ∙ free_word c.args.index)
