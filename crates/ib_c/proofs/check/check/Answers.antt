use Rattle.std.proofs.Common.{◌∙◌, sym}
use Rattle.std.proofs.lemmas.Bool.{false≢true}
use Rattle.ib_c.proofs.CheckLaws.{least, memory, most, tree}
use Rattle.ib_c.proofs.check.check.Goals as goal

pub check_tree-requires-clause-least : goal.check_tree-requires-clause-least
check_tree-requires-clause-least c = least c.args.words.now c.in-Some.pages c.in-Some.ensures.some c.deref.result.now (c.deref.ensures.value ∙ c.in-Ok.ensures)

pub check_tree-requires-clause-most : goal.check_tree-requires-clause-most
check_tree-requires-clause-most c = most c.args.words.now c.in-Some.pages c.in-Some.ensures.some c.deref.result.now (c.deref.ensures.value ∙ c.in-Ok.ensures)

pub returns-then-check_tree : goal.returns-then-check_tree
returns-then-check_tree c =
    let lawful = c.check_tree.ensures.0 c.if-check_tree.true in
    (c.in-Some.pages, c.in-Some.ensures.some, tree c.args.words.now c.in-Some.pages c.in-Some.ensures.some c.deref.result.now (c.deref.ensures.value ∙ c.in-Ok.ensures) lawful)

pub returns : goal.returns
returns c = (
  c.in-Some.pages,
  c.in-Some.ensures.some,
  λ is.
      let lawful = memory c.args.words.now c.in-Some.pages c.in-Some.ensures.some c.deref.result.now (c.deref.ensures.value ∙ c.in-Ok.ensures) is in
      false≢true (sym c.if-check_tree.false ∙ c.check_tree.ensures.1 lawful),
)
