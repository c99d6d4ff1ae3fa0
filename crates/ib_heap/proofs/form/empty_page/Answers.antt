-- By the words that are written.
use Rattle.ib_heap.proofs.EmptyLaws.{empty-page, empty-heap, leaf-words, empty-rest}
use Rattle.ib_heap.proofs.form.empty_page.Goals as goal

pub returns-clause-page : goal.returns-clause-page
returns-clause-page c = empty-page c.args.level c.args.clock c.requires

pub returns-clause-leaf : goal.returns-clause-leaf
returns-clause-leaf c leaf = leaf-words c.args.level c.args.clock leaf

pub returns-clause-heap : goal.returns-clause-heap
returns-clause-heap c = empty-heap c.args.level c.args.clock c.requires

pub returns-clause-rest : goal.returns-clause-rest
returns-clause-rest c i le = empty-rest c.args.level c.args.clock i le
