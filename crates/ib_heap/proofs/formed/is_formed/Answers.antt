-- By the first word, the page is one of the tree or a free one.
use Rattle.std.proofs.Common.{sym, ◌∙◌}
use Rattle.ib_heap.proofs.FormLaws.{formed-heap, heap-formed, formed-free, free-formed}
use Rattle.ib_heap.proofs.formed.is_formed.Goals as goal

pub returns-then-words-eq-TREE : goal.returns-then-words-eq-TREE
returns-then-words-eq-TREE c =
    (λ yes. formed-heap c.args.words.now (sym c.has_heap.ensures ∙ yes), λ holds. c.has_heap.ensures ∙ heap-formed c.args.words.now c.if-words-eq-TREE.true holds)

pub returns-else-words-eq-TREE : goal.returns-else-words-eq-TREE
returns-else-words-eq-TREE c =
    (λ yes. formed-free c.args.words.now (c.is_free.ensures.0 yes), λ holds. c.is_free.ensures.1 (free-formed c.args.words.now c.if-words-eq-TREE.false holds))
