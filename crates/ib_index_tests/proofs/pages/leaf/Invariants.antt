-- The page is one of a tree.
use Rattle.ib_page.specs.Image.{IsTreePage}
use Rattle.ib_index_tests.proofs.pages.leaf.Given as goal

abbrev pub invariant-loop-key : goal.invariant-loop-key
invariant-loop-key g l = record { tree : IsTreePage l.page }
