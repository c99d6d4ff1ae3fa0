use Rattle.ib_walk.specs.Words.{memory_of}
use Rattle.ib_tree.proofs.ContentLaws.{IsFirstAt}
use Rattle.ib_tree.proofs.content.first_leaf.Given as goal

abbrev pub invariant-loop : goal.invariant-loop
invariant-loop g l = IsFirstAt (memory_of (g.P.Images.images l.pages)) l.root l.counter l.page
