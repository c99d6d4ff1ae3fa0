use Rattle.ib_walk.specs.Words.{memory_of}
use Rattle.ib_tree.proofs.ContentLaws.{IsWalked}
use Rattle.ib_tree.proofs.content.content_in.Given as goal

abbrev pub invariant-loop : goal.invariant-loop
invariant-loop g l = IsWalked (memory_of (g.P.Images.images l.pages)) l.root l.counter l.page l.map
