-- What is left is what is asked.
use Rattle.std.proofs.Common.{◌≡◌, ◌+◌, ◌-◌, []}
use Rattle.ib_heap.specs.Chain.{is_directory}
use Rattle.ib_heap.proofs.formed.no_more.Given as goal

abbrev pub invariant-loop-j : goal.invariant-loop-j
invariant-loop-j l = is_directory l.words (10 - l.j) (8 + l.j) [] ≡ is_directory l.words (10 - l.from) (8 + l.from) []
