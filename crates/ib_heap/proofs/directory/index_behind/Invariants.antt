-- The records of the slots so far.
use Rattle.std.proofs.Common.{◌≡◌}
use Rattle.ib_heap.specs.Chain.{nodes_of, up_to}
use Rattle.ib_heap.proofs.directory.index_behind.Given as goal

abbrev pub invariant-loop-j : goal.invariant-loop-j
invariant-loop-j g l =
    let words = g.W.PageWords.words in
    record { same : words l.page ≡ words l.fn.page; can : g.W.PageWords.can_read l.page; read : g.W.PageWords.has_read l.fn.page l.page; index : l.index ≡ up_to l.j (nodes_of (words l.fn.page)) }
