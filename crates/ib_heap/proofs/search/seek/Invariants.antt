-- The walk goes on from behind the slot before.
use Rattle.std.proofs.Common.{◌≡◌, ◌-◌}
use Rattle.ib_heap.specs.Chain.{nodes_of, up_to}
use Rattle.ib_heap.proofs.SeekLaws.{Walk}
use Rattle.ib_heap.proofs.search.seek.Given as goal

abbrev pub invariant-loop-steps : goal.invariant-loop-steps
invariant-loop-steps g l =
    let words = g.W.PageWords.words in
    record {
      same : words l.page ≡ words l.fn.page;
      can : g.W.PageWords.can_read l.page;
      read : g.W.PageWords.has_read l.fn.page l.page;
      walk : Walk (words l.fn.page) l.key (up_to (l.slot - 1) (nodes_of (words l.fn.page))) l.before l.at l.steps;
    }
