-- The owners up to the lower slot are below the key, and that of the slot behind the rest is not.
use Rattle.std.proofs.Common.{◌≡◌, ◌+◌, ◌<◌, ◌≤◌, ◌⊎◌, length}
use Rattle.ib_map.specs.Pairs.{index_of}
use Rattle.ib_heap.specs.Chain.{nodes_of, owners, up_to}
use Rattle.ib_heap.specs.Image.{records_of}
use Rattle.ib_heap.proofs.directory.slot_of.Given as goal

abbrev pub invariant-loop-rest : goal.invariant-loop-rest
invariant-loop-rest g l =
    let words = g.W.PageWords.words in
    let ws = words l.fn.page in
    record {
      same : words l.page ≡ ws;
      can : g.W.PageWords.can_read l.page;
      read : g.W.PageWords.has_read l.fn.page l.page;
      some : 0 < l.rest;
      in_range : l.low + l.rest ≤ length (owners (nodes_of ws));
      low : up_to l.low (nodes_of ws) ≤ index_of l.key (records_of ws);
      high : (index_of l.key (records_of ws) < up_to (l.low + l.rest) (nodes_of ws)) ⊎ (l.low + l.rest ≡ length (owners (nodes_of ws)));
    }

abbrev pub decreases-loop-rest : goal.decreases-loop-rest
decreases-loop-rest g l = l.rest
