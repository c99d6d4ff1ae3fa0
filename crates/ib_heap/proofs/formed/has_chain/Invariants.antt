-- What is left is what is asked.
use Rattle.std.proofs.Common.{◌≡◌, ◌-◌, ◌%◌, ◌≤◌, ◌&&◌, get_or}
use Rattle.ib_map.specs.Keys.{end_rank}
use Rattle.ib_heap.specs.Chain.{offsets_of, chain_from}
use Rattle.ib_heap.specs.Walks.{HasOnlyOffsets, are_new, met_with, first_step, low_of, chain_holds}
use Rattle.ib_heap.proofs.formed.has_chain.Given as goal

abbrev pub invariant-loop-i : goal.invariant-loop-i
invariant-loop-i l = record {
  holds : (are_new l.n l.met (offsets_of (chain_from l.words (l.count - l.i) l.step.at)) && chain_holds l.words (l.count - l.i) l.step) ≡ (are_new l.n l.fn.met (offsets_of (chain_from l.words l.count (get_or l.words 18 0 % 256))) && chain_holds l.words l.count (first_step l.words));
  meets : met_with l.met (offsets_of (chain_from l.words (l.count - l.i) l.step.at)) ≡ met_with l.fn.met (offsets_of (chain_from l.words l.count (get_or l.words 18 0 % 256)));
  offsets : HasOnlyOffsets l.met;
  owned : l.step.owned ≤ l.i;
  last : low_of l.step.last ≤ end_rank;
}
