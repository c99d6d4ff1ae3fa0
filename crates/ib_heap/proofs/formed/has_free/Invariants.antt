-- What is left is what is asked.
use Rattle.std.proofs.Common.{◌≡◌, ◌-◌, ◌&&◌, get_or}
use Rattle.std.specs.Prelude.{◌==◌}
use Rattle.ib_heap.specs.Chain.{free_from}
use Rattle.ib_heap.specs.Walks.{HasOnlyOffsets, are_new, free_end}
use Rattle.ib_heap.proofs.formed.has_free.Given as goal

abbrev pub invariant-loop-i : goal.invariant-loop-i
invariant-loop-i l = record {
  holds : (are_new l.n l.met (free_from l.words (l.count - l.i) l.at) && free_end l.words (l.count - l.i) l.at == 0) ≡ (are_new l.n l.fn.met (free_from l.words l.count (get_or l.words 6 0)) && free_end l.words l.count (get_or l.words 6 0) == 0);
  offsets : HasOnlyOffsets l.met;
}
