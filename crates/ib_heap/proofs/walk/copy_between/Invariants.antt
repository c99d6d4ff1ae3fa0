-- The records so far that lie between the keys stand at the front, and the walk stands at the next one.
use Rattle.std.proofs.Common.{◌≡◌, ◌++◌, length, take, drop}
use Rattle.ib_map.specs.Pairs.{cut}
use Rattle.ib_heap.specs.Chain.{nodes_of, first_of}
use Rattle.ib_heap.specs.Image.{records_of}
use Rattle.ib_heap.proofs.walk.copy_between.Given as goal

abbrev pub invariant-loop-index : goal.invariant-loop-index
invariant-loop-index l = record {
  at : l.at ≡ first_of (drop l.index (nodes_of l.words));
  count : l.copied ≡ length (cut (take l.index (records_of l.words)) l.low l.high);
  records : l.out ≡ cut (take l.index (records_of l.words)) l.low l.high ++ drop l.copied l.initial.out;
}
