-- So many offsets on.
use Rattle.std.proofs.Common.{◌≡◌}
use Rattle.ib_heap.specs.Walks.{end_from}
use Rattle.ib_heap.proofs.insert.fourth_behind.Given as goal

abbrev pub invariant-loop-step : goal.invariant-loop-step
invariant-loop-step l = l.at ≡ end_from l.words l._step l.offset
