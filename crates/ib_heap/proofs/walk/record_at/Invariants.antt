-- The walk stands at the record of the step.
use Rattle.std.proofs.Common.{◌≡◌, drop}
use Rattle.ib_heap.specs.Chain.{nodes_of, first_of}
use Rattle.ib_heap.proofs.walk.record_at.Given as goal

abbrev pub invariant-loop-step : goal.invariant-loop-step
invariant-loop-step l = l.at ≡ first_of (drop l._step (nodes_of l.words))
