-- One page a step.
use Rattle.std.proofs.Common.{◌≡◌, length}
use Rattle.ib_image.proofs.copy.FuzzyCopy.with_room.Given as goal

abbrev pub invariant-loop : goal.invariant-loop
invariant-loop l = length l.list.items ≡ l.counter
