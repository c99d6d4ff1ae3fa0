-- As many sessions and latches as before.
use Rattle.std.proofs.Common.{◌≡◌, length}
use Rattle.ib_latch_tests.proofs.machine.out_of_turn.Given as goal

abbrev pub invariant-loop-latch : goal.invariant-loop-latch
invariant-loop-latch g l = record { sessions : length l.core.state.sessions ≡ 3; latches : length l.core.state.marks ≡ 2 }

abbrev pub invariant-loop-event : goal.invariant-loop-event
invariant-loop-event g l = record { sessions : length l.core.state.sessions ≡ 3; latches : length l.core.state.marks ≡ 2 }
