-- The grants from here on are on other latches.
use Rattle.std.proofs.Common.{◌≢◌, drop}
use Rattle.std.specs.List.{All}
use Rattle.ib_mtr.proofs.memo.newest.Given as goal

abbrev pub invariant-loop-at : goal.invariant-loop-at
invariant-loop-at l = All (λ g. g.0 ≢ l.latch) (drop l.at l.memo)
