use Rattle.std.proofs.Common.{◌≡◌, ◌++◌, take, drop}
use Rattle.ib_levels.specs.Holding.{changed_on}
use Rattle.ib_core.specs.Takings.{one_fewer}
use Rattle.ib_core.proofs.holdings.each_one_fewer.Given as goal

abbrev pub invariant-loop-h : goal.invariant-loop-h
invariant-loop-h l = l.held ≡ changed_on l.latch.0 (one_fewer l.mode) (take l.h-index l.initial.held) ++ drop l.h-index l.initial.held
