use Rattle.std.proofs.Common.{◌≡◌}
use Rattle.ib_validate.specs.Positions.{positions_of}
use Rattle.ib_tree.specs.Tests.{root_positions}
use Rattle.ib_tree.proofs.whole.meet_opening.Given as goal

abbrev pub invariant-loop-met : goal.invariant-loop-met
invariant-loop-met l = positions_of l.table ≡ root_positions l.met
