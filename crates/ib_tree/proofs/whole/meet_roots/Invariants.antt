use Rattle.std.proofs.Common.{◌≡◌, ◌-◌, length}
use Rattle.ib_map.specs.Keys.{end_rank}
use Rattle.ib_walk.specs.Words.{memory_of}
use Rattle.ib_validate.specs.PatchTest.{set_roots}
use Rattle.ib_validate.specs.Positions.{positions_of}
use Rattle.ib_tree.specs.PageLists.{is_below}
use Rattle.ib_tree.proofs.whole.meet_roots.Given as goal

abbrev pub invariant-loop-met : goal.invariant-loop-met
invariant-loop-met l = set_roots (is_below (length l.memory)) (memory_of l.memory) end_rank (l.roots - l.met) (positions_of l.table)
    ≡ set_roots (is_below (length l.memory)) (memory_of l.memory) end_rank l.roots (positions_of l.fn.table)
