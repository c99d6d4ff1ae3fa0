-- The law of planned inserts.
use Rattle.std.proofs.Common.{arith}
use Rattle.ib_map.specs.Pairs.{put}
use Rattle.ib_map.proofs.KeyLaws.{rank-lt_end}
use Rattle.ib_walk.specs.Trees.{content_of}
use Rattle.ib_walk.specs.Full.{need_of, chosen}
use Rattle.ib_plans.specs.Insert.{planned_insert}
use Rattle.ib_plans.proofs.ChosenLaws.{chosen-fresh, chosen-length}
use Rattle.ib_plans.proofs.NeedLaws.{IsPlannedInsert-need}
use Rattle.ib_plans.proofs.LeadsLaws.{LeadsTo-ticked}
use Rattle.ib_plans.proofs.laws.insert_law.Goals as goal

pub returns : goal.returns
returns c memory bits pages roots root key value law fits some le missing enough low =
    let count = chosen-length bits pages (need_of memory key root) enough in
    let plan = IsPlannedInsert-need memory bits roots law key value (rank-lt_end key) root some le (chosen bits pages (need_of memory key root))
    (chosen-fresh bits pages (need_of memory key root) fits) missing (omega arith) low in
    let g = planned_insert memory bits (chosen bits pages (need_of memory key root)) key value root in
    LeadsTo-ticked memory g.memory g.bits roots root g.touched (put key value (content_of memory root)) some le plan.lawful plan.holds plan.others plan.ranges plan.rest
