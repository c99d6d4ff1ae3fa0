-- The law of planned deletes.
use Rattle.ib_map.specs.Pairs.{without}
use Rattle.ib_map.proofs.KeyLaws.{rank-lt_end}
use Rattle.ib_walk.specs.Trees.{content_of}
use Rattle.ib_plans.specs.Delete.{planned_delete}
use Rattle.ib_plans.proofs.DeletePlanLaws.{IsPlannedDelete-plan}
use Rattle.ib_plans.proofs.LeadsLaws.{LeadsTo-ticked}
use Rattle.ib_plans.proofs.laws.delete_law.Goals as goal

pub returns : goal.returns
returns c memory bits roots root key law some le =
    let plan = IsPlannedDelete-plan memory bits roots law key (rank-lt_end key) root some le in
    let s = planned_delete memory bits key root in
    LeadsTo-ticked memory s.memory s.bits roots root s.touched (without key (content_of memory root)) some le plan.lawful plan.holds plan.others plan.ranges plan.rest
