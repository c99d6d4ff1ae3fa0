-- An insert and a delete that were planned on a work set, as changes.
use Rattle.std.proofs.Common.{◌≡◌, ℕ, false, List, refl, subst}
use Rattle.ib_map.specs.Keys.{MapKey}
use Rattle.ib_map.specs.declared.call.Change.TheVariants.{Insert, Delete}
use Rattle.ib_page.specs.Work.{WorkPage}
use Rattle.ib_walk.specs.Full.{chosen, is_too_high, need_of}
use Rattle.ib_walk.specs.Pages.{PageMemory}
use Rattle.ib_walk.specs.Search.{leaf_for}
use Rattle.ib_plans.specs.Agreement.{IsPlanned}
use Rattle.ib_plans.specs.Delete.{planned_delete}
use Rattle.ib_plans.proofs.StayLaws.{planned_insert-stays, planned_delete-stays}
use Rattle.ib_split.specs.Inserts.{HasFresh, IsPlannedInsert}
use Rattle.ib_planned_change.proofs.PlanCommits.{IsPlannedChange}
use Rattle.ib_planned_change.proofs.PlanLaws.{plan-bits, plan-on}
use Rattle.ib_planned_change.proofs.ShrinkPlanLaws.{delete-bits, delete-on}

pub insert-planned : (pages : ℕ) (key : MapKey) (value : ℕ) (fresh : List ℕ) (m : PageMemory) (bits : ℕ → ℕ) (old new : List WorkPage) → is_too_high 1 m key 1 ≡ false → HasFresh pages 1 1 key fresh m bits
    → IsPlannedInsert fresh key value pages 1 m bits old new → IsPlannedChange pages (Insert key value) m bits old new
insert-planned pages key value fresh m bits old new low has plan = record {
  may = (low, has.enough);
  plan = subst (λ f. IsPlannedInsert f key value pages 1 m bits old new) has.chosen_are plan;
  leaf_on = plan-on m bits (chosen bits pages (need_of m key 1)) key value (leaf_for m key 1) 1 refl;
  stays = λ n off. planned_insert-stays n m bits (chosen bits pages (need_of m key 1)) key value 1 off;
  bits_stay = λ off n. plan-bits m bits (chosen bits pages (need_of m key 1)) key value n 1 off;
}

pub delete-planned : (pages : ℕ) (key : MapKey) (m : PageMemory) (bits : ℕ → ℕ) (old new : List WorkPage)
    → (let s = planned_delete m bits key 1 in IsPlanned pages m s.memory s.bits s.touched s.moves old new) → IsPlannedChange pages (Delete key) m bits old new
delete-planned pages key m bits old new plan = record {
  may = tt;
  plan = plan;
  leaf_on = delete-on m bits key 1 (leaf_for m key 1) refl;
  stays = λ n off. planned_delete-stays n m bits key 1 off;
  bits_stay = λ off n. delete-bits m bits key 1 n off;
}
