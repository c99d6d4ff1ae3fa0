-- The plan of a change is what its steps come to.
use Rattle.std.proofs.Common.{◌≡◌, ℕ, ◌<◌, ◌≤◌, true, sym, arith}
use Rattle.ib_map.specs.Map.{answer_of, is_made}
use Rattle.ib_map.specs.declared.call.Change.{Change}
use Rattle.ib_map.specs.declared.call.Change.TheVariants.{Insert, Delete}
use Rattle.ib_map.proofs.KeyLaws.{rank-lt_end}
use Rattle.ib_page.specs.declared.space.TheConstants.{MAPPED_PAGES}
use Rattle.ib_walk.specs.Full.{chosen, need_of}
use Rattle.ib_walk.specs.Pages.{PageMemory}
use Rattle.ib_walk.specs.Trees.{IsLawful, content_of}
use Rattle.ib_plans.proofs.ChosenLaws.{chosen-fresh, chosen-length}
use Rattle.ib_plans.proofs.DeletedLaws.{planned_delete-bits, planned_delete-memory, planned_delete-moves, planned_delete-touched}
use Rattle.ib_plans.proofs.InsertedLaws.{planned_insert-memory, planned_insert-moves, planned_insert-touched}
use Rattle.ib_plans.proofs.TakenLaws.{bits-taken}
use Rattle.ib_planned_log.specs.Kept.{MayPlan, plan_of}
use Rattle.ib_planned_log.specs.Steps.{planned}
use Rattle.ib_planned_log.proofs.LeadLaws.{made-missing}

pub plan_of-is : (m : PageMemory) (bits : ℕ → ℕ) (pages roots root : ℕ) → IsLawful m bits roots → pages ≤ MAPPED_PAGES → 0 < root → root ≤ roots → (change : Change)
    → is_made (answer_of (content_of m root) change) ≡ true → MayPlan roots root m bits pages change → plan_of root m bits pages change ≡ planned root m bits pages change
plan_of-is m bits pages roots root law few some le (Insert key value) made may =
    let range = rank-lt_end key in
    let free = chosen-fresh bits pages (need_of m key root) few in
    let missing = made-missing (content_of m root) key value made in
    let count = chosen-length bits pages (need_of m key root) may.1 in
    let fresh = chosen bits pages (need_of m key root) in
    λ i. record {
      memory = sym (planned_insert-memory m bits roots law key value range root some le fresh free missing (omega arith)) i;
      bits = sym (bits-taken m bits roots law key value range root some le fresh free missing (omega arith)) i;
      touched = sym (planned_insert-touched m bits roots law key value range root some le fresh free missing (omega arith)) i;
      moves = sym (planned_insert-moves m bits roots law key value range root some le fresh free missing (omega arith)) i;
    }
plan_of-is m bits pages roots root law few some le (Delete key) made may =
    let range = rank-lt_end key in
    λ i. record {
      memory = sym (planned_delete-memory m bits roots law key range root some le) i;
      bits = sym (planned_delete-bits m bits roots law key range root some le) i;
      touched = sym (planned_delete-touched m bits roots law key range root some le) i;
      moves = sym (planned_delete-moves m bits roots law key range root some le) i;
    }
