-- The plan of a change by the steps that make it, as proofs go through them: `plan_of` says what they come to.
use Rattle.std.specs.Prelude.{ℕ}
use Rattle.ib_map.specs.declared.call.Change.{Change}
use Rattle.ib_map.specs.declared.call.Change.TheVariants.{Insert, Delete}
use Rattle.ib_walk.specs.Pages.{PageMemory}
use Rattle.ib_walk.specs.Full.{need_of, chosen}
use Rattle.ib_plans.specs.Insert.{planned_insert}
use Rattle.ib_plans.specs.Delete.{planned_delete}
use Rattle.ib_planned_log.specs.Kept.{Planned}

abbrev pub planned : ℕ → PageMemory → (ℕ → ℕ) → ℕ → Change → Planned
planned root memory bits pages (Insert key value) =
    let g = planned_insert memory bits (chosen bits pages (need_of memory key root)) key value root in record { memory = g.memory; bits = g.bits; touched = g.touched; moves = g.moves }
planned root memory bits pages (Delete key) =
    let s = planned_delete memory bits key root in record { memory = s.memory; bits = s.bits; touched = s.touched; moves = s.moves }
