-- What is said of a space under the law of kept logs.
use Rattle.std.specs.Prelude.{ℕ, List}
use Rattle.ib_layout.specs.Geometry.{Sizes}
use Rattle.ib_logrec.specs.declared.entry.Entry.{Entry}
use Rattle.ib_logrec.specs.Log.{by_place}
use Rattle.ib_tree.specs.TreeLog.{opening}
use Rattle.ib_planned_log.specs.Kept.{IsKeptLog}
use Rattle.ib_rule.specs.Space.{SpaceState}

-- what is said of the sizes of a space, of its kept logs, and of its words at the start
abbrev pub under_plans : {R : Type 1} → SpaceState → (Sizes → (List Entry → Type 0) → (ℕ → ℕ) → R) → R
under_plans space says = says space.sizes (IsKeptLog space.sizes.pages) (by_place opening space.sizes.pages)
