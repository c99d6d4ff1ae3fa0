-- What is said of a space under a law of logs.
use Rattle.std.specs.Prelude.{ℕ, List}
use Rattle.ib_layout.specs.Geometry.{Sizes}
use Rattle.ib_logrec.specs.declared.entry.Entry.{Entry}
use Rattle.ib_logrec.specs.declared.law.Law.{Ghosts}
use Rattle.ib_logrec.specs.Log.{by_place}
use Rattle.ib_rule.specs.Space.{SpaceState}

-- what is said of the sizes of a space, of the logs that are lawful there, and of its words at the start
abbrev pub under : {T : Type 0} {R : Type 1} → Ghosts T → SpaceState → (Sizes → (List Entry → Type 0) → (ℕ → ℕ) → R) → R
under law space says = says space.sizes (law.lawful space.sizes.pages) (by_place law.opening space.sizes.pages)

-- .. and of its sizes and lawful logs alone
abbrev pub under_lawful : {T : Type 0} {R : Type 1} → Ghosts T → SpaceState → (Sizes → (List Entry → Type 0) → R) → R
under_lawful law space says = says space.sizes (law.lawful space.sizes.pages)
