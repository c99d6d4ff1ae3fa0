-- The law of what sessions share: one tree, or more of them in one space.
use Rattle.std.specs.Prelude.{ℕ, List}
use Rattle.ib_map.specs.Replies.{FullRecord}
use Rattle.ib_logrec.specs.declared.entry.Entry.{Entry}
use Rattle.ib_logrec.specs.Log.{by_place}
use Rattle.ib_layout.specs.Geometry.{Sizes}
use Rattle.ib_tree.specs.Fits.{TreeSpace}
use Rattle.ib_rule.specs.Space.{SpaceState}

-- which logs are lawful on so many pages, the words of the pages at the start, and when a record of a session that had seen so much fits a log
pub record SharedLaw : Type 1 where
  pub lawful : ℕ → List Entry → Type 0
  pub opening : ℕ → ℕ → ℕ → ℕ
  pub fits : TreeSpace → List Entry → ℕ → ℕ → FullRecord → Type 0

-- what is said of the sizes of a space, of the logs that are lawful there, and of its words at the start
abbrev pub under_law : {R : Type 1} → SharedLaw → SpaceState → (Sizes → (List Entry → Type 0) → (ℕ → ℕ) → R) → R
under_law law space says = says space.sizes (law.lawful space.sizes.pages) (by_place law.opening space.sizes.pages)
