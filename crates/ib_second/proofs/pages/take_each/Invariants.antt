-- The pages that are taken.
use Rattle.std.proofs.Common.{◌≤◌, ◌-◌, ◌++◌, List, ℕ, length}
use Rattle.std.specs.Prelude.{take}
use Rattle.ib_map.specs.Keys.{MapKey}
use Rattle.ib_levels.specs.declared.level.Level.{Level}
use Rattle.ib_tree.specs.PageLists.{AreOnce}
use Rattle.ib_mtr.specs.Mtr.{IsStillMtr}
use Rattle.ib_index.specs.Grows.{pages_held}
use Rattle.ib_second.specs.Stands.{HasTakenEach, StandsOnPair}
use Rattle.ib_second.proofs.pages.take_each.Given as goal

abbrev pub invariant-loop-at : goal.invariant-loop-at
invariant-loop-at g l = record {
  still : IsStillMtr l.fn.mtr l.mtr;
  within : l.at ≤ length l.fn.pages;
  taken : (key : MapKey) (path : List ℕ) (key2 : MapKey) (path2 : List ℕ) (held : List (ℕ × Level)) → StandsOnPair l.fn.mtr.latches.now.sizes key path key2 path2 held l.fn.mtr.pass.now
      → AreOnce (pages_held held ++ l.fn.pages) l.fn.mtr.latches.now.sizes.pages
      → HasTakenEach l.fn.mtr.latches.now.sizes key path key2 path2 held (take l.at l.fn.pages) l.level l.fn.mtr.pass.now l.mtr.pass.now;
}

abbrev pub decreases-loop-at : goal.decreases-loop-at
decreases-loop-at g l = length l.pages - l.at
