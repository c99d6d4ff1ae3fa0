-- The fresh pages that are taken.
use Rattle.std.proofs.Common.{◌≡◌, ◌≤◌, ◌-◌, ◌++◌, ◌∷◌, List, ℕ, length}
use Rattle.std.specs.Prelude.{take}
use Rattle.ib_map.specs.Keys.{MapKey}
use Rattle.ib_tree.specs.PageLists.{AreOnce}
use Rattle.ib_mtr.specs.Mtr.{IsMtr}
use Rattle.ib_cursor.specs.Refusals.{AreFewGrants, AreFewLooks}
use Rattle.ib_index.specs.Grows.{HasTakenNew, IsGrowing, space_pages}
use Rattle.ib_index.proofs.nowait_insert.try_new.Given as goal

abbrev pub invariant-loop-at : goal.invariant-loop-at
invariant-loop-at g l = record {
  mtr : IsMtr l.mtr.latches.now l.mtr.pass.now;
  latches : l.mtr.latches ≡ l.fn.mtr.latches;
  pass : l.mtr.pass.ghost_name ≡ l.fn.mtr.pass.ghost_name;
  within : l.at ≤ length l.fresh;
  taken : (key : MapKey) → (path held : List ℕ) → IsGrowing l.fn.mtr.latches.now.sizes key path (space_pages held) l.fn.mtr.pass.now
      → AreOnce (held ++ 0 ∷ l.fresh) l.fn.mtr.latches.now.sizes.pages → HasTakenNew l.fn.mtr.latches.now.sizes key path (space_pages held) (take l.at l.fresh) l.fn.mtr.pass.now l.mtr.pass.now;
  grants : AreFewGrants (record { s = 0; sx = 0; x = l.at }) l.fn.mtr.pass.now.view l.mtr.pass.now.view;
  twice : AreFewLooks 0 l.fn.mtr.pass.now.view l.mtr.pass.now.view;
}

abbrev pub decreases-loop-at : goal.decreases-loop-at
decreases-loop-at g l = length l.fresh - l.at
