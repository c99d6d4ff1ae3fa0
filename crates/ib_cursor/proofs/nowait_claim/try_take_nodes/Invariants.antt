-- The nodes that are taken.
use Rattle.std.proofs.Common.{◌≡◌, ◌≤◌, ◌+◌, ◌-◌, ◌++◌, ◌∷◌, List, [], ℕ, length}
use Rattle.std.specs.Prelude.{take}
use Rattle.ib_rule.specs.Under.{under}
use Rattle.ib_mtr.specs.Mtr.{IsStillMtr}
use Rattle.ib_cursor.specs.Refusals.{AreFewLooks}
use Rattle.ib_cursor.specs.Takings.{WillTake, HasTakenMore}
use Rattle.ib_cursor.proofs.nowait_claim.try_take_nodes.Given as goal

abbrev pub invariant-loop-at : goal.invariant-loop-at
invariant-loop-at g l = record {
  still : IsStillMtr l.fn.mtr l.mtr;
  within : l.at + 1 ≤ length l.path;
  taken : (held front more : List ℕ) (leaf : ℕ) → l.path ≡ front ++ leaf ∷ []
      → under g.L.Law l.fn.mtr.latches.now WillTake held (front ++ more) l.fn.mtr.pass.now
      → under g.L.Law l.fn.mtr.latches.now HasTakenMore held (take l.at front) l.fn.mtr.pass.now l.mtr.pass.now;
  few : AreFewLooks 0 l.fn.mtr.pass.now.view l.mtr.pass.now.view;
}

abbrev pub decreases-loop-at : goal.decreases-loop-at
decreases-loop-at g l = length l.path - l.at
