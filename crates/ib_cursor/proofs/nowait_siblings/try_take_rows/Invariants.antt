-- The rows that are taken.
use Rattle.std.proofs.Common.{◌≤◌, ◌+◌, ◌-◌, ℕ, List, length}
use Rattle.ib_rule.specs.Under.{under}
use Rattle.ib_mtr.specs.Mtr.{IsStillMtr}
use Rattle.ib_cursor.specs.Refusals.{AreFewLooks}
use Rattle.ib_cursor.specs.Rows.{HasTakenRows, MayTakeRows}
use Rattle.ib_cursor.proofs.nowait_siblings.try_take_rows.Given as goal

abbrev pub invariant-loop-at : goal.invariant-loop-at
invariant-loop-at g l = record {
  still : IsStillMtr l.fn.mtr l.mtr;
  within : l.at + 1 ≤ length l.path;
  taken : (held : List ℕ) → under g.L.Law l.fn.mtr.latches.now MayTakeRows l.sought.root l.path held l.fn.mtr.pass.now
      → under g.L.Law l.fn.mtr.latches.now HasTakenRows held l.sought.root l.sought.key l.path l.at l.last l.fn.mtr.pass.now l.mtr.pass.now;
  few : AreFewLooks 0 l.fn.mtr.pass.now.view l.mtr.pass.now.view;
}

abbrev pub decreases-loop-at : goal.decreases-loop-at
decreases-loop-at g l = length l.path - l.at
