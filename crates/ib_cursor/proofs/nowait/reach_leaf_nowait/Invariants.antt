-- How far the descent has come; the level falls.
use Rattle.std.proofs.Common.{◌+◌, ◌*◌, ◌≤◌, ◌∷◌, [], false, length}
use Rattle.ib_heap.specs.declared.TheConstants.{MOST_LEVEL}
use Rattle.ib_rule.specs.Under.{under}
use Rattle.ib_mtr.specs.Mtr.{IsStillMtr}
use Rattle.ib_cursor.specs.Descent.{IsDown}
use Rattle.ib_cursor.specs.Grants.{index_grant}
use Rattle.ib_cursor.specs.Refusals.{AreFewLooks}
use Rattle.ib_cursor.proofs.nowait.reach_leaf_nowait.Given as goal

abbrev pub invariant-loop-level : goal.invariant-loop-level
invariant-loop-level g l = record {
  still : IsStillMtr l.fn.mtr l.mtr;
  down : under g.L.Law l.fn.mtr.latches.now IsDown l.sought.root l.sought.key (index_grant ∷ []) false
      (length l.path) l.page l.level l.fn.mtr.pass.now l.mtr.pass.now;
  twice : AreFewLooks 0 l.fn.mtr.pass.now.view l.mtr.pass.now.view;
  few : l.mtr.pass.now.view.looks.count + 2 * l.level ≤ l.fn.mtr.pass.now.view.looks.count + 2 * (MOST_LEVEL + 2);
}

abbrev pub decreases-loop-level : goal.decreases-loop-level
decreases-loop-level g l = l.level
