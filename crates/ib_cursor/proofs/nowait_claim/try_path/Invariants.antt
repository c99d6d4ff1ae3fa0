-- How far the path was read; the level falls.
use Rattle.ib_rule.specs.Under.{under}
use Rattle.ib_mtr.specs.Mtr.{IsStillMtr}
use Rattle.ib_cursor.specs.Refusals.{AreFewLooks}
use Rattle.ib_cursor.specs.Shapes.{IsReading}
use Rattle.ib_cursor.proofs.nowait_claim.try_path.Given as goal

abbrev pub invariant-loop-level : goal.invariant-loop-level
invariant-loop-level g l = record {
  still : IsStillMtr l.fn.mtr l.mtr;
  reading : under g.L.Law l.fn.mtr.latches.now IsReading l.sought.root l.sought.key
      l.path l.page l.level l.link l.fn.mtr.pass.now l.mtr.pass.now;
  few : AreFewLooks 0 l.fn.mtr.pass.now.view l.mtr.pass.now.view;
}

abbrev pub decreases-loop-level : goal.decreases-loop-level
decreases-loop-level g l = l.level
