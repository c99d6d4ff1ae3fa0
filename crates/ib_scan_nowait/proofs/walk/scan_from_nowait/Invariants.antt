-- How far the scan has come, with two looks at most for each grant; each chunk takes a place.
use Rattle.std.proofs.Common.{◌≡◌}
use Rattle.ib_logrec.specs.Log.{by_place}
use Rattle.ib_mtr.specs.Mtr.{IsMtr}
use Rattle.ib_cursor.specs.Refusals.{AreFewLooks}
use Rattle.ib_scan.specs.Steps.{IsScannedTo}
use Rattle.ib_scan_nowait.proofs.walk.scan_from_nowait.Given as goal

abbrev pub invariant-loop-high : goal.invariant-loop-high
invariant-loop-high g l = record {
  mtr : IsMtr l.mtr.latches.now l.mtr.pass.now;
  latches : l.mtr.latches ≡ l.fn.mtr.latches;
  pass : l.mtr.pass.ghost_name ≡ l.fn.mtr.pass.ghost_name;
  few : AreFewLooks 0 l.fn.mtr.pass.now.view l.mtr.pass.now.view;
  to : IsScannedTo l.fn.mtr.latches.now.sizes (g.L.Law.lawful l.fn.mtr.latches.now.sizes.pages) (by_place g.L.Law.opening l.fn.mtr.latches.now.sizes.pages) g.L.Trees.ROOTS 1 l.first l.leaf
      l.fn.low l.start l.high l.fn.out l.out l.fn.mtr.pass.now l.mtr.pass.now;
}

abbrev pub decreases-loop-high : goal.decreases-loop-high
decreases-loop-high g l = l.out.chunk_room
