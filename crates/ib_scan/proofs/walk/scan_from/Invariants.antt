-- How far the scan has come; each chunk takes a place.
use Rattle.std.proofs.Common.{◌≡◌}
use Rattle.ib_logrec.specs.Log.{by_place}
use Rattle.ib_mtr.specs.Mtr.{IsMtr}
use Rattle.ib_scan.specs.Steps.{IsScannedTo}
use Rattle.ib_scan.proofs.walk.scan_from.Given as goal

abbrev pub invariant-loop-sought : goal.invariant-loop-sought
invariant-loop-sought g l = record {
  mtr : IsMtr l.mtr.latches.now l.mtr.pass.now;
  latches : l.mtr.latches ≡ l.fn.mtr.latches;
  pass : l.mtr.pass.ghost_name ≡ l.fn.mtr.pass.ghost_name;
  to : IsScannedTo l.fn.mtr.latches.now.sizes (g.L.Law.lawful l.fn.mtr.latches.now.sizes.pages) (by_place g.L.Law.opening l.fn.mtr.latches.now.sizes.pages) g.L.Trees.ROOTS l.sought.root l.first l.leaf
      l.sought.low l.start l.sought.high l.fn.out l.out l.fn.mtr.pass.now l.mtr.pass.now;
}

abbrev pub decreases-loop-sought : goal.decreases-loop-sought
decreases-loop-sought g l = l.out.chunk_room
