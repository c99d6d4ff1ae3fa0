-- How far the scan has gone on, with two looks at most for each grant; no more leaves are held than there are pages.
use Rattle.std.proofs.Common.{◌≡◌, ◌-◌}
use Rattle.ib_logrec.specs.Log.{by_place}
use Rattle.ib_mtr.specs.Mtr.{IsMtr}
use Rattle.ib_cursor.specs.Refusals.{AreFewLooks}
use Rattle.ib_scan.specs.Steps.{IsOnLeaf, IsAlong}
use Rattle.ib_scan_nowait.proofs.walk.reach_end_nowait.Given as goal

abbrev pub invariant-loop-next : goal.invariant-loop-next
invariant-loop-next g l = record {
  mtr : IsMtr l.mtr.latches.now l.mtr.pass.now;
  latches : l.mtr.latches ≡ l.fn.mtr.latches;
  pass : l.mtr.pass.ghost_name ≡ l.fn.mtr.pass.ghost_name;
  few : AreFewLooks 0 l.fn.mtr.pass.now.view l.mtr.pass.now.view;
  along : (h : IsOnLeaf l.fn.mtr.latches.now.sizes (g.L.Law.lawful l.fn.mtr.latches.now.sizes.pages) (by_place g.L.Law.opening l.fn.mtr.latches.now.sizes.pages) g.L.Trees.ROOTS l.leaf l.start l.fn.mtr.pass.now)
      → IsAlong l.fn.mtr.latches.now.sizes (g.L.Law.lawful l.fn.mtr.latches.now.sizes.pages) (by_place g.L.Law.opening l.fn.mtr.latches.now.sizes.pages) g.L.Trees.ROOTS h.root l.start l.at l.passed l.fn.mtr.pass.now l.mtr.pass.now;
}

abbrev pub decreases-loop-next : goal.decreases-loop-next
decreases-loop-next g l = 4096 - l.passed
