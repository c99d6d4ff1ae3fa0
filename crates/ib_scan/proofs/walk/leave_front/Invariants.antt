-- So many are still in front.
use Rattle.std.proofs.Common.{◌≡◌, ◌-◌, ◌≤◌}
use Rattle.ib_mtr.specs.Mtr.{IsMtr}
use Rattle.ib_scan.specs.Steps.{HasFront, HasSomeFront, IsAside}
use Rattle.ib_scan.proofs.walk.leave_front.Given as goal

abbrev pub invariant-loop : goal.invariant-loop
invariant-loop g l = record {
  mtr : IsMtr l.mtr.latches.now l.mtr.pass.now;
  latches : l.mtr.latches ≡ l.fn.mtr.latches;
  pass : l.mtr.pass.ghost_name ≡ l.fn.mtr.pass.ghost_name;
  few : l.counter ≤ l.count;
  left : (h : HasSomeFront l.count l.fn.mtr.pass.now) → HasFront (l.count - l.counter) h.leaf h.image l.mtr.pass.now;
  aside : IsAside l.fn.mtr.pass.now l.mtr.pass.now;
  looks : l.mtr.pass.now.view.looks.count ≡ l.fn.mtr.pass.now.view.looks.count;
  waits : l.mtr.pass.now.view.looks.waits ≡ l.fn.mtr.pass.now.view.looks.waits;
}
