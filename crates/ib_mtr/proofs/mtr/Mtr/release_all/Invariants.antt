-- The grants from this place on are given back.
use Rattle.ib_mtr.specs.Mtr.{IsReleasedTo, IsStillMtr}
use Rattle.ib_mtr.proofs.mtr.Mtr.release_all.Given as goal

abbrev pub invariant-loop-at : goal.invariant-loop-at
invariant-loop-at g l = record {
  still : IsStillMtr l.fn.self l.self;
  released : IsReleasedTo l.at l.fn.self.pass.now l.self.pass.now;
}
