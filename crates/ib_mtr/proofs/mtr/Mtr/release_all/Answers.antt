-- One grant more is given back.
use Rattle.std.proofs.Common.{◌≡◌, ◌+◌, ◌-◌, ℕ, subst, arith}
use Rattle.ib_mtr.specs.Mtr.{IsReleasedTo}
use Rattle.ib_mtr.proofs.Keeping.{still_then}
use Rattle.ib_mtr.proofs.Releasing.{released_one}
use Rattle.ib_mtr.proofs.mtr.Mtr.release_all.Goals as goal

pub loop-at-preserved : goal.loop-at-preserved
loop-at-preserved g c =
    let p = c.args.self.now.pass.now in let q = c.loop-at.self.pass.now in let kept = c.loop-at.invariant in
    let next : c.loop-at.at ≡ c.loop-at.at - 1 + 1 = omega arith in record {
      still = still_then kept.still c.release_at.ensures.still;
      released = released_one p q c.release_at.new.self.pass.now (c.loop-at.at - 1) (omega (arith, c.savepoint-at.ensures, c.loop-at.auto.at)) c.requires.pages
          (subst (λ (n : ℕ). IsReleasedTo n p q) next kept.released) c.release_at.ensures.released;
    }
