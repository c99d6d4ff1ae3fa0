-- Who reads the latch holds it.
use Rattle.std.proofs.Common.{◌<◌, ap, arith}
use Rattle.ib_core.specs.Sessions.{reads}
use Rattle.ib_core.proofs.OnLatch.{held_by_grant}
use Rattle.ib_rule.specs.Pass.{PassState}
use Rattle.ib_mtr_tests.proofs.memos.is_read.Goals as goal

pub returns : goal.returns
returns g c =
    let a = c.args.mtr.now.pass.now.view.session in
    let same = ap (λ (p : PassState). reads c.args.latch.0 p.view.session) c.pass.ensures in
    let reads_it : 0 < reads c.args.latch.0 a = omega arith in held_by_grant c.args.latch.0 (λ h. h.s) a.held reads_it
