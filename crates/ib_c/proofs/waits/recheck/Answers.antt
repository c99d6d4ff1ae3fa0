use Rattle.std.proofs.Common.{refl}
use Rattle.std.specs.Prelude.{Ok, Err}
use Rattle.ib_c.proofs.waits.recheck.Goals as goal

pub returns-in-Err-clause-rechecked : goal.returns-in-Err-clause-rechecked
returns-in-Err-clause-rechecked c = (Err c.in-Err.status, c.only.ensures, (c.in-Err.ensures.refused, refl))

pub returns-in-Ok-clause-rechecked : goal.returns-in-Ok-clause-rechecked
returns-in-Ok-clause-rechecked c = (Ok c.recheck.result, c.told_reserve.ensures, (c.in-Ok.ensures.ok.0, c.in-Ok.ensures.ok.1, c.in-Ok.ensures.ok.2, c.recheck.ensures.tried))
