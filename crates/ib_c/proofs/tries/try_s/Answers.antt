use Rattle.std.proofs.Common.{refl}
use Rattle.std.specs.Prelude.{Ok, Err}
use Rattle.ib_c.proofs.tries.try_s.Goals as goal

pub returns-in-Err-clause-tried : goal.returns-in-Err-clause-tried
returns-in-Err-clause-tried c = (Err c.in-Err.status, c.only.ensures, (c.in-Err.ensures.refused, refl))

pub returns-in-Ok-clause-tried : goal.returns-in-Ok-clause-tried
returns-in-Ok-clause-tried c = (Ok c.try_s.result, c.told.ensures, (c.in-Ok.level, c.in-Ok.ensures.granted, c.try_s.ensures.tried))
