use Rattle.std.proofs.Common.{refl}
use Rattle.std.specs.Prelude.{Ok, Err}
use Rattle.ib_c.proofs.tries.try_x.Goals as goal

pub returns-in-Err-clause-tried : goal.returns-in-Err-clause-tried
returns-in-Err-clause-tried c = (Err c.in-Err.status, c.only.ensures, (c.in-Err.ensures.refused, refl))

pub returns-in-Ok-clause-tried : goal.returns-in-Ok-clause-tried
returns-in-Ok-clause-tried c = (Ok c.try_x.result, c.told.ensures, (c.in-Ok.level, c.in-Ok.ensures.granted, record { first = c.try_x.ensures.first; more = c.try_x.ensures.more }))
