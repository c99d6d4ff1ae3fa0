use Rattle.std.proofs.Common.{refl}
use Rattle.std.specs.Prelude.{Ok, Err}
use Rattle.ib_c.proofs.tries.reserve_x.Goals as goal

pub returns-in-Err-clause-reserved : goal.returns-in-Err-clause-reserved
returns-in-Err-clause-reserved c = (Err c.in-Err.status, c.only.ensures, (c.in-Err.ensures.refused, refl))

pub returns-in-Ok-clause-reserved : goal.returns-in-Ok-clause-reserved
returns-in-Ok-clause-reserved c = (Ok c.reserve_x.result, c.told_reserve.ensures, (c.in-Ok.level, c.in-Ok.ensures.granted, record { first = c.reserve_x.ensures.first; upgrade = c.reserve_x.ensures.upgrade; more = c.reserve_x.ensures.more }))
