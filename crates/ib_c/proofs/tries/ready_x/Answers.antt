use Rattle.std.proofs.Common.{refl}
use Rattle.std.specs.Prelude.{Ok, Err}
use Rattle.ib_c.proofs.tries.ready_x.Goals as goal

pub returns-in-Err-clause-looked : goal.returns-in-Err-clause-looked
returns-in-Err-clause-looked c = (Err c.in-Err.status, c.only.ensures, (c.in-Err.ensures.refused, refl))

pub returns-in-Ok-clause-looked : goal.returns-in-Ok-clause-looked
returns-in-Ok-clause-looked c = (Ok c.ready_x.result, c.told_ready.ensures, (c.in-Ok.ensures.ok.0, c.in-Ok.ensures.ok.1, c.ready_x.ensures.tried))
