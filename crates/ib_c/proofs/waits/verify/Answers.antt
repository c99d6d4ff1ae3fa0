use Rattle.std.proofs.Common.{refl}
use Rattle.std.specs.Prelude.{Ok, Err}
use Rattle.ib_c.proofs.waits.verify.Goals as goal

pub returns-in-Err-clause-verified : goal.returns-in-Err-clause-verified
returns-in-Err-clause-verified c = (Err c.in-Err.status, (c.only.ensures, (c.in-Err.ensures.refused, refl)))

pub returns-in-Ok-clause-verified : goal.returns-in-Ok-clause-verified
returns-in-Ok-clause-verified c = (Ok c.load_word-word.result, (c.told_verified.ensures, (c.in-Ok.ensures.ok.0, c.in-Ok.ensures.ok.1, c.load_word-word.ensures.loaded)))
