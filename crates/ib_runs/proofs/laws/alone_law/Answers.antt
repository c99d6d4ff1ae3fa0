-- Where one session alone has commands, the outcomes are one.
use Rattle.ib_runs.proofs.AloneLaws.{one-outcome}
use Rattle.ib_runs.proofs.laws.alone_law.Goals as goal

pub returns : goal.returns
returns c sizes commands place runs others log other alone is also room roomy = one-outcome sizes commands place alone runs others log other is also room roomy
