use Rattle.ib_rule.proofs.LockSteps.{last_sx_step}
use Rattle.ib_rule.proofs.space.Space.last_sx_on.Goals as goal

pub turn-found-requires-clause-step : goal.turn-found-requires-clause-step
turn-found-requires-clause-step g c = λ proper n found. last_sx_step c.args.pass.now.view c.args.latch.0 n c.requires.free.phase proper c.requires.last found
