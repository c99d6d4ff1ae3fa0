use Rattle.ib_rule.proofs.LockSteps.{s_back_step}
use Rattle.ib_rule.proofs.space.Space.give_s.Goals as goal

pub turn-found-requires-clause-step : goal.turn-found-requires-clause-step
turn-found-requires-clause-step g c = λ proper n found. s_back_step c.args.pass.now.view c.args.latch.0 n c.requires.free.phase proper c.requires.holds found
