use Rattle.std.proofs.Common.{refl, ap, ◌∙◌}
use Rattle.ib_rule.specs.Pass.{with_view}
use Rattle.ib_rule.proofs.MarkSteps.{flag_step}
use Rattle.ib_rule.proofs.Outcomes.{set_view}
use Rattle.ib_rule.proofs.space.Space.set_waiters.Goals as goal

pub turn-requires-clause-step : goal.turn-requires-clause-step
turn-requires-clause-step g c = λ proper n found. flag_step c.args.pass.now.view c.args.latch.0 n _ refl c.requires.armed

pub returns-clause-same : goal.returns-clause-same
returns-clause-same g c = c.turn.ensures.view ∙ ap (with_view c.args.pass.now) (set_view c.args.pass.now.view c.args.latch.0 c.turn.result.0 c.turn.ensures.known c.requires.armed)
