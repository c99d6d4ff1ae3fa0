use Rattle.std.proofs.Common.{ap, ◌∙◌}
use Rattle.ib_rule.specs.Pass.{with_view}
use Rattle.ib_rule.proofs.MarkSteps.{raise_step}
use Rattle.ib_rule.proofs.Outcomes.{raise_view}
use Rattle.ib_rule.proofs.space.Space.raise_gen.Goals as goal

pub turn-requires-clause-step : goal.turn-requires-clause-step
turn-requires-clause-step g c = λ proper n found. raise_step c.args.pass.now.view c.args.latch.0 n c.requires.owes.phase found

pub returns-clause-same : goal.returns-clause-same
returns-clause-same g c = c.turn.ensures.view ∙ ap (with_view c.args.pass.now) (raise_view c.args.pass.now.view c.args.latch.0 c.turn.result.0 c.turn.ensures.known c.requires.owes.phase)
