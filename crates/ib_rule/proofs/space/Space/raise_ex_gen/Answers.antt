use Rattle.std.proofs.Common.{ap, ◌∙◌}
use Rattle.ib_rule.specs.Pass.{with_view}
use Rattle.ib_rule.proofs.MarkSteps.{ex_raise_step}
use Rattle.ib_rule.proofs.Outcomes.{ex_raise_view}
use Rattle.ib_rule.proofs.space.Space.raise_ex_gen.Goals as goal

pub turn-requires-clause-step : goal.turn-requires-clause-step
turn-requires-clause-step g c = λ proper n found. ex_raise_step c.args.pass.now.view c.args.latch.0 n c.requires.owes.phase found

pub returns-clause-same : goal.returns-clause-same
returns-clause-same g c = c.turn.ensures.view ∙ ap (with_view c.args.pass.now) (ex_raise_view c.args.pass.now.view c.args.latch.0 c.turn.result.0 c.turn.ensures.known c.requires.owes.phase)
