use Rattle.std.proofs.Common.{refl, ap, ◌∙◌}
use Rattle.ib_rule.specs.Pass.{with_view}
use Rattle.ib_rule.proofs.LockSteps.{upgrade_try}
use Rattle.ib_rule.proofs.Outcomes.{upgrade_view}
use Rattle.ib_rule.proofs.space.Space.upgrade.Goals as goal

pub exchange_turn-requires-clause-step : goal.exchange_turn-requires-clause-step
exchange_turn-requires-clause-step g c = λ proper _. upgrade_try c.args.pass.now.view c.args.latch.0 c.args.expected.0 _ refl c.requires.may.free proper c.requires.may.grows c.requires.may.owns_sx c.requires.may.no_x c.requires.given

pub returns-in-Ok-clause-taken : goal.returns-in-Ok-clause-taken
returns-in-Ok-clause-taken g c = λ _. c.in-Ok.ensures.view ∙ ap (with_view c.args.pass.now) (upgrade_view c.args.pass.now.view c.args.latch.0 c.args.expected.0 c.exchange_turn.ensures.known c.requires.may.free c.exchange_turn.ensures.proper c.requires.may.owns_sx c.requires.may.no_x c.requires.given)
