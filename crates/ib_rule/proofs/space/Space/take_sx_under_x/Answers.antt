use Rattle.std.proofs.Common.{◌<◌, ap, ◌∙◌, arith}
use Rattle.ib_core.specs.Sessions.{claims}
use Rattle.ib_core.proofs.OnLatch.{counted}
use Rattle.ib_rule.specs.Pass.{with_view}
use Rattle.ib_rule.proofs.LockSteps.{sx_under_x_step}
use Rattle.ib_rule.proofs.Outcomes.{further_sx_view}
use Rattle.ib_rule.proofs.space.Space.take_sx_under_x.Goals as goal

pub turn-found-requires-clause-step : goal.turn-found-requires-clause-step
turn-found-requires-clause-step g c = λ proper n found. sx_under_x_step c.args.pass.now.view c.args.latch.0 n c.requires.may.free proper c.requires.may.grows c.requires.owns_x c.requires.no_sx found

pub returns-clause-taken : goal.returns-clause-taken
returns-clause-taken g c =
    let proper = c.turn-found.ensures.proper in
    let one = counted c.args.latch.0 c.args.pass.now.view.session (proper.single c.args.latch.0) in
    let has = c.requires.owns_x in
    let claim : 0 < claims c.args.latch.0 c.args.pass.now.view.session = omega arith in
    c.turn-found.ensures.view ∙ ap (with_view c.args.pass.now) (further_sx_view c.args.pass.now.view c.args.latch.0 c.turn-found.result.0 c.turn-found.ensures.known c.requires.may.free proper claim c.requires.no_sx)
