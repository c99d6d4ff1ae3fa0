use Rattle.std.proofs.Common.{◌<◌, ap, ◌∙◌, arith}
use Rattle.ib_core.specs.Sessions.{claims}
use Rattle.ib_core.proofs.OnLatch.{counted}
use Rattle.ib_rule.specs.Pass.{with_view}
use Rattle.ib_rule.proofs.MarkSteps.{counted_sx_step, counted_sx_word}
use Rattle.ib_rule.proofs.Outcomes.{counted_sx_view}
use Rattle.ib_rule.proofs.space.Space.take_sx_again.Goals as goal

pub turn-requires-clause-word : goal.turn-requires-clause-word
turn-requires-clause-word g c = counted_sx_word c.args.pass.now.view c.args.latch.0 0 c.requires.owns

pub turn-requires-clause-step : goal.turn-requires-clause-step
turn-requires-clause-step g c = λ proper n found. counted_sx_step c.args.pass.now.view c.args.latch.0 n c.requires.may.grows

pub returns-clause-taken : goal.returns-clause-taken
returns-clause-taken g c =
    let proper = c.turn.ensures.proper in
    let one = counted c.args.latch.0 c.args.pass.now.view.session (proper.single c.args.latch.0) in
    let has = c.requires.owns in
    let claim : 0 < claims c.args.latch.0 c.args.pass.now.view.session = omega arith in
    c.turn.ensures.view ∙ ap (with_view c.args.pass.now) (counted_sx_view c.args.pass.now.view c.args.latch.0 c.turn.result.0 c.turn.ensures.known c.requires.may.free proper claim has)
