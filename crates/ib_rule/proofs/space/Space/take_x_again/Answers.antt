use Rattle.std.proofs.Common.{◌≤◌, ap, sym, ◌∙◌, subst}
use Rattle.ib_core.specs.Sessions.{holdings, x_grants}
use Rattle.ib_rule.specs.Pass.{PassState, with_view}
use Rattle.ib_rule.proofs.LockSteps.{either_small, further_x_step}
use Rattle.ib_rule.proofs.Outcomes.{further_x_view}
use Rattle.ib_rule.proofs.space.Space.take_x_again.Goals as goal

pub counts-requires : goal.counts-requires
counts-requires g c = subst (λ a. holdings c.args.latch.0 a ≤ 1) (sym c.pass.invariant.session) (c.pass.invariant.proper.single c.args.latch.0)

pub turn-found-requires-clause-step : goal.turn-found-requires-clause-step
turn-found-requires-clause-step g c = λ proper n found. further_x_step c.args.pass.now.view c.args.latch.0 n c.requires.may.free proper c.from-weight.result c.counts.result.x c.requires.may.grows (c.counts.ensures.x ∙ (ap (x_grants c.args.latch.0) c.pass.invariant.session ∙ ap (λ (p : PassState). x_grants c.args.latch.0 p.view.session) c.pass.view_is)) c.requires.owns (rw c.from-weight.ensures c.again_x.ensures.weighs) (either_small _ c.from-weight.result (c.from-weight.ensures ∙ c.again_x.ensures.table)) found

pub returns-clause-taken : goal.returns-clause-taken
returns-clause-taken g c = c.turn-found.ensures.view ∙ ap (with_view c.args.pass.now) (further_x_view c.args.pass.now.view c.args.latch.0 c.turn-found.result.0 c.turn-found.ensures.known c.requires.may.free c.turn-found.ensures.proper c.requires.owns)
