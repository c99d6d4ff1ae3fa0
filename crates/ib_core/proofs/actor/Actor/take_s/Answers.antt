-- What is not held has no holding.
use Rattle.std.proofs.Common.{sym, ◌∙◌}
use Rattle.ib_levels.proofs.Counts.{none_from_unheld}
use Rattle.ib_core.proofs.actor.Actor.take_s.Goals as goal

pub take_first-requires-clause-none : goal.take_first-requires-clause-none
take_first-requires-clause-none c = none_from_unheld c.args.latch.0 c.args.self.now.held.items (sym c.holds.ensures ∙ c.if-holds.false)
