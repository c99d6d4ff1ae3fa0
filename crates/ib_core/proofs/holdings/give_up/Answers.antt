-- What is taken out is all that is on the latch.
use Rattle.std.proofs.Common.{◌∙◌}
use Rattle.ib_levels.specs.declared.level.Level.TheVariants.{Log}
use Rattle.ib_levels.specs.Holding.{hold}
use Rattle.ib_core.proofs.AtHeld.{gone_at}
use Rattle.ib_core.proofs.holdings.give_up.Goals as goal

pub returns-clause-items : goal.returns-clause-items
returns-clause-items c = c.take_out.ensures.rest ∙ gone_at c.args.latch.0 c.args.held.now.items c.args.at (hold 0 Log 0 0 0) c.requires.index c.requires.single
