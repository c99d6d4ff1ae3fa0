-- The answer at a latch that is not held already.
use Rattle.std.proofs.Common.{sym, ◌∙◌}
use Rattle.ib_levels.specs.Listed.{is_among, levels_along}
use Rattle.ib_levels.proofs.Orderly.{allowed, answer_unheld}
use Rattle.ib_levels.proofs.listed.allows.Goals as goal

pub returns : goal.returns
returns g c =
    allowed (is_among g.H.Listed.latch_of c.args.latch.0 c.args.held.now) c.args.level (levels_along g.H.Listed.level_of c.args.held.now) c.unless_none.result
    (answer_unheld (is_among g.H.Listed.latch_of c.args.latch.0 c.args.held.now) c.args.level (levels_along g.H.Listed.level_of c.args.held.now) c.first_forbidding.result c.unless_none.result
    (sym c.is_among.ensures ∙ c.if-is_among.false) c.first_forbidding.ensures c.unless_none.ensures)
