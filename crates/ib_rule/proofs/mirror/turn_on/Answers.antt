-- A turn on the writer reads no word.
use Rattle.std.proofs.Common.{◌∙◌}
use Rattle.ib_rule.proofs.Own.{own_writer}
use Rattle.ib_rule.proofs.mirror.turn_on.Goals as goal

pub returns-in-Writer-clause-turn : goal.returns-in-Writer-clause-turn
returns-in-Writer-clause-turn c = c.turn_on_mark.ensures.turn ∙ own_writer c.args.member.now.session c.args.event 0 c.args.found c.requires.proper.single (c.requires.word ∙ c.in-Writer.is)
