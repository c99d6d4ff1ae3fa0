-- The turn does not read the lock word.
use Rattle.std.proofs.Common.{◌∙◌, ap}
use Rattle.ib_core.specs.Responses.{Turn, answered, latch_of}
use Rattle.ib_rule.proofs.Own.{can_mark, own_mark}
use Rattle.ib_rule.proofs.mirror.turn_on_mark.Goals as goal

pub step-requires-clause-can : goal.step-requires-clause-can
step-requires-clause-can c = can_mark (latch_of c.args.event) c.args.member.now.session c.requires.proper c.requires.few

pub returns-clause-turn : goal.returns-clause-turn
returns-clause-turn c = ap (λ (t : Turn). answered t.answer t.session) c.step.ensures.turn ∙ own_mark c.args.member.now.session c.args.event c.args.found _ c.requires.proper.single c.requires.word
