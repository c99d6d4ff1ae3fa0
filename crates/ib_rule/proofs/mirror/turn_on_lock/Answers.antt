-- The turn reads the lock word alone.
use Rattle.std.proofs.Common.{◌∙◌, ap}
use Rattle.ib_core.specs.Responses.{Turn, answered, latch_of}
use Rattle.ib_rule.proofs.Own.{can_lock, own_lock}
use Rattle.ib_rule.proofs.mirror.turn_on_lock.Goals as goal

pub step-requires-clause-can : goal.step-requires-clause-can
step-requires-clause-can c = can_lock (latch_of c.args.event) c.args.member.now.session c.requires.proper c.requires.few c.args.found c.requires.found c.from_cell.result.0 c.from_cell.ensures.word

pub returns-clause-turn : goal.returns-clause-turn
returns-clause-turn c = ap (λ (t : Turn). answered t.answer t.session) c.step.ensures.turn ∙ own_lock c.args.member.now.session c.args.event c.args.found c.from_cell.result.0 _ c.requires.proper.single c.requires.word c.from_cell.ensures.word
