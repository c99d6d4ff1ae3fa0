use Rattle.std.proofs.Common.{sym, ◌∙◌}
use Rattle.ib_latch.proofs.Stills.{armed_owned}
use Rattle.ib_latch.proofs.waiting.Latches+L+Parkers.verify.Goals as goal

-- src/waiting.rt:190:5
pub returns-in-Free-clause-owned : goal.returns-in-Free-clause-owned
returns-in-Free-clause-owned g c =
    λ is_true. armed_owned c.args.latch.0 c.load_word.result c.args.pass.now c.load_word.new.pass c.load_word.ensures.same (sym c.phase.ensures ∙ c.in-Free.is) c.args.level c.requires.armed.0 c.requires.armed.1
