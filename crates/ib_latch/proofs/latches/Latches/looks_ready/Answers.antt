use Rattle.std.proofs.Common.{sym, ◌∙◌}
use Rattle.ib_latch.proofs.Stills.{looked_free, looked_next}
use Rattle.ib_latch.proofs.latches.Latches.looks_ready.Goals as goal

pub returns-in-Free : goal.returns-in-Free
returns-in-Free g c = looked_free c.args.self.now c.args.latch.0 c.args.level c.load_word.result c.args.pass.now c.load_word.new.pass c.requires.next.own c.requires.next.phase c.load_word.ensures.same (sym c.phase.ensures ∙ c.in-Free.is)

pub returns-in_default : goal.returns-in_default
returns-in_default g c = looked_next c.args.self.now c.args.latch.0 c.args.level c.load_word.result c.args.pass.now c.load_word.new.pass c.requires.next.own c.requires.next.phase c.load_word.ensures.same (λ free. c.in_default.not-Free (c.phase.ensures ∙ free))
