use Rattle.ib_rule.specs.Opening.{AreOpened}
use Rattle.ib_rule.proofs.space.open_pages.Given as goal

abbrev pub invariant-loop-place : goal.invariant-loop-place
invariant-loop-place g l = record { opened : AreOpened g.L.Law.opening l.fn.geometry l.place l.fn.words l.words }
