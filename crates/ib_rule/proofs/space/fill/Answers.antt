use Rattle.std.proofs.Common.{subst, List, ℕ}
use Rattle.ib_rule.specs.Opening.{AreFreed}
use Rattle.ib_rule.proofs.Opening.{opens_so}
use Rattle.ib_rule.proofs.space.fill.Goals as goal

pub returns : goal.returns
returns g c =
    opens_so g.L.Law.opening c.args.geometry c.free_latches.new.words c.open_pages.new.words
    (subst (λ (z : ℕ × List ℕ). AreFreed z.0 z.1 c.free_latches.new.words) (λ j. (c.requires.latches j, c.requires.zeros j)) c.free_latches.ensures) c.open_pages.ensures
