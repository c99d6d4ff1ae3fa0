-- The ones of the complement are the zeros of the word.
use Rattle.std.proofs.Common.{◌≤◌, ℕ, subst, sym}
use Rattle.ib_page.proofs.SpaceLaws.{zeros_counted, zeros_below-le}
use Rattle.ib_page.proofs.space.zeros_below.Goals as goal

pub returns-clause-count : goal.returns-clause-count
returns-clause-count c = zeros_counted c.args.word c.args.bits c.ranges.word.fits c.requires

pub returns-clause-few : goal.returns-clause-few
returns-clause-few c = subst (λ (n : ℕ). n ≤ c.args.bits) (sym (returns-clause-count c)) (zeros_below-le c.args.bits c.args.word)
