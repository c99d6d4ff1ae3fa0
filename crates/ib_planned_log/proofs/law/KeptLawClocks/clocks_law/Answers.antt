-- A kept entry raises the clocks of just the pages that it writes.
use Rattle.ib_planned_log.proofs.WrittenLaws.{CountsWrites-kept}
use Rattle.ib_planned_log.proofs.law.KeptLawClocks.clocks_law.Goals as goal

pub returns : goal.returns
returns c = λ pages fits. CountsWrites-kept pages
