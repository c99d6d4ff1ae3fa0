-- The page is written where its images differ.
use Rattle.ib_page.proofs.StoreLaws.{touched_at}
use Rattle.ib_page.proofs.work.WorkSet.is_changed_at.Goals as goal

pub returns-clause-changed : goal.returns-clause-changed
returns-clause-changed c = touched_at c.args.self.now c.args.index c.differences.result _ c.page_at-images.ensures.work.ascends c.page_at-images.ensures.page (c.differences.ensures.count _)
