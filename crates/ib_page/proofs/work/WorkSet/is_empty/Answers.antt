-- The pages ascend.
use Rattle.std.proofs.Common.{subst}
use Rattle.ib_page.specs.Work.{IsWork}
use Rattle.ib_page.proofs.RoomLaws.{is_work}
use Rattle.ib_page.proofs.work.WorkSet.is_empty.Goals as goal

pub returns-clause-work : goal.returns-clause-work
returns-clause-work c = subst IsWork c.self.view_is (is_work _ _ _ _ c.self.invariant.kept)
