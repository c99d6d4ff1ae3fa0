-- What is kept is of the pages of the index.
use Rattle.std.proofs.Common.{subst}
use Rattle.ib_logrec.specs.Log.{by_place}
use Rattle.ib_tree.specs.TreeLog.{opening}
use Rattle.ib_planned_log.specs.Kept.{IsKeptLog}
use Rattle.ib_rule.specs.Space.{SpaceState}
use Rattle.ib_scan.specs.Stored.{KeepsPosition}
use Rattle.ib_index_tests.proofs.stored.go_on.Goals as goal

pub returns-clause-keeps : goal.returns-clause-keeps
returns-clause-keeps g c = subst (λ (s : SpaceState). KeepsPosition s.sizes (IsKeptLog s.sizes.pages) (by_place opening s.sizes.pages) 1 c.scan_on.new.stored c.scan_on.new.pass) c.latches.ensures c.scan_on.ensures.keeps
