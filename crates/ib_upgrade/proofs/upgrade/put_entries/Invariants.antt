use Rattle.std.proofs.Common.{◌-◌, length}
use Rattle.ib_upgrade.proofs.UpgradeLaws.{IsReached}
use Rattle.ib_upgrade.proofs.upgrade.put_entries.Given as goal

abbrev pub invariant-loop-place : goal.invariant-loop-place
invariant-loop-place l = IsReached l.pages l.words l.place l.images l.counts l.log.items

abbrev pub decreases-loop-place : goal.decreases-loop-place
decreases-loop-place l = length l.words - l.place
