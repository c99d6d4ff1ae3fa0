use Rattle.std.proofs.Common.{◌-◌, length}
use Rattle.ib_replay.proofs.ReplayLaws.{IsReached}
use Rattle.ib_replay.proofs.log_replay.put_entries.Given as goal

abbrev pub invariant-loop-place : goal.invariant-loop-place
invariant-loop-place l = IsReached l.pages l.words l.place l.entries.items l.tree l.map l.counts

abbrev pub decreases-loop-place : goal.decreases-loop-place
decreases-loop-place l = length l.words - l.place
