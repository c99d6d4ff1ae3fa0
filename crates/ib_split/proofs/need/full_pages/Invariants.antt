-- The pages that were looked at are full.
use Rattle.std.proofs.Common.{◌≡◌, ◌+◌, drop}
use Rattle.std.specs.Prelude.{reverse}
use Rattle.ib_walk.specs.Full.{full_run}
use Rattle.ib_plans.specs.Agreement.{memory_in}
use Rattle.ib_split.proofs.need.full_pages.Given as goal

abbrev pub invariant-loop-count : goal.invariant-loop-count
invariant-loop-count l = full_run (memory_in l.fn.work) (reverse l.fn.path) ≡ l.count + full_run (memory_in l.fn.work) (drop l.count (reverse l.fn.path))
