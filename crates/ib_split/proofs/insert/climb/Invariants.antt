-- The record that is left belongs into the page of the path that is next, for every memory whose pages these were.
use Rattle.std.proofs.Common.{ℕ, ◌-◌, length, get_or}
use Rattle.ib_walk.specs.Pages.{PageMemory}
use Rattle.ib_plans.specs.Agreement.{Agrees}
use Rattle.ib_split.specs.Inserts.{HasFresh}
use Rattle.ib_split.proofs.Pending.{IsPending}
use Rattle.ib_split.proofs.insert.climb.Given as goal

abbrev pub invariant-loop-used : goal.invariant-loop-used
invariant-loop-used l = (pages roots root : ℕ) (memory : PageMemory) (bits : ℕ → ℕ)
    → Agrees pages roots root l.fn.key l.fn.path l.initial.work memory bits → HasFresh pages roots root l.fn.key l.fn.fresh memory bits
    → IsPending l.fn.key l.fn.value l.fn.fresh l.initial.work memory bits l.used (get_or l.fn.path (length l.fn.path - 1 - l.used) 0) l.key l.value l.work
