-- The pages chosen and those that are still free are the free pages of the beginning.
use Rattle.std.proofs.Common.{◌≡◌, ◌++◌, length}
use Rattle.ib_walk.specs.Full.{free_pages_from}
use Rattle.ib_plans.specs.Agreement.{bits_in}
use Rattle.ib_split.proofs.choose.lowest.Given as goal

abbrev pub invariant-loop-taken : goal.invariant-loop-taken
invariant-loop-taken l =
    (free_pages_from (bits_in l.pages l.initial.space) 0 l.pages ≡ l.path ++ free_pages_from (bits_in l.pages l.space) 0 l.pages) × (length l.path ≡ l._taken)
