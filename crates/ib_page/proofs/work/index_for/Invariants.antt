-- All slots so far are those of lower pages.
use Rattle.std.proofs.Common.{ℕ, ◌<◌, get_or}
use Rattle.ib_page.specs.declared.work.Slot.{Slot}
use Rattle.ib_page.proofs.work.index_for.Given as goal

abbrev pub invariant-loop-i : goal.invariant-loop-i
invariant-loop-i l = (k : ℕ) (d : Slot) → k < l.i → (get_or l.slots k d).page < l.page
