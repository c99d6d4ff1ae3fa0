-- The pages of the path up to this height were seen to, and at each height one page was freed.
use Rattle.std.proofs.Common.{◌≡◌, length}
use Rattle.ib_merge.proofs.ClimbLaws.{IsAtForAll}
use Rattle.ib_merge.proofs.delete.climb.Given as goal

abbrev pub invariant-loop-height : goal.invariant-loop-height
invariant-loop-height l = IsAtForAll l.path l.key l.height l.freed l.fn.work l.work × (length l.freed ≡ l.height)
