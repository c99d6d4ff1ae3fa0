-- So many entries are applied.
use Rattle.std.proofs.Common.{take}
use Rattle.ib_image.specs.Applied.{IsApplied}
use Rattle.ib_image.proofs.apply.put_tail.Given as goal

abbrev pub invariant-loop-count : goal.invariant-loop-count
invariant-loop-count l = IsApplied l.initial.images l.starts (take l.count l.tail) l.images
