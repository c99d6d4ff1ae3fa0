-- The words so far are the same, unless one was found that is not.
use Rattle.std.proofs.Common.{◌≡◌, true}
use Rattle.ib_page.specs.Writes.{AreSame}
use Rattle.ib_page.proofs.image.Image.is_same_block.Given as goal

abbrev pub invariant-loop-i : goal.invariant-loop-i
invariant-loop-i l = l.same ≡ true → AreSame l.first l.i l.self-inside.words l.other-inside.words
