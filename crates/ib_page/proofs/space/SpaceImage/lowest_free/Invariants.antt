-- No page of the words so far is free.
use Rattle.std.proofs.Common.{◌≡◌, ◌<◌, ◌*◌, ℕ, true}
use Rattle.ib_page.specs.Space.{is_taken}
use Rattle.ib_page.proofs.space.SpaceImage.lowest_free.Given as goal

abbrev pub invariant-loop-i : goal.invariant-loop-i
invariant-loop-i l = (lower : ℕ) → lower < 64 * l.i → is_taken l.fn.self lower ≡ true
