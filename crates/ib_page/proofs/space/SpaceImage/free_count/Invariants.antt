-- The free pages of the words so far.
use Rattle.std.proofs.Common.{◌≡◌, ◌≤◌, ◌*◌}
use Rattle.ib_page.specs.Space.{free_below}
use Rattle.ib_page.proofs.space.SpaceImage.free_count.Given as goal

abbrev pub invariant-loop-i : goal.invariant-loop-i
invariant-loop-i l = record { count : l.count ≡ free_below l.fn.self (64 * l.i); in_range : l.count ≤ 64 * l.i }
