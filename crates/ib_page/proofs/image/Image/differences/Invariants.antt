-- The words so far that differ.
use Rattle.std.proofs.Common.{◌≡◌, ◌≤◌, ℕ, length}
use Rattle.ib_page.specs.Writes.{writes_below}
use Rattle.ib_page.proofs.image.Image.differences.Given as goal

abbrev pub invariant-loop-i : goal.invariant-loop-i
invariant-loop-i l = record {
  count : (page : ℕ) → l.count ≡ length (writes_below page l.self-inside.words l.other-inside.words l.i);
  few : l.count ≤ l.i;
}
