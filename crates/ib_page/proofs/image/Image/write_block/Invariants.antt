-- The writes so far stand behind those that were there.
use Rattle.std.proofs.Common.{◌≡◌, ◌+◌, ◌*◌, ◌≤◌, ℕ, List, length}
use Rattle.ib_page.specs.Writes.{HasWritten, writes_below}
use Rattle.ib_page.proofs.image.Image.write_block.Given as goal

abbrev pub invariant-loop-i : goal.invariant-loop-i
invariant-loop-i l = record {
  ended : l.end + length (writes_below l.page l.self-inside.words l.other-inside.words l.first) ≡ l.count + length (writes_below l.page l.self-inside.words l.other-inside.words l.i);
  written : (had : ℕ) (were : List ℕ) → 2 * had ≤ length were → HasWritten l.page l.self-inside.words l.other-inside.words l.first had were l.count l.initial.out
      → HasWritten l.page l.self-inside.words l.other-inside.words l.i had were l.end l.out;
}
