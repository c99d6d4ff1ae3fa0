-- The words before the step's have been moved.
use Rattle.std.proofs.Common.{◌≡◌, ℕ, ◌+◌, ◌<◌, ◌≤◌, ◌⊎◌, get_or, length}
use Rattle.ib_heap.proofs.remove.close_slot.Given as goal

abbrev pub invariant-loop-m : goal.invariant-loop-m
invariant-loop-m l = record {
  low : l.slot ≤ l.m;
  before : (j : ℕ) → j < l.slot → get_or l.words (8 + j) 0 ≡ get_or l.fn.words (8 + j) 0;
  behind : (j : ℕ) → l.slot ≤ j → j < l.m → get_or l.words (8 + j) 0 ≡ get_or l.fn.words (8 + (j + 1)) 0;
  other : (i : ℕ) → (i < 8) ⊎ (8 + l.m ≤ i) → get_or l.words i 0 ≡ get_or l.fn.words i 0;
  size : length l.words ≡ length l.fn.words;
}
