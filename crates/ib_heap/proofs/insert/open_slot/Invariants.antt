-- The words from the last on back to the step's have been moved.
use Rattle.std.proofs.Common.{◌≡◌, ℕ, ◌+◌, ◌<◌, ◌≤◌, ◌⊎◌, get_or, length}
use Rattle.ib_heap.proofs.insert.open_slot.Given as goal

abbrev pub invariant-loop-step : goal.invariant-loop-step
invariant-loop-step l = record {
  before : (m : ℕ) → m + l.step ≤ l.last → get_or l.words (8 + m) 0 ≡ get_or l.fn.words (8 + m) 0;
  behind : (m : ℕ) → l.last < m + l.step → m ≤ l.last → get_or l.words (8 + (m + 1)) 0 ≡ get_or l.fn.words (8 + m) 0;
  other : (i : ℕ) → (i < 8) ⊎ (9 + l.last < i) → get_or l.words i 0 ≡ get_or l.fn.words i 0;
  at_slot : (m : ℕ) → m ≤ l.slot → get_or l.words (8 + m) 0 ≡ get_or l.fn.words (8 + m) 0;
  size : length l.words ≡ length l.fn.words;
}
