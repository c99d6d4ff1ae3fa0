-- The pages before this one are in the two parts.
use Rattle.std.proofs.Common.{◌≡◌, ◌≤◌, ◌++◌, ◌-◌, [], length}
use Rattle.std.specs.Prelude.{take}
use Rattle.ib_pair_change.proofs.plans.parted.Given as goal

abbrev pub invariant-loop-at : goal.invariant-loop-at
invariant-loop-at l = record {
  both : l.first ++ l.second ≡ take l.at l.fn.path;
  within : l.at ≤ length l.fn.path;
  few : length l.first ≤ l.at;
  other_few : length l.second ≤ l.at;
  begins : l.at ≤ l.fn.count → l.second ≡ [];
  all : l.fn.count ≤ l.at → length l.first ≡ l.fn.count;
  some : l.at ≤ l.fn.count → length l.first ≡ l.at;
}

abbrev pub decreases-loop-at : goal.decreases-loop-at
decreases-loop-at l = length l.pages - l.at
