use Rattle.std.proofs.Common.{◌≡◌, ◌<◌, ℕ, length}
use Rattle.ib_validate.specs.Positions.{positions_of}
use Rattle.ib_validate.specs.TreeMemory.{opening_positions}
use Rattle.ib_validate.proofs.tree_pages.opening_table.Given as goal

abbrev pub invariant-loop-page : goal.invariant-loop-page
invariant-loop-page l = record {
  size : length l.table.items ≡ l.page;
  positions : (page : ℕ) → page < l.page → positions_of l.table.items page ≡ opening_positions page;
}
