-- The pages of a new space of two trees, word for word.
use Rattle.std.specs.Prelude.{ℕ}
use Rattle.ib_tree.specs.TreeLog.{opening_of}

-- page 0 is the space page, pages 1 and 2 are empty leaves, and every other page is free
abbrev pub pair_opening : ℕ → ℕ → ℕ → ℕ
pair_opening pages page index = opening_of 2 pages page index
