-- Chunks whose neighbours of one place are printed as one.
use Rattle.std.specs.Prelude.{ℕ, ◌+◌, ◌≤◌, List, length, slice_range}
use Rattle.ib_map.specs.Pairs.{Pairs}
use Rattle.ib_map.specs.Replies.{Span}
use Rattle.ib_map.specs.Chunks.{AreAdjacent}
use Rattle.ib_map.specs.declared.chunks.Chunk.{Chunk}

-- the pairs of these chunks stand one chunk's behind another's, somewhere in this list of pairs
pub record AreNeighbours (list : List Chunk) (pairs : Pairs) : Type 0 where
  pub start : ℕ
  pub end : ℕ
  pub adjacent : AreAdjacent start list end
  pub within : end ≤ length pairs

-- the chunks from a first one to a last one, as one
abbrev pub span_between : Chunk → Chunk → Pairs → Span
span_between first last pairs = record { low = first.low; high = last.high; place = first.place; pairs = slice_range pairs first.start (last.start + last.len) }
