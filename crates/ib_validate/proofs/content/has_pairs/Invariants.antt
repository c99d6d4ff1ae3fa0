-- What is left of the pairs is the records from the place on, where the two lists are one.
use Rattle.std.proofs.Common.{◌≡◌, ◌↔◌, ◌≤◌, drop, length}
use Rattle.ib_page.specs.Form.{page_of}
use Rattle.ib_walk.specs.Words.{state_of}
use Rattle.ib_validate.specs.Contents.{pairs_inside}
use Rattle.ib_validate.specs.Positions.{end_of}
use Rattle.ib_validate.proofs.content.has_pairs.Given as goal

abbrev pub invariant-loop-pair : goal.invariant-loop-pair
invariant-loop-pair l = record {
  same : ((state_of (page_of l.image)).records ≡ pairs_inside (end_of l.high) l.fn.pairs) ↔ (drop l.place (state_of (page_of l.image)).records ≡ pairs_inside (end_of l.high) l.pair-iterator);
  far : l.place ≤ length (state_of (page_of l.image)).records;
}
