-- So many words are set.
use Rattle.std.proofs.Common.{◌≡◌, length, take}
use Rattle.ib_map.specs.declared.TheConstants.{PAGE_WORDS}
use Rattle.ib_c.proofs.check.image_with.Given as goal

abbrev pub invariant-loop-index : goal.invariant-loop-index
invariant-loop-index l = record {
  size : length l.image ≡ PAGE_WORDS;
  same : take l.index l.image ≡ take l.index l.words;
}
