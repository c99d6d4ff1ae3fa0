-- So many pages are written.
use Rattle.std.proofs.Common.{◌≡◌, ◌*◌, ◌++◌, length, drop, take}
use Rattle.std.specs.List.{flat_map}
use Rattle.ib_replay.specs.Files.{AreWords, word_bytes}
use Rattle.ib_image.specs.declared.image_file.TheConstants.{PAGE_NUMBERS}
use Rattle.ib_image.specs.ImageFiles.{page_numbers}
use Rattle.ib_image.proofs.image_file.write_pages.Given as goal

abbrev pub invariant-loop-index : goal.invariant-loop-index
invariant-loop-index l = record {
  numbers : l.out ≡ word_bytes (flat_map page_numbers (take l.index l.pages)) ++ drop (8 * (PAGE_NUMBERS * l.index)) l.initial.out;
  size : length (flat_map page_numbers (take l.index l.pages)) ≡ PAGE_NUMBERS * l.index;
  fits : AreWords (flat_map page_numbers (take l.index l.pages));
}
