-- So many words are written, each of 64 bits at most.
use Rattle.std.proofs.Common.{◌≡◌, ◌*◌, ◌++◌, drop, take}
use Rattle.ib_replay.specs.Files.{AreWords, word_bytes}
use Rattle.ib_image.proofs.image_file.write_words.Given as goal

abbrev pub invariant-loop-index : goal.invariant-loop-index
invariant-loop-index l = record {
  written : l.out ≡ word_bytes (take l.index l.image) ++ drop (8 * l.index) l.initial.out;
  fits : AreWords (take l.index l.image);
}
