use Rattle.std.proofs.Common.{◌≡◌, ℕ, ◌*◌, ◌<◌, false, length, take}
use Rattle.ib_map.specs.declared.TheConstants.{PAGE_WORDS}
use Rattle.ib_map.specs.Writes.{stored, touches}
use Rattle.ib_page.specs.Memory.{image_at, word_at}
use Rattle.ib_validate.proofs.stores.store_words.Given as goal

abbrev pub invariant-loop-write : goal.invariant-loop-write
invariant-loop-write l = record {
  words : (place : ℕ) → place < length l.images * PAGE_WORDS → word_at l.images place ≡ stored (take l.write-index l.writes) place (word_at l.initial.images place);
  others : (page : ℕ) → touches page (take l.write-index l.writes) ≡ false → image_at l.images page ≡ image_at l.initial.images page;
}
