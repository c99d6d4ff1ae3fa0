-- The writes of a tail, applied to images each of which begins at an entry of its own.
use Rattle.std.specs.Prelude.{◌≡◌, ℕ, ◌*◌, ◌<◌, List, length, drop, nat_le, slice_index, if◌then◌else◌}
use Rattle.ib_map.specs.declared.TheConstants.{PAGE_WORDS}
use Rattle.ib_map.specs.declared.write.Write.{Write}
use Rattle.ib_map.specs.Writes.{page_at, stored}
use Rattle.ib_page.specs.Memory.{word_at}
use Rattle.ib_logrec.specs.declared.entry.Entry.{Entry}
use Rattle.ib_logrec.specs.Log.{after}

-- the word at a place after the writes of the tail's entry of this number, where its page begins at the entry `start`
abbrev pub stored_from : ℕ → ℕ → List Write → ℕ → ℕ → ℕ
stored_from start count ws place word = if nat_le start count then stored ws place word else word

-- the entry at which the page of a place begins
abbrev pub start_of : List ℕ → ℕ → ℕ
start_of starts place = slice_index starts (page_at place)

-- the memory after a tail is applied to images, to each from its start on
pub record IsApplied (images : List (List ℕ)) (starts : List ℕ) (tail : List Entry) (memory : List (List ℕ)) : Type 0 where
  pub size : length memory ≡ length images
  pub words : (place : ℕ) → place < length images * PAGE_WORDS → word_at memory place ≡ after (drop (start_of starts place) tail) place (word_at images place)
