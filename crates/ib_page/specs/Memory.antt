-- Page memory: an image for each page, by number.
use Rattle.std.specs.Prelude.{ℕ, List, [], slice_index, slice_index_or}
use Rattle.ib_map.specs.Writes.{page_at, index_at}

abbrev pub image_at : List (List ℕ) → ℕ → List ℕ
image_at memory page = slice_index_or memory page []

-- a word of memory, by its place
abbrev pub word_at : List (List ℕ) → ℕ → ℕ
word_at memory place = slice_index (image_at memory (page_at place)) (index_at place)
