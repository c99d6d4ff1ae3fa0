-- The words of a new space with so many roots, by their places.
use Rattle.std.specs.Prelude.{ℕ, slice_index}
use Rattle.ib_map.specs.Writes.{page_at, index_at}
use Rattle.ib_page.specs.Opening.{opening_words}

-- page 0 has the bits of page 0 and of the roots, each root is an empty leaf, and all other pages are free
unfoldable pub opening_word : ℕ → ℕ → ℕ
opening_word roots place = slice_index (opening_words roots (page_at place)) (index_at place)
