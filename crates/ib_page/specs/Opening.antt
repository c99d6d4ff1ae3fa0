-- The pages of a new space with so many roots, word for word.
use Rattle.std.specs.Prelude.{ℕ, ◌+◌, ◌-◌, ◌^◌, ◌==◌, nat_le, List, ◌∷◌, if◌then◌else◌}
use Rattle.ib_map.specs.declared.TheConstants.{PAGE_WORDS}
use Rattle.ib_heap.specs.Words.{zeros, free_page_words}
use Rattle.ib_heap.specs.Form.{empty_leaf_words}

-- page 0: the bits of page 0 and of the roots, which are the pages 1 to `roots`, and zeros
unfoldable pub opening_space_words : ℕ → List ℕ
opening_space_words roots = (2 ^ (roots + 1) - 1) ∷ zeros (PAGE_WORDS - 1)

-- page 0 is the space page, each root is an empty leaf, and every other page is free
unfoldable pub opening_words : ℕ → ℕ → List ℕ
opening_words roots page = if page == 0 then opening_space_words roots else (if nat_le page roots then empty_leaf_words 0 else free_page_words 0)
