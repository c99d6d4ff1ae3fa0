-- Words that have one form everywhere: zeros, and those of a free page.
use Rattle.std.specs.Prelude.{ℕ, ◌+◌, ◌-◌, List, ◌∷◌, slice_index, replicate}
use Rattle.ib_map.specs.declared.TheConstants.{PAGE_WORDS}
use Rattle.ib_heap.specs.declared.page.TheConstants.{CLOCK}

-- words that are 0
unfoldable pub zeros : ℕ → List ℕ
zeros n = replicate n 0

-- the words of a free page: its clock among zeros
unfoldable pub free_page_words : ℕ → List ℕ
free_page_words clock = 0 ∷ 0 ∷ 0 ∷ 0 ∷ 0 ∷ clock ∷ zeros (PAGE_WORDS - (CLOCK + 1))

-- the clock that stands in the words of a page
abbrev pub clock_in : List ℕ → ℕ
clock_in ws = slice_index ws CLOCK
