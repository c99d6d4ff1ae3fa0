-- The form of a page: which page a list of words holds.
use Rattle.std.specs.Prelude.{ℕ, ◌+◌, ◌-◌, ◌*◌, List, ◌∷◌, if◌then◌else◌}
use Rattle.std.specs.Str.{bytes_eq}
use Rattle.ib_map.specs.declared.TheConstants.{PAGE_WORDS}
use Rattle.ib_heap.specs.declared.form.TheConstants.{TREE, INFIMUM, SUPREMUM, FIRST_OFFSET, OWNED_UNIT}
use Rattle.ib_heap.specs.Words.{zeros, free_page_words, clock_in}
use Rattle.ib_heap.specs.Page.{PageValue}
use Rattle.ib_heap.specs.Page.PageValue.{Malformed, Free, Tree}
use Rattle.ib_heap.specs.Chain.{records_in, page_with, is_heap, read_chain}

-- What an image holds: a page of the tree where the chain that is read from its words is theirs, a free page, or nothing.
unfoldable pub page_of : List ℕ → PageValue
page_of ws = if is_heap ws (read_chain ws) then Tree (page_with ws (records_in ws (read_chain ws).nodes))
    else (if bytes_eq ws (free_page_words (clock_in ws)) then Free (clock_in ws) else Malformed)

-- the words of an empty leaf: its kind and its clock, 2 slots and the first offset at word 20, these 2 slots, and infimum and supremum
unfoldable pub empty_leaf_words : ℕ → List ℕ
empty_leaf_words clock = TREE ∷ 0 ∷ 0 ∷ 0 ∷ 0 ∷ clock ∷ 0 ∷ (2 * OWNED_UNIT + FIRST_OFFSET) ∷ INFIMUM ∷ SUPREMUM ∷ 0 ∷ 0 ∷ 0 ∷ 0 ∷ 0 ∷ 0 ∷ 0 ∷ 0 ∷ (OWNED_UNIT + SUPREMUM) ∷ OWNED_UNIT ∷ zeros (PAGE_WORDS - FIRST_OFFSET)
