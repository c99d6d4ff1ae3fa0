-- An image, a list of words, by the page that it holds.
use Rattle.std.specs.Prelude.{ℕ, List}
use Rattle.ib_map.specs.Pairs.{Pairs}
use Rattle.ib_heap.specs.Page.{PageValue, HoldsTree, HoldsPage, page_in}
use Rattle.ib_heap.specs.Page.PageValue.{Malformed, Free, Tree}
use Rattle.ib_heap.specs.Form.{page_of}

-- the image is a page of the tree
abbrev pub IsTreePage : List ℕ → Type 0
IsTreePage ws = HoldsTree (page_of ws)

-- the image is a page of the tree or a free page
abbrev pub IsFormed : List ℕ → Type 0
IsFormed ws = HoldsPage (page_of ws)

abbrev pub level_of : List ℕ → ℕ
level_of ws = (page_in (page_of ws)).level

abbrev pub prev_of : List ℕ → ℕ
prev_of ws = (page_in (page_of ws)).prev

abbrev pub next_of : List ℕ → ℕ
next_of ws = (page_in (page_of ws)).next

abbrev pub clock_of : List ℕ → ℕ
clock_of ws = (page_in (page_of ws)).clock

abbrev pub records_of : List ℕ → Pairs
records_of ws = (page_in (page_of ws)).records

-- the page with other records, and nothing else changed
abbrev pub value_with_records : Pairs → PageValue → PageValue
value_with_records records (Tree p) = Tree (record p { records = records })
value_with_records records v = v

-- the page with other links, and nothing else changed
abbrev pub with_links : ℕ → ℕ → PageValue → PageValue
with_links prev next (Tree p) = Tree (record p { prev = prev; next = next })
with_links prev next v = v

-- the page at another level, and nothing else changed
abbrev pub with_level : ℕ → PageValue → PageValue
with_level level (Tree p) = Tree (record p { level = level })
with_level level v = v

-- the page, free or not, with another clock, and nothing else changed
abbrev pub value_with_clock : ℕ → PageValue → PageValue
value_with_clock clock (Tree p) = Tree (record p { clock = clock })
value_with_clock clock (Free old) = Free clock
value_with_clock clock Malformed = Malformed
