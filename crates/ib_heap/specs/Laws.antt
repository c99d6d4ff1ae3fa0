-- The law of the form of a page.
use Rattle.std.specs.Prelude.{◌≡◌, ℕ, List, [], length}
use Rattle.ib_map.specs.declared.TheConstants.{PAGE_WORDS}
use Rattle.ib_heap.specs.declared.TheConstants.{MOST_LEVEL, MOST_RECORDS}
use Rattle.ib_heap.specs.Form.{page_of, empty_leaf_words}
use Rattle.ib_heap.specs.Image.{IsTreePage, IsFormed}
use Rattle.ib_heap.specs.Page.{Page, IsPage}
use Rattle.ib_heap.specs.Page.PageValue.{Tree, Free}
use Rattle.ib_heap.specs.Words.{free_page_words}

-- What an image holds as a page of the tree is within the limits and its records ascend, an image of a page is whole,
-- and an empty leaf and a free page are what they are named.
pub record FormLaw : Type 0 where
  pub levels : MOST_LEVEL ≡ 7
  pub most : MOST_RECORDS ≡ 35
  pub tree : (words : List ℕ) (p : Page) → page_of words ≡ Tree p → IsPage p
  pub whole : (words : List ℕ) → IsFormed words → length words ≡ PAGE_WORDS
  pub formed : (words : List ℕ) → IsTreePage words → IsFormed words
  pub leaf : (clock : ℕ) → page_of (empty_leaf_words clock) ≡ Tree (record { level = 0; prev = 0; next = 0; clock = clock; records = [] })
  pub free : (clock : ℕ) → page_of (free_page_words clock) ≡ Free clock
