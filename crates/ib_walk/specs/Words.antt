-- Pages and bits as they stand in words.
use Rattle.std.specs.Prelude.{ℕ, zero, suc, ◌+◌, ◌*◌, List, [], ◌∷◌, nat_lt, if◌then◌else◌}
use Rattle.ib_map.specs.declared.TheConstants.{PAGE_WORDS}
use Rattle.ib_page.specs.Page.{PageValue}
use Rattle.ib_page.specs.Page.PageValue.{Malformed as MalformedValue, Free as FreeValue, Tree as TreeValue}
use Rattle.ib_page.specs.Form.{page_of}
use Rattle.ib_page.specs.Space.{is_taken, IsSpacePage}
use Rattle.ib_page.specs.Memory.{word_at}
use Rattle.ib_walk.specs.Pages.{Malformed, Free, Tree, PageState, PageMemory}
use Rattle.ib_walk.specs.Trees.{IsLawful}

-- a page value with its kind beside the fields
abbrev pub state_of : PageValue → PageState
state_of (TreeValue p) = record { kind = Tree; level = p.level; prev = p.prev; next = p.next; clock = p.clock; records = p.records }
state_of (FreeValue clock) = record { kind = Free; level = 0; prev = 0; next = 0; clock = clock; records = [] }
state_of MalformedValue = record { kind = Malformed; level = 0; prev = 0; next = 0; clock = 0; records = [] }

-- so many words from a place on
abbrev pub words_at : (ℕ → ℕ) → ℕ → ℕ → List ℕ
words_at words place zero = []
words_at words place (suc n) = words place ∷ words_at words (place + 1) n

-- the words of a page among the words of all pages by place
unfoldable pub image_of : (ℕ → ℕ) → ℕ → List ℕ
image_of words page = words_at words (page * PAGE_WORDS) PAGE_WORDS

-- the pages that the words are
unfoldable pub pages_of : (ℕ → ℕ) → PageMemory
pages_of words page = state_of (page_of (image_of words page))

-- the bits of the space's pages, 0 or 1 each
unfoldable pub bits_of : ℕ → (ℕ → ℕ) → ℕ → ℕ
bits_of pages words page = if nat_lt page pages then (if is_taken (image_of words 0) page then 1 else 0) else 0

-- the words of all pages are those of a lawful memory: page 0 is the space page, and the pages are lawful trees under its bits
pub record IsLawfulMemory (pages roots : ℕ) (words : ℕ → ℕ) : Type 0 where
  pub space : IsSpacePage pages (image_of words 0)
  pub law : IsLawful (pages_of words) (bits_of pages words) roots

-- the pages of a list of images, one a page. Behind the last one each is free
abbrev pub memory_of : List (List ℕ) → PageMemory
memory_of images = pages_of (word_at images)
