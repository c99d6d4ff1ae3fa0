-- Image files: a copy with the tail of its log, as numbers of 64 bits, the highest byte first.
use Rattle.std.specs.Prelude.{◌≡◌, ℕ, ◌+◌, ◌*◌, ◌^◌, ◌<◌, true, List, ◌∷◌, ◌++◌, length}
use Rattle.std.specs.List.{AllByRecursion, flat_map}
use Rattle.ib_map.specs.Space.{has_pages}
use Rattle.ib_map.specs.declared.TheConstants.{PAGE_WORDS}
use Rattle.ib_replay.specs.Files.{AreWords, word_bytes}
use Rattle.ib_image.specs.declared.copy.CopiedPage.{CopiedPage}
use Rattle.ib_image.specs.declared.image_file.TheConstants.{HEAD_NUMBERS, IMAGE_FORM, PAGE_NUMBERS}

-- the numbers of a page: its place, and its words
abbrev pub page_numbers : CopiedPage → List ℕ
page_numbers c = c.place ∷ c.image

-- the numbers of a file: its form, the number of pages, the place of page 0, each page, and the words of the tail
abbrev pub image_numbers : ℕ → List CopiedPage → List ℕ → List ℕ
image_numbers first copy words = IMAGE_FORM ∷ length copy ∷ first ∷ (flat_map page_numbers copy ++ words)

-- .. as bytes
abbrev pub image_bytes : ℕ → List CopiedPage → List ℕ → List ℕ
image_bytes first copy words = word_bytes (image_numbers first copy words)

-- the number of a file at which a page stands
abbrev pub number_of : ℕ → ℕ
number_of page = HEAD_NUMBERS + page * PAGE_NUMBERS

-- bytes are laid out as an image file is: the number of pages is that of a space, each page has all its words, and the place of page 0 fits 32 bits
pub record IsLaidOut (bytes : List ℕ) (first : ℕ) (copy : List CopiedPage) (words : List ℕ) : Type 0 where
  pub space : has_pages (length copy) ≡ true
  pub whole : AllByRecursion (λ c. length c.image ≡ PAGE_WORDS) copy
  pub small : first < 2 ^ 32
  pub fits : AreWords (image_numbers first copy words)
  pub file : bytes ≡ image_bytes first copy words
