-- The bits of pages that are not written.
use Rattle.std.specs.Prelude.{◌≡◌, ℕ, ◌+◌, ◌*◌, ◌<◌, Bool, true, false, List, length}
use Rattle.ib_page.specs.Memory.{image_at}
use Rattle.ib_page.specs.Space.{is_taken, IsSpacePage}
use Rattle.ib_validate.specs.declared.bits.TheConstants.{WORD_BITS}
use Rattle.ib_validate.specs.Positions.{marks_of}

-- a page that is there and not written keeps its bit
abbrev pub KeepsBit : List ℕ → List ℕ → List Bool → ℕ → Type 0
KeepsBit before after written page = page < length written → marks_of written page ≡ false → is_taken after page ≡ is_taken before page

-- of the pages that have their bits in one word, each does
abbrev pub KeepsWord : List ℕ → List ℕ → List Bool → ℕ → Type 0
KeepsWord before after written word = (bit : ℕ) → bit < WORD_BITS → KeepsBit before after written (WORD_BITS * word + bit)

-- page 0, where it is written, is the space page of the space, and each page that is there and not written keeps its bit
abbrev pub KeepsSpace : List (List ℕ) → List (List ℕ) → List Bool → Type 0
KeepsSpace before after written = marks_of written 0 ≡ true
    → IsSpacePage (length after) (image_at after 0) × ((page : ℕ) → KeepsBit (image_at before 0) (image_at after 0) written page)
