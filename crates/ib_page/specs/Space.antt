-- The space page: a bit for each page, and a clock.
use Rattle.std.specs.Prelude.{◌≡◌, ℕ, zero, suc, ◌+◌, ◌/◌, ◌%◌, ◌<◌, ◌≤◌, Bool, false, ◌==◌, List, length, slice_index, slice_set, if◌then◌else◌}
use Rattle.std.specs.Int.{bit_at}
use Rattle.ib_map.specs.declared.TheConstants.{PAGE_WORDS}
use Rattle.ib_page.specs.declared.space.TheConstants.{CLOCK, MAPPED_PAGES, WORD_BITS}

-- whether a page is taken: bit `page mod WORD_BITS`, from the least significant on, of word `page / WORD_BITS`
abbrev pub is_taken : List ℕ → ℕ → Bool
is_taken ws page = bit_at (slice_index ws (page / WORD_BITS)) (page % WORD_BITS) == 1

-- the modify clock of the space page
abbrev pub space_clock_of : List ℕ → ℕ
space_clock_of ws = slice_index ws CLOCK

-- the space page with another clock
abbrev pub with_space_clock : ℕ → List ℕ → List ℕ
with_space_clock clock ws = slice_set ws CLOCK clock

-- how many of the first n pages are free
abbrev pub free_below : List ℕ → ℕ → ℕ
free_below ws zero = 0
free_below ws (suc n) = free_below ws n + (if is_taken ws n then 0 else 1)

-- how many of the lowest n bits of a word are 0
unfoldable pub zeros_below : ℕ → ℕ → ℕ
zeros_below zero word = 0
zeros_below (suc n) word = zeros_below n word + (if bit_at word n == 1 then 0 else 1)

-- one page's bit is this now, and every other bit and word is as before
pub record SetsBit (old new : List ℕ) (page : ℕ) (bit : Bool) : Type 0 where
  pub here : is_taken new page ≡ bit
  pub elsewhere : (other : ℕ) → other < MAPPED_PAGES → (other ≡ page → ⊥) → is_taken new other ≡ is_taken old other
  pub behind : (i : ℕ) → CLOCK ≤ i → slice_index new i ≡ slice_index old i
  pub size : length new ≡ length old

-- the space page of a space of so many pages: no bit for a page that is not there, and nothing behind the clock
pub record IsSpacePage (pages : ℕ) (ws : List ℕ) : Type 0 where
  pub size : length ws ≡ PAGE_WORDS
  pub beyond : (page : ℕ) → pages ≤ page → page < MAPPED_PAGES → is_taken ws page ≡ false
  pub behind : (i : ℕ) → CLOCK < i → slice_index ws i ≡ 0
