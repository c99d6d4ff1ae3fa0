-- What a plan makes of each page.
use Rattle.std.specs.Prelude.{ℕ, Bool, ◌||◌, ◌&&◌, ◌==◌, Option, Some, None, is_some}
use Rattle.ib_walk.specs.Pages.{PageState, PageMemory}
use Rattle.ib_plans.specs.Moves.{Move, Stays, Puts, Takes, Fills, Frees}

-- the state that a page that a plan touches is given, all but its clock, and how its records move
pub record PageChange : Type 0 where
  pub state : PageState
  pub move : Move

abbrev pub state_or : Option PageChange → PageState → PageState
state_or None page = page
state_or (Some change) page = change.state

abbrev pub move_or_stays : Option PageChange → Move
move_or_stays None = Stays
move_or_stays (Some change) = change.move

-- the bit of a page that is freed is 0
abbrev pub bit_unless_freed : Move → ℕ → ℕ
bit_unless_freed Stays bit = bit
bit_unless_freed (Puts key) bit = bit
bit_unless_freed (Takes key) bit = bit
bit_unless_freed Fills bit = bit
bit_unless_freed Frees bit = 0

-- the pages and the bits after such changes, and which pages are touched: each that is changed, and page 0 where a bit is
abbrev pub memory_with : (ℕ → Option PageChange) → PageMemory → PageMemory
memory_with change memory n = state_or (change n) (memory n)

abbrev pub bits_with : (ℕ → Option PageChange) → (ℕ → ℕ) → ℕ → ℕ
bits_with change bits n = bit_unless_freed (move_or_stays (change n)) (bits n)

abbrev pub touched_by : (ℕ → Option PageChange) → Bool → ℕ → Bool
touched_by change turns_bits n = is_some (change n) || ((n == 0) && turns_bits)

abbrev pub moves_by : (ℕ → Option PageChange) → ℕ → Move
moves_by change n = move_or_stays (change n)
