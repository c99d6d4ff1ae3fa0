-- Wait cells: a stack of returned cells over cells that were never used.
use Rattle.std.specs.Prelude.{◌≡◌, ◌⊎◌, ℕ, ◌+◌, ◌<◌, ◌≤◌, ◌==◌, nat_lt, if◌then◌else◌, List, [], ◌∷◌, ◌++◌, length, slice_get, slice_set, sum_by, cond, vec_len, vec_capacity, Option, Some, None}
use Rattle.ib_wait.specs.declared.cells.TheConstants.{MOST_EVER}
use Rattle.ib_wait.specs.declared.cells.Cell.{Cell}
use Rattle.ib_wait.specs.declared.cells.Cells.TheInside.{Inside}

-- how many cells there are; those that were ever used, in order, with what is written in them, and none in one that was returned; those that were returned, the last one at the end; and how many reservations were made
pub record CellsState : Type 0 where
  pub room : ℕ
  pub used : List (Option Cell)
  pub returned : List ℕ
  pub ever : ℕ

-- what is written in the cell at a place, where it is reserved
abbrev pub written : Option (Option Cell) → Option Cell
written None = None
written (Some cell) = cell

abbrev pub cell_at : ℕ → List (Option Cell) → Option Cell
cell_at place used = written (slice_get used place)

-- how many cells are reserved
abbrev pub is_reserved : Option Cell → ℕ
is_reserved None = 0
is_reserved (Some cell) = 1

abbrev pub reserved_in : List (Option Cell) → ℕ
reserved_in used = sum_by is_reserved used

-- a reservation more, up to 2 ^ 63 of them
abbrev pub one_more_ever : ℕ → ℕ
one_more_ever ever = if nat_lt ever MOST_EVER then ever + 1 else ever

-- the cell that was returned last is reserved
abbrev pub TakesReturned : ℕ → Cell → CellsState → CellsState → Type 0
TakesReturned place cell s t = (rest : List ℕ) × (s.returned ≡ rest ++ place ∷ [])
    × (t ≡ record { room = s.room; used = slice_set s.used place (Some cell); returned = rest; ever = one_more_ever s.ever })

-- .. or, where none was returned, the first that was never used
abbrev pub TakesFresh : ℕ → Cell → CellsState → CellsState → Type 0
TakesFresh place cell s t = (s.returned ≡ []) × (place ≡ length s.used) × (length s.used < s.room)
    × (t ≡ record { room = s.room; used = s.used ++ Some cell ∷ []; returned = []; ever = one_more_ever s.ever })

abbrev pub Reserves : ℕ → Cell → CellsState → CellsState → Type 0
Reserves place cell s t = TakesReturned place cell s t ⊎ TakesFresh place cell s t

-- how often a place stands among those returned
abbrev pub times_returned : ℕ → List ℕ → ℕ
times_returned place returned = sum_by (λ p. cond (p == place) 1 0) returned

-- 1 where the cell at a place was used and is not reserved
abbrev pub is_idle : Option (Option Cell) → ℕ
is_idle None = 0
is_idle (Some None) = 1
is_idle (Some (Some cell)) = 0

abbrev pub cells_state : Inside → CellsState
cells_state c = record { room = c.room; used = c.used.items; returned = c.returned.items; ever = c.ever }

-- each cell that was used is reserved, or stands once on the stack
pub record AreStacked (used : List (Option Cell)) (returned : List ℕ) : Type 0 where
  pub once : (place : ℕ) → times_returned place returned ≡ is_idle (slice_get used place)
  pub counted : length returned + reserved_in used ≡ length used

-- .. and there is room for all
pub record IsCells (c : Inside) : Type 0 where
  pub stacked : AreStacked c.used.items c.returned.items
  pub few : vec_len c.used ≤ c.room
  pub used_room : c.room ≤ vec_capacity c.used
  pub returned_room : c.room ≤ vec_capacity c.returned
  pub ever : c.ever ≤ MOST_EVER
