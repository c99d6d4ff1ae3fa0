-- What contracts see of a table of guesses, and how its fields stand for that.
use Rattle.std.specs.Prelude.{◌≡◌, ℕ, ◌≤◌, true, [], Option, Some, None}
use Rattle.atomic_table.specs.Seated.{TableId}
use Rattle.ib_map.specs.Space.{has_pages}
use Rattle.ib_hash.specs.declared.slots.TheConstants.{SLOTS}
use Rattle.ib_hash.specs.declared.own_seat.OwnSeat.{OwnSeat}
use Rattle.ib_hash.specs.declared.guesses.TheConstants.{MOST_PASSES}
use Rattle.ib_hash.specs.declared.guesses.Guesses.TheInside.{Inside}
use Rattle.ib_hash.specs.Pass.{GuessPassState}
use Rattle.ib_hash.specs.Rule.{no_steps}

-- a table of guesses: how many pages its space has, and how many passes were drawn
pub record GuessesState : Type 0 where
  pub table : TableId
  pub pages : ℕ
  pub drawn : ℕ

abbrev pub guesses_state : Inside → GuessesState
guesses_state g = record { table = g.table.shared.table_id; pages = g.pages; drawn = g.drawn }

-- the table's own seat is at rest, and has made no step
abbrev pub Rests : TableId → Option OwnSeat → Type 0
Rests t None = ⊥
Rests t (Some r) = (r.seat.table_id ≡ t) × (r.seat.me.0 ≡ no_steps) × (r.seat.me.1 ≡ [])

pub record IsGuesses (g : Inside) : Type 0 where
  pub key : g.table.shared.key ≡ g.pages
  pub words : g.table.shared.table_id.words ≡ SLOTS
  pub slots : g.table.shared.table_id.slots ≡ 0
  pub rests : Rests g.table.shared.table_id g.rest
  pub fits : has_pages g.pages ≡ true
  pub few : g.drawn ≤ MOST_PASSES

-- the pass was drawn from this table
abbrev pub IsPassOf : GuessesState → GuessPassState → Type 0
IsPassOf g p = p.table ≡ g.table

-- a pass that was drawn just now
abbrev pub drawn_pass : GuessesState → GuessPassState
drawn_pass g = record { table = g.table; steps = no_steps }
