-- What contracts see of a space, and how its fields stand for that.
use Rattle.std.specs.Prelude.{◌≡◌, ℕ, ◌≤◌, List, [], length, Option, Some, None}
use Rattle.atomic_table.specs.Seated.{TableId}
use Rattle.ib_layout.specs.Geometry.{Sizes}
use Rattle.ib_layout.specs.Places.{words_of}
use Rattle.ib_rule.specs.declared.own_seat.OwnSeat.{OwnSeat}
use Rattle.ib_rule.specs.declared.space.Space.TheInside.{Inside}
use Rattle.ib_rule.specs.declared.view.Ended.{Ended}
use Rattle.ib_rule.specs.Roles.{ended_in}
use Rattle.ib_rule.specs.Views.{space_at}

-- a space: its sizes, how many sessions it drew, and those that have ended, the last one first
pub record SpaceState : Type 0 where
  pub table : TableId
  pub sizes : Sizes
  pub drawn : ℕ
  pub ended : List Ended

-- the ended sessions of the space's own seat
abbrev pub rest_ended : Option OwnSeat → List Ended
rest_ended None = []
rest_ended (Some r) = ended_in r.seat.me.0.role

abbrev pub space_state : {L : Type 0} → Inside L → SpaceState
space_state p = record { table = p.table.shared.table_id; sizes = p.geometry; drawn = p.drawn; ended = rest_ended p.rest }

-- the seat is at rest, with the space's view
abbrev pub Rests : TableId → ℕ → Option OwnSeat → Type 0
Rests t drawn None = ⊥
Rests t drawn (Some r) = (r.seat.table_id ≡ t) × (r.seat.me ≡ (space_at drawn (ended_in r.seat.me.0.role) r.seat.me.0.grants, []))

pub record IsSpace {L : Type 0} (p : Inside L) : Type 0 where
  pub key : p.table.shared.key ≡ p.geometry
  pub words : p.table.shared.table_id.words ≡ words_of p.geometry
  pub slots : p.table.shared.table_id.slots ≡ 0
  pub rests : Rests p.table.shared.table_id p.drawn p.rest
  pub counted : p.ended ≡ length (rest_ended p.rest)
  pub crowded : p.ended ≤ p.drawn
  pub few : p.drawn ≤ 1024
