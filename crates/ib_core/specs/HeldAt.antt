-- Where the holding on a latch stands in a list.
use Rattle.std.specs.Prelude.{◌≡◌, ℕ, ◌<◌, List, length, slice_index_or}
use Rattle.ib_levels.specs.declared.holding.Holding.{Holding}

-- a holding on the latch stands at this place
pub record IsHeldAt (l : ℕ) (at : ℕ) (held : List Holding) : Type 0 where
  pub within : at < length held
  pub here : (d : Holding) → (slice_index_or held at d).latch.0 ≡ l
