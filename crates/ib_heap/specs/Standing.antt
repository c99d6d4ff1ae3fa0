-- Where a key stands beside records.
use Rattle.std.specs.Prelude.{ℕ, ◌-◌, ◌≤◌, ◌==◌, ◌||◌, if◌then◌else◌, length, slice_get, IsSomeAnd, Option, Some, None}
use Rattle.ib_map.specs.Keys.{MapKey, rank}
use Rattle.ib_map.specs.Pairs.{Pairs, index_of, value_at}
use Rattle.ib_heap.specs.declared.search.KeyStanding.{KeyStanding}
use Rattle.ib_heap.specs.declared.search.KeyStanding.TheVariants.{Outside, Between, Found}

-- by the value of its record, or without one by its index among so many records
abbrev pub standing_at : Option ℕ → ℕ → ℕ → KeyStanding
standing_at (Some value) index count = Found value
standing_at None index count = if index == 0 || index == count then Outside else Between

abbrev pub standing_of : MapKey → Pairs → KeyStanding
standing_of key records = standing_at (value_at key records) (index_of key records) (length records)

-- there are records, and the key is not below the first of them nor above the last
pub record IsWithin (key : MapKey) (records : Pairs) : Type 0 where
  pub first : IsSomeAnd (slice_get records 0) (λ r. rank r.0 ≤ rank key)
  pub last : IsSomeAnd (slice_get records (length records - 1)) (λ r. rank key ≤ rank r.0)
