-- What a search for a key finds among the records of a page.
use Rattle.std.specs.Prelude.{◌≡◌, ℕ, ◌+◌, ◌<◌, ◌≤◌, length, slice_get, Result, MatchResult, IfOk, IfErr, IfSome, IsSomeAnd, Some, None}
use Rattle.std.specs.List.Sorted.{IsSearchInRange}
use Rattle.ib_map.specs.Keys.{MapKey, rank}
use Rattle.ib_map.specs.Pairs.{Pairs, index_of, index_after, value_at}

-- `Ok` with the index of the key's record in the order of keys, or `Err` with the index at which the key would stand
pub record IsFound (records : Pairs) (key : MapKey) (result : Result ℕ ℕ) : Type 0 where
  pub index : let at = index_of key records in MatchResult result (λ i. i ≡ at) (λ i. i ≡ at)
  pub in_range : IsSearchInRange result (length records)
  pub found : IfOk result (λ i. IsSomeAnd (slice_get records i) (λ r. r.0 ≡ key))
  pub value : IfOk result (λ i. IsSomeAnd (slice_get records i) (λ r. value_at key records ≡ Some r.1))
  pub absent : IfErr result (λ i. value_at key records ≡ None)

-- the index of the last record whose key is not above this one
pub record IsRouted (records : Pairs) (key : MapKey) (i : ℕ) : Type 0 where
  pub index : i + 1 ≡ index_after key records
  pub in_range : i < length records
  pub not_above : IsSomeAnd (slice_get records i) (λ r. rank r.0 ≤ rank key)
  pub next_above : IfSome (slice_get records (i + 1)) (λ r. rank key < rank r.0)
