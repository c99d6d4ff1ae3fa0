-- What a call that puts a pair into a sorted map, or takes one out, answers, and what it leaves of the map.
use Rattle.std.specs.Prelude.{◌≡◌, ◌≢◌, ◌↔◌, ℕ, Result, Err, Some, None, IsSome, IsNone, OnOk, OnErr, IfOk, IfErr}
use Rattle.ib_map.specs.Keys.{MapKey}
use Rattle.ib_map.specs.Pairs.{Pairs, put, without, value_at}
use Rattle.ib_map.specs.Map.{IsMap}
use Rattle.ib_map.specs.declared.plain.MapFault.{MapFault}
use Rattle.ib_map.specs.declared.plain.MapFault.TheVariants.{Duplicate, Missing}

-- The pair is put in. `Duplicate` exactly where the key is there; a map that refuses is unchanged.
pub record HasInserted (old new : Pairs) (key : MapKey) (value : ℕ) (result : Result (Unit {0}) MapFault) : Type 0 where
  pub inserted : OnOk result (new ≡ put key value old)
  pub absent : OnOk result (value_at key old ≡ None)
  pub duplicate : (result ≡ Err Duplicate) ↔ IsSome (value_at key old)
  pub never_missing : result ≢ Err Missing
  pub unchanged : OnErr result (new ≡ old)
  pub ascends : IsMap new

-- The key's pair is taken out, and its value given. `Missing`, and no other fault, exactly where the key is not there;
-- the map is then unchanged.
pub record HasDeleted (old new : Pairs) (key : MapKey) (result : Result ℕ MapFault) : Type 0 where
  pub value : IfOk result (λ value. value_at key old ≡ Some value)
  pub deleted : OnOk result (new ≡ without key old)
  pub missing : (result ≡ Err Missing) ↔ IsNone (value_at key old)
  pub only_missing : IfErr result (λ fault. fault ≡ Missing)
  pub unchanged : OnErr result (new ≡ old)
  pub ascends : IsMap new
