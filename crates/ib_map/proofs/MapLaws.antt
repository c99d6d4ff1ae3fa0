-- Answers and effects in the words of the list of pairs, as the calls of the plain map give them.
use Rattle.std.proofs.Common.{◌≡◌, ℕ, Some, None, Option, IsSome, IsNone, refl, arith}
use Rattle.ib_map.specs.Keys.{MapKey, end_rank}
use Rattle.ib_map.specs.Pairs.{Pairs, put, value_at}
use Rattle.ib_map.specs.Map.{IsMap, answer_of, effect_of, lookup_of}
use Rattle.ib_map.specs.declared.call.Change.{Change}
use Rattle.ib_map.specs.declared.call.Change.TheVariants.{Insert, Delete}
use Rattle.ib_map.specs.declared.call.Reply.TheVariants.{Inserted, Duplicate, Deleted, Missing, Found, NotFound}
use Rattle.ib_map.proofs.KeyLaws.{rank-lt_end}
use Rattle.ib_map.proofs.PairLaws.{Rises-put, Rises-without, without-none}

module _ (m : Pairs) (key : MapKey) (value : ℕ) where
  -- an insert of a key that is not there, and of one that is
  pub answer_of-inserted : value_at key m ≡ None → answer_of m (Insert key value) ≡ Inserted
  answer_of-inserted absent = rw absent refl

  pub effect_of-inserted : value_at key m ≡ None → effect_of m (Insert key value) ≡ put key value m
  effect_of-inserted absent = rw absent refl

  pub answer_of-duplicate : IsSome (value_at key m) → answer_of m (Insert key value) ≡ Duplicate
  answer_of-duplicate there = rw there refl

  pub effect_of-duplicate : IsSome (value_at key m) → effect_of m (Insert key value) ≡ m
  effect_of-duplicate there = rw there refl

  -- a delete of a key that is there, and of one that is not
  pub answer_of-deleted : value_at key m ≡ Some value → answer_of m (Delete key) ≡ Deleted value
  answer_of-deleted there = rw there refl

  -- a lookup of a key that is there, and of one that is not
  pub lookup_of-found : value_at key m ≡ Some value → lookup_of m key ≡ Found value
  lookup_of-found there = rw there refl

module _ (m : Pairs) (key : MapKey) where
  pub none_from_IsNone : IsNone (value_at key m) → value_at key m ≡ None
  none_from_IsNone absent = go (value_at key m) absent
    where
      go : (o : Option ℕ) → IsNone o → o ≡ None
      go None none = refl
      go (Some value) none = cc

  pub answer_of-missing : value_at key m ≡ None → answer_of m (Delete key) ≡ Missing
  answer_of-missing absent = rw absent refl

  pub effect_of-missing : value_at key m ≡ None → effect_of m (Delete key) ≡ m
  effect_of-missing absent = without-none key m absent

  pub lookup_of-not_found : value_at key m ≡ None → lookup_of m key ≡ NotFound
  lookup_of-not_found absent = rw absent refl

-- a change about a key leaves a map a map
pub IsMap-effect_of : (m : Pairs) (change : Change) → IsMap m → IsMap (effect_of m change)
IsMap-effect_of m (Insert key value) is_map = go (value_at key m) refl
  where
    go : (o : Option ℕ) → value_at key m ≡ o → IsMap (effect_of m (Insert key value))
    go (Some v) there = rw there is_map
    go None absent = rw absent (Rises-put key value 0 m end_rank is_map (omega arith) (rank-lt_end key) absent)
IsMap-effect_of m (Delete key) is_map = Rises-without key 0 m end_rank is_map
