-- The entries of a search tree in the words of the map: sorted entries are a map, and what the tree finds, inserts,
-- removes and cuts out is what the map does.
use Rattle.std.proofs.Common.{◌≡◌, ◌∙◌, ℕ, ◌+◌, Bool, true, false, [], ◌∷◌, ◌++◌, None, IsSome, is_some, refl, sym, ap, arith, inl, inr}
use Rattle.std.specs.Ordering.{nat_cmp, on}
use Rattle.std.specs.declared.cmp.Ordering.{Ordering}
use Rattle.std.specs.List.Sorted.{IsStrictlySortedBy}
use Rattle.std.specs.Map.{keys_of, lookup, remove_entry}
use Rattle.std.specs.BTreeMap.{is_at, insert_entry}
use Rattle.std.proofs.lemmas.Bool.{cases_lt, lt-ltb, le-ltb, ne_eqb}
use Rattle.std.proofs.lemmas.List.{append-nil}
use Rattle.std.proofs.lemmas.Map.Keys.{sorted_head, sorted_tail}
use Rattle.ib_map.specs.Keys.{MapKey, rank, end_rank}
use Rattle.ib_map.specs.Pairs.{Pairs, Rises, put, without, value_at}
use Rattle.ib_map.specs.Map.{IsMap}
use Rattle.ib_map.proofs.KeyLaws.{rank-lt_end}
use Rattle.ib_map.proofs.RiseLaws.{Rises-left}
use Rattle.ib_map.proofs.PairLaws.{value_at-first, value_at-rest, put-behind}
use Rattle.ib_map.proofs.MapLaws.{none_from_IsNone}
use Rattle.ib_sorted_map.proofs.OrderLaws.{lt-from_Less, is_eq-same}

-- two keys by their ranks
abbrev pub by_rank : MapKey → MapKey → Ordering
by_rank = on rank nat_cmp

-- entries whose keys ascend are a map
Rises-from_sorted : (x : MapKey × ℕ) (xs : Pairs) → IsStrictlySortedBy by_rank (x.0 ∷ keys_of xs) → Rises (rank x.0 + 1) xs end_rank
Rises-from_sorted x [] sorted = let below = rank-lt_end x.0 in omega arith
Rises-from_sorted x (y ∷ ys) sorted =
    let below = lt-from_Less (rank x.0) (rank y.0) (sorted_head by_rank x.0 (keys_of (y ∷ ys)) sorted).0 in
    (omega arith, Rises-from_sorted y ys (sorted_tail by_rank x.0 (keys_of (y ∷ ys)) sorted))

pub IsMap-from_sorted : (xs : Pairs) → IsStrictlySortedBy by_rank (keys_of xs) → IsMap xs
IsMap-from_sorted [] sorted = omega arith
IsMap-from_sorted (x ∷ xs) sorted = (omega arith, Rises-from_sorted x xs sorted)

-- what the tree finds at a key is the key's value
pub lookup-value_at : (key : MapKey) (xs : Pairs) → lookup (is_at (by_rank key)) xs ≡ value_at key xs
lookup-value_at key [] = refl
lookup-value_at key (x ∷ xs) = rw (is_eq-same (rank key) (rank x.0), lookup-value_at key xs) refl

-- whether the tree has a key
module _ (key : MapKey) (xs : Pairs) (found : Bool) (is : found ≡ is_some (lookup (is_at (by_rank key)) xs)) where
  pub IsSome-from_found : found ≡ true → IsSome (value_at key xs)
  IsSome-from_found t = ap is_some (sym (lookup-value_at key xs)) ∙ (sym is ∙ t)

  pub None-from_not_found : found ≡ false → value_at key xs ≡ None
  None-from_not_found f = none_from_IsNone xs key (ap is_some (sym (lookup-value_at key xs)) ∙ (sym is ∙ f))

-- what the tree has without a key
pub remove_entry-without : (key : MapKey) (xs : Pairs) → remove_entry (is_at (by_rank key)) xs ≡ without key xs
remove_entry-without key [] = refl
remove_entry-without key (x ∷ xs) = rw (is_eq-same (rank key) (rank x.0), remove_entry-without key xs) refl

-- what the tree has with a key that was not there
pub insert_entry-put : (key : MapKey) (value : ℕ) (xs : Pairs) → value_at key xs ≡ None → insert_entry by_rank xs key value ≡ put key value xs
insert_entry-put key value [] absent = refl
insert_entry-put key value (x ∷ xs) absent =
    let differs = value_at-first key x xs absent in
    elim (cases_lt (rank key) (rank x.0)) [
      | inl lt ↦ rw (lt-ltb (rank key) (rank x.0) lt, le-ltb (rank x.0) (rank key) (omega arith)) refl
      | inr ge ↦
          rw (le-ltb (rank key) (rank x.0) ge, ne_eqb (rank key) (rank x.0) (λ e. differs (sym e)), lt-ltb (rank x.0) (rank key) (omega (arith, differs)))
          (ap (λ zs. x ∷ zs) (insert_entry-put key value xs (value_at-rest key x xs absent)))
    ]

-- a pair whose key is above all is put last
pub put-last : (xs : Pairs) (x : MapKey × ℕ) (rest : Pairs) → IsMap (xs ++ x ∷ rest) → put x.0 x.1 xs ≡ xs ++ x ∷ []
put-last xs x rest is_map = ap (put x.0 x.1) (sym (append-nil xs)) ∙ put-behind x.0 x.1 0 xs (rank x.0) [] (Rises-left 0 xs (x ∷ rest) end_rank is_map) (omega arith)
