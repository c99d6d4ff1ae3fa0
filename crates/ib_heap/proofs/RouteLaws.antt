-- Where a binary search ends, and where a key is routed.
use Rattle.std.proofs.Common.{◌≡◌, ℕ, zero, suc, ◌+◌, ◌-◌, ◌<◌, ◌≤◌, ◌≢◌, [], ◌∷◌, Option, Some, None, slice_get, IsSomeAnd, length, get_or, refl, ap, sym, arith, subst, inl, inr}
use Rattle.std.specs.Prelude.{IfSome}
use Rattle.std.proofs.lemmas.Bool.{cases_lt, lt-ltb, le-ltb, le-leb, lt-leb}
use Rattle.ib_map.specs.Keys.{MapKey, rank, end_rank, least}
use Rattle.ib_map.specs.Pairs.{Pairs, Rises, value_at, index_of, index_after}
use Rattle.std.proofs.lemmas.Option.{slice_get_within, slice_get-get_or, get_or_from_slice_get}
use Rattle.ib_map.proofs.RiseLaws.{Rises-lt}
use Rattle.ib_map.proofs.IndexLaws.{index_of-le}
use Rattle.ib_map.proofs.PairLaws.{value_at-first, value_at-rest}

-- a rank that was reached is no lower than the lower bound
pub rank-at : (low : ℕ) (xs : Pairs) (high : ℕ) (i : ℕ) (r : MapKey × ℕ) → Rises low xs high → slice_get xs i ≡ Some r → low ≤ rank r.0
rank-at low [] high i r h at = cc
rank-at low (x ∷ xs) high zero r h at = let same : x ≡ r = cc in subst (λ (y : MapKey × ℕ). low ≤ rank y.0) same h.0
rank-at low (x ∷ xs) high (suc i) r h at = let rest = rank-at (rank x.0 + 1) xs high i r h.1 at in omega arith

-- the index of a key is behind a record that is below the key, and not behind one that is not
pub index_of-behind_lower : (key : MapKey) (low : ℕ) (xs : Pairs) (high i : ℕ) (r : MapKey × ℕ) → Rises low xs high → slice_get xs i ≡ Some r → rank r.0 < rank key → i + 1 ≤ index_of key xs
index_of-behind_lower key low [] high i r h at lt = cc
index_of-behind_lower key low (x ∷ xs) high zero r h at lt =
    let same : x ≡ r = cc in
    let below : rank x.0 < rank key = subst (λ (y : MapKey × ℕ). rank y.0 < rank key) (sym same) lt in
    rw (lt-ltb (rank x.0) (rank key) below) (omega arith)
index_of-behind_lower key low (x ∷ xs) high (suc i) r h at lt =
    let reached = rank-at (rank x.0 + 1) xs high i r h.1 at in
    let rest = index_of-behind_lower key (rank x.0 + 1) xs high i r h.1 at lt in
    rw (lt-ltb (rank x.0) (rank key) (omega arith)) (omega arith)

pub index_of-not_behind : (key : MapKey) (xs : Pairs) (i : ℕ) (r : MapKey × ℕ) → slice_get xs i ≡ Some r → rank key ≤ rank r.0 → index_of key xs ≤ i
index_of-not_behind key [] i r at le = cc
index_of-not_behind key (x ∷ xs) zero r at le =
    let same : x ≡ r = cc in
    let above : rank key ≤ rank x.0 = subst (λ (y : MapKey × ℕ). rank key ≤ rank y.0) (sym same) le in
    rw (le-ltb (rank x.0) (rank key) above) (omega arith)
index_of-not_behind key (x ∷ xs) (suc i) r at le =
    let rest = index_of-not_behind key xs i r at le in
    elim (cases_lt (rank x.0) (rank key)) [
      | inl lt ↦ rw (lt-ltb (rank x.0) (rank key) lt) (omega arith)
      | inr ge ↦ rw (le-ltb (rank x.0) (rank key) ge) (omega arith)
    ]

-- before the index of a key all is below it, and from there on nothing is
pub lower_before_index : (key : MapKey) (xs : Pairs) (i : ℕ) (r : MapKey × ℕ) → i < index_of key xs → slice_get xs i ≡ Some r → rank r.0 < rank key
lower_before_index key xs i r lt at = elim (cases_lt (rank r.0) (rank key)) [
  | inl below ↦ below
  | inr above ↦ absurd (let le = index_of-not_behind key xs i r at above in omega arith)
]

pub higher_from_index : (key : MapKey) (low : ℕ) (xs : Pairs) (high i : ℕ) (r : MapKey × ℕ) → Rises low xs high → index_of key xs ≤ i → slice_get xs i ≡ Some r → rank key ≤ rank r.0
higher_from_index key low xs high i r h le at = elim (cases_lt (rank r.0) (rank key)) [
  | inl below ↦ absurd (let lt = index_of-behind_lower key low xs high i r h at below in omega arith)
  | inr above ↦ above
]

-- a record with an absent key is not there
pub absent_at : (key : MapKey) (xs : Pairs) (i : ℕ) (r : MapKey × ℕ) → value_at key xs ≡ None → slice_get xs i ≡ Some r → rank r.0 ≢ rank key
absent_at key [] i r none at = cc
absent_at key (x ∷ xs) zero r none at = let same : x ≡ r = cc in subst (λ (y : MapKey × ℕ). rank y.0 ≢ rank key) same (value_at-first key x xs none)
absent_at key (x ∷ xs) (suc i) r none at = absent_at key xs i r (value_at-rest key x xs none) at

-- how many records stand up to a key: all up to the last one that is not above it
pub index_after-is : (key : MapKey) (low : ℕ) (xs : Pairs) (high i : ℕ) (r : MapKey × ℕ) → Rises low xs high → slice_get xs i ≡ Some r → rank r.0 ≤ rank key
    → ((s : MapKey × ℕ) → slice_get xs (i + 1) ≡ Some s → rank key < rank s.0) → index_after key xs ≡ i + 1
index_after-is key low [] high i r h at le above = cc
index_after-is key low (x ∷ xs) high zero r h at le above =
    let same : x ≡ r = cc in
    let not_above : rank x.0 ≤ rank key = subst (λ (y : MapKey × ℕ). rank y.0 ≤ rank key) (sym same) le in
    rw (le-leb (rank x.0) (rank key) not_above) (ap (λ n. 1 + n) (none_after xs (λ s first. above s first)))
  where
    none_after : (ys : Pairs) → ((s : MapKey × ℕ) → slice_get ys 0 ≡ Some s → rank key < rank s.0) → index_after key ys ≡ 0
    none_after [] first = refl
    none_after (y ∷ ys) first = rw (lt-leb (rank y.0) (rank key) (first y refl)) refl
index_after-is key low (x ∷ xs) high (suc i) r h at le above =
    let reached = rank-at (rank x.0 + 1) xs high i r h.1 at in
    let rest = index_after-is key (rank x.0 + 1) xs high i r h.1 at le (λ s next. above s (subst (λ n. slice_get (x ∷ xs) n ≡ Some s) (let e : suc (i + 1) ≡ suc i + 1 = omega arith in e) next)) in
    rw (le-leb (rank x.0) (rank key) (omega arith)) (omega arith)

-- what holds of the record that is there
pub IsSomeAnd_then : (o : Option (MapKey × ℕ)) (P Q : MapKey × ℕ → Type 0) → IsSomeAnd o P → ((r : MapKey × ℕ) → o ≡ Some r → P r → Q r) → IsSomeAnd o Q
IsSomeAnd_then None P Q h step = absurd h
IsSomeAnd_then (Some r) P Q h step = step r refl h

pub IfSome_from : (o : Option (MapKey × ℕ)) (P : MapKey × ℕ → Type 0) → ((r : MapKey × ℕ) → o ≡ Some r → P r) → IfSome o P
IfSome_from None P step = tt
IfSome_from (Some r) P step = step r refl

pub IsSomeAnd_get : (o : Option (MapKey × ℕ)) (P : MapKey × ℕ → Type 0) → IsSomeAnd o P → (r : MapKey × ℕ) × (o ≡ Some r) × P r
IsSomeAnd_get None P h = absurd h
IsSomeAnd_get (Some r) P h = (r, refl, h)

-- the last record before the index of an absent key, and what holds of it
pub record RoutedTo (key : MapKey) (xs : Pairs) (i : ℕ) : Type 0 where
  pub index : i + 1 ≡ index_after key xs
  pub in_range : i < length xs
  pub not_above : IsSomeAnd (slice_get xs i) (λ r. rank r.0 ≤ rank key)
  pub next_above : IfSome (slice_get xs (i + 1)) (λ r. rank key < rank r.0)

routed : (key : MapKey) (xs : Pairs) (i : ℕ) (r : MapKey × ℕ) → Rises 0 xs end_rank → slice_get xs i ≡ Some r → rank r.0 ≤ rank key → ((s : MapKey × ℕ) → slice_get xs (i + 1) ≡ Some s → rank key < rank s.0) → RoutedTo key xs i
routed key xs i r rises at le above = record {
  index = sym (index_after-is key 0 xs end_rank i r rises at le above);
  in_range = slice_get_within xs i r at;
  not_above = rw at le;
  next_above = IfSome_from (slice_get xs (i + 1)) (λ s. rank key < rank s.0) above;
}

pub routed-found : (key : MapKey) (xs : Pairs) (i : ℕ) → Rises 0 xs end_rank → i ≡ index_of key xs → IsSomeAnd (slice_get xs i) (λ r. r.0 ≡ key) → RoutedTo key xs i
routed-found key xs i rises at found =
    let got = IsSomeAnd_get (slice_get xs i) (λ r. r.0 ≡ key) found in
    let r = got.0 in
    let same : rank r.0 ≡ rank key = ap rank got.2 in
    let there = slice_get-get_or xs i (least, 0) (slice_get_within xs i r got.1) in
    routed key xs i r rises got.1 (omega arith)
    (λ s next.
    let rise = Rises-lt 0 xs end_rank rises i (i + 1) (least, 0) (omega arith) (slice_get_within xs (i + 1) s next) in
    let first : rank (get_or xs i (least, 0)).0 ≡ rank r.0 = ap (λ (y : MapKey × ℕ). rank y.0) (get_or_from_slice_get xs i r (least, 0) got.1) in
    let second : rank (get_or xs (i + 1) (least, 0)).0 ≡ rank s.0 = ap (λ (y : MapKey × ℕ). rank y.0) (get_or_from_slice_get xs (i + 1) s (least, 0) next) in
    omega arith)

pub index-positive : (key : MapKey) (xs : Pairs) (i : ℕ) → Rises 0 xs end_rank → i ≡ index_of key xs → value_at key xs ≡ None → IsSomeAnd (slice_get xs 0) (λ r. rank r.0 ≤ rank key) → 0 < i
index-positive key xs i rises at none first =
    let got = IsSomeAnd_get (slice_get xs 0) (λ r. rank r.0 ≤ rank key) first in
    let differs = absent_at key xs 0 got.0 none got.1 in
    let le : rank got.0.0 ≤ rank key = got.2 in
    let behind = index_of-behind_lower key 0 xs end_rank 0 got.0 rises got.1 (omega (arith, differs)) in
    omega arith

pub routed-absent : (key : MapKey) (xs : Pairs) (i : ℕ) → Rises 0 xs end_rank → i ≡ index_of key xs → value_at key xs ≡ None → IsSomeAnd (slice_get xs 0) (λ r. rank r.0 ≤ rank key) → RoutedTo key xs (i - 1)
routed-absent key xs i rises at none first =
    let positive = index-positive key xs i rises at none first in
    let within = index_of-le key xs in
    let there = slice_get-get_or xs (i - 1) (least, 0) (omega arith) in
    let r : MapKey × ℕ = get_or xs (i - 1) (least, 0) in
    let lower = lower_before_index key xs (i - 1) r (omega arith) there in
    routed key xs (i - 1) r rises there (omega arith)
    (λ s next.
    let e : i - 1 + 1 ≡ i = omega arith in
    let here : slice_get xs i ≡ Some s = subst (λ n. slice_get xs n ≡ Some s) e next in
    let higher = higher_from_index key 0 xs end_rank i s rises (omega arith) here in
    let differs = absent_at key xs i s none here in
    omega (arith, differs))
