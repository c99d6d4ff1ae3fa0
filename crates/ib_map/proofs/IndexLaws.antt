-- The index of a key in a rising list: all before it is below the key, and nothing from it on is.
use Rattle.std.proofs.Common.{◌≡◌, ℕ, zero, suc, ◌+◌, ◌-◌, ◌<◌, ◌≤◌, Bool, true, false, cond, List, Option, if◌then◌else◌, ◌==◌, zero-add, length-take-le, take-append-drop, [], ◌∷◌, ◌++◌, length, take, drop, get_or, Some, None, refl, ap, arith, ltb, leb, IsSome, IsSomeAnd, ◌≢◌, inl, inr, sym, subst, slice_get}
use Rattle.std.specs.List.{prefix_len, insert, remove}
use Rattle.std.specs.List.Sorted.{IsPartitionedBy, IsPartitionPoint}
use Rattle.std.proofs.lemmas.Bool.{cases_lt, cases_eq, lt-ltb, le-ltb, eq-eqb, ne_eqb, le-leb, lt-leb, ltb-true, leb-true}
use Rattle.std.proofs.Math.Numerals.{one-add}
use Rattle.std.proofs.Math.Nat.{zero-sub, sub-zero}
use native.Mathlib.Numerals.{unary_clauses}
use Rattle.std.proofs.lemmas.List.Sums.{prefix_len_is, prefix_len-le-length}
use Rattle.ib_map.specs.Keys.{MapKey, rank}
use Rattle.ib_map.specs.Pairs.{Pairs, Rises, put, without, value_at, cut, index_of, index_after}
use Rattle.ib_map.proofs.RiseLaws.{Rises-lt, Rises-le}
use Rattle.ib_map.proofs.PairLaws.{value_at-below, Rises-put, Rises-without}
use Rattle.ib_map.proofs.CutLaws.{is_within-inside, is_within-below, is_within-above, cut-above}

pub index_of-le : (key : MapKey) (xs : Pairs) → index_of key xs ≤ length xs
index_of-le key xs = prefix_len-le-length (λ p. ltb (rank p.0) (rank key)) xs

pub index_after-le : (key : MapKey) (xs : Pairs) → index_after key xs ≤ length xs
index_after-le key xs = prefix_len-le-length (λ p. leb (rank p.0) (rank key)) xs

-- where a list is parted by a test, the point that parts it is how many pass from the front on
pub prefix_len-parted : {X : Type 0} (p : X → Bool) (xs : List X) (n : ℕ) (d : X) → n ≤ length xs → IsPartitionPoint (λ y. p y ≡ true) (λ y. p y ≡ false) xs n → prefix_len p xs ≡ n
prefix_len-parted p xs n d le parted = prefix_len_is p xs n d le (λ k lt. parted.0 k d (omega arith) lt) (λ lt. parted.1 n d (omega arith) lt)

-- a rising list is parted by each key
pub below-parted : (key : MapKey) (low : ℕ) (xs : Pairs) (high : ℕ) → Rises low xs high → IsPartitionedBy (λ p. ltb (rank p.0) (rank key)) xs
below-parted key low xs high h i j d le in_range passes = elim (cases_eq i j) [
  | inl same ↦ rw same passes
  | inr differs ↦
      let rises = Rises-lt low xs high h i j d (omega (arith, differs)) in_range in
      let below = ltb-true _ _ passes in
      lt-ltb _ _ (omega arith)
]

pub up_to-parted : (key : MapKey) (low : ℕ) (xs : Pairs) (high : ℕ) → Rises low xs high → IsPartitionedBy (λ p. leb (rank p.0) (rank key)) xs
up_to-parted key low xs high h i j d le in_range passes = elim (cases_eq i j) [
  | inl same ↦ rw same passes
  | inr differs ↦
      let rises = Rises-lt low xs high h i j d (omega (arith, differs)) in_range in
      let up_to = leb-true _ _ passes in
      le-leb _ _ (omega arith)
]

-- `put` is an insert at the index of the key
pub put-index : (key : MapKey) (value : ℕ) (xs : Pairs) → put key value xs ≡ insert xs (index_of key xs) (key, value)
put-index key value [] = refl
put-index key value (x ∷ xs) = elim (ltb (rank x.0) (rank key)) as (λ b. cond b (x ∷ put key value xs) ((key, value) ∷ x ∷ xs) ≡ insert (x ∷ xs) (cond b (1 + index_of key xs) 0) (key, value)) [
  | true ↦ rw one-add (ap (λ zs. x ∷ zs) (put-index key value xs))
  | false ↦ refl
]

-- what the pair at the index of a key says of the key's value
abbrev pub value_here : MapKey → Option (MapKey × ℕ) → Option ℕ
value_here key None = None
value_here key (Some x) = if rank x.0 == rank key then Some x.1 else None

pub value_at-index : (key : MapKey) (low : ℕ) (xs : Pairs) (high : ℕ) → Rises low xs high → value_at key xs ≡ value_here key (slice_get xs (index_of key xs))
value_at-index key low [] high h = refl
value_at-index key low (x ∷ xs) high h = elim (cases_lt (rank x.0) (rank key)) [
  | inl b ↦ rw (lt-ltb (rank x.0) (rank key) b, one-add (index_of key xs), ne_eqb (rank x.0) (rank key) (λ e. omega arith)) (value_at-index key (rank x.0 + 1) xs high h.1)
  | inr b ↦ rw (le-ltb (rank x.0) (rank key) b) (elim (cases_eq (rank x.0) (rank key)) [
    | inl e ↦ rw (eq-eqb (rank x.0) (rank key) e) refl
    | inr ne ↦ rw (ne_eqb (rank x.0) (rank key) ne) (value_at-below key (rank x.0 + 1) xs high h.1 (omega (arith, ne)))
  ])
]

-- `without` is a removal at the index of the key
pub without-index : (key : MapKey) (low : ℕ) (xs : Pairs) (high : ℕ) (x : MapKey × ℕ) → Rises low xs high → slice_get xs (index_of key xs) ≡ Some x → rank x.0 ≡ rank key
    → without key xs ≡ remove xs (index_of key xs)
without-index key low [] high x h at same = cc
without-index key low (y ∷ ys) high x h at same = elim (cases_lt (rank y.0) (rank key)) [
  | inl b ↦
      let yes_lt = lt-ltb (rank y.0) (rank key) b in
      let at_rest = rw (yes_lt, one-add (index_of key ys)) at at in
      rw (yes_lt, one-add (index_of key ys), ne_eqb (rank y.0) (rank key) (λ e. omega arith)) (ap (λ zs. y ∷ zs) (without-index key (rank y.0 + 1) ys high x h.1 at_rest same))
  | inr b ↦
      let here = rw (le-ltb (rank y.0) (rank key) b) at at in
      let first : y ≡ x = cc in
      let e : rank y.0 ≡ rank key = cc in
      rw (le-ltb (rank y.0) (rank key) b, eq-eqb (rank y.0) (rank key) e) refl
]

-- the pairs before the index are below the key, and those from it on are not
pub Rises-take_index : (key : MapKey) (low : ℕ) (xs : Pairs) (high : ℕ) → Rises low xs high → low ≤ rank key → Rises low (take (index_of key xs) xs) (rank key)
Rises-take_index key low [] high h le = le
Rises-take_index key low (x ∷ xs) high h le = elim (cases_lt (rank x.0) (rank key)) [
  | inl b ↦ rw (lt-ltb (rank x.0) (rank key) b, one-add (index_of key xs)) (h.0, Rises-take_index key (rank x.0 + 1) xs high h.1 (omega arith))
  | inr b ↦ rw (le-ltb (rank x.0) (rank key) b) le
]

pub Rises-drop_index : (key : MapKey) (low : ℕ) (xs : Pairs) (high : ℕ) → Rises low xs high → rank key ≤ high → Rises (rank key) (drop (index_of key xs) xs) high
Rises-drop_index key low [] high h le = le
Rises-drop_index key low (x ∷ xs) high h le = elim (cases_lt (rank x.0) (rank key)) [
  | inl b ↦ rw (lt-ltb (rank x.0) (rank key) b, one-add (index_of key xs)) (Rises-drop_index key (rank x.0 + 1) xs high h.1 le)
  | inr b ↦ rw (le-ltb (rank x.0) (rank key) b) (b, h.1)
]

-- no pair stands before a key that is below all
pub index_of-below : (key : MapKey) (low : ℕ) (xs : Pairs) (high : ℕ) → Rises low xs high → rank key ≤ low → index_of key xs ≡ 0
index_of-below key low [] high h le = refl
index_of-below key low (x ∷ xs) high h le = rw (le-ltb (rank x.0) (rank key) (omega arith)) refl

-- the index behind a list of lower keys
pub index_of-behind : (key : MapKey) (low : ℕ) (xs : Pairs) (mid : ℕ) (ys : Pairs) → Rises low xs mid → mid ≤ rank key → index_of key (xs ++ ys) ≡ length xs + index_of key ys
index_of-behind key low [] mid ys h le = sym (zero-add (index_of key ys))
index_of-behind key low (x ∷ xs) mid ys h le =
    let above = Rises-le (rank x.0 + 1) xs mid h.1 in
    let rest = index_of-behind key (rank x.0 + 1) xs mid ys h.1 le in
    rw (lt-ltb (rank x.0) (rank key) (omega arith)) (omega arith)

-- an index with lower keys before it, and none behind it, is the index of the key
pub index_of-parts : (key : MapKey) (low : ℕ) (i : ℕ) (xs : Pairs) (mid high : ℕ) → i ≤ length xs → Rises low (take i xs) mid → mid ≤ rank key → Rises (rank key) (drop i xs) high → index_of key xs ≡ i
index_of-parts key low i xs mid high le front below back =
    let joined = index_of-behind key low (take i xs) mid (drop i xs) front below in
    let none = index_of-below key (rank key) (drop i xs) high back (omega arith) in
    let long = length-take-le i xs le in
    let whole = rw (take-append-drop i xs) at joined in
    omega arith

take-from_start : {X : Type 0} (n : ℕ) (x : X) (xs : List X) → take (suc n - 0) (x ∷ xs) ≡ x ∷ take n xs
take-from_start n x xs = rw (sub-zero (suc n)) refl

-- the cut is the part from the lower end's index to the index after the upper end
pub cut-index : (low high : MapKey) (below : ℕ) (xs : Pairs) (above : ℕ) → Rises below xs above → cut xs low high ≡ take (index_after high xs - index_of low xs) (drop (index_of low xs) xs)
cut-index low high below [] above h = refl
cut-index low high below (x ∷ xs) above h =
    let rest = cut-index low high (rank x.0 + 1) xs above h.1 in
    elim (cases_lt (rank high) (rank x.0)) [
      | inl gt ↦
          rw (is_within-above low high x gt, lt-leb (rank x.0) (rank high) gt, zero-sub (cond (ltb (rank x.0) (rank low)) (1 + index_of low xs) 0)) (cut-above (rank x.0 + 1) xs above low high h.1 (omega arith))
      | inr kept ↦ elim (cases_lt (rank x.0) (rank low)) [
        | inl lt ↦ rw (is_within-below low high x lt, le-leb (rank x.0) (rank high) kept, lt-ltb (rank x.0) (rank low) lt)
            (rw (one-add (index_of low xs), one-add (index_after high xs)) (simp unary_clauses rest))
        | inr ge ↦
            let front = index_of-below low (rank x.0 + 1) xs above h.1 (omega arith) in
            let from_zero = rw front at rest in
            let kept_rest = rw (sub-zero (index_after high xs)) at from_zero in
            rw (is_within-inside low high x ge kept, le-leb (rank x.0) (rank high) kept, le-ltb (rank x.0) (rank low) ge)
            (rw (one-add (index_after high xs), take-from_start (index_after high xs) x xs) (ap (λ zs. x ∷ zs) kept_rest))
      ]
    ]

-- a pair of the key at its index has the key's value
pub value_at-found : (key : MapKey) (low : ℕ) (xs : Pairs) (high i : ℕ) → Rises low xs high → i ≡ index_of key xs → IsSomeAnd (slice_get xs i) (λ pair. rank pair.0 ≡ rank key)
    → IsSomeAnd (slice_get xs i) (λ pair. value_at key xs ≡ Some pair.1)
value_at-found key low xs high i h at found = go (slice_get xs i) refl found
  where
    go : (o : Option (MapKey × ℕ)) → slice_get xs i ≡ o → IsSomeAnd o (λ pair. rank pair.0 ≡ rank key) → IsSomeAnd o (λ pair. value_at key xs ≡ Some pair.1)
    go None none f = f
    go (Some x) some same =
        let here : slice_get xs (index_of key xs) ≡ Some x = rw (← at) some in
        rw (here, eq-eqb (rank x.0) (rank key) same) at (value_at-index key low xs high h)

-- a key is not there whose index is past the end, or has another key
pub value_at-past : (key : MapKey) (low : ℕ) (xs : Pairs) (high i : ℕ) → Rises low xs high → i ≡ index_of key xs → slice_get xs i ≡ None → value_at key xs ≡ None
value_at-past key low xs high i h at none =
    let here : slice_get xs (index_of key xs) ≡ None = rw (← at) none in
    rw here at (value_at-index key low xs high h)

pub value_at-differs : (key : MapKey) (low : ℕ) (xs : Pairs) (high i : ℕ) (x : MapKey × ℕ) → Rises low xs high → i ≡ index_of key xs → slice_get xs i ≡ Some x → rank x.0 ≢ rank key → value_at key xs ≡ None
value_at-differs key low xs high i x h at some differs =
    let here : slice_get xs (index_of key xs) ≡ Some x = rw (← at) some in
    rw (here, ne_eqb (rank x.0) (rank key) differs) at (value_at-index key low xs high h)

-- the part of a list from the lower end on, up to the upper end
pub cut-front : (low high : MapKey) (below : ℕ) (xs : Pairs) (above : ℕ) → Rises below xs above → rank low ≤ below → cut xs low high ≡ take (index_after high xs) xs
cut-front low high below [] above h le = refl
cut-front low high below (x ∷ xs) above h le = elim (cases_lt (rank high) (rank x.0)) [
  | inl gt ↦ rw (is_within-above low high x gt, lt-leb (rank x.0) (rank high) gt) (cut-above (rank x.0 + 1) xs above low high h.1 (omega arith))
  | inr kept ↦ rw (is_within-inside low high x (omega arith) kept, le-leb (rank x.0) (rank high) kept, one-add (index_after high xs))
      (ap (λ zs. x ∷ zs) (cut-front low high (rank x.0 + 1) xs above h.1 (omega arith)))
]

pub cut-from_index : (low high : MapKey) (below : ℕ) (xs : Pairs) (above : ℕ) → Rises below xs above
    → cut xs low high ≡ take (index_after high (drop (index_of low xs) xs)) (drop (index_of low xs) xs)
cut-from_index low high below [] above h = refl
cut-from_index low high below (x ∷ xs) above h = elim (cases_lt (rank x.0) (rank low)) [
  | inl lt ↦ rw (is_within-below low high x lt, lt-ltb (rank x.0) (rank low) lt, one-add (index_of low xs)) (cut-from_index low high (rank x.0 + 1) xs above h.1)
  | inr ge ↦ rw (le-ltb (rank x.0) (rank low) ge) (cut-front low high (rank x.0) (x ∷ xs) above (omega arith, h.1) ge)
]

-- what holds of the element at an index holds of the one that was read there
pub IsSomeAnd-read : {X : Type 0} (P : X → Type 0) (xs : List X) (i : ℕ) (x : X) → IsSomeAnd (slice_get xs i) P → x ≡ get_or xs i x → P x
IsSomeAnd-read P [] i x holds read = absurd holds
IsSomeAnd-read P (y ∷ ys) zero x holds read = subst P (sym read) holds
IsSomeAnd-read P (y ∷ ys) (suc i) x holds read = IsSomeAnd-read P ys i x holds read

-- an insert at the index of a key that is not there
pub insert-index : (key : MapKey) (value : ℕ) (xs : Pairs) (i : ℕ) → i ≡ index_of key xs → insert xs i (key, value) ≡ put key value xs
insert-index key value xs i at = rw at (sym (put-index key value xs))

pub Rises-insert : (key : MapKey) (value low : ℕ) (xs : Pairs) (high i : ℕ) → Rises low xs high → low ≤ rank key → rank key < high → value_at key xs ≡ None → i ≡ index_of key xs
    → Rises low (insert xs i (key, value)) high
Rises-insert key value low xs high i h le lt none at = rw (insert-index key value xs i at) (Rises-put key value low xs high h le lt none)

-- a removal at the index of a key that is there
pub remove-index : (key : MapKey) (low : ℕ) (xs : Pairs) (high i : ℕ) → Rises low xs high → i ≡ index_of key xs → IsSomeAnd (slice_get xs i) (λ pair. rank pair.0 ≡ rank key)
    → remove xs i ≡ without key xs
remove-index key low xs high i h at found = go (slice_get xs i) refl found
  where
    go : (o : Option (MapKey × ℕ)) → slice_get xs i ≡ o → IsSomeAnd o (λ pair. rank pair.0 ≡ rank key) → remove xs i ≡ without key xs
    go None none f = absurd f
    go (Some x) some same = rw at (sym (without-index key low xs high x h (rw (← at) some) same))

pub Rises-remove : (key : MapKey) (low : ℕ) (xs : Pairs) (high i : ℕ) → Rises low xs high → i ≡ index_of key xs → IsSomeAnd (slice_get xs i) (λ pair. rank pair.0 ≡ rank key)
    → Rises low (remove xs i) high
Rises-remove key low xs high i h at found = rw (remove-index key low xs high i h at found) (Rises-without key low xs high h)

pub is_some-found : (key : MapKey) (xs : Pairs) (i : ℕ) → IsSomeAnd (slice_get xs i) (λ pair. value_at key xs ≡ Some pair.1) → IsSome (value_at key xs)
is_some-found key xs i found = go (slice_get xs i) found
  where
    go : (o : Option (MapKey × ℕ)) → IsSomeAnd o (λ pair. value_at key xs ≡ Some pair.1) → IsSome (value_at key xs)
    go None f = absurd f
    go (Some x) value = rw value refl
