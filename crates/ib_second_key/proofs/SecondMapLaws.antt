-- What a change of a map makes of the second tree's map.
use Rattle.std.proofs.Common.{◌≡◌, ◌≢◌, ℕ, ◌+◌, ◌<◌, ◌≤◌, ◌∙◌, Bool, true, false, cond, eqb, ltb, [], ◌∷◌, Option, None, Some, refl, sym, ap, subst, arith, inl, inr}
use Rattle.std.specs.Prelude.{is_some}
use Rattle.std.proofs.lemmas.Bool.{cases_eq, cases_lt, eq-eqb, ne_eqb, lt-ltb, le-ltb}
use Rattle.ib_map.specs.Keys.{MapKey, rank, end_rank}
use Rattle.ib_map.specs.Pairs.{Pairs, Rises, put, without, value_at}
use Rattle.ib_map.specs.Map.{IsMap, answer_of, delete_answer, effect_of, is_made}
use Rattle.ib_map.specs.declared.call.Change.{Change}
use Rattle.ib_map.specs.declared.call.Change.TheVariants.{Insert, Delete}
use Rattle.ib_map.specs.declared.call.Reply.TheVariants.{Duplicate, Inserted}
use Rattle.ib_map.proofs.KeyLaws.{rank_injective, rank-lt_end}
use Rattle.ib_map.proofs.MapLaws.{effect_of-inserted}
use Rattle.ib_map.proofs.PairLaws.{Rises-put, value_at-below, value_at-first, value_at-put, value_at-put_other, value_at-rest, without-put}
use Rattle.ib_second_key.specs.SecondKeys.{IsPrimaryPair, ArePrimary, second_key_of, second_of}
use Rattle.ib_second_key.specs.SecondChanges.{IsPrimaryChange, second_change, value_or_zero}
use Rattle.ib_second_key.proofs.SecondKeyLaws.{second-injective}

-- pairs with other keys are apart in the second tree
pub second-apart : (a : MapKey) (v : ℕ) (b : MapKey) (w : ℕ) → IsPrimaryPair a v → IsPrimaryPair b w → rank a ≢ rank b → rank (second_key_of a v) ≢ rank (second_key_of b w)
second-apart a v b w first second ne same =
    ne (ap rank (second-injective a v b w first second (rank_injective (second_key_of a v) (second_key_of b w) same)).0)

-- an insert that is made is one of a missing key
made-missing : (m : Pairs) (key : MapKey) (value : ℕ) → is_made (answer_of m (Insert key value)) ≡ true → value_at key m ≡ None
made-missing m key value made = go (value_at key m) refl made
  where
    go : (o : Option ℕ) → value_at key m ≡ o → is_made (cond (is_some o) Duplicate Inserted) ≡ true → value_at key m ≡ None
    go None is made = is
    go (Some v) is made = absurd (cc)

-- a put goes behind a pair with a lower key, and before any other
put-low : (a : MapKey) (v : ℕ) (x : MapKey × ℕ) (xs : Pairs) → rank x.0 < rank a → put a v (x ∷ xs) ≡ x ∷ put a v xs
put-low a v x xs lt = let yes = lt-ltb (rank x.0) (rank a) lt in rw yes refl

put-here : (a : MapKey) (v : ℕ) (x : MapKey × ℕ) (xs : Pairs) → rank a ≤ rank x.0 → put a v (x ∷ xs) ≡ (a, v) ∷ x ∷ xs
put-here a v x xs ge = let no = le-ltb (rank x.0) (rank a) ge in rw no refl

-- two puts in either order
pub put-put : (a : MapKey) (v : ℕ) (b : MapKey) (w : ℕ) (xs : Pairs) → rank a ≢ rank b → put a v (put b w xs) ≡ put b w (put a v xs)
put-put a v b w [] ne = elim (cases_lt (rank a) (rank b)) [
  | inl lt ↦ put-here a v (b, w) [] (omega arith) ∙ sym (put-low b w (a, v) [] lt)
  | inr ge ↦ put-low a v (b, w) [] (omega (arith, ne)) ∙ sym (put-here b w (a, v) [] (omega arith))
]
put-put a v b w (x ∷ xs) ne = elim (cases_lt (rank x.0) (rank a)) [
  | inl xa ↦ elim (cases_lt (rank x.0) (rank b)) [
    | inl xb ↦
        ap (put a v) (put-low b w x xs xb)
        ∙ (put-low a v x (put b w xs) xa
        ∙ (ap (λ (ys : Pairs). x ∷ ys) (put-put a v b w xs ne)
        ∙ (sym (put-low b w x (put a v xs) xb) ∙ ap (put b w) (sym (put-low a v x xs xa)))))
    | inr bx ↦
        ap (put a v) (put-here b w x xs bx)
        ∙ (put-low a v (b, w) (x ∷ xs) (omega arith)
        ∙ (ap (λ (ys : Pairs). (b, w) ∷ ys) (put-low a v x xs xa)
        ∙ (sym (put-here b w x (put a v xs) bx) ∙ ap (put b w) (sym (put-low a v x xs xa)))))
  ]
  | inr ax ↦ elim (cases_lt (rank x.0) (rank b)) [
    | inl xb ↦
        ap (put a v) (put-low b w x xs xb)
        ∙ (put-here a v x (put b w xs) ax
        ∙ (ap (λ (ys : Pairs). (a, v) ∷ ys) (sym (put-low b w x xs xb))
        ∙ (sym (put-low b w (a, v) (x ∷ xs) (omega arith)) ∙ ap (put b w) (sym (put-here a v x xs ax)))))
    | inr bx ↦ elim (cases_lt (rank a) (rank b)) [
      | inl lt ↦
          ap (put a v) (put-here b w x xs bx)
          ∙ (put-here a v (b, w) (x ∷ xs) (omega arith)
          ∙ (ap (λ (ys : Pairs). (a, v) ∷ ys) (sym (put-here b w x xs bx))
          ∙ (sym (put-low b w (a, v) (x ∷ xs) lt) ∙ ap (put b w) (sym (put-here a v x xs ax)))))
      | inr ge ↦
          ap (put a v) (put-here b w x xs bx)
          ∙ (put-low a v (b, w) (x ∷ xs) (omega (arith, ne))
          ∙ (ap (λ (ys : Pairs). (b, w) ∷ ys) (put-here a v x xs ax)
          ∙ (sym (put-here b w (a, v) (x ∷ xs) (omega arith)) ∙ ap (put b w) (sym (put-here a v x xs ax)))))
    ]
  ]
]

-- a removal takes the pair of the key, and passes any other
without-here : (b : MapKey) (x : MapKey × ℕ) (xs : Pairs) → rank x.0 ≡ rank b → without b (x ∷ xs) ≡ xs
without-here b x xs e = let yes = eq-eqb (rank x.0) (rank b) e in rw yes refl

without-other : (b : MapKey) (x : MapKey × ℕ) (xs : Pairs) → rank x.0 ≢ rank b → without b (x ∷ xs) ≡ x ∷ without b xs
without-other b x xs ne = let no = ne_eqb (rank x.0) (rank b) ne in rw no refl

put-first : (a : MapKey) (v low : ℕ) (xs : Pairs) (high : ℕ) → Rises low xs high → rank a < low → put a v xs ≡ (a, v) ∷ xs
put-first a v low [] high h lt = refl
put-first a v low (x ∷ xs) high h lt = put-here a v x xs (let l = h.0 in omega arith)

-- a put and a removal of another key in either order
pub without-put_other : (a : MapKey) (v : ℕ) (b : MapKey) (low : ℕ) (xs : Pairs) (high : ℕ) → Rises low xs high → rank a ≢ rank b → without b (put a v xs) ≡ put a v (without b xs)
without-put_other a v b low [] high h ne = without-other b (a, v) [] ne
without-put_other a v b low (x ∷ xs) high h ne = elim (cases_lt (rank x.0) (rank a)) [
  | inl xa ↦ elim (cases_eq (rank x.0) (rank b)) [
    | inl xb ↦ ap (without b) (put-low a v x xs xa) ∙ (without-here b x (put a v xs) xb ∙ ap (put a v) (sym (without-here b x xs xb)))
    | inr nb ↦
        ap (without b) (put-low a v x xs xa)
        ∙ (without-other b x (put a v xs) nb
        ∙ (ap (λ (ys : Pairs). x ∷ ys) (without-put_other a v b (rank x.0 + 1) xs high h.1 ne)
        ∙ (sym (put-low a v x (without b xs) xa) ∙ ap (put a v) (sym (without-other b x xs nb)))))
  ]
  | inr ax ↦ elim (cases_eq (rank x.0) (rank b)) [
    | inl xb ↦
        ap (without b) (put-here a v x xs ax)
        ∙ (without-other b (a, v) (x ∷ xs) ne
        ∙ (ap (λ (ys : Pairs). (a, v) ∷ ys) (without-here b x xs xb)
        ∙ (sym (put-first a v (rank x.0 + 1) xs high h.1 (omega arith)) ∙ ap (put a v) (sym (without-here b x xs xb)))))
    | inr nb ↦
        ap (without b) (put-here a v x xs ax)
        ∙ (without-other b (a, v) (x ∷ xs) ne
        ∙ (ap (λ (ys : Pairs). (a, v) ∷ ys) (without-other b x xs nb)
        ∙ (sym (put-here a v x (without b xs) ax) ∙ ap (put a v) (sym (without-other b x xs nb)))))
  ]
]

-- a pair whose key the map lacks has no key in the second tree
pub second-absent : (key : MapKey) (value : ℕ) (xs : Pairs) → IsPrimaryPair key value → ArePrimary xs → value_at key xs ≡ None → value_at (second_key_of key value) (second_of xs) ≡ None
second-absent key value [] is are none = refl
second-absent key value (x ∷ xs) is are none =
    value_at-put_other (second_key_of x.0 x.1) (second_key_of key value) 0 (second_of xs) (second-apart x.0 x.1 key value are.0 is (value_at-first key x xs none))
    ∙ second-absent key value xs is are.1 (value_at-rest key x xs none)

-- the second tree's map is one
pub IsMap-second : (low : ℕ) (xs : Pairs) → Rises low xs end_rank → ArePrimary xs → IsMap (second_of xs)
IsMap-second low [] h are = omega arith
IsMap-second low (x ∷ xs) h are =
    Rises-put (second_key_of x.0 x.1) 0 0 (second_of xs) end_rank (IsMap-second (rank x.0 + 1) xs h.1 are.1) (omega arith) (rank-lt_end (second_key_of x.0 x.1))
    (second-absent x.0 x.1 xs are.0 are.1 (value_at-below x.0 (rank x.0 + 1) xs end_rank h.1 (omega arith)))

-- an insert of the map is an insert of the second tree's map
pub second-put : (key : MapKey) (value : ℕ) (xs : Pairs) → IsPrimaryPair key value → ArePrimary xs → value_at key xs ≡ None
    → second_of (put key value xs) ≡ put (second_key_of key value) 0 (second_of xs)
second-put key value [] is are none = refl
second-put key value (x ∷ xs) is are none = elim (cases_lt (rank x.0) (rank key)) [
  | inl lt ↦
      let yes = lt-ltb (rank x.0) (rank key) lt in
      rw yes (ap (put (second_key_of x.0 x.1) 0) (second-put key value xs is are.1 (value_at-rest key x xs none))
      ∙ put-put (second_key_of x.0 x.1) 0 (second_key_of key value) 0 (second_of xs) (second-apart x.0 x.1 key value are.0 is (value_at-first key x xs none)))
  | inr ge ↦ let no = le-ltb (rank x.0) (rank key) ge in rw no refl
]

-- what stands at a key is a primary pair
pub primary-at : (key : MapKey) (value : ℕ) (low : ℕ) (xs : Pairs) → Rises low xs end_rank → ArePrimary xs → value_at key xs ≡ Some value → IsPrimaryPair key value
primary-at key value low [] h are found = absurd (cc)
primary-at key value low (x ∷ xs) h are found = elim (cases_eq (rank x.0) (rank key)) [
  | inl e ↦
      let yes = eq-eqb (rank x.0) (rank key) e in
      let v : Some x.1 ≡ Some value = subst (λ b. cond b (Some x.1) (value_at key xs) ≡ Some value) yes found in
      let w : x.1 ≡ value = cc in
      let k : x.0 ≡ key = rank_injective x.0 key e in
      subst (λ q. IsPrimaryPair q value) k (subst (IsPrimaryPair x.0) w are.0)
  | inr ne ↦
      let no = ne_eqb (rank x.0) (rank key) ne in
      primary-at key value (rank x.0 + 1) xs h.1 are.1 (subst (λ b. cond b (Some x.1) (value_at key xs) ≡ Some value) no found)
]

-- a delete of the map is a delete of the second tree's map
pub second-without : (key : MapKey) (value low : ℕ) (xs : Pairs) → Rises low xs end_rank → ArePrimary xs → value_at key xs ≡ Some value
    → (second_of (without key xs) ≡ without (second_key_of key value) (second_of xs)) × (value_at (second_key_of key value) (second_of xs) ≡ Some 0)
second-without key value low [] h are found = absurd (cc)
second-without key value low (x ∷ xs) h are found = elim (cases_eq (rank x.0) (rank key)) [
  | inl e ↦
      let yes = eq-eqb (rank x.0) (rank key) e in
      let v : Some x.1 ≡ Some value = subst (λ b. cond b (Some x.1) (value_at key xs) ≡ Some value) yes found in
      let w : x.1 ≡ value = cc in
      let k : x.0 ≡ key = rank_injective x.0 key e in
      let s : second_key_of x.0 x.1 ≡ second_key_of key value = ap (λ q. second_key_of q x.1) k ∙ ap (second_key_of key) w in (
        rw yes (sym (without-put (second_key_of x.0 x.1) 0 (second_of xs)) ∙ ap (λ q. without q (put (second_key_of x.0 x.1) 0 (second_of xs))) s),
        subst (λ q. value_at q (put (second_key_of x.0 x.1) 0 (second_of xs)) ≡ Some 0) s (value_at-put (second_key_of x.0 x.1) 0 (second_of xs)),
      )
  | inr ne ↦
      let no = ne_eqb (rank x.0) (rank key) ne in
      let rest : value_at key xs ≡ Some value = subst (λ b. cond b (Some x.1) (value_at key xs) ≡ Some value) no found in
      let r = second-without key value (rank x.0 + 1) xs h.1 are.1 rest in
      let apart = second-apart x.0 x.1 key value are.0 (primary-at key value (rank x.0 + 1) xs h.1 are.1 rest) ne in
      let map = IsMap-second (rank x.0 + 1) xs h.1 are.1 in (
        rw no (ap (put (second_key_of x.0 x.1) 0) r.0 ∙ sym (without-put_other (second_key_of x.0 x.1) 0 (second_key_of key value) 0 (second_of xs) end_rank map apart)),
        value_at-put_other (second_key_of x.0 x.1) (second_key_of key value) 0 (second_of xs) apart ∙ r.1,
      )
]

-- a delete that is made is one of a key that is there
pub made-found : (m : Pairs) (key : MapKey) → is_made (answer_of m (Delete key)) ≡ true → value_at key m ≡ Some (value_or_zero (value_at key m))
made-found m key made = go (value_at key m) made
  where
    go : (o : Option ℕ) → is_made (delete_answer o) ≡ true → o ≡ Some (value_or_zero o)
    go None made = absurd (cc)
    go (Some v) made = refl

-- what a change that is made makes of the map, its second change makes of the second tree's map
pub second-effect : (m : Pairs) (change : Change) → IsMap m → ArePrimary m → IsPrimaryChange change → is_made (answer_of m change) ≡ true
    → second_of (effect_of m change) ≡ effect_of (second_of m) (second_change m change)
second-effect m (Insert key value) map are primary made =
    let none = made-missing m key value made in
    ap second_of (effect_of-inserted m key value none)
    ∙ (second-put key value m primary are none ∙ sym (effect_of-inserted (second_of m) (second_key_of key value) 0 (second-absent key value m primary are none)))
second-effect m (Delete key) map are primary made =
    (second-without key (value_or_zero (value_at key m)) 0 m map are (made-found m key made)).0

-- and it is made
pub second-made : (m : Pairs) (change : Change) → IsMap m → ArePrimary m → IsPrimaryChange change → is_made (answer_of m change) ≡ true
    → is_made (answer_of (second_of m) (second_change m change)) ≡ true
second-made m (Insert key value) map are primary made =
    let none = second-absent key value m primary are (made-missing m key value made) in rw none refl
second-made m (Delete key) map are primary made =
    let found = (second-without key (value_or_zero (value_at key m)) 0 m map are (made-found m key made)).1 in rw found refl

-- the pairs stay primary
ArePrimary-put : (key : MapKey) (value : ℕ) (xs : Pairs) → IsPrimaryPair key value → ArePrimary xs → ArePrimary (put key value xs)
ArePrimary-put key value [] is are = (is, tt)
ArePrimary-put key value (x ∷ xs) is are = go (ltb (rank x.0) (rank key)) (ArePrimary-put key value xs is are.1)
  where
    go : (b : Bool) → ArePrimary (put key value xs) → ArePrimary (cond b (x ∷ put key value xs) ((key, value) ∷ x ∷ xs))
    go true rest = (are.0, rest)
    go false rest = (is, are)

ArePrimary-without : (key : MapKey) (xs : Pairs) → ArePrimary xs → ArePrimary (without key xs)
ArePrimary-without key [] are = tt
ArePrimary-without key (x ∷ xs) are = go (eqb (rank x.0) (rank key)) (ArePrimary-without key xs are.1)
  where
    go : (b : Bool) → ArePrimary (without key xs) → ArePrimary (cond b xs (x ∷ without key xs))
    go true rest = are.1
    go false rest = (are.0, rest)

pub ArePrimary-effect : (m : Pairs) (change : Change) → IsPrimaryChange change → ArePrimary m → ArePrimary (effect_of m change)
ArePrimary-effect m (Insert key value) is are = go (is_some (value_at key m))
  where
    go : (b : Bool) → ArePrimary (cond b m (put key value m))
    go true = are
    go false = ArePrimary-put key value m is are
ArePrimary-effect m (Delete key) is are = ArePrimary-without key m are
