-- The children of a node one by one, as a loop goes over them.
use Rattle.std.proofs.Common.{◌≡◌, ℕ, zero, suc, ◌+◌, ◌≤◌, List, [], ◌∷◌, length, drop, drop_of_length-le, add-one, Some, refl, ap, ◌∙◌}
use Rattle.std.specs.List.{slice_get}
use Rattle.ib_map.specs.Keys.{MapKey, rank}
use Rattle.ib_map.specs.Pairs.{Pairs, first_rank}
use Rattle.ib_walk.specs.Walk.{Visit, children_of}

-- what is left of a list from an element on
pub drop-slice_get : {X : Type 0} (xs : List X) (i : ℕ) (x : X) → slice_get xs i ≡ Some x → drop i xs ≡ x ∷ drop (i + 1) xs
drop-slice_get [] i x e = absurd (cc)
drop-slice_get (y ∷ ys) zero x e = cc
drop-slice_get (y ∷ ys) (suc i) x e = drop-slice_get ys i x e ∙ rw (add-one i, add-one (suc i)) refl

pub length-children_of : (rs : Pairs) (high : ℕ) → length (children_of rs high) ≡ length rs
length-children_of [] high = refl
length-children_of (r ∷ rs) high = ap suc (length-children_of rs high)

pub slice_get-children_of : (rs : Pairs) (high i : ℕ) (r : MapKey × ℕ) → slice_get rs i ≡ Some r
    → slice_get (children_of rs high) i ≡ Some (record { page = r.1; low = rank r.0; high = first_rank (drop (i + 1) rs) high })
slice_get-children_of [] high i r e = absurd (cc)
slice_get-children_of (x ∷ xs) high zero r e = let same : x ≡ r = cc in ap (λ (y : MapKey × ℕ). Some (let v : Visit = record { page = y.1; low = rank y.0; high = first_rank xs high } in v)) same
slice_get-children_of (x ∷ xs) high (suc i) r e = slice_get-children_of xs high i r e ∙ rw (add-one i, add-one (suc i)) refl

-- where the range of a child before others ends
pub first_rank-drop : (rs : Pairs) (i : ℕ) (r : MapKey × ℕ) (high : ℕ) → slice_get rs i ≡ Some r → first_rank (drop i rs) high ≡ rank r.0
first_rank-drop rs i r high e = ap (λ (zs : Pairs). first_rank zs high) (drop-slice_get rs i r e)

pub drop-none : {X : Type 0} (xs : List X) (i : ℕ) → length xs ≤ i → drop i xs ≡ []
drop-none xs i le = drop_of_length-le xs le
