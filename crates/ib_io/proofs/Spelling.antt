-- Numbers are read digit by digit from the left.
use Rattle.std.proofs.Common.{◌≡◌, ◌∙◌, ℕ, ◌+◌, ◌-◌, ◌*◌, ◌^◌, ◌<◌, ◌≤◌, List, [], ◌∷◌, Bool, true, false, ap, sym, refl, length, take, drop, get_or, arith, cond}
use Rattle.std.specs.Prelude.{Some, None, fold, ◌&&◌}
use Rattle.std.specs.List.{list_all}
use Rattle.std.proofs.lemmas.Bool.{le-ltb, lt-ltb}
use Rattle.std.proofs.lemmas.List.{take_all, take-append-drop}
use Rattle.std.proofs.lemmas.List.Sums.{fold_more, fold-append}
use Rattle.std.proofs.lemmas.List.Folds.{list_all_at, list_all_more}
use Rattle.ib_io.specs.Numbers.{is_digit, is_headed, value_of, number_of}

no-middle : (a b c : Bool) (x : ℕ) → b ≡ false → cond (a && b && c) (Some x) None ≡ None
no-middle false b c x h = refl
no-middle true false c x h = refl
no-middle true true c x h = absurd (cc)

no-last : (a b c : Bool) (x : ℕ) → c ≡ false → cond (a && b && c) (Some x) None ≡ None
no-last false b c x h = refl
no-last true false c x h = refl
no-last true true c x h = rw h refl

pub all-three : (a b c : Bool) (x : ℕ) → a ≡ true → b ≡ true → c ≡ true → cond (a && b && c) (Some x) None ≡ Some x
all-three a b c x h k l = rw (h, k, l) refl

-- more digits make no smaller number
fold-le : (digits : List ℕ) (value : ℕ) → value ≤ fold (λ v d. 10 * v + (d - 48)) value digits
fold-le [] value = omega arith
fold-le (d ∷ digits) value = omega (arith, fold-le digits (10 * value + (d - 48)))

value-take-le : (field : List ℕ) (i : ℕ) → value_of (take i field) ≤ value_of field
value-take-le field i =
    let e : value_of field ≡ fold (λ v d. 10 * v + (d - 48)) (value_of (take i field)) (drop i field) =
    sym (ap value_of (take-append-drop i field)) ∙ fold-append (λ v d. 10 * v + (d - 48)) 0 (take i field) (drop i field) in
    omega (arith, e, fold-le (drop i field) (value_of (take i field)))

pub value-more : (field : List ℕ) (i : ℕ) → i < length field → value_of (take (i + 1) field) ≡ 10 * value_of (take i field) + (get_or field i 0 - 48)
value-more field i lt = fold_more (λ v d. 10 * v + (d - 48)) 0 field i 0 lt

pub digits-more : (field : List ℕ) (i : ℕ) → i < length field → list_all is_digit (take i field) ≡ true → is_digit (get_or field i 0) ≡ true
    → list_all is_digit (take (i + 1) field) ≡ true
digits-more field i lt all one = list_all_more is_digit field i 0 lt ∙ (rw all one)

-- a byte that is no digit
pub number-other : (field : List ℕ) (i : ℕ) → i < length field → is_digit (get_or field i 0) ≡ false → number_of field ≡ None
number-other field i lt other = no-middle _ _ _ _ (list_all_at is_digit field i 0 lt other)

-- a number that doesn't fit
pub number-large : (field : List ℕ) (i : ℕ) → i < length field → 2 ^ 64 ≤ 10 * value_of (take i field) + (get_or field i 0 - 48) → number_of field ≡ None
number-large field i lt large =
    let le : 2 ^ 64 ≤ value_of field = omega (arith, value-more field i lt, value-take-le field (i + 1)) in
    no-last (is_headed field) (list_all is_digit field) _ (value_of field) (le-ltb (value_of field) (2 ^ 64) le)

pub number-whole : (field : List ℕ) (i : ℕ) → length field ≤ i → is_headed field ≡ true → list_all is_digit (take i field) ≡ true → value_of (take i field) < 2 ^ 64
    → number_of field ≡ Some (value_of (take i field))
number-whole field i le headed digits small =
    let e = take_all i field le in
    let all : list_all is_digit field ≡ true = ap (list_all is_digit) (sym e) ∙ digits in
    let lt : value_of field < 2 ^ 64 = omega (arith, ap value_of e) in
    all-three _ _ _ _ headed all (lt-ltb (value_of field) (2 ^ 64) lt) ∙ ap (λ zs. Some (value_of zs)) (sym e)
