-- Tests of numbers, and what they choose.
use Rattle.std.proofs.Common.{◌≡◌, ℕ, ◌<◌, Bool, true, false, ap, arith}
use Rattle.std.specs.Prelude.{nat_lt, if◌then◌else◌}
use Rattle.std.proofs.lemmas.Bool.Decides.{nat_tests}

pub if_true : {A : Type 0} (b : Bool) (x y : A) → b ≡ true → (if b then x else y) ≡ x
if_true b x y is = ap (λ b. if b then x else y) is

pub if_false : {A : Type 0} (b : Bool) (x y : A) → b ≡ false → (if b then x else y) ≡ y
if_false b x y is = ap (λ b. if b then x else y) is

pub lt_none : (n : ℕ) → n ≡ 0 → nat_lt 0 n ≡ false
lt_none n is = grind (arith, nat_tests)

pub lt_some : (n : ℕ) → 0 < n → nat_lt 0 n ≡ true
lt_some n is = grind (arith, nat_tests)

pub none_by : (n : ℕ) → nat_lt 0 n ≡ false → n ≡ 0
none_by n is = grind (arith, nat_tests)

pub some_by : (n : ℕ) → nat_lt 0 n ≡ true → 0 < n
some_by n is = grind (arith, nat_tests)

pub several_by : (n : ℕ) → nat_lt 1 n ≡ true → 1 < n
several_by n is = grind (arith, nat_tests)
