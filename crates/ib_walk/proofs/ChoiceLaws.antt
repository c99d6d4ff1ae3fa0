-- What a choice gives, by an equality of numbers or in both cases alike; and what stands in a `Some`.
use Rattle.std.proofs.Common.{◌≡◌, ◌≢◌, ℕ, Bool, true, false, cond, Some, refl, arith, eqb}
use Rattle.std.proofs.lemmas.Bool.{eq-eqb}
use Rattle.std.proofs.lemmas.Bool.Decides.{nat_tests}

pub cond-eq : {X : Type 0} (n p : ℕ) (x y : X) → n ≡ p → cond (eqb n p) x y ≡ x
cond-eq n p x y e = let yes = eq-eqb n p e in rw yes refl

pub cond-ne : {X : Type 0} (n p : ℕ) (x y : X) → n ≢ p → cond (eqb n p) x y ≡ y
cond-ne n p x y ne = let no : eqb n p ≡ false = grind (arith, nat_tests) in rw no refl

pub cond-both : {X : Type 0} (b : Bool) (x : X) → cond b x x ≡ x
cond-both true x = refl
cond-both false x = refl

pub Some-same : {X : Type 0} (a b : X) → Some a ≡ Some b → a ≡ b
Some-same a b e = cc
