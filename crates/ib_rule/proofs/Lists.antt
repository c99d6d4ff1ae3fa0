-- What tests say, and what is said of each element of a list.
use Rattle.std.proofs.Common.{◌≡◌, ◌≢◌, ◌⊎◌, inl, inr, ℕ, zero, suc, ◌≤◌, Bool, true, false, eqb, eq-eqb, ne_eqb, List, [], ◌∷◌, ◌++◌, drop, length, refl, sym, ◌∙◌, arith}
use Rattle.std.specs.Prelude.{◌||◌, ◌&&◌}
use Rattle.std.specs.List.{AllByRecursion}
use mathlib.Core.Logic.{dite}
use native.Mathlib.Decide.{ℕ_discrete}

pub eqb_says : (a b : ℕ) → eqb a b ≡ true → a ≡ b
eqb_says a b e = dite (ℕ_discrete a b) (λ q. q) (λ n. let z : true ≡ false = sym e ∙ ne_eqb a b n in absurd (cc))

pub eqb_denies : (a b : ℕ) → eqb a b ≡ false → a ≢ b
eqb_denies a b e q = let z : true ≡ false = sym (eq-eqb a b q) ∙ e in absurd (cc)

pub or_says : (a b : Bool) → (a || b) ≡ true → (a ≡ true) ⊎ (b ≡ true)
or_says true b e = inl refl
or_says false b e = inr e

pub or_denies : (a b : Bool) → (a || b) ≡ false → (a ≡ false) × (b ≡ false)
or_denies true b e = absurd (cc)
or_denies false b e = (refl, e)

pub and_says : (a b : Bool) → (a && b) ≡ true → (a ≡ true) × (b ≡ true)
and_says true b e = (refl, e)
and_says false b e = absurd (cc)

pub either_way : (b : Bool) → (b ≡ true → ⊥) → b ≡ false
either_way true n = absurd (n refl)
either_way false n = refl

pub both_ways : {P : Type 0} (b : Bool) → (b ≡ true → P) → (b ≡ false → P) → P
both_ways true f g = f refl
both_ways false f g = g refl

pub nil_append : {A : Type 0} (xs : List A) → xs ++ [] ≡ xs
nil_append [] = refl
nil_append (x ∷ xs) = λ i. x ∷ nil_append xs i

pub each_map : {A : Type 0} (P Q : A → Type 0) (xs : List A) → ((x : A) → P x → Q x) → AllByRecursion P xs → AllByRecursion Q xs
each_map P Q [] f p = tt
each_map P Q (x ∷ xs) f p = (f x p.0, each_map P Q xs f p.1)

pub each_both : {A : Type 0} (P Q R : A → Type 0) (xs : List A) → ((x : A) → P x → Q x → R x) → AllByRecursion P xs → AllByRecursion Q xs → AllByRecursion R xs
each_both P Q R [] f p q = tt
each_both P Q R (x ∷ xs) f p q = (f x p.0 q.0, each_both P Q R xs f p.1 q.1)

pub each_push : {A : Type 0} (P : A → Type 0) (xs : List A) (y : A) → AllByRecursion P xs → P y → AllByRecursion P (xs ++ y ∷ [])
each_push P [] y p q = (q, tt)
each_push P (x ∷ xs) y p q = (p.0, each_push P xs y p.1 q)

pub each_right : {A : Type 0} (P : A → Type 0) (xs ys : List A) → AllByRecursion P (xs ++ ys) → AllByRecursion P ys
each_right P [] ys p = p
each_right P (x ∷ xs) ys p = each_right P xs ys p.1

pub each_left : {A : Type 0} (P : A → Type 0) (xs ys : List A) → AllByRecursion P (xs ++ ys) → AllByRecursion P xs
each_left P [] ys each = tt
each_left P (x ∷ xs) ys each = (each.0, each_left P xs ys each.1)

pub drop_front : {A : Type 0} (xs ys : List A) (n : ℕ) → n ≤ length xs → drop n (xs ++ ys) ≡ drop n xs ++ ys
drop_front xs ys zero h = refl
drop_front [] ys (suc n) h = absurd (omega arith)
drop_front (x ∷ xs) ys (suc n) h = drop_front xs ys n (omega arith)

pub nil_rest : {A : Type 0} (xs ys : List A) → xs ++ ys ≡ xs → ys ≡ []
nil_rest [] ys e = e
nil_rest (x ∷ xs) ys e = nil_rest xs ys (let q : xs ++ ys ≡ xs = cc in q)

pub each_append : {A : Type 0} (P : A → Type 0) (xs ys : List A) → AllByRecursion P xs → AllByRecursion P ys → AllByRecursion P (xs ++ ys)
each_append P [] ys p q = q
each_append P (x ∷ xs) ys p q = (p.0, each_append P xs ys p.1 q)

pub each_all : {A : Type 0} (P : A → Type 0) (xs : List A) → ((x : A) → P x) → AllByRecursion P xs
each_all P [] f = tt
each_all P (x ∷ xs) f = (f x, each_all P xs f)
