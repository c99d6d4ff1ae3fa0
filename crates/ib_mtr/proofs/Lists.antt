-- Laws of lists and tests.
use Rattle.std.proofs.Common.{◌≡◌, ℕ, suc, Bool, true, false, cond, List, [], ◌∷◌, take, drop, refl, ap, ◌∙◌}
use Rattle.std.specs.Prelude.{◌||◌}
use Rattle.std.specs.List.{All, filter, remove}
use Rattle.std.proofs.lemmas.List.Elements.{All-cons, All-head, All-tail, All-nil, All-append, All-take, All-drop}

-- where every element passes, all stay
pub filter_all : {A : Type 0} (f : A → Bool) (xs : List A) → ((x : A) → f x ≡ true) → filter f xs ≡ xs
filter_all f [] passes = refl
filter_all f (x ∷ xs) passes = ap (λ b. cond b (x ∷ filter f xs) (filter f xs)) (passes x) ∙ ap (λ ys. x ∷ ys) (filter_all f xs passes)

-- what follows for each element that passes holds of all that stay
pub All-filter_by : {A : Type 0} (P Q : A → Type 0) (f : A → Bool) (xs : List A) → ((x : A) → f x ≡ true → P x → Q x) → All P xs → All Q (filter f xs)
All-filter_by P Q f [] so all = All-nil Q
All-filter_by P Q f (x ∷ xs) so all = by_test (f x) refl (All-filter_by P Q f xs so (All-tail P x xs all))
  where
    by_test : (b : Bool) → f x ≡ b → All Q (filter f xs) → All Q (cond b (x ∷ filter f xs) (filter f xs))
    by_test true passes rest = All-cons Q x (filter f xs) (so x passes (All-head P x xs all)) rest
    by_test false passes rest = rest

-- what holds of all holds without one of them
pub All-remove : {A : Type 0} (P : A → Type 0) (xs : List A) (i : ℕ) → All P xs → All P (remove xs i)
All-remove P xs i all = All-append P (take i xs) (drop (suc i) xs) (All-take P i xs all) (All-drop P (suc i) xs all)

-- tests joined by 'or'
pub or_true : (b c : Bool) → c ≡ true → (b || c) ≡ true
or_true true c is = refl
or_true false c is = is

pub or_false : (b c : Bool) → c ≡ false → (b || c) ≡ b
or_false true c is = refl
or_false false c is = is
