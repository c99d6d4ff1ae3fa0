-- Nothing moves behind the last item, and one behind the last but one.
use Rattle.std.proofs.Common.{ℕ, zero, suc, ◌≡◌, ◌+◌, List, [], ◌∷◌, ◌++◌, length, take, drop, set, get_or, refl, ap, ◌∙◌, arith}
use Rattle.ib_core.proofs.removal.take_out.Goals as goal

-- what goes is the last of a list
last_one : {A : Type 0} (xs : List A) (i : ℕ) → suc i ≡ length xs → take i xs ≡ take i xs ++ drop (suc i) xs
last_one [] i e = absurd (omega arith)
last_one (x ∷ []) zero e = refl
last_one (x ∷ y ∷ xs) zero e = absurd (omega arith)
last_one {A} (x ∷ xs) (suc i) e = ap (λ (ys : List A). x ∷ ys) (last_one xs i (omega arith))

-- .. or the last but one, over which the last is written
last_two : {A : Type 0} (xs : List A) (i : ℕ) (d : A) → i + 2 ≡ length xs → take (i + 1) (set xs i (get_or xs (i + 1) d)) ≡ take i xs ++ drop (suc i) xs
last_two {A} xs i d e = ap (λ (n : ℕ). take n (set xs i (get_or xs n d))) (let q : i + 1 ≡ suc i = omega arith in q) ∙ by_suc xs i (omega arith)
  where
    by_suc : (xs : List A) (i : ℕ) → i + 2 ≡ length xs → take (suc i) (set xs i (get_or xs (suc i) d)) ≡ take i xs ++ drop (suc i) xs
    by_suc [] i e = absurd (omega arith)
    by_suc (x ∷ []) i e = absurd (omega arith)
    by_suc (x ∷ y ∷ []) zero e = refl
    by_suc (x ∷ y ∷ z ∷ xs) zero e = absurd (omega arith)
    by_suc (x ∷ y ∷ xs) (suc i) e = ap (λ (ys : List A). x ∷ ys) (by_suc (y ∷ xs) i (omega arith))

-- .. as a list says it whose default is any item
moved_down : {A : Type 0} (xs ys : List A) (i : ℕ) → ((d : A) → ys ≡ set xs i (get_or xs (i + 1) d)) → i + 2 ≡ length xs → take (i + 1) ys ≡ take i xs ++ drop (suc i) xs
moved_down [] ys i is e = absurd (omega arith)
moved_down {A} (x ∷ xs) ys i is e = ap (λ (zs : List A). take (i + 1) zs) (is x) ∙ last_two (x ∷ xs) i x e

pub returns-then-behind-eq1-clause-rest : goal.returns-then-behind-eq1-clause-rest
returns-then-behind-eq1-clause-rest g c =
    let items : List g.row.T.Denot = c.args.items.now.items in
    c.pop.ensures.rest ∙ (ap (λ (n : ℕ). take n items) (omega arith) ∙ last_one items c.args.at (omega arith))

pub returns-then-behind-eq2-clause-rest : goal.returns-then-behind-eq2-clause-rest
returns-then-behind-eq2-clause-rest g c =
    let items : List g.row.T.Denot = c.args.items.now.items in
    let same = c.copy_next.ensures.len in
    c.pop-then-behind-eq2.ensures.rest ∙ (ap (λ (n : ℕ). take n c.copy_next.new.items.items) (omega arith)
    ∙ moved_down items c.copy_next.new.items.items c.args.at c.copy_next.ensures.items (omega arith))
