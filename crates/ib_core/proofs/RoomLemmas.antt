-- Latches that are held once each, and are below n, leave room for one that is not held.
use Rattle.std.proofs.Common.{◌≡◌, ℕ, zero, suc, ◌+◌, ◌<◌, ◌≤◌, Bool, true, false, cond, ltb, eqb, List, [], ◌∷◌, length, refl, ap, subst, arith}
use Rattle.std.specs.List.{sum_by}
use Rattle.std.proofs.lemmas.List.Sums.{sum_by-cons}
use Rattle.std.proofs.lemmas.Bool.Decides.{nat_tests}
use Rattle.std.proofs.lemmas.Bool.{lt-ltb}
use mathlib.Core.Logic.{dite}
use native.Mathlib.Decide.{ℕ_discrete}
use Rattle.ib_levels.specs.declared.holding.Holding.{Holding}
use Rattle.ib_levels.specs.Holding.{on}
use Rattle.ib_levels.proofs.Counts.{on-cons, part-here}

-- how many holdings are on latches below n
below : ℕ → List Holding → ℕ
below n held = sum_by (λ h. cond (ltb h.latch.0 n) 1 0) held

below-cons : (n : ℕ) (h : Holding) (held : List Holding) → below n (h ∷ held) ≡ cond (ltb h.latch.0 n) 1 0 + below n held
unfolding below
below-cons n h held = sum_by-cons (λ (g : Holding). cond (ltb g.latch.0 n) 1 0) h held

below-nil : (n : ℕ) → below n [] ≡ 0
unfolding below
below-nil n = refl

one_latch_more : (a n : ℕ) → cond (ltb a (suc n)) 1 0 ≡ cond (ltb a n) 1 0 + cond (eqb a n) 1 0
one_latch_more a n = grind (arith, nat_tests)

below-suc : (n : ℕ) (held : List Holding) → below (suc n) held ≡ below n held + on n (λ h. 1) held
below-suc n [] = let a = below-nil n in let b = below-nil (suc n) in omega arith
below-suc n (h ∷ held) =
    let a = below-cons (suc n) h held in let b = below-cons n h held in let c = on-cons n (λ h. 1) h held in let d = below-suc n held in let e = one_latch_more h.latch.0 n in omega arith

below-zero : (held : List Holding) → below 0 held ≡ 0
below-zero [] = below-nil 0
below-zero (h ∷ held) = let a = below-cons 0 h held in let b = below-zero held in let c : cond {A = ℕ} (ltb h.latch.0 0) 1 0 ≡ 0 = grind (arith, nat_tests) in omega arith

few_below : (n : ℕ) (held : List Holding) → ((l : ℕ) → on l (λ h. 1) held ≤ 1) → below n held ≤ n
few_below zero held single = let a = below-zero held in omega arith
few_below (suc n) held single = let a = below-suc n held in let b = few_below n held single in let c = single n in omega arith

-- one fewer, where one of them is not held
fewer_below : (n l : ℕ) (held : List Holding) → ((l : ℕ) → on l (λ h. 1) held ≤ 1) → l < n → on l (λ h. 1) held ≡ 0 → below n held < n
fewer_below zero l held single within none = absurd (omega arith)
fewer_below (suc n) l held single within none =
    let a = below-suc n held in
    dite (ℕ_discrete l n)
    (λ e. let b = few_below n held single in let c : on n (λ h. 1) held ≡ 0 = subst (λ n. on n (λ h. 1) held ≡ 0) e none in omega arith)
    (λ e. let b = fewer_below n l held single (omega arith) none in let c = single n in omega arith)

-- all are below n where nothing is held from n on
all_below : (n : ℕ) (held : List Holding) → ((l : ℕ) → n ≤ l → on l (λ h. 1) held ≡ 0) → below n held ≡ length held
all_below n [] within = below-nil n
all_below n (h ∷ held) within =
    let a = below-cons n h held in
    let b = all_below n held (λ l past. let c = on-cons l (λ h. 1) h held in let z = within l past in omega arith) in
    let inside : h.latch.0 < n = is_inside (ltb h.latch.0 n) refl in
    let c : cond {A = ℕ} (ltb h.latch.0 n) 1 0 ≡ 1 = ap (λ (b : Bool). cond {A = ℕ} b 1 0) (lt-ltb h.latch.0 n inside) in omega arith
  where
    is_inside : (b : Bool) → ltb h.latch.0 n ≡ b → h.latch.0 < n
    is_inside true e = grind (arith, nat_tests)
    is_inside false e =
        let past : n ≤ h.latch.0 = grind (arith, nat_tests) in
        let z = within h.latch.0 past in let c = on-cons h.latch.0 (λ h. 1) h held in let p = part-here h.latch.0 (λ h. 1) h refl in absurd (omega arith)

pub has_room : (n l : ℕ) (held : List Holding) → ((l : ℕ) → on l (λ h. 1) held ≤ 1) → ((l : ℕ) → n ≤ l → on l (λ h. 1) held ≡ 0) → l < n → on l (λ h. 1) held ≡ 0 → length held < n
has_room n l held single within inside none = let a = all_below n held within in let b = fewer_below n l held single inside none in omega arith

-- no more are held than there are latches
pub few_held : (n : ℕ) (held : List Holding) → ((l : ℕ) → on l (λ h. 1) held ≤ 1) → ((l : ℕ) → n ≤ l → on l (λ h. 1) held ≡ 0) → length held ≤ n
few_held n held single within = let a = all_below n held within in let b = few_below n held single in omega arith
