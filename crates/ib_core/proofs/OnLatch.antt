-- Laws of what is held on one latch.
use Rattle.std.proofs.Common.{◌≡◌, ℕ, zero, suc, ◌+◌, ◌<◌, ◌≤◌, cond, List, [], ◌∷◌, length, get_or, Option, Some, None, ◌⊎◌, inl, inr, ⊎_elim, ◌-◌, refl, ap, ◌∙◌, arith}
use Rattle.std.specs.Prelude.{◌==◌, find}
use mathlib.Core.Logic.{dite}
use native.Mathlib.Decide.{ℕ_discrete}
use Rattle.ib_levels.specs.declared.holding.Holding.{Holding}
use Rattle.ib_levels.specs.declared.level.Mode.{Mode}
use Rattle.ib_levels.specs.declared.level.Mode.TheVariants.{S, Sx, X}
use Rattle.ib_levels.specs.Holding.{on, changed_on}
use Rattle.ib_levels.proofs.Counts.{on-cons, on-none, on-changed, part-here, part-away, by_equal}
use Rattle.ib_word.specs.Weight.{weight, sx_weight, x_weight}
use Rattle.ib_core.specs.declared.session.Session.{Session}
use Rattle.ib_core.specs.Sessions.{holdings, reads, sx_grants, x_grants, claims, grants, taken}
use Rattle.ib_core.specs.Takings.{one_more, one_fewer}

-- the holding that is found on a latch, where there is one at most, counts for all
pub on-found : (l : ℕ) (f : Holding → ℕ) (held : List Holding) (h : Holding) → on l (λ h. 1) held ≤ 1 → find (λ h. h.latch.0 == l) held ≡ Some h → on l f held ≡ f h
on-found l f [] h single found = absurd (cc)
on-found l f (g ∷ held) h single found =
    let a = on-cons l f g held in let b = on-cons l (λ h. 1) g held in
    by_equal (λ t. cond t (Some g) (find (λ h. h.latch.0 == l) held) ≡ Some h → on l f (g ∷ held) ≡ f h) g.latch.0 l
    (λ e is. let same : g ≡ h = cc in let p = part-here l f g e in let q = part-here l (λ h. 1) g e in
    let none = on-none l f held (omega arith) in let r : f g ≡ f h = ap f same in omega arith)
    (λ n is. let p = part-away l f g n in let q = part-away l (λ h. 1) g n in let c = on-found l f held h (omega arith) is in omega arith)
    found

-- where none is found there is nothing
pub on-not_found : (l : ℕ) (f : Holding → ℕ) (held : List Holding) → find (λ h. h.latch.0 == l) held ≡ None → on l f held ≡ 0
on-not_found l f [] found = refl
on-not_found l f (g ∷ held) found =
    let a = on-cons l f g held in
    by_equal (λ t. cond t (Some g) (find (λ h. h.latch.0 == l) held) ≡ None → on l f (g ∷ held) ≡ 0) g.latch.0 l
    (λ e is. absurd (cc))
    (λ n is. let p = part-away l f g n in let c = on-not_found l f held is in omega arith)
    found

-- a holding on the latch counts for no more than all
pub on-at : (l : ℕ) (f : Holding → ℕ) (held : List Holding) (i : ℕ) (d : Holding) → i < length held → (get_or held i d).latch.0 ≡ l → f (get_or held i d) ≤ on l f held
on-at l f [] i d within here = absurd (omega arith)
on-at l f (g ∷ held) zero d within here = let a = on-cons l f g held in let p = part-here l f g here in omega arith
on-at l f (g ∷ held) (suc i) d within here = let a = on-cons l f g held in let c = on-at l f held i d (omega arith) here in omega arith

-- one holding at most is on the latch: none, or one that counts for all
pub single_cases : (l : ℕ) (held : List Holding) → on l (λ h. 1) held ≤ 1 → ((f : Holding → ℕ) → on l f held ≡ 0) ⊎ ((h : Holding) × ((f : Holding → ℕ) → on l f held ≡ f h))
single_cases l held single = by_found (find (λ h. h.latch.0 == l) held) refl
  where
    by_found : (o : Option Holding) → find (λ h. h.latch.0 == l) held ≡ o → ((f : Holding → ℕ) → on l f held ≡ 0) ⊎ ((h : Holding) × ((f : Holding → ℕ) → on l f held ≡ f h))
    by_found None found = inl (λ f. on-not_found l f held found)
    by_found (Some h) found = inr (h, λ f. on-found l f held h single found)

-- the counts of one session on one latch, and what it takes off the word
pub record Counted (l : ℕ) (a : Session) : Type 0 where
  pub claimed : claims l a ≡ sx_grants l a + x_grants l a
  pub granted : grants l a ≡ reads l a + claims l a
  pub weighed : taken l a ≡ reads l a + sx_weight (sx_grants l a) + x_weight (x_grants l a)

pub counted : (l : ℕ) (a : Session) → holdings l a ≤ 1 → Counted l a
counted l a single = ⊎_elim
    (λ (none : (f : Holding → ℕ) → on l f a.held ≡ 0).
    let c = none (λ h. h.sx + h.x) in let g = none (λ h. h.s + h.sx + h.x) in let w = none (λ h. weight h.s h.sx h.x) in
    let s = none (λ h. h.s) in let sx = none (λ h. h.sx) in let x = none (λ h. h.x) in
    let b : sx_weight (sx_grants l a) ≡ 0 = ap sx_weight sx in let d : x_weight (x_grants l a) ≡ 0 = ap x_weight x in
    record { claimed = omega arith; granted = omega arith; weighed = omega arith })
    (λ (one : (h : Holding) × ((f : Holding → ℕ) → on l f a.held ≡ f h)).
    let c = one.1 (λ h. h.sx + h.x) in let g = one.1 (λ h. h.s + h.sx + h.x) in let w = one.1 (λ h. weight h.s h.sx h.x) in
    let s = one.1 (λ h. h.s) in let sx = one.1 (λ h. h.sx) in let x = one.1 (λ h. h.x) in
    let b : sx_weight (sx_grants l a) ≡ sx_weight one.0.sx = ap sx_weight sx in let d : x_weight (x_grants l a) ≡ x_weight one.0.x = ap x_weight x in
    record { claimed = omega arith; granted = omega arith; weighed = omega arith })
    (single_cases l a.held single)

-- who has a grant on the latch has a holding there
pub held_by_grant : (l : ℕ) (f : Holding → ℕ) (held : List Holding) → 0 < on l f held → 0 < on l (λ h. 1) held
held_by_grant l f held has = dite (ℕ_discrete (on l (λ h. 1) held) 0) (λ none. let z = on-none l f held none in absurd (omega arith)) (λ n. omega arith)

-- the counts on the latch after a change of the one holding there
pub counts_changed : (l : ℕ) (f : Holding → Holding) (held : List Holding) → ((h : Holding) → (f h).latch.0 ≡ h.latch.0) → on l (λ h. 1) held ≡ 1
    → (h : Holding) × ((g : Holding → ℕ) → on l g held ≡ g h) × ((g : Holding → ℕ) → on l g (changed_on l f held) ≡ g (f h))
counts_changed l f held keeps one = ⊎_elim
    (λ (none : (g : Holding → ℕ) → on l g held ≡ 0). let z = none (λ h. 1) in absurd (omega arith))
    (λ (only : (h : Holding) × ((g : Holding → ℕ) → on l g held ≡ g h)). (only.0, only.1, λ g. on-changed l f g held keeps ∙ only.1 (λ h. g (f h))))
    (single_cases l held (omega arith))

-- one grant more or fewer leaves the latch and the level of a holding
pub one_more-latch : (mode : Mode) (h : Holding) → (one_more mode h).latch.0 ≡ h.latch.0
one_more-latch S h = refl
one_more-latch Sx h = refl
one_more-latch X h = refl

pub one_fewer-latch : (mode : Mode) (h : Holding) → (one_fewer mode h).latch.0 ≡ h.latch.0
one_fewer-latch S h = refl
one_fewer-latch Sx h = refl
one_fewer-latch X h = refl

-- what is taken off the word after one grant more, or fewer, of the one holding on the latch
abbrev pub weighs : Holding → ℕ
weighs h = weight h.s h.sx h.x

pub one_more-weighs : (l : ℕ) (mode : Mode) (a : Session) → holdings l a ≡ 1 → (h : Holding) × (reads l a ≡ h.s) × (sx_grants l a ≡ h.sx) × (x_grants l a ≡ h.x) × (on l weighs (changed_on l (one_more mode) a.held) ≡ weighs (one_more mode h))
one_more-weighs l mode a one =
    let k = counts_changed l (one_more mode) a.held (one_more-latch mode) one in
    (k.0, k.1 (λ h. h.s), k.1 (λ h. h.sx), k.1 (λ h. h.x), k.2 weighs)

pub one_fewer-weighs : (l : ℕ) (mode : Mode) (a : Session) → holdings l a ≡ 1 → (h : Holding) × (reads l a ≡ h.s) × (sx_grants l a ≡ h.sx) × (x_grants l a ≡ h.x) × (on l weighs (changed_on l (one_fewer mode) a.held) ≡ weighs (one_fewer mode h))
one_fewer-weighs l mode a one =
    let k = counts_changed l (one_fewer mode) a.held (one_fewer-latch mode) one in
    (k.0, k.1 (λ h. h.s), k.1 (λ h. h.sx), k.1 (λ h. h.x), k.2 weighs)

-- a further X takes off what the count tells
pub more_x_taken : (l : ℕ) (a : Session) → holdings l a ≤ 1 → 0 < claims l a → on l weighs (changed_on l (one_more X) a.held) ≡ reads l a + sx_weight (sx_grants l a) + x_weight (x_grants l a + 1)
more_x_taken l a single has =
    let p = held_by_grant l (λ h. h.sx + h.x) a.held has in
    let k = one_more-weighs l X a (omega arith) in let x = ap (λ (n : ℕ). x_weight (n + 1)) k.3 in let y = ap sx_weight k.2 in omega arith

-- a further SX takes off HALF where it is the first
pub more_sx_taken : (l : ℕ) (a : Session) → holdings l a ≤ 1 → 0 < claims l a → on l weighs (changed_on l (one_more Sx) a.held) ≡ reads l a + sx_weight (sx_grants l a + 1) + x_weight (x_grants l a)
more_sx_taken l a single has =
    let p = held_by_grant l (λ h. h.sx + h.x) a.held has in
    let k = one_more-weighs l Sx a (omega arith) in let x = ap x_weight k.3 in let y = ap (λ (n : ℕ). sx_weight (n + 1)) k.2 in omega arith

-- what stays taken off after one X, or one SX, of several grants is given back
pub fewer_x_taken : (l : ℕ) (a : Session) → holdings l a ≤ 1 → 0 < claims l a → on l weighs (changed_on l (one_fewer X) a.held) ≡ reads l a + sx_weight (sx_grants l a) + x_weight (x_grants l a - 1)
fewer_x_taken l a single has =
    let p = held_by_grant l (λ h. h.sx + h.x) a.held has in
    let k = one_fewer-weighs l X a (omega arith) in let x = ap (λ (n : ℕ). x_weight (n - 1)) k.3 in let y = ap sx_weight k.2 in omega arith

pub fewer_sx_taken : (l : ℕ) (a : Session) → holdings l a ≤ 1 → 0 < claims l a → on l weighs (changed_on l (one_fewer Sx) a.held) ≡ reads l a + sx_weight (sx_grants l a - 1) + x_weight (x_grants l a)
fewer_sx_taken l a single has =
    let p = held_by_grant l (λ h. h.sx + h.x) a.held has in
    let k = one_fewer-weighs l Sx a (omega arith) in let x = ap x_weight k.3 in let y = ap (λ (n : ℕ). sx_weight (n - 1)) k.2 in omega arith
