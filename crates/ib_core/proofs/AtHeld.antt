-- The one holding on a latch, by its place in the list.
use Rattle.std.proofs.Common.{◌≡◌, ℕ, zero, suc, ◌+◌, ◌<◌, ◌≤◌, Bool, true, false, cond, not, List, [], ◌∷◌, ◌++◌, length, take, drop, get_or, Some, None, refl, ap, sym, arith}
use Rattle.std.specs.Prelude.{◌==◌, nat_lt, position}
use Rattle.std.specs.List.{position_or_len}
use Rattle.std.proofs.lemmas.List.Quantifiers.{position-Some}
use Rattle.std.proofs.lemmas.Bool.Decides.{nat_tests}
use mathlib.Core.Logic.{dite}
use native.Mathlib.Decide.{ℕ_discrete}
use Rattle.ib_levels.specs.declared.holding.Holding.{Holding}
use Rattle.ib_levels.specs.Holding.{on, without_latch}
use Rattle.ib_levels.proofs.Counts.{on-cons, on-none, part-here, part-away, by_equal}
use Rattle.ib_core.specs.HeldAt.{IsHeldAt}

-- the list stays where nothing of it is on the latch
all_stay : (l : ℕ) (held : List Holding) → on l (λ h. 1) held ≡ 0 → without_latch l held ≡ held
all_stay l [] none = refl
all_stay l (h ∷ held) none =
    let a = on-cons l (λ h. 1) h held in
    by_equal (λ t. cond (not t) (h ∷ without_latch l held) (without_latch l held) ≡ h ∷ held) h.latch.0 l
    (λ e. let p = part-here l (λ h. 1) h e in absurd (omega arith))
    (λ n. ap (λ (hs : List Holding). h ∷ hs) (all_stay l held (omega arith)))

-- a holding on the latch is held there
held_at : (l : ℕ) (held : List Holding) (i : ℕ) (d : Holding) → i < length held → (get_or held i d).latch.0 ≡ l → 0 < on l (λ h. 1) held
held_at l [] i d within here = absurd (omega arith)
held_at l (h ∷ held) zero d within here = let a = on-cons l (λ h. 1) h held in let p = part-here l (λ h. 1) h here in omega arith
held_at l (h ∷ held) (suc i) d within here = let a = on-cons l (λ h. 1) h held in let p = held_at l held i d (omega arith) here in omega arith

-- the list without the one holding on the latch
gone : (l : ℕ) (held : List Holding) (i : ℕ) (d : Holding) → i < length held → (get_or held i d).latch.0 ≡ l → on l (λ h. 1) held ≤ 1 → take i held ++ drop (suc i) held ≡ without_latch l held
gone l [] i d within here single = absurd (omega arith)
gone l (h ∷ held) zero d within here single =
    let a = on-cons l (λ h. 1) h held in
    by_equal (λ t. held ≡ cond (not t) (h ∷ without_latch l held) (without_latch l held)) h.latch.0 l
    (λ e. let p = part-here l (λ h. 1) h e in sym (all_stay l held (omega arith)))
    (λ n. absurd (n here))
gone l (h ∷ held) (suc i) d within here single =
    let a = on-cons l (λ h. 1) h held in let more = held_at l held i d (omega arith) here in
    by_equal (λ t. h ∷ (take i held ++ drop (suc i) held) ≡ cond (not t) (h ∷ without_latch l held) (without_latch l held)) h.latch.0 l
    (λ e. let p = part-here l (λ h. 1) h e in absurd (omega arith))
    (λ n. let p = part-away l (λ h. 1) h n in ap (λ (hs : List Holding). h ∷ hs) (gone l held i d (omega arith) here (omega arith)))

-- .. which counts for all that is held there
counts_at : (l : ℕ) (f : Holding → ℕ) (held : List Holding) (i : ℕ) (d : Holding) → i < length held → (get_or held i d).latch.0 ≡ l → on l (λ h. 1) held ≤ 1 → on l f held ≡ f (get_or held i d)
counts_at l f [] i d within here single = absurd (omega arith)
counts_at l f (h ∷ held) zero d within here single =
    let a = on-cons l f h held in let p = part-here l f h here in let b = on-cons l (λ h. 1) h held in let q = part-here l (λ h. 1) h here in
    let none = on-none l f held (omega arith) in omega arith
counts_at l f (h ∷ held) (suc i) d within here single =
    let a = on-cons l f h held in let b = on-cons l (λ h. 1) h held in let more = held_at l held i d (omega arith) here in
    dite (ℕ_discrete h.latch.0 l)
    (λ e. let p = part-here l (λ h. 1) h e in absurd (omega arith))
    (λ n. let p = part-away l f h n in let q = part-away l (λ h. 1) h n in let c = counts_at l f held i d (omega arith) here (omega arith) in omega arith)

-- where no place is found there is nothing
no_place : (l : ℕ) (f : Holding → ℕ) (held : List Holding) → length held ≤ position_or_len (λ h. h.latch.0 == l) held → on l f held ≡ 0
no_place l f [] past = refl
no_place l f (h ∷ held) past =
    by_equal (λ t. suc (length held) ≤ cond (not t) (1 + position_or_len (λ h. h.latch.0 == l) held) 0 → on l f (h ∷ held) ≡ 0) h.latch.0 l
    (λ e past. absurd (omega arith))
    (λ n past. let a = on-cons l f h held in let p = part-away l f h n in let rest = no_place l f held (omega arith) in omega arith)
    past

past_none : (b : Bool) (a n : ℕ) → nat_lt a n ≡ b → cond b (Some a) None ≡ None → n ≤ a
past_none true a n e is = absurd (cc)
past_none false a n e is = grind (arith, nat_tests)

pub on-none_held : (l : ℕ) (f : Holding → ℕ) (held : List Holding) → position (λ h. h.latch.0 == l) held ≡ None → on l f held ≡ 0
on-none_held l f held is = no_place l f held (past_none (nat_lt (position_or_len (λ h. h.latch.0 == l) held) (length held)) (position_or_len (λ h. h.latch.0 == l) held) (length held) refl is)

-- the place that is found is that of a holding on the latch
pub is_held_at : (l : ℕ) (held : List Holding) (i : ℕ) → position (λ h. h.latch.0 == l) held ≡ Some i → i < length held → IsHeldAt l i held
is_held_at l held i is within = record {
  within = within;
  here = λ d. let p = position-Some (λ (h : Holding). h.latch.0 == l) held i d is in let q = p.1 in grind (arith, nat_tests);
}

pub on-held_at : (l : ℕ) (f : Holding → ℕ) (held : List Holding) (i : ℕ) (d : Holding) → IsHeldAt l i held → on l (λ h. 1) held ≤ 1 → on l f held ≡ f (get_or held i d)
on-held_at l f held i d index single = counts_at l f held i d index.within (index.here d) single

pub gone_at : (l : ℕ) (held : List Holding) (i : ℕ) (d : Holding) → IsHeldAt l i held → on l (λ h. 1) held ≤ 1 → take i held ++ drop (suc i) held ≡ without_latch l held
gone_at l held i d index single = gone l held i d index.within (index.here d) single
