-- What is held on a latch, when a holding is added, changed or taken away.
use Rattle.std.proofs.Common.{◌≡◌, ◌≢◌, ℕ, ◌+◌, ◌≤◌, Bool, true, false, cond, not, eq-eqb, ne_eqb, List, [], ◌∷◌, ◌++◌, refl, sym, ◌∙◌, subst, arith}
use Rattle.std.specs.Prelude.{◌==◌}
use Rattle.std.proofs.lemmas.List.Sums.{sum_by-cons, sum_by_push}
use mathlib.Core.Logic.{dite}
use native.Mathlib.Decide.{ℕ_discrete}
use Rattle.ib_levels.specs.declared.holding.Holding.{Holding}
use Rattle.ib_levels.specs.Holding.{is_held, on, without_latch, changed_on}

-- a test of two numbers, by cases
pub by_equal : (P : Bool → Type 0) (a b : ℕ) → (a ≡ b → P true) → (a ≢ b → P false) → P (a == b)
by_equal P a b same other = dite (ℕ_discrete a b) (λ e. subst P (sym (eq-eqb a b e)) (same e)) (λ n. subst P (sym (ne_eqb a b n)) (other n))

-- f of one holding where it is on the latch, and else 0
abbrev pub part : ℕ → (Holding → ℕ) → Holding → ℕ
part l f h = cond (h.latch.0 == l) (f h) 0

pub part-here : (l : ℕ) (f : Holding → ℕ) (h : Holding) → h.latch.0 ≡ l → part l f h ≡ f h
part-here l f h e = rw (eq-eqb h.latch.0 l e) refl

pub part-away : (l : ℕ) (f : Holding → ℕ) (h : Holding) → h.latch.0 ≢ l → part l f h ≡ 0
part-away l f h n = rw (ne_eqb h.latch.0 l n) refl

pub on-cons : (l : ℕ) (f : Holding → ℕ) (h : Holding) (held : List Holding) → on l f (h ∷ held) ≡ part l f h + on l f held
on-cons l f h held = sum_by-cons (part l f) h held

pub on-push : (l : ℕ) (f : Holding → ℕ) (held : List Holding) (h : Holding) → on l f (held ++ h ∷ []) ≡ on l f held + part l f h
on-push l f held h = sum_by_push (part l f) held h

-- a new holding adds to its own latch ..
pub on-push_here : (l : ℕ) (f : Holding → ℕ) (held : List Holding) (h : Holding) → h.latch.0 ≡ l → on l f (held ++ h ∷ []) ≡ on l f held + f h
on-push_here l f held h e = let a = on-push l f held h in let b = part-here l f h e in omega arith

-- .. and to no other
pub on-push_away : (l : ℕ) (f : Holding → ℕ) (held : List Holding) (h : Holding) → h.latch.0 ≢ l → on l f (held ++ h ∷ []) ≡ on l f held
on-push_away l f held h n = let a = on-push l f held h in let b = part-away l f h n in omega arith

-- after its holding is gone there is nothing on the latch ..
pub on-without : (l : ℕ) (f : Holding → ℕ) (held : List Holding) → on l f (without_latch l held) ≡ 0
on-without l f [] = refl
on-without l f (h ∷ held) = by_equal (λ b. on l f (cond (not b) (h ∷ without_latch l held) (without_latch l held)) ≡ 0) h.latch.0 l
    (λ e. on-without l f held)
    (λ n. let a = on-cons l f h (without_latch l held) in let b = part-away l f h n in let c = on-without l f held in omega arith)

-- .. and on any other what there was
pub on-without_away : (l k : ℕ) (f : Holding → ℕ) (held : List Holding) → l ≢ k → on k f (without_latch l held) ≡ on k f held
on-without_away l k f [] n = refl
on-without_away l k f (h ∷ held) n = by_equal (λ b. on k f (cond (not b) (h ∷ without_latch l held) (without_latch l held)) ≡ on k f (h ∷ held)) h.latch.0 l
    (λ e. let a = on-cons k f h held in let b = part-away k f h (λ q. n (sym e ∙ q)) in let c = on-without_away l k f held n in omega arith)
    (λ _. let a = on-cons k f h (without_latch l held) in let b = on-cons k f h held in let c = on-without_away l k f held n in omega arith)

-- a change that keeps latches tells on its own latch ..
pub on-changed : (l : ℕ) (f : Holding → Holding) (g : Holding → ℕ) (held : List Holding) → ((h : Holding) → (f h).latch.0 ≡ h.latch.0)
    → on l g (changed_on l f held) ≡ on l (λ h. g (f h)) held
on-changed l f g [] keeps = refl
on-changed l f g (h ∷ held) keeps = by_equal (λ b. on l g (cond b (f h) h ∷ changed_on l f held) ≡ on l (λ h. g (f h)) (h ∷ held)) h.latch.0 l
    (λ e. let a = on-cons l g (f h) (changed_on l f held) in let b = part-here l g (f h) (keeps h ∙ e) in
    let c = on-cons l (λ h. g (f h)) h held in let d = part-here l (λ h. g (f h)) h e in let i = on-changed l f g held keeps in omega arith)
    (λ n. let a = on-cons l g h (changed_on l f held) in let b = part-away l g h n in
    let c = on-cons l (λ h. g (f h)) h held in let d = part-away l (λ h. g (f h)) h n in let i = on-changed l f g held keeps in omega arith)

-- .. and on no other
pub on-changed_away : (l k : ℕ) (f : Holding → Holding) (g : Holding → ℕ) (held : List Holding) → ((h : Holding) → (f h).latch.0 ≡ h.latch.0) → l ≢ k
    → on k g (changed_on l f held) ≡ on k g held
on-changed_away l k f g [] keeps n = refl
on-changed_away l k f g (h ∷ held) keeps n = by_equal (λ b. on k g (cond b (f h) h ∷ changed_on l f held) ≡ on k g (h ∷ held)) h.latch.0 l
    (λ e. let a = on-cons k g (f h) (changed_on l f held) in let b = part-away k g (f h) (λ q. n (sym (keeps h ∙ e) ∙ q)) in
    let c = on-cons k g h held in let d = part-away k g h (λ q. n (sym e ∙ q)) in let i = on-changed_away l k f g held keeps n in omega arith)
    (λ _. let a = on-cons k g h (changed_on l f held) in let c = on-cons k g h held in let i = on-changed_away l k f g held keeps n in omega arith)

-- one count is at most another
pub on_le : (l : ℕ) (f g : Holding → ℕ) (held : List Holding) → ((h : Holding) → f h ≤ g h) → on l f held ≤ on l g held
on_le l f g [] m = omega arith
on_le l f g (h ∷ held) m =
    let a = on-cons l f h held in let b = on-cons l g h held in let c = on_le l f g held m in
    let d : part l f h ≤ part l g h = by_equal (λ b. cond b (f h) 0 ≤ cond b (g h) 0) h.latch.0 l (λ _. m h) (λ _. omega arith) in omega arith

-- a sum of counts
pub on-add : (l : ℕ) (f g : Holding → ℕ) (held : List Holding) → on l (λ h. f h + g h) held ≡ on l f held + on l g held
on-add l f g [] = refl
on-add l f g (h ∷ held) =
    let a = on-cons l f h held in let b = on-cons l g h held in let c = on-cons l (λ h. f h + g h) h held in let d = on-add l f g held in
    let e : part l (λ h. f h + g h) h ≡ part l f h + part l g h =
    by_equal (λ b. cond b (f h + g h) 0 ≡ cond b (f h) 0 + cond b (g h) 0) h.latch.0 l (λ _. refl) (λ _. refl) in omega arith

-- where no holding is on the latch, nothing is
pub on-none : (l : ℕ) (f : Holding → ℕ) (held : List Holding) → on l (λ h. 1) held ≡ 0 → on l f held ≡ 0
on-none l f [] none = refl
on-none l f (h ∷ held) none =
    let a = on-cons l f h held in let b = on-cons l (λ h. 1) h held in
    dite (ℕ_discrete h.latch.0 l)
    (λ e. let p = part-here l (λ h. 1) h e in absurd (omega arith))
    (λ n. let p = part-away l f h n in let c = on-none l f held (omega arith) in omega arith)

-- a latch is held exactly where some holding is on it
pub none_from_unheld : (l : ℕ) (held : List Holding) → is_held l held ≡ false → on l (λ h. 1) held ≡ 0
none_from_unheld l [] unheld = refl
none_from_unheld l (h ∷ held) unheld =
    let a = on-cons l (λ h. 1) h held in
    dite (ℕ_discrete h.latch.0 l)
    (λ e. let t = eq-eqb h.latch.0 l e in absurd (cc))
    (λ n. let p = part-away l (λ h. 1) h n in let c = none_from_unheld l held (rw (ne_eqb h.latch.0 l n) at unheld) in omega arith)

pub unheld_from_none : (l : ℕ) (held : List Holding) → on l (λ h. 1) held ≡ 0 → is_held l held ≡ false
unheld_from_none l [] none = refl
unheld_from_none l (h ∷ held) none =
    let a = on-cons l (λ h. 1) h held in
    dite (ℕ_discrete h.latch.0 l)
    (λ e. let p = part-here l (λ h. 1) h e in absurd (omega arith))
    (λ n. let p = part-away l (λ h. 1) h n in let c = unheld_from_none l held (omega arith) in rw (ne_eqb h.latch.0 l n) c)
