-- How many grants a session holds by its memo, and that it is idle by an empty one.
use Rattle.std.proofs.Common.{◌≡◌, ◌≢◌, ℕ, ◌+◌, ◌<◌, ◌≤◌, Bool, true, false, cond, not, List, [], ◌∷◌, length, refl, sym, ap, ◌∙◌, subst, arith, inl, inr, eq-eqb, ne_eqb, ltb-true, ltb-false}
use Rattle.std.specs.Prelude.{◌==◌, ◌&&◌, sum_by, count_by, nat_lt, if◌then◌else◌, is_some, Some, None, MatchBool}
use Rattle.std.specs.List.{All, filter}
use Rattle.std.proofs.lemmas.Bool.{cases_lt}
use Rattle.std.proofs.lemmas.List.Elements.{All-head, All-tail}
use Rattle.std.proofs.lemmas.List.Sums.{sum_by-cons}
use mathlib.Core.Logic.{dite}
use native.Mathlib.Decide.{ℕ_discrete}
use Rattle.ib_levels.specs.declared.latch.Latch.{Latch}
use Rattle.ib_levels.specs.declared.level.Mode.{Mode}
use Rattle.ib_levels.specs.declared.level.Mode.TheVariants.{S, Sx, X}
use Rattle.ib_levels.specs.declared.holding.Holding.{Holding}
use Rattle.ib_levels.specs.Holding.{on}
use Rattle.ib_levels.proofs.Counts.{by_equal, on-cons, on-none, part-here, part-away}
use Rattle.ib_core.specs.declared.phase.Phase.TheVariants.{Free}
use Rattle.ib_core.specs.declared.session.Session.{Session}
use Rattle.ib_core.specs.Good.{IsProper}
use Rattle.ib_core.specs.Sessions.{holdings, idle, reads, sx_grants, x_grants}
use Rattle.ib_core.proofs.OnLatch.{counted, held_by_grant}
use Rattle.ib_rule.specs.Conditions.{held_now}
use Rattle.ib_rule.specs.Gauges.{mode_held}
use Rattle.ib_mtr.specs.Memo.{HasExactly, same_mode, times_in_memo}

-- how many grants on the latch a memo has, of any mode
abbrev on_latch : ℕ → List (Latch × Mode) → ℕ
on_latch k memo = count_by (λ g. g.0.0 == k) memo

one_mode : (b : Bool) (m : Mode) → cond (b && same_mode S m) 1 0 + cond (b && same_mode Sx m) 1 0 + cond (b && same_mode X m) 1 0 ≡ cond b 1 0
one_mode true S = refl
one_mode true Sx = refl
one_mode true X = refl
one_mode false m = refl

by_modes : (k : ℕ) (memo : List (Latch × Mode)) → times_in_memo S k memo + times_in_memo Sx k memo + times_in_memo X k memo ≡ on_latch k memo
by_modes k [] = refl
by_modes k (g ∷ memo) =
    let s = sum_by-cons (λ (g : Latch × Mode). cond ((g.0.0 == k) && same_mode S g.1) 1 0) g memo in
    let sx = sum_by-cons (λ (g : Latch × Mode). cond ((g.0.0 == k) && same_mode Sx g.1) 1 0) g memo in
    let x = sum_by-cons (λ (g : Latch × Mode). cond ((g.0.0 == k) && same_mode X g.1) 1 0) g memo in
    let all = sum_by-cons (λ (g : Latch × Mode). cond (g.0.0 == k) 1 0) g memo in
    let one = one_mode (g.0.0 == k) g.1 in let rest = by_modes k memo in omega arith

-- one on the latch, none on another
one_on : (k l : ℕ) → k ≡ l → ◌≡◌ {A = ℕ} (cond (k == l) 1 0) 1
one_on k l e = ap (λ b. cond {A = ℕ} b 1 0) (eq-eqb k l e)

none_on : (k l : ℕ) → k ≢ l → ◌≡◌ {A = ℕ} (cond (k == l) 1 0) 0
none_on k l n = ap (λ b. cond {A = ℕ} b 1 0) (ne_eqb k l n)

-- the memo without the grants on a latch
abbrev others : ℕ → List (Latch × Mode) → List (Latch × Mode)
others l memo = filter (λ g. not (g.0.0 == l)) memo

none_here : (l : ℕ) (memo : List (Latch × Mode)) → on_latch l (others l memo) ≡ 0
none_here l [] = refl
none_here l (g ∷ memo) = by_equal (λ b. on_latch l (cond (not b) (g ∷ others l memo) (others l memo)) ≡ 0) g.0.0 l
    (λ e. none_here l memo)
    (λ n. let c = sum_by-cons (λ (g : Latch × Mode). cond (g.0.0 == l) 1 0) g (others l memo) in let z = none_on g.0.0 l n in let r = none_here l memo in omega arith)

same_away : (l k : ℕ) (memo : List (Latch × Mode)) → k ≢ l → on_latch k (others l memo) ≡ on_latch k memo
same_away l k [] n = refl
same_away l k (g ∷ memo) n =
    let whole = sum_by-cons (λ (g : Latch × Mode). cond (g.0.0 == k) 1 0) g memo in let r = same_away l k memo n in
    by_equal (λ b. on_latch k (cond (not b) (g ∷ others l memo) (others l memo)) ≡ on_latch k (g ∷ memo)) g.0.0 l
    (λ e. let z = none_on g.0.0 k (λ q. n (sym q ∙ e)) in omega arith)
    (λ _. let c = sum_by-cons (λ (g : Latch × Mode). cond (g.0.0 == k) 1 0) g (others l memo) in omega arith)

others_length : (l : ℕ) (memo : List (Latch × Mode)) → length (others l memo) + on_latch l memo ≡ length memo
others_length l [] = refl
others_length l (g ∷ memo) =
    let whole = sum_by-cons (λ (g : Latch × Mode). cond (g.0.0 == l) 1 0) g memo in let r = others_length l memo in
    by_equal (λ b. length (cond (not b) (g ∷ others l memo) (others l memo)) + on_latch l (g ∷ memo) ≡ length (g ∷ memo)) g.0.0 l
    (λ e. let z = one_on g.0.0 l e in omega arith)
    (λ n. let z = none_on g.0.0 l n in omega arith)

-- lists with as many grants on each latch have as many in all
sum_held : (held : List Holding) (memo : List (Latch × Mode)) → ((k : ℕ) → on k (λ h. 1) held ≤ 1) → ((k : ℕ) → on k (λ h. h.s + h.sx + h.x) held ≡ on_latch k memo)
    → sum_by (λ (h : Holding). h.s + h.sx + h.x) held ≡ length memo
sum_held [] [] single same = refl
sum_held [] (g ∷ memo) single same =
    let c = sum_by-cons (λ (h : Latch × Mode). cond (h.0.0 == g.0.0) 1 0) g memo in let z = one_on g.0.0 g.0.0 refl in
    let s = same g.0.0 in absurd (omega arith)
sum_held (h ∷ held) memo single same =
    let l = h.latch.0 in
    let one = on-cons l (λ h. 1) h held in let here = part-here l (λ h. 1) h refl in let few = single l in
    let none = on-none l (λ h. h.s + h.sx + h.x) held (omega arith) in
    let mine = on-cons l (λ h. h.s + h.sx + h.x) h held in let all = part-here l (λ h. h.s + h.sx + h.x) h refl in
    let rest = sum_held held (others l memo)
    (λ k. let c = on-cons k (λ h. 1) h held in let s = single k in omega arith)
    (λ k. dite (ℕ_discrete k l)
    (λ e. subst (λ (k : ℕ). on k (λ h. h.s + h.sx + h.x) held ≡ on_latch k (others l memo)) (sym e) (let z = none_here l memo in omega arith))
    (λ n. let c = on-cons k (λ h. h.s + h.sx + h.x) h held in let p = part-away k (λ h. h.s + h.sx + h.x) h (λ e. n (sym e)) in let s = same k in let a = same_away l k memo n in omega arith)) in
    let whole = sum_by-cons (λ (h : Holding). h.s + h.sx + h.x) h held in let m = same l in let o = others_length l memo in omega arith

-- a latch above all of a memo has none there
none_above : (n k : ℕ) (memo : List (Latch × Mode)) → All (λ g. g.0.0 < n) memo → n ≤ k → on_latch k memo ≡ 0
none_above n k [] known above = refl
none_above n k (g ∷ memo) known above =
    let c = sum_by-cons (λ (g : Latch × Mode). cond (g.0.0 == k) 1 0) g memo in
    let lt = All-head (λ (g : Latch × Mode). g.0.0 < n) g memo known in let z = none_on g.0.0 k (λ e. omega arith) in
    let r = none_above n k memo (All-tail (λ (g : Latch × Mode). g.0.0 < n) g memo known) above in omega arith

module _ (memo : List (Latch × Mode)) (a : Session) (exact : HasExactly memo a) (proper : IsProper a) where
  pub length_held : length memo ≡ held_now a
  length_held = sym (sum_held a.held memo proper.single (λ k.
      let c = counted k a (proper.single k) in let s = exact.counts S k in let sx = exact.counts Sx k in let x = exact.counts X k in
      let b = by_modes k memo in omega arith))

  none_here_held : (k : ℕ) → on_latch k memo ≡ 0 → holdings k a ≡ 0
  none_here_held k none =
      let c = counted k a (proper.single k) in let s = exact.counts S k in let sx = exact.counts Sx k in let x = exact.counts X k in
      let b = by_modes k memo in let solid = proper.solid k in omega arith

  none_held : memo ≡ [] → (k : ℕ) → holdings k a ≡ 0
  none_held none k = none_here_held k (ap (on_latch k) none)

  -- a latch that is held is one of the memo's
  pub held_known : (n k : ℕ) → All (λ g. g.0.0 < n) memo → 0 < holdings k a → k < n
  held_known n k known held = elim (cases_lt k n) [
    | inl below ↦ below
    | inr above ↦ let none = none_here_held k (none_above n k memo known above) in absurd (omega arith)
  ]

  pub idle_by : memo ≡ [] → a.phase ≡ Free → a ≡ idle
  idle_by none free = λ j. record { held = nothing a.held (none_held none) j; phase = free j }
    where
      nothing : (held : List Holding) → ((k : ℕ) → on k (λ h. 1) held ≡ 0) → held ≡ []
      nothing [] is = refl
      nothing (h ∷ held) is = let c = on-cons h.latch.0 (λ h. 1) h held in let p = part-here h.latch.0 (λ h. 1) h refl in let z = is h.latch.0 in absurd (omega arith)

-- the strongest mode that is held, and whether anything is
module _ (l : ℕ) (a : Session) (proper : IsProper a) where
  some_mode : (x sx s : Bool) → nat_lt 0 (x_grants l a) ≡ x → nat_lt 0 (sx_grants l a) ≡ sx → nat_lt 0 (reads l a) ≡ s
      → MatchBool (is_some (if x then Some X else if sx then Some Sx else if s then Some S else None)) (0 < holdings l a) (holdings l a ≡ 0)
  some_mode true sx s is_x is_sx is_s = held_by_grant l (λ h. h.x) a.held (ltb-true 0 (x_grants l a) is_x)
  some_mode false true s is_x is_sx is_s = held_by_grant l (λ h. h.sx) a.held (ltb-true 0 (sx_grants l a) is_sx)
  some_mode false false true is_x is_sx is_s = held_by_grant l (λ h. h.s) a.held (ltb-true 0 (reads l a) is_s)
  some_mode false false false is_x is_sx is_s =
      let c = counted l a (proper.single l) in let solid = proper.solid l in
      let x = ltb-false 0 (x_grants l a) is_x in let sx = ltb-false 0 (sx_grants l a) is_sx in let s = ltb-false 0 (reads l a) is_s in omega arith

  held_by_mode : MatchBool (is_some (mode_held l a)) (0 < holdings l a) (holdings l a ≡ 0)
  held_by_mode = some_mode _ _ _ refl refl refl

  pub some_held : is_some (mode_held l a) ≡ true → 0 < holdings l a
  some_held is = subst (λ b. MatchBool b (0 < holdings l a) (holdings l a ≡ 0)) is held_by_mode

  pub nothing_held : is_some (mode_held l a) ≡ false → holdings l a ≡ 0
  nothing_held is = subst (λ b. MatchBool b (0 < holdings l a) (holdings l a ≡ 0)) is held_by_mode
