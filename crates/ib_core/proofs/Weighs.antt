-- What a proper session takes off the lock word of a latch.
use Rattle.std.proofs.Common.{◌≡◌, ℕ, ◌+◌, ◌<◌, ◌≤◌, ◌-◌, ℤ, pos, ◌+ℤ◌, Bool, true, false, cond, List, ap, ◌∙◌, arith}
use Rattle.ib_word.specs.declared.word.TheConstants.{X_LOCK_DECR, X_LOCK_HALF_DECR}
use Rattle.ib_word.specs.Weight.{sx_weight, x_weight}
use Rattle.ib_word.proofs.Equation.{sx_weight_cases, x_weight_cases}
use Rattle.ib_core.specs.declared.session.Session.{Session}
use Rattle.ib_core.specs.Sessions.{holdings, reads, sx_grants, x_grants, claims, taken}
use Rattle.ib_core.specs.Good.{IsProper}
use Rattle.std.specs.Prelude.{◌==◌, if◌then◌else◌}
use mathlib.Core.Logic.{dite}
use native.Mathlib.Decide.{ℕ_discrete}
use Rattle.ib_levels.specs.declared.level.Mode.TheVariants.{Sx, X}
use Rattle.ib_levels.specs.declared.holding.Holding.{Holding}
use Rattle.ib_levels.specs.Holding.{on, without_latch, changed_on}
use Rattle.ib_levels.proofs.Counts.{on-without, by_equal}
use Rattle.ib_core.specs.Takings.{given_back, one_fewer, one_more}
use Rattle.ib_core.proofs.OnLatch.{counted, weighs, more_x_taken, more_sx_taken, fewer_x_taken, fewer_sx_taken}

-- who reads takes 1 off
pub read_weighs : (l : ℕ) (a : Session) → IsProper a → 0 < reads l a → taken l a ≡ 1
read_weighs l a proper has =
    let c = counted l a (proper.single l) in let none = proper.apart l has in let one = proper.once l in
    let p = sx_weight_cases (sx_grants l a) in let q = x_weight_cases (x_grants l a) in grind arith

-- who claims does not read
pub reads_none : (l : ℕ) (a : Session) → IsProper a → 0 < claims l a → reads l a ≡ 0
reads_none l a proper has = let p = proper.apart l in let one = proper.once l in dite (ℕ_discrete (reads l a) 0) (λ z. z) (λ n. let z : claims l a ≡ 0 = p (omega arith) in absurd (omega arith))

-- what stays taken off after one X, or one SX, is given back
pub back_x_taken : (l : ℕ) (a : Session) → IsProper a → 0 < x_grants l a → on l weighs (given_back X l a) + x_weight (x_grants l a) ≡ taken l a + x_weight (x_grants l a - 1)
back_x_taken l a proper has =
    let c = counted l a (proper.single l) in let none = reads_none l a proper (omega arith) in
    by_equal (λ b. on l weighs (cond b (without_latch l a.held) (changed_on l (one_fewer X) a.held)) + x_weight (x_grants l a) ≡ taken l a + x_weight (x_grants l a - 1)) (claims l a) 1
    (λ last. let gone = on-without l weighs a.held in let p = sx_weight_cases (sx_grants l a) in let q = x_weight_cases (x_grants l a - 1) in grind arith)
    (λ _. let f = fewer_x_taken l a (proper.single l) (omega arith) in omega arith)

pub back_sx_taken : (l : ℕ) (a : Session) → IsProper a → 0 < sx_grants l a → on l weighs (given_back Sx l a) + sx_weight (sx_grants l a) ≡ taken l a + sx_weight (sx_grants l a - 1)
back_sx_taken l a proper has =
    let c = counted l a (proper.single l) in let none = reads_none l a proper (omega arith) in
    by_equal (λ b. on l weighs (cond b (without_latch l a.held) (changed_on l (one_fewer Sx) a.held)) + sx_weight (sx_grants l a) ≡ taken l a + sx_weight (sx_grants l a - 1)) (claims l a) 1
    (λ last. let gone = on-without l weighs a.held in let p = sx_weight_cases (sx_grants l a - 1) in let q = x_weight_cases (x_grants l a) in grind arith)
    (λ _. let f = fewer_sx_taken l a (proper.single l) (omega arith) in omega arith)

-- .. the last SX takes HALF with it, and an earlier one nothing
pub back_last_sx_taken : (l : ℕ) (a : Session) → IsProper a → sx_grants l a ≡ 1 → on l weighs (given_back Sx l a) + X_LOCK_HALF_DECR ≡ taken l a
back_last_sx_taken l a proper last = let b = back_sx_taken l a proper (omega arith) in let p = sx_weight_cases (sx_grants l a) in let q = sx_weight_cases (sx_grants l a - 1) in grind arith

pub back_more_sx_taken : (l : ℕ) (a : Session) → IsProper a → 1 < sx_grants l a → on l weighs (given_back Sx l a) ≡ taken l a
back_more_sx_taken l a proper more = let b = back_sx_taken l a proper (omega arith) in let p = sx_weight_cases (sx_grants l a) in let q = sx_weight_cases (sx_grants l a - 1) in grind arith

-- a further SX of the owner of X takes HALF off where it is the first, and else nothing
pub first_sx_taken : (l : ℕ) (a : Session) → holdings l a ≤ 1 → 0 < claims l a → sx_grants l a ≡ 0 → on l weighs (changed_on l (one_more Sx) a.held) ≡ taken l a + X_LOCK_HALF_DECR
first_sx_taken l a single has none =
    let b = more_sx_taken l a single has in let c = counted l a single in let p = sx_weight_cases (sx_grants l a) in let q = sx_weight_cases (sx_grants l a + 1) in grind arith

pub further_sx_taken : (l : ℕ) (a : Session) → holdings l a ≤ 1 → 0 < claims l a → 0 < sx_grants l a → on l weighs (changed_on l (one_more Sx) a.held) ≡ taken l a
further_sx_taken l a single has some =
    let b = more_sx_taken l a single has in let c = counted l a single in let p = sx_weight_cases (sx_grants l a) in let q = sx_weight_cases (sx_grants l a + 1) in grind arith

-- a first X beside SX takes X_LOCK_DECR off
pub upgrade_taken : (l : ℕ) (a : Session) → holdings l a ≤ 1 → 0 < sx_grants l a → x_grants l a ≡ 0 → on l weighs (changed_on l (one_more X) a.held) ≡ taken l a + X_LOCK_DECR
upgrade_taken l a single has none =
    let c = counted l a single in let b = more_x_taken l a single (omega arith) in let p = x_weight_cases (x_grants l a) in let q = x_weight_cases (x_grants l a + 1) in grind arith

-- the word moves by what the session takes off, where this is held afterwards
pub sum_moves : (l : ℕ) (w : ℤ) (a : Session) (w' : ℤ) (now held : List Holding) → now ≡ held → (w' +ℤ pos (on l weighs held)) ≡ (w +ℤ pos (taken l a)) → (w' +ℤ pos (on l weighs now)) ≡ (w +ℤ pos (taken l a))
sum_moves l w a w' now held is moves = ap (λ (h : List Holding). w' +ℤ pos (on l weighs h)) is ∙ moves

-- a further X takes X_LOCK_DECR off at most
pub again_x_small : (count r : ℕ) → r ≡ (if count == 1 then X_LOCK_DECR else 1) → r ≤ X_LOCK_DECR
again_x_small count r is = is_small (count == 1) is
  where
    is_small : (b : Bool) → r ≡ cond b X_LOCK_DECR 1 → r ≤ X_LOCK_DECR
    is_small true e = omega arith
    is_small false e = omega arith
