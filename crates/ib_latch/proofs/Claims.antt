-- What a session has in SX and X on a latch.
use Rattle.std.proofs.Common.{◌≡◌, ◌≢◌, ℕ, ◌+◌, ◌<◌, ◌≤◌, List, [], ◌∷◌, refl, arith}
use Rattle.std.specs.Prelude.{nat_lt, cond}
use Rattle.ib_levels.specs.declared.holding.Holding.{Holding}
use Rattle.ib_levels.specs.declared.level.Level.{Level}
use Rattle.ib_levels.specs.declared.level.Mode.{Mode}
use Rattle.ib_levels.specs.declared.level.Mode.TheVariants.{S, Sx, X}
use Rattle.ib_levels.specs.Holding.{on, changed_on}
use Rattle.ib_levels.proofs.Counts.{by_equal, on-cons, on-changed, on-push_here, part, on_le}
use Rattle.ib_core.specs.declared.session.Session.{Session}
use Rattle.ib_core.specs.Sessions.{claims, sx_grants, x_grants}
use Rattle.ib_core.specs.Takings.{first_holding, one_more, holding_too}
use Rattle.ib_core.proofs.NumberTests.{if_true, if_false, lt_none, lt_some}
use Rattle.ib_latch.specs.Tries.{held_with}

-- of SX and of X together
sum_on : (l : ℕ) (held : List Holding) → on l (λ h. h.sx + h.x) held ≡ on l (λ h. h.sx) held + on l (λ h. h.x) held
sum_on l [] = refl
sum_on l (h ∷ held) =
    let a = on-cons l (λ h. h.sx + h.x) h held in let b = on-cons l (λ h. h.sx) h held in let c = on-cons l (λ h. h.x) h held in
    let d = sum_on l held in
    let e : part l (λ h. h.sx + h.x) h ≡ part l (λ h. h.sx) h + part l (λ h. h.x) h =
    by_equal (λ t. cond t (h.sx + h.x) 0 ≡ cond t h.sx 0 + cond t h.x 0) h.latch.0 l (λ _. refl) (λ _. refl) in omega arith

pub claims_are : (l : ℕ) (a : Session) → claims l a ≡ sx_grants l a + x_grants l a
claims_are l a = sum_on l a.held

-- one more grant leaves no fewer of SX and X
pub claims_kept : (mode : Mode) (l : ℕ) (held : List Holding) → on l (λ h. h.sx + h.x) held ≤ on l (λ h. h.sx + h.x) (changed_on l (one_more mode) held)
claims_kept S l held = let e = on-changed l (one_more S) (λ h. h.sx + h.x) held (λ h. refl) in let m = on_le l (λ h. h.sx + h.x) (λ h. (one_more S h).sx + (one_more S h).x) held (λ h. omega arith) in omega arith
claims_kept Sx l held = let e = on-changed l (one_more Sx) (λ h. h.sx + h.x) held (λ h. refl) in let m = on_le l (λ h. h.sx + h.x) (λ h. (one_more Sx h).sx + (one_more Sx h).x) held (λ h. omega arith) in omega arith
claims_kept X l held = let e = on-changed l (one_more X) (λ h. h.sx + h.x) held (λ h. refl) in let m = on_le l (λ h. h.sx + h.x) (λ h. (one_more X h).sx + (one_more X h).x) held (λ h. omega arith) in omega arith

-- what is held with one more grant, by whether there were any
pub held_more : (mode : Mode) (l : ℕ) (v : Level) (a : Session) → 0 < claims l a → held_with mode l v a ≡ changed_on l (one_more mode) a.held
held_more mode l v a some = if_true (nat_lt 0 (claims l a)) _ _ (lt_some _ some)

pub held_first : (mode : Mode) (l : ℕ) (v : Level) (a : Session) → claims l a ≡ 0 → held_with mode l v a ≡ holding_too mode l v a.held
held_first mode l v a none = if_false (nat_lt 0 (claims l a)) _ _ (lt_none _ none)

-- a first grant of SX or X is one
pub claims_first : (mode : Mode) (l : ℕ) (v : Level) (held : List Holding) → mode ≢ S → 0 < on l (λ h. h.sx + h.x) (holding_too mode l v held)
claims_first S l v held other = absurd (other refl)
claims_first Sx l v held other = let e = on-push_here l (λ h. h.sx + h.x) held (first_holding Sx l v) refl in omega arith
claims_first X l v held other = let e = on-push_here l (λ h. h.sx + h.x) held (first_holding X l v) refl in omega arith
