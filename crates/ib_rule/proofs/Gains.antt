-- What is held on a latch with a grant more.
use Rattle.std.proofs.Common.{◌≡◌, ℕ, ◌+◌, ◌<◌, ◌≤◌, List, Option, Some, ℤ, refl, arith}
use Rattle.ib_levels.specs.declared.holding.Holding.{Holding}
use Rattle.ib_levels.specs.declared.level.Level.{Level}
use Rattle.ib_levels.specs.declared.level.Mode.{Mode}
use Rattle.ib_levels.specs.declared.level.Mode.TheVariants.{S, Sx, X}
use Rattle.ib_levels.specs.Holding.{on, changed_on}
use Rattle.ib_levels.proofs.Counts.{on_le, on-changed, on-push_here}
use Rattle.ib_core.specs.Debts.{won}
use Rattle.ib_word.specs.Word.{is_drained}
use Rattle.ib_core.specs.Responses.{Response}
use Rattle.ib_core.specs.Takings.{first_holding, first_response, holding_too, one_more, reserving}
use Rattle.ib_core.proofs.Turned.{choose}

module _ (l : ℕ) (held : List Holding) where
  -- a first grant: something is held, and no less of SX and X than before
  pub too_holds : (mode : Mode) (v : Level) → 0 < on l (λ h. 1) (holding_too mode l v held)
  too_holds S v = let e = on-push_here l (λ h. 1) held (first_holding S l v) refl in omega arith
  too_holds Sx v = let e = on-push_here l (λ h. 1) held (first_holding Sx l v) refl in omega arith
  too_holds X v = let e = on-push_here l (λ h. 1) held (first_holding X l v) refl in omega arith

  pub too_claims : (mode : Mode) (v : Level) → on l (λ h. h.sx + h.x) held ≤ on l (λ h. h.sx + h.x) (holding_too mode l v held)
  too_claims S v = let e = on-push_here l (λ h. h.sx + h.x) held (first_holding S l v) refl in omega arith
  too_claims Sx v = let e = on-push_here l (λ h. h.sx + h.x) held (first_holding Sx l v) refl in omega arith
  too_claims X v = let e = on-push_here l (λ h. h.sx + h.x) held (first_holding X l v) refl in omega arith

  -- one more of a mode
  pub more_holds : (mode : Mode) → on l (λ h. 1) (changed_on l (one_more mode) held) ≡ on l (λ h. 1) held
  more_holds S = on-changed l (one_more S) (λ h. 1) held (λ h. refl)
  more_holds Sx = on-changed l (one_more Sx) (λ h. 1) held (λ h. refl)
  more_holds X = on-changed l (one_more X) (λ h. 1) held (λ h. refl)

  pub more_claims : (mode : Mode) → on l (λ h. h.sx + h.x) held ≤ on l (λ h. h.sx + h.x) (changed_on l (one_more mode) held)
  more_claims S = let e = on-changed l (one_more S) (λ h. h.sx + h.x) held (λ h. refl) in let m = on_le l (λ h. h.sx + h.x) (λ h. (one_more S h).sx + (one_more S h).x) held (λ h. omega arith) in omega arith
  more_claims Sx = let e = on-changed l (one_more Sx) (λ h. h.sx + h.x) held (λ h. refl) in let m = on_le l (λ h. h.sx + h.x) (λ h. (one_more Sx h).sx + (one_more Sx h).x) held (λ h. omega arith) in omega arith
  more_claims X = let e = on-changed l (one_more X) (λ h. h.sx + h.x) held (λ h. refl) in let m = on_le l (λ h. h.sx + h.x) (λ h. (one_more X h).sx + (one_more X h).x) held (λ h. omega arith) in omega arith

-- a reservation takes X, whether it is owned at once or not
pub reserving_wins : (l : ℕ) (v : Level) (w : ℤ) (held : List Holding) (o : Option Mode) (mode : Mode) → o ≡ Some mode → won (reserving l v w held).answer o ≡ Some mode
reserving_wins l v w held o mode is = choose (λ (r : Response). won r.answer o ≡ Some mode) (is_drained w) _ _ (λ _. is) (λ _. is)

pub reserving_held : (l : ℕ) (v : Level) (w : ℤ) (held : List Holding) → (reserving l v w held).session.held ≡ held
reserving_held l v w held = choose (λ (r : Response). r.session.held ≡ held) (is_drained w) _ _ (λ _. refl) (λ _. refl)

-- a first grant wins its mode, and holds what it holds
pub first_wins : (mode : Mode) (l : ℕ) (v : Level) (w : ℤ) (held : List Holding) (o : Option Mode) → o ≡ Some mode → won (first_response mode l v w held).answer o ≡ Some mode
first_wins S l v w held o is = is
first_wins Sx l v w held o is = is
first_wins X l v w held o is = reserving_wins l v w held o X is

pub first_held : (mode : Mode) (l : ℕ) (v : Level) (w : ℤ) (held : List Holding) → (first_response mode l v w held).session.held ≡ held
first_held S l v w held = refl
first_held Sx l v w held = refl
first_held X l v w held = reserving_held l v w held
