-- The response to each taking, from the conditions of its session.
use Rattle.std.proofs.Common.{◌≡◌, ℕ, ◌+◌, ◌<◌, Bool, true, false, ℤ, pos, ◌-ℤ◌, List, Option, ap, ◌∙◌, refl, arith}
use Rattle.std.specs.Prelude.{nat_lt}
use Rattle.ib_word.specs.declared.word.TheConstants.{X_LOCK_DECR}
use Rattle.ib_levels.specs.declared.level.Level.{Level}
use Rattle.ib_levels.specs.declared.level.Mode.{Mode}
use Rattle.ib_levels.specs.declared.level.Mode.TheVariants.{S, Sx, X}
use Rattle.ib_levels.specs.declared.holding.Holding.{Holding}
use Rattle.ib_levels.specs.Listed.{answer_to, refused_by}
use Rattle.ib_levels.specs.Level.{MayFollowAll}
use Rattle.ib_levels.specs.Holding.{on, is_held, levels_of, changed_on}
use Rattle.ib_levels.proofs.Counts.{unheld_from_none, none_from_unheld, on-none}
use Rattle.ib_levels.proofs.Orderly.{none_from_may}
use Rattle.ib_core.specs.declared.phase.Phase.TheVariants.{Free}
use Rattle.ib_core.specs.declared.event.Answer.TheVariants.{Granted}
use Rattle.ib_core.specs.declared.session.Session.{Session}
use Rattle.ib_core.specs.declared.session.Marks.{Marks}
use Rattle.ib_core.specs.Sessions.{reads, claims, sx_grants, x_grants, holdings}
use Rattle.ib_core.specs.Good.{IsProper}
use Rattle.ib_core.specs.Takings.{first, wish, if_allowed, reserving, level_on, taking_s, taking_sx, taking_x, one_more}
use Rattle.ib_core.specs.Responses.{Response, response, is_above_0}
use Rattle.ib_core.specs.Table.{response_of}
use Rattle.ib_core.proofs.NumberTests.{if_true, if_false, lt_none, lt_some}
use Rattle.ib_core.proofs.OnLatch.{counted, held_by_grant}
use Rattle.ib_core.proofs.Phased.{with_phase}
use Rattle.ib_core.proofs.Weighs.{reads_none}

-- a session in the middle of nothing
pub at_free : (a : Session) → a.phase ≡ Free → a ≡ with_phase Free a.held
at_free a free = λ j. record { held = a.held; phase = free j }

-- the order of levels allows it, or the latch is held already
pub allowed_new : (l : ℕ) (v : Level) (a : Session) (r : Response) → is_held l a.held ≡ false → MayFollowAll v (levels_of a.held) → if_allowed (answer_to (is_held l a.held) v (levels_of a.held)) a r ≡ r
allowed_new l v a r unheld may = ap (λ b. if_allowed (answer_to b v (levels_of a.held)) a r) unheld ∙ ap (λ (o : Option Level). if_allowed (refused_by v o) a r) (none_from_may v (levels_of a.held) may)

held_is : (l : ℕ) (held : List Holding) → 0 < on l (λ h. 1) held → is_held l held ≡ true
held_is l held some = by_test (is_held l held) refl
  where
    by_test : (b : Bool) → is_held l held ≡ b → b ≡ true
    by_test true e = refl
    by_test false e = let z = none_from_unheld l held e in absurd (omega arith)

allowed_held : (l : ℕ) (v : Level) (a : Session) (r : Response) → 0 < holdings l a → if_allowed (answer_to (is_held l a.held) v (levels_of a.held)) a r ≡ r
allowed_held l v a r some = ap (λ b. if_allowed (answer_to b v (levels_of a.held)) a r) (held_is l a.held some)

module _ (l : ℕ) (held : List Holding) (w : ℤ) where
  none_of : (f : Holding → ℕ) → holdings l (with_phase Free held) ≡ 0 → on l f held ≡ 0
  none_of f none = on-none l f held none

  -- a first wish
  s_first : (v : Level) → holdings l (with_phase Free held) ≡ 0 → MayFollowAll v (levels_of held) → taking_s l v w (with_phase Free held) ≡ first S l v Free w held
  s_first v none may = let unheld = unheld_from_none l held none in if_false (is_held l held) _ _ unheld ∙ allowed_new l v (with_phase Free held) _ unheld may

  sx_first : (v : Level) → holdings l (with_phase Free held) ≡ 0 → MayFollowAll v (levels_of held) → taking_sx l v w (with_phase Free held) ≡ first Sx l v Free w held
  sx_first v none may =
      let unheld = unheld_from_none l held none in
      if_false (nat_lt 0 (reads l (with_phase Free held))) _ _ (lt_none _ (none_of (λ h. h.s) none)) ∙ (allowed_new l v (with_phase Free held) _ unheld may ∙
      if_false (nat_lt 0 (claims l (with_phase Free held))) _ _ (lt_none _ (none_of (λ h. h.sx + h.x) none)))

  x_first : (v : Level) → holdings l (with_phase Free held) ≡ 0 → MayFollowAll v (levels_of held) → taking_x l v w (with_phase Free held) ≡ first X l v Free w held
  x_first v none may =
      let unheld = unheld_from_none l held none in
      if_false (nat_lt 0 (reads l (with_phase Free held))) _ _ (lt_none _ (none_of (λ h. h.s) none)) ∙ (allowed_new l v (with_phase Free held) _ unheld may ∙
      (if_false (nat_lt 0 (x_grants l (with_phase Free held))) _ _ (lt_none _ (none_of (λ h. h.x) none)) ∙
      if_false (nat_lt 0 (sx_grants l (with_phase Free held))) _ _ (lt_none _ (none_of (λ h. h.sx) none))))

  pub first_wish : (m : Marks) (mode : Mode) (v : Level) → holdings l (with_phase Free held) ≡ 0 → MayFollowAll v (levels_of held)
      → response_of w m (wish mode l v) (with_phase Free held) ≡ first mode l v Free w held
  first_wish m S v none may = s_first v none may
  first_wish m Sx v none may = sx_first v none may
  first_wish m X v none may = x_first v none may

  module _ (proper : IsProper (with_phase Free held)) where
    unread : 0 < claims l (with_phase Free held) → nat_lt 0 (reads l (with_phase Free held)) ≡ false
    unread has = lt_none (reads l (with_phase Free held)) (reads_none l (with_phase Free held) proper has)

    held_by : 0 < claims l (with_phase Free held) → 0 < holdings l (with_phase Free held)
    held_by has = held_by_grant l (λ h. h.sx + h.x) held has

    -- a further SX, a further X, and X beside SX
    pub sx_further : (v : Level) → 0 < claims l (with_phase Free held) → taking_sx l v w (with_phase Free held) ≡ response Granted (changed_on l (one_more Sx) held) Free
    sx_further v has = if_false (nat_lt 0 (reads l (with_phase Free held))) _ _ (unread has) ∙ (allowed_held l v (with_phase Free held) _ (held_by has) ∙ if_true (nat_lt 0 (claims l (with_phase Free held))) _ _ (lt_some _ has))

    pub x_further : (v : Level) → 0 < x_grants l (with_phase Free held) → taking_x l v w (with_phase Free held) ≡ response Granted (changed_on l (one_more X) held) Free
    x_further v has =
        let c = counted l (with_phase Free held) (proper.single l) in let claim : 0 < claims l (with_phase Free held) = omega arith in
        if_false (nat_lt 0 (reads l (with_phase Free held))) _ _ (unread claim) ∙ (allowed_held l v (with_phase Free held) _ (held_by claim) ∙ if_true (nat_lt 0 (x_grants l (with_phase Free held))) _ _ (lt_some _ has))

    pub x_upgrade : (v : Level) → 0 < sx_grants l (with_phase Free held) → x_grants l (with_phase Free held) ≡ 0 → is_above_0 w ≡ true
        → taking_x l v w (with_phase Free held) ≡ reserving l (level_on l v held) (w -ℤ pos X_LOCK_DECR) (changed_on l (one_more X) held)
    x_upgrade v has no_x up =
        let c = counted l (with_phase Free held) (proper.single l) in let claim : 0 < claims l (with_phase Free held) = omega arith in
        if_false (nat_lt 0 (reads l (with_phase Free held))) _ _ (unread claim) ∙ (allowed_held l v (with_phase Free held) _ (held_by claim) ∙
        (if_false (nat_lt 0 (x_grants l (with_phase Free held))) _ _ (lt_none _ no_x) ∙ (if_true (nat_lt 0 (sx_grants l (with_phase Free held))) _ _ (lt_some _ has) ∙ if_true (is_above_0 w) _ _ up)))
