-- The response to each taking and release.
use Rattle.std.proofs.Common.{◌≡◌, ℕ, ◌<◌, ℤ, pos, ◌+ℤ◌, ◌-ℤ◌, Bool, true, false, subst, ap, ◌∙◌, arith, eq-eqb, ne_eqb}
use Rattle.std.specs.Prelude.{◌==◌, nat_lt, if◌then◌else◌}
use Rattle.ib_word.specs.declared.word.TheConstants.{X_LOCK_DECR}
use Rattle.ib_levels.specs.declared.level.Level.{Level}
use Rattle.ib_levels.specs.declared.level.Mode.{Mode}
use Rattle.ib_levels.specs.declared.level.Mode.TheVariants.{Sx, X}
use Rattle.ib_levels.specs.Holding.{changed_on, without_latch}
use Rattle.ib_core.specs.declared.phase.Phase.TheVariants.{Free, Flagged, OwesLook}
use Rattle.ib_core.specs.declared.event.Event.{Event}
use Rattle.ib_core.specs.declared.event.Event.TheVariants.{Again, Us, Usx, Ux}
use Rattle.ib_core.specs.declared.event.Answer.TheVariants.{Granted, Released}
use Rattle.ib_core.specs.declared.session.Session.{Session}
use Rattle.ib_core.specs.declared.session.Marks.{Marks}
use Rattle.ib_core.specs.Sessions.{reads, claims, sx_grants, x_grants}
use Rattle.ib_core.specs.Good.{IsProper}
use Rattle.ib_core.specs.Holders.{CanWish}
use Rattle.ib_core.specs.Responses.{Response, response, is_above_0}
use Rattle.ib_core.specs.Takings.{first_response, first_weight, given_back, holding_too, is_given_at, level_on, one_fewer, one_more, owed_by_s, owed_where, reserving, wish}
use Rattle.ib_core.specs.Table.{response_of}
use Rattle.ib_core.proofs.NumberTests.{if_true, lt_some}
use Rattle.ib_core.proofs.OnLatch.{counted}
use Rattle.ib_core.proofs.Phased.{with_phase}
use Rattle.ib_core.proofs.Weighed.{flagged_response}
use Rattle.ib_core.proofs.Wishes.{at_free, first_wish, sx_further, x_further, x_upgrade}

module _ (w : ℤ) (m : Marks) (l : ℕ) (a : Session) where
  -- of a session in the middle of nothing
  in_free : a.phase ≡ Free → (e : Event) (r : Response) → response_of w m e (with_phase Free a.held) ≡ r → response_of w m e a ≡ r
  in_free free e r is = ap (λ (a : Session). response_of w m e a) (at_free a free) ∙ is

  pub after_first : (mode : Mode) (v : Level) → CanWish l v a → is_given_at mode w ≡ true
      → response_of w m (wish mode l v) a ≡ first_response mode l v (w -ℤ pos (first_weight mode)) (holding_too mode l v a.held)
  after_first mode v can given = in_free can.free (wish mode l v) _ (first_wish l a.held w m mode v can.none can.allowed ∙ if_true (is_given_at mode w) _ _ given)

  pub after_again : (mode : Mode) (v : Level) (g : ℕ) → a.phase ≡ Flagged l mode v g → is_given_at mode w ≡ true
      → response_of w m (Again l) a ≡ first_response mode l v (w -ℤ pos (first_weight mode)) (holding_too mode l v a.held)
  after_again mode v g is given = flagged_response w m l a mode v g is ∙ if_true (is_given_at mode w) _ _ given

  pub after_s_back : a.phase ≡ Free → 0 < reads l a → response_of w m (Us l) a ≡ response Released (without_latch l a.held) (owed_by_s l (w +ℤ pos 1))
  after_s_back free has = in_free free (Us l) _ (if_true (nat_lt 0 (reads l a)) _ _ (lt_some _ has))

  module _ (proper : IsProper a) (free : a.phase ≡ Free) where
    as_free : IsProper (with_phase Free a.held)
    as_free = subst IsProper (at_free a free) proper

    pub after_upgrade : (v : Level) → 0 < sx_grants l a → x_grants l a ≡ 0 → is_above_0 w ≡ true
        → response_of w m (wish X l v) a ≡ reserving l (level_on l v a.held) (w -ℤ pos X_LOCK_DECR) (changed_on l (one_more X) a.held)
    after_upgrade v has no_x up = in_free free (wish X l v) _ (x_upgrade l a.held w as_free v has no_x up)

    pub after_further_x : (v : Level) → 0 < x_grants l a → response_of w m (wish X l v) a ≡ response Granted (changed_on l (one_more X) a.held) Free
    after_further_x v has = in_free free (wish X l v) _ (x_further l a.held w as_free v has)

    pub after_further_sx : (v : Level) → 0 < claims l a → response_of w m (wish Sx l v) a ≡ response Granted (changed_on l (one_more Sx) a.held) Free
    after_further_sx v has = in_free free (wish Sx l v) _ (sx_further l a.held w as_free v has)

    sx_given : 0 < sx_grants l a → response_of w m (Usx l) a ≡ response Released (given_back Sx l a) (owed_where (claims l a == 1) l)
    sx_given has = in_free free (Usx l) _ (if_true (nat_lt 0 (sx_grants l a)) _ _ (lt_some _ has))

    x_given : 0 < x_grants l a → response_of w m (Ux l) a ≡ response Released (given_back X l a) (owed_where (x_grants l a == 1) l)
    x_given has = in_free free (Ux l) _ (if_true (nat_lt 0 (x_grants l a)) _ _ (lt_some _ has))

    pub after_last_sx_back : sx_grants l a ≡ 1 → x_grants l a ≡ 0 → response_of w m (Usx l) a ≡ response Released (without_latch l a.held) (OwesLook l)
    after_last_sx_back sx x =
        let c = counted l a (proper.single l) in let one : claims l a ≡ 1 = omega arith in
        sx_given (omega arith) ∙ ap (λ b. response Released (if b then without_latch l a.held else changed_on l (one_fewer Sx) a.held) (owed_where b l)) (eq-eqb (claims l a) 1 one)

    pub after_sx_back : 0 < sx_grants l a → 1 < claims l a → response_of w m (Usx l) a ≡ response Released (changed_on l (one_fewer Sx) a.held) Free
    after_sx_back sx more =
        sx_given sx ∙ ap (λ b. response Released (if b then without_latch l a.held else changed_on l (one_fewer Sx) a.held) (owed_where b l)) (ne_eqb (claims l a) 1 (λ e. omega arith))

    -- an X by whether it is the last grant on the latch, and the last X
    x_given_by : (gone last : Bool) → 0 < x_grants l a → (claims l a == 1) ≡ gone → (x_grants l a == 1) ≡ last
        → response_of w m (Ux l) a ≡ response Released (if gone then without_latch l a.held else changed_on l (one_fewer X) a.held) (owed_where last l)
    x_given_by gone last has is_gone is_last = x_given has ∙ (λ j. response Released (if is_gone j then without_latch l a.held else changed_on l (one_fewer X) a.held) (owed_where (is_last j) l))

    pub after_last_x_back : x_grants l a ≡ 1 → sx_grants l a ≡ 0 → response_of w m (Ux l) a ≡ response Released (without_latch l a.held) (OwesLook l)
    after_last_x_back x sx =
        let c = counted l a (proper.single l) in let one : claims l a ≡ 1 = omega arith in
        x_given_by true true (omega arith) (eq-eqb (claims l a) 1 one) (eq-eqb (x_grants l a) 1 x)

    pub after_last_x_beside_sx : x_grants l a ≡ 1 → 0 < sx_grants l a → response_of w m (Ux l) a ≡ response Released (changed_on l (one_fewer X) a.held) (OwesLook l)
    after_last_x_beside_sx x sx =
        let c = counted l a (proper.single l) in
        x_given_by false true (omega arith) (ne_eqb (claims l a) 1 (λ e. omega arith)) (eq-eqb (x_grants l a) 1 x)

    pub after_x_back : 1 < x_grants l a → response_of w m (Ux l) a ≡ response Released (changed_on l (one_fewer X) a.held) Free
    after_x_back more =
        let c = counted l a (proper.single l) in
        x_given_by false false (omega arith) (ne_eqb (claims l a) 1 (λ e. omega arith)) (ne_eqb (x_grants l a) 1 (λ e. omega arith))
