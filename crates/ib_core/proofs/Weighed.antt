-- What each taking takes off the lock word, and each release gives back.
use Rattle.std.proofs.Common.{◌≡◌, ℕ, ◌+◌, ◌-◌, ◌<◌, true, false, ℤ, pos, ◌-ℤ◌, ◌+ℤ◌, List, refl, ap, ◌∙◌, subst, arith}
use Rattle.std.specs.Prelude.{◌==◌, not, nat_lt}
use Rattle.ib_word.specs.declared.word.TheConstants.{X_LOCK_DECR, X_LOCK_HALF_DECR}
use Rattle.ib_word.specs.Weight.{x_weight}
use Rattle.ib_levels.specs.declared.level.Level.{Level}
use Rattle.ib_levels.specs.declared.level.Mode.{Mode}
use Rattle.ib_levels.specs.declared.level.Mode.TheVariants.{S, Sx, X}
use Rattle.ib_levels.specs.declared.holding.Holding.{Holding}
use Rattle.ib_levels.specs.Holding.{on, changed_on, without_latch}
use Rattle.ib_levels.proofs.Counts.{on-push_here, on-without}
use Rattle.ib_core.specs.declared.phase.Phase.{Phase}
use Rattle.ib_core.specs.declared.phase.Phase.TheVariants.{Free, Flagged, Checked, Next, NextArmed}
use Rattle.ib_core.specs.declared.event.Event.{Event}
use Rattle.ib_core.specs.declared.event.Event.TheVariants.{Again, Ready, Us, Usx, Ux}
use Rattle.ib_core.specs.declared.event.Answer.TheVariants.{Released}
use Rattle.ib_core.specs.declared.session.Session.{Session}
use Rattle.ib_core.specs.declared.session.Marks.{Marks}
use Rattle.ib_core.specs.Sessions.{reads, claims, sx_grants, x_grants, taken}
use Rattle.ib_core.specs.Good.{IsProper}
use Rattle.ib_core.specs.Holders.{CanWish}
use Rattle.ib_word.specs.Word.{is_drained}
use Rattle.ib_core.specs.Responses.{Response, response, is_above_0, is_elsewhere}
use Rattle.ib_core.specs.Takings.{first, first_holding, first_weight, given_back, holding_too, is_given_at, level_on, one_more, owed_by_s, owed_where, reserving, wish}
use Rattle.ib_core.specs.Table.{owns_x_at, response_of, row_of}
use Rattle.ib_core.specs.Member.{TakesMore}
use Rattle.ib_core.proofs.NumberTests.{if_true, if_false, lt_some}
use Rattle.ib_core.proofs.OnLatch.{counted, weighs, more_x_taken}
use Rattle.ib_core.proofs.Phased.{with_phase}
use Rattle.ib_core.proofs.Quiet.{at_itself}
use Rattle.ib_core.proofs.Turned.{choose}
use Rattle.ib_core.proofs.Weighs.{read_weighs, back_x_taken, back_last_sx_taken, back_more_sx_taken, first_sx_taken, further_sx_taken, upgrade_taken}
use Rattle.ib_core.proofs.Wishes.{at_free, first_wish, sx_further, x_further, x_upgrade}

reserving_taken : (l : ℕ) (v : Level) (w : ℤ) (held : List Holding) → taken l (reserving l v w held).session ≡ on l weighs held
reserving_taken l v w held = choose (λ (r : Response). taken l r.session ≡ on l weighs held) (is_drained w) _ _ (λ _. refl) (λ _. refl)

-- a first grant takes off its weight
first_taken : (mode : Mode) (l : ℕ) (v : Level) (p : Phase) (w : ℤ) (held : List Holding) → is_given_at mode w ≡ true → taken l (first mode l v p w held).session ≡ on l weighs held + first_weight mode
first_taken S l v p w held given = ap (λ (r : Response). taken l r.session) (if_true (is_given_at S w) _ _ given) ∙ on-push_here l weighs held (first_holding S l v) refl
first_taken Sx l v p w held given = ap (λ (r : Response). taken l r.session) (if_true (is_given_at Sx w) _ _ given) ∙ on-push_here l weighs held (first_holding Sx l v) refl
first_taken X l v p w held given = ap (λ (r : Response). taken l r.session) (if_true (is_given_at X w) _ _ given)
    ∙ (reserving_taken l v (w -ℤ pos (first_weight X)) (holding_too X l v held) ∙ on-push_here l weighs held (first_holding X l v) refl)

module _ (w : ℤ) (m : Marks) (l : ℕ) (a : Session) where
  pub wish_weighs : (mode : Mode) (v : Level) → CanWish l v a → is_given_at mode w ≡ true → TakesMore l (first_weight mode) (response_of w m (wish mode l v) a).session a
  wish_weighs mode v can given =
      ap (λ (a : Session). taken l (response_of w m (wish mode l v) a).session) (at_free a can.free)
      ∙ (ap (λ (r : Response). taken l r.session) (first_wish l a.held w m mode v can.none can.allowed) ∙ first_taken mode l v Free w a.held given)

  -- .. once more after the flag was set
  pub flagged_response : (mode : Mode) (v : Level) (g : ℕ) → a.phase ≡ Flagged l mode v g → Path Response (response_of w m (Again l) a) (first mode l v (Checked l mode v g) w a.held)
  flagged_response mode v g is =
      let e : a ≡ with_phase (Flagged l mode v g) a.held = λ j. record { held = a.held; phase = is j } in
      ap (λ (a : Session). response_of w m (Again l) a) e ∙ if_false (not (l == l)) _ _ (at_itself l)

  pub again_weighs : (mode : Mode) (v : Level) (g : ℕ) → a.phase ≡ Flagged l mode v g → is_given_at mode w ≡ true → TakesMore l (first_weight mode) (response_of w m (Again l) a).session a
  again_weighs mode v g is given = ap (λ (r : Response). taken l r.session) (flagged_response mode v g is) ∙ first_taken mode l v (Checked l mode v g) w a.held given

  pub refused_weighs : (mode : Mode) (v : Level) (g : ℕ) → a.phase ≡ Flagged l mode v g → is_given_at mode w ≡ false → TakesMore l 0 (response_of w m (Again l) a).session a
  refused_weighs mode v g is refuses =
      let t = ap (λ (r : Response). taken l r.session) (flagged_response mode v g is ∙ if_false (is_given_at mode w) _ _ refuses) in omega arith

  -- who looks whether it owns X takes nothing
  ready_row : (held : List Holding) (p : Phase) → taken l (row_of p w m (Ready l) (with_phase p held)).session ≡ on l weighs held
  ready_row held (Next k v) = choose (λ (r : Response). taken l r.session ≡ on l weighs held) (owns_x_at (sx_grants l (with_phase (Next k v) held)) w) _ _ (λ _. refl) (λ _. refl)
  ready_row held (NextArmed k v g) = choose (λ (r : Response). taken l r.session ≡ on l weighs held) (owns_x_at (sx_grants l (with_phase (NextArmed k v g) held)) w) _ _ (λ _. refl) (λ _. refl)
  ready_row held p = refl

  pub ready_weighs : TakesMore l 0 (response_of w m (Ready l) a).session a
  ready_weighs =
      let t : taken l (response_of w m (Ready l) a).session ≡ on l weighs a.held = choose (λ (r : Response). taken l r.session ≡ on l weighs a.held) (is_elsewhere l a.phase) _ _ (λ _. refl) (λ _. ready_row a.held a.phase) in omega arith

  module _ (proper : IsProper a) (free : a.phase ≡ Free) where
    as_free : IsProper (with_phase Free a.held)
    as_free = subst IsProper (at_free a free) proper

    in_free : (e : Event) (r : Response) → response_of w m e (with_phase Free a.held) ≡ r → taken l (response_of w m e a).session ≡ taken l r.session
    in_free e r is = ap (λ (a : Session). taken l (response_of w m e a).session) (at_free a free) ∙ ap (λ (r : Response). taken l r.session) is

    pub upgrade_weighs : (v : Level) → 0 < sx_grants l a → x_grants l a ≡ 0 → is_above_0 w ≡ true → TakesMore l X_LOCK_DECR (response_of w m (wish X l v) a).session a
    upgrade_weighs v has no_x up =
        in_free (wish X l v) _ (x_upgrade l a.held w as_free v has no_x up)
        ∙ (reserving_taken l (level_on l v a.held) (w -ℤ pos X_LOCK_DECR) (changed_on l (one_more X) a.held) ∙ upgrade_taken l a (proper.single l) has no_x)

    pub further_x_weighs : (v : Level) (k : ℕ) → 0 < x_grants l a → x_weight (x_grants l a + 1) ≡ x_weight (x_grants l a) + k → TakesMore l k (response_of w m (wish X l v) a).session a
    further_x_weighs v k has is =
        let t = in_free (wish X l v) _ (x_further l a.held w as_free v has) in
        let c = counted l a (proper.single l) in let p = more_x_taken l a (proper.single l) (omega arith) in omega arith

    pub sx_beside_x_weighs : (v : Level) → 0 < x_grants l a → sx_grants l a ≡ 0 → TakesMore l X_LOCK_HALF_DECR (response_of w m (wish Sx l v) a).session a
    sx_beside_x_weighs v has no_sx =
        let c = counted l a (proper.single l) in let claim : 0 < claims l a = omega arith in
        in_free (wish Sx l v) _ (sx_further l a.held w as_free v claim) ∙ first_sx_taken l a (proper.single l) claim no_sx

    pub further_sx_weighs : (v : Level) → 0 < sx_grants l a → TakesMore l 0 (response_of w m (wish Sx l v) a).session a
    further_sx_weighs v has =
        let c = counted l a (proper.single l) in let claim : 0 < claims l a = omega arith in
        let t = in_free (wish Sx l v) _ (sx_further l a.held w as_free v claim) in let p = further_sx_taken l a (proper.single l) claim has in omega arith

    pub s_back_weighs : 0 < reads l a → TakesMore l 1 a (response_of w m (Us l) a).session
    s_back_weighs has =
        let t = in_free (Us l) (response Released (without_latch l a.held) (owed_by_s l (w +ℤ pos 1))) (if_true (nat_lt 0 (reads l a)) _ _ (lt_some _ has)) in
        let z = on-without l weighs a.held in let r = read_weighs l a proper has in omega arith

    sx_given : 0 < sx_grants l a → taken l (response_of w m (Usx l) a).session ≡ on l weighs (given_back Sx l a)
    sx_given has = in_free (Usx l) (response Released (given_back Sx l a) (owed_where (claims l a == 1) l)) (if_true (nat_lt 0 (sx_grants l a)) _ _ (lt_some _ has))

    pub last_sx_back_weighs : sx_grants l a ≡ 1 → TakesMore l X_LOCK_HALF_DECR a (response_of w m (Usx l) a).session
    last_sx_back_weighs last = let t = sx_given (omega arith) in let r = back_last_sx_taken l a proper last in omega arith

    pub sx_back_weighs : 1 < sx_grants l a → TakesMore l 0 a (response_of w m (Usx l) a).session
    sx_back_weighs more = let t = sx_given (omega arith) in let r = back_more_sx_taken l a proper more in omega arith

    pub x_back_weighs : (k : ℕ) → 0 < x_grants l a → x_weight (x_grants l a) ≡ x_weight (x_grants l a - 1) + k → TakesMore l k a (response_of w m (Ux l) a).session
    x_back_weighs k has is =
        let t = in_free (Ux l) (response Released (given_back X l a) (owed_where (x_grants l a == 1) l)) (if_true (nat_lt 0 (x_grants l a)) _ _ (lt_some _ has)) in
        let r = back_x_taken l a proper has in omega arith
