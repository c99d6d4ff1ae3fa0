-- What a session holds after its event: as before on every other latch, and one grant more at most on its own.
use Rattle.std.proofs.Common.{◌≡◌, ◌≢◌, ℕ, ◌+◌, ◌≤◌, Bool, ℤ, pos, ◌-ℤ◌, List, refl, arith}
use Rattle.std.specs.Prelude.{◌==◌, nat_lt, if◌then◌else◌}
use Rattle.ib_levels.specs.declared.holding.Holding.{Holding}
use Rattle.ib_levels.specs.declared.level.Level.{Level}
use Rattle.ib_levels.specs.declared.level.Mode.{Mode}
use Rattle.ib_levels.specs.declared.level.Mode.TheVariants.{S as ModeS, Sx as ModeSx, X as ModeX}
use Rattle.ib_levels.specs.declared.listed.Against.{Against as LevelsAgainst}
use Rattle.std.specs.Prelude.{Result, Ok, Err}
use Rattle.ib_levels.specs.Listed.{answer_to}
use Rattle.ib_levels.specs.Holding.{on, is_held, levels_of, changed_on, without_latch}
use Rattle.ib_levels.proofs.Counts.{on-push_here, on-push_away, on-without, on-without_away, on-changed, on-changed_away, on-add, on_le}
use Rattle.ib_core.specs.declared.phase.Phase.{Phase}
use Rattle.ib_core.specs.declared.phase.Phase.TheVariants.{Free, Armed, Flagged, Checked, Asleep, Next, NextArmed, NextChecked, NextAsleep, OwesLook, OwesClear, OwesRaise, OwesRaiseEx}
use Rattle.ib_core.specs.declared.event.Event.{Event}
use Rattle.ib_core.specs.declared.event.Event.TheVariants.{S, Sx, X, Us, Usx, Ux, Arm, Flag, Again, Quit, Sleep, Ready, Exarm, Look, Clear, Raise}
use Rattle.ib_core.specs.declared.session.Session.{Session}
use Rattle.ib_core.specs.declared.session.Marks.{Marks}
use Rattle.ib_core.specs.Sessions.{holdings, reads, claims, x_grants, sx_grants}
use Rattle.ib_core.specs.Takings.{is_given_at, first_holding, holding_too, one_more, one_fewer, reserving, first, upgrade, if_allowed, level_on, first_weight}
use Rattle.ib_word.specs.Word.{is_drained}
use Rattle.ib_core.specs.Responses.{Response, latch_of, is_elsewhere, is_above_0}
use Rattle.ib_core.specs.Table.{owns_x_at, free_row, armed_row, flagged_row, checked_row, asleep_row, next_row, next_armed_row, next_waits_row, owes_look_row, owes_clear_row, owes_raise_row, row_of, response_of}
use Rattle.ib_core.proofs.OnLatch.{one_more-latch, one_fewer-latch}
use Rattle.ib_core.proofs.Turned.{choose}

abbrev pub all_grants : Holding → ℕ
all_grants h = h.s + h.sx + h.x

pub record Near (l : ℕ) (held now : List Holding) : Type 0 where
  pub away : (k : ℕ) → l ≢ k → (f : Holding → ℕ) → on k f now ≡ on k f held
  pub one_more : on l all_grants now ≤ on l all_grants held + 1

pub near_same : (l : ℕ) (held : List Holding) → Near l held held
near_same l held = record { away = λ k n f. refl; one_more = omega arith }

near_first : (l : ℕ) (mode : Mode) (v : Level) (held : List Holding) → Near l held (holding_too mode l v held)
near_first l ModeS v held = record { away = λ k n f. on-push_away k f held (first_holding ModeS l v) n; one_more = let a = on-push_here l all_grants held (first_holding ModeS l v) refl in omega arith }
near_first l ModeSx v held = record { away = λ k n f. on-push_away k f held (first_holding ModeSx l v) n; one_more = let a = on-push_here l all_grants held (first_holding ModeSx l v) refl in omega arith }
near_first l ModeX v held = record { away = λ k n f. on-push_away k f held (first_holding ModeX l v) n; one_more = let a = on-push_here l all_grants held (first_holding ModeX l v) refl in omega arith }

one_more_grant : (mode : Mode) (h : Holding) → all_grants (one_more mode h) ≤ all_grants h + 1
one_more_grant ModeS h = omega arith
one_more_grant ModeSx h = omega arith
one_more_grant ModeX h = omega arith

one_fewer_grant : (mode : Mode) (h : Holding) → all_grants (one_fewer mode h) ≤ all_grants h
one_fewer_grant ModeS h = omega arith
one_fewer_grant ModeSx h = omega arith
one_fewer_grant ModeX h = omega arith

near_more : (l : ℕ) (mode : Mode) (held : List Holding) → on l (λ h. 1) held ≤ 1 → Near l held (changed_on l (one_more mode) held)
near_more l mode held single = record {
  away = λ k n f. on-changed_away l k (one_more mode) f held (one_more-latch mode) n;
  one_more =
      let a = on-changed l (one_more mode) all_grants held (one_more-latch mode) in
      let b = on_le l (λ h. all_grants (one_more mode h)) (λ h. all_grants h + 1) held (one_more_grant mode) in
      let c = on-add l all_grants (λ h. 1) held in omega arith;
}

near_fewer : (l : ℕ) (mode : Mode) (held : List Holding) → Near l held (changed_on l (one_fewer mode) held)
near_fewer l mode held = record {
  away = λ k n f. on-changed_away l k (one_fewer mode) f held (one_fewer-latch mode) n;
  one_more =
      let a = on-changed l (one_fewer mode) all_grants held (one_fewer-latch mode) in
      let b = on_le l (λ h. all_grants (one_fewer mode h)) all_grants held (one_fewer_grant mode) in omega arith;
}

near_without : (l : ℕ) (held : List Holding) → Near l held (without_latch l held)
near_without l held = record { away = λ k n f. on-without_away l k f held n; one_more = let z = on-without l all_grants held in omega arith }

module _ (a : Session) (single : (l : ℕ) → holdings l a ≤ 1) where
  by_test : (l : ℕ) (b : Bool) (x y : Response) → Near l a.held x.session.held → Near l a.held y.session.held → Near l a.held (if b then x else y).session.held
  by_test l b x y p q = choose (λ (r : Response). Near l a.held r.session.held) b x y (λ _. p) (λ _. q)

  near_reserving : (l k : ℕ) (v : Level) (w : ℤ) (now : List Holding) → Near l a.held now → Near l a.held (reserving k v w now).session.held
  near_reserving l k v w now near = by_test l (is_drained w) _ _ near near

  near_first_wish : (l : ℕ) (mode : Mode) (v : Level) (p : Phase) (w : ℤ) → Near l a.held (first mode l v p w a.held).session.held
  near_first_wish l ModeS v p w = by_test l (is_given_at ModeS w) _ _ (near_first l ModeS v a.held) (near_same l a.held)
  near_first_wish l ModeSx v p w = by_test l (is_given_at ModeSx w) _ _ (near_first l ModeSx v a.held) (near_same l a.held)
  near_first_wish l ModeX v p w = by_test l (is_given_at ModeX w) _ _
      (near_reserving l l v (w -ℤ pos (first_weight ModeX)) (holding_too ModeX l v a.held) (near_first l ModeX v a.held)) (near_same l a.held)

  near_allowed : (l : ℕ) (answer : Result (Unit {0}) LevelsAgainst) (r : Response) → Near l a.held r.session.held → Near l a.held (if_allowed answer a r).session.held
  near_allowed l (Ok u) r near = near
  near_allowed l (Err e) r near = near_same l a.held

  near_upgrade : (l : ℕ) (v : Level) (w : ℤ) → Near l a.held (upgrade l v w a.held).session.held
  near_upgrade l v w = by_test l (is_above_0 w) _ _
      (near_reserving l l (level_on l v a.held) (w -ℤ pos (first_weight ModeX)) (changed_on l (one_more ModeX) a.held) (near_more l ModeX a.held (single l))) (near_same l a.held)

  near_free : (w : ℤ) (now : ℕ) (e : Event) → Near (latch_of e) a.held (free_row w now e a).session.held
  near_free w now (S l v) = by_test l (is_held l a.held) _ _ (near_same l a.held) (near_allowed l (answer_to (is_held l a.held) v (levels_of a.held)) _ (near_first_wish l ModeS v Free w))
  near_free w now (Sx l v) = by_test l (nat_lt 0 (reads l a)) _ _ (near_same l a.held) (near_allowed l (answer_to (is_held l a.held) v (levels_of a.held)) _
      (by_test l (nat_lt 0 (claims l a)) _ _ (near_more l ModeSx a.held (single l)) (near_first_wish l ModeSx v Free w)))
  near_free w now (X l v) = by_test l (nat_lt 0 (reads l a)) _ _ (near_same l a.held) (near_allowed l (answer_to (is_held l a.held) v (levels_of a.held)) _
      (by_test l (nat_lt 0 (x_grants l a)) _ _ (near_more l ModeX a.held (single l))
      (by_test l (nat_lt 0 (sx_grants l a)) _ _ (near_upgrade l v w) (near_first_wish l ModeX v Free w))))
  near_free w now (Us l) = by_test l (nat_lt 0 (reads l a)) _ _ (near_without l a.held) (near_same l a.held)
  near_free w now (Usx l) = by_test l (nat_lt 0 (sx_grants l a)) _ _
      (choose (λ (held : List Holding). Near l a.held held) (claims l a == 1) _ _ (λ _. near_without l a.held) (λ _. near_fewer l ModeSx a.held)) (near_same l a.held)
  near_free w now (Ux l) = by_test l (nat_lt 0 (x_grants l a)) _ _
      (choose (λ (held : List Holding). Near l a.held held) (claims l a == 1) _ _ (λ _. near_without l a.held) (λ _. near_fewer l ModeX a.held)) (near_same l a.held)
  near_free w now (Arm l mode v) = by_test l (is_held l a.held) _ _ (near_same l a.held) (near_allowed l (answer_to (is_held l a.held) v (levels_of a.held)) _ (near_same l a.held))
  near_free w now e = near_same (latch_of e) a.held

  near_flagged : (mode : Mode) (v : Level) (g : ℕ) (w : ℤ) (e : Event) → Near (latch_of e) a.held (flagged_row mode v g w e a).session.held
  near_flagged mode v g w (Again l) = near_first_wish l mode v (Checked l mode v g) w
  near_flagged mode v g w (Quit l) = near_same l a.held
  near_flagged mode v g w e = near_same (latch_of e) a.held

  near_armed : (mode : Mode) (v : Level) (g : ℕ) (e : Event) → Near (latch_of e) a.held (armed_row mode v g e a).session.held
  near_armed mode v g (Flag l) = near_same l a.held
  near_armed mode v g (Quit l) = near_same l a.held
  near_armed mode v g e = near_same (latch_of e) a.held

  near_checked : (mode : Mode) (v : Level) (g now : ℕ) (e : Event) → Near (latch_of e) a.held (checked_row mode v g now e a).session.held
  near_checked mode v g now (Sleep l) = by_test l (now == g) _ _ (near_same l a.held) (near_same l a.held)
  near_checked mode v g now (Quit l) = near_same l a.held
  near_checked mode v g now e = near_same (latch_of e) a.held

  near_asleep : (mode : Mode) (v : Level) (g now : ℕ) (e : Event) → Near (latch_of e) a.held (asleep_row mode v g now e a).session.held
  near_asleep mode v g now (Sleep l) = by_test l (now == g) _ _ (near_same l a.held) (near_same l a.held)
  near_asleep mode v g now e = near_same (latch_of e) a.held

  near_next : (v : Level) (w : ℤ) (now : ℕ) (e : Event) → Near (latch_of e) a.held (next_row v w now e a).session.held
  near_next v w now (Ready l) = by_test l (owns_x_at (sx_grants l a) w) _ _ (near_same l a.held) (near_same l a.held)
  near_next v w now (Exarm l) = near_same l a.held
  near_next v w now e = near_same (latch_of e) a.held

  near_next_armed : (v : Level) (g : ℕ) (w : ℤ) (e : Event) → Near (latch_of e) a.held (next_armed_row v g w e a).session.held
  near_next_armed v g w (Ready l) = by_test l (owns_x_at (sx_grants l a) w) _ _ (near_same l a.held) (near_same l a.held)
  near_next_armed v g w e = near_same (latch_of e) a.held

  near_next_waits : (v : Level) (g now : ℕ) (e : Event) → Near (latch_of e) a.held (next_waits_row v g now e a).session.held
  near_next_waits v g now (Sleep l) = by_test l (now == g) _ _ (near_same l a.held) (near_same l a.held)
  near_next_waits v g now e = near_same (latch_of e) a.held

  near_look : (b : Bool) (e : Event) → Near (latch_of e) a.held (owes_look_row b e a).session.held
  near_look b (Look l) = near_same l a.held
  near_look b e = near_same (latch_of e) a.held

  near_clear : (b : Bool) (e : Event) → Near (latch_of e) a.held (owes_clear_row b e a).session.held
  near_clear b (Clear l) = near_same l a.held
  near_clear b e = near_same (latch_of e) a.held

  near_raise : (now : ℕ) (e : Event) → Near (latch_of e) a.held (owes_raise_row now e a).session.held
  near_raise now (Raise l) = near_same l a.held
  near_raise now e = near_same (latch_of e) a.held

  near_row : (p : Phase) (w : ℤ) (m : Marks) (e : Event) → Near (latch_of e) a.held (row_of p w m e a).session.held
  near_row Free w m e = near_free w m.generation e
  near_row (Armed l mode v g) w m e = near_armed mode v g e
  near_row (Flagged l mode v g) w m e = near_flagged mode v g w e
  near_row (Checked l mode v g) w m e = near_checked mode v g m.generation e
  near_row (Asleep l mode v g) w m e = near_asleep mode v g m.generation e
  near_row (Next l v) w m e = near_next v w m.ex_generation e
  near_row (NextArmed l v g) w m e = near_next_armed v g w e
  near_row (NextChecked l v g) w m e = near_next_waits v g m.ex_generation e
  near_row (NextAsleep l v g) w m e = near_next_waits v g m.ex_generation e
  near_row (OwesLook l) w m e = near_look m.waiters e
  near_row (OwesClear l) w m e = near_clear m.waiters e
  near_row (OwesRaise l) w m e = near_raise m.generation e
  near_row (OwesRaiseEx l) w m e = near_raise m.ex_generation e

  pub near_response : (w : ℤ) (m : Marks) (e : Event) → Near (latch_of e) a.held (response_of w m e a).session.held
  near_response w m e = by_test (latch_of e) (is_elsewhere (latch_of e) a.phase) _ _ (near_same (latch_of e) a.held) (near_row a.phase w m e)
