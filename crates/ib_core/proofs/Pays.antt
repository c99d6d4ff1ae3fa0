-- What an event does to what its session owes: each raise, made or to come, is paid by a grant.
use Rattle.std.proofs.Common.{◌≡◌, ◌≢◌, ℕ, ◌+◌, ◌<◌, ◌≤◌, Bool, true, false, cond, ℤ, pos, ◌-ℤ◌, ◌+ℤ◌, List, refl, sym, ap, subst, eq-eqb, ne_eqb, arith}
use Rattle.std.specs.Prelude.{◌==◌, not, nat_lt, if◌then◌else◌, Result, Ok, Err, Option, Some, None}
use Rattle.ib_word.specs.declared.word.TheConstants.{X_LOCK_DECR}
use Rattle.ib_levels.specs.declared.level.Level.{Level}
use Rattle.ib_levels.specs.declared.level.Mode.{Mode}
use Rattle.ib_levels.specs.declared.level.Mode.TheVariants.{S as ModeS, Sx as ModeSx, X as ModeX}
use Rattle.ib_levels.specs.declared.holding.Holding.{Holding}
use Rattle.ib_levels.specs.declared.listed.Against.{Against as LevelsAgainst}
use Rattle.ib_levels.specs.Listed.{answer_to}
use Rattle.ib_levels.specs.Holding.{is_held, levels_of, changed_on, without_latch}
use Rattle.ib_levels.proofs.Counts.{by_equal, none_from_unheld, on-push_here, on-without}
use Rattle.ib_core.specs.declared.phase.Phase.{Phase}
use Rattle.ib_core.specs.declared.phase.Phase.TheVariants.{Free, Armed, Flagged, Checked, Asleep, Next, NextArmed, NextChecked, NextAsleep, OwesLook, OwesClear, OwesRaise, OwesRaiseEx}
use Rattle.ib_core.specs.declared.event.Event.{Event}
use Rattle.ib_core.specs.declared.event.Event.TheVariants.{S, Sx, X, Us, Usx, Ux, Arm, Flag, Again, Quit, Sleep, Ready, Exarm, Look, Clear, Raise}
use Rattle.ib_core.specs.declared.event.Answer.{Answer}
use Rattle.ib_core.specs.declared.event.Answer.TheVariants.{Released, Looked, Cleared}
use Rattle.ib_core.specs.declared.event.Refusal.TheVariants.{OutOfTurn}
use Rattle.ib_core.specs.declared.session.Session.{Session}
use Rattle.ib_core.specs.declared.session.Marks.{Marks}
use Rattle.ib_core.specs.Sessions.{reads, claims, sx_grants, x_grants, holdings, grants}
use Rattle.ib_core.specs.Takings.{first, holding_too, first_holding, first_weight, is_given_at, if_allowed, taking_s, taking_sx, taking_x, giving_s, giving_sx, giving_x, one_more, one_fewer, level_on}
use Rattle.ib_word.specs.Word.{is_drained}
use Rattle.ib_core.specs.Responses.{Response, response, refused, latch_of, is_elsewhere, is_above_0}
use Rattle.ib_core.specs.Table.{owns_x_at, free_row, armed_row, flagged_row, checked_row, asleep_row, next_row, next_armed_row, next_waits_row, owes_look_row, owes_clear_row, owes_raise_row, row_of, response_of, marks_by, marks_after}
use Rattle.ib_core.specs.Good.{IsProper}
use Rattle.ib_core.proofs.NumberTests.{none_by, some_by}
use Rattle.ib_core.proofs.OnLatch.{counted, counts_changed, one_more-latch, one_fewer-latch, held_by_grant}
use Rattle.ib_core.proofs.Phased.{with_phase}
use Rattle.ib_core.proofs.Turned.{choose}
use Rattle.ib_core.specs.Debts.{owing, debt, wish_of, won, grants_won}

-- the raises that an event makes
abbrev pub spent : Phase → Event → ℕ
spent (OwesRaise k) (Raise l) = 1
spent (OwesRaiseEx k) (Raise l) = 1
spent _ _ = 0

-- what a session owes after a response, on the event's latch and on others
pub record Grows (l : ℕ) (held : List Holding) (p : Phase) (o : Option Mode) (spent : ℕ) (r : Response) : Type 0 where
  pub here : debt l r.session + spent ≤ debt l (with_phase p held) + grants_won (won r.answer o)
  pub few : grants l r.session ≤ grants l (with_phase p held) + grants_won (won r.answer o)
  pub away : (k : ℕ) → l ≢ k → owing k r.session.phase ≤ owing k p
  pub class : 0 < holdings l (with_phase p held) → 0 < holdings l r.session → reads l r.session ≡ reads l (with_phase p held)

at_it : (l : ℕ) → cond {A = ℕ} (l == l) 1 0 ≡ 1
at_it l = ap (λ b. cond {A = ℕ} b 1 0) (eq-eqb l l refl)

at_other : (l k : ℕ) → l ≢ k → cond {A = ℕ} (l == k) 1 0 ≡ 0
at_other l k n = ap (λ b. cond {A = ℕ} b 1 0) (ne_eqb l k n)

-- what is held stays
same_held : (l : ℕ) (held : List Holding) (p p' : Phase) (o : Option Mode) (answer : Answer) → ((k : ℕ) → owing k p' ≤ owing k p) → Grows l held p o 0 (response answer held p')
same_held l held p p' o answer fewer = record { here = let f = fewer l in omega arith; few = omega arith; away = λ k n. fewer k; class = λ _ _. refl }

-- .. and so does the phase
as_before : (l : ℕ) (held : List Holding) (p : Phase) (o : Option Mode) (answer : Answer) → Grows l held p o 0 (response answer held p)
as_before l held p o answer = same_held l held p p o answer (λ k. omega arith)

module _ (held : List Holding) (p : Phase) (proper : IsProper (with_phase p held)) where
  abbrev All : Holding → ℕ
  All h = h.s + h.sx + h.x

  -- a first grant
  first_granted : (l : ℕ) (mode : Mode) (v : Level) (p' : Phase) → holdings l (with_phase p held) ≡ 0 → ((k : ℕ) → owing k p' ≤ owing k p) → (answer : Answer) → grants_won (won answer (Some mode)) ≡ 1
      → Grows l held p (Some mode) 0 (response answer (holding_too mode l v held) p')
  first_granted l ModeS v p' none quiet answer one =
      let a = on-push_here l All held (first_holding ModeS l v) refl in let q = quiet l in
      record { here = omega arith; few = omega arith; away = λ k n. quiet k; class = λ h _. absurd (omega arith) }
  first_granted l ModeSx v p' none quiet answer one =
      let a = on-push_here l All held (first_holding ModeSx l v) refl in let q = quiet l in
      record { here = omega arith; few = omega arith; away = λ k n. quiet k; class = λ h _. absurd (omega arith) }
  first_granted l ModeX v p' none quiet answer one =
      let a = on-push_here l All held (first_holding ModeX l v) refl in let q = quiet l in
      record { here = omega arith; few = omega arith; away = λ k n. quiet k; class = λ h _. absurd (omega arith) }

  first_grows : (l : ℕ) (mode : Mode) (v : Level) (waiting : Phase) (w : ℤ) → holdings l (with_phase p held) ≡ 0 → ((k : ℕ) → owing k waiting ≤ owing k p) → Grows l held p (Some mode) 0 (first mode l v waiting w held)
  first_grows l ModeS v waiting w none quiet = choose (λ (r : Response). Grows l held p (Some ModeS) 0 r) (is_given_at ModeS w) _ _
      (λ _. first_granted l ModeS v Free none (λ k. omega arith) _ refl) (λ _. same_held l held p waiting (Some ModeS) _ quiet)
  first_grows l ModeSx v waiting w none quiet = choose (λ (r : Response). Grows l held p (Some ModeSx) 0 r) (is_given_at ModeSx w) _ _
      (λ _. first_granted l ModeSx v Free none (λ k. omega arith) _ refl) (λ _. same_held l held p waiting (Some ModeSx) _ quiet)
  first_grows l ModeX v waiting w none quiet = choose (λ (r : Response). Grows l held p (Some ModeX) 0 r) (is_given_at ModeX w) _ _
      (λ _. choose (λ (r : Response). Grows l held p (Some ModeX) 0 r) (is_drained (w -ℤ pos (first_weight ModeX))) _ _
      (λ _. first_granted l ModeX v Free none (λ k. omega arith) _ refl) (λ _. first_granted l ModeX v (Next l v) none (λ k. omega arith) _ refl))
      (λ _. same_held l held p waiting (Some ModeX) _ quiet)

  -- a further grant
  further : (l : ℕ) (mode : Mode) (p' : Phase) → 0 < claims l (with_phase p held) → (mode ≡ ModeS → ⊥) → ((k : ℕ) → owing k p' ≤ owing k p) → (answer : Answer) → grants_won (won answer (Some mode)) ≡ 1
      → Grows l held p (Some mode) 0 (response answer (changed_on l (one_more mode) held) p')
  further l ModeS p' has no_s quiet answer one = absurd (no_s refl)
  further l ModeSx p' has no_s quiet answer one =
      let b = held_by_grant l (λ h. h.sx + h.x) held has in let s = proper.single l in
      let k = counts_changed l (one_more ModeSx) held (one_more-latch ModeSx) (omega arith) in
      let g = k.1 All in let g' = k.2 All in let x = k.1 (λ h. h.s) in let x' = k.2 (λ h. h.s) in let q = quiet l in
      record { here = omega arith; few = omega arith; away = λ j n. quiet j; class = λ _ _. omega arith }
  further l ModeX p' has no_s quiet answer one =
      let b = held_by_grant l (λ h. h.sx + h.x) held has in let s = proper.single l in
      let k = counts_changed l (one_more ModeX) held (one_more-latch ModeX) (omega arith) in
      let g = k.1 All in let g' = k.2 All in let x = k.1 (λ h. h.s) in let x' = k.2 (λ h. h.s) in let q = quiet l in
      record { here = omega arith; few = omega arith; away = λ j n. quiet j; class = λ _ _. omega arith }

  allowed : (l : ℕ) (o : Option Mode) (answer : Result (Unit {0}) LevelsAgainst) (r : Response) → Grows l held p o 0 r → Grows l held p o 0 (if_allowed answer (with_phase p held) r)
  allowed l o (Ok u) r grows = grows
  allowed l o (Err e) r grows = as_before l held p o _

  -- who has no grant on the latch does not hold it
  free_of : (l : ℕ) → reads l (with_phase p held) ≡ 0 → claims l (with_phase p held) ≡ 0 → holdings l (with_phase p held) ≡ 0
  free_of l unread unclaimed = let c = counted l (with_phase p held) (proper.single l) in let s = proper.solid l in omega arith

module _ (held : List Holding) (proper : IsProper (with_phase Free held)) (w : ℤ) where
  abbrev a : Session
  a = with_phase Free held

  s_grows : (l : ℕ) (v : Level) → Grows l held Free (Some ModeS) 0 (taking_s l v w (with_phase Free held))
  s_grows l v = choose (λ (r : Response). Grows l held Free (Some ModeS) 0 r) (is_held l held) _ _ (λ _. as_before l held Free (Some ModeS) _)
      (λ unheld. allowed held Free proper l (Some ModeS) (answer_to (is_held l held) v (levels_of held)) _
      (first_grows held Free proper l ModeS v Free w (none_from_unheld l held unheld) (λ k. omega arith)))

  sx_grows : (l : ℕ) (v : Level) → Grows l held Free (Some ModeSx) 0 (taking_sx l v w (with_phase Free held))
  sx_grows l v = choose (λ (r : Response). Grows l held Free (Some ModeSx) 0 r) (nat_lt 0 (reads l (with_phase Free held))) _ _ (λ _. as_before l held Free (Some ModeSx) _)
      (λ unread. allowed held Free proper l (Some ModeSx) (answer_to (is_held l held) v (levels_of held)) _
      (choose (λ (r : Response). Grows l held Free (Some ModeSx) 0 r) (nat_lt 0 (claims l (with_phase Free held))) _ _
      (λ has. further held Free proper l ModeSx Free (some_by (claims l (with_phase Free held)) has) (λ z. absurd (cc)) (λ k. omega arith) _ refl)
      (λ no. first_grows held Free proper l ModeSx v Free w (free_of held Free proper l (none_by (reads l (with_phase Free held)) unread) (none_by (claims l (with_phase Free held)) no)) (λ k. omega arith))))

  x_grows : (l : ℕ) (v : Level) → Grows l held Free (Some ModeX) 0 (taking_x l v w (with_phase Free held))
  x_grows l v =
      let c = counted l (with_phase Free held) (proper.single l) in
      choose (λ (r : Response). Grows l held Free (Some ModeX) 0 r) (nat_lt 0 (reads l (with_phase Free held))) _ _ (λ _. as_before l held Free (Some ModeX) _)
      (λ unread. allowed held Free proper l (Some ModeX) (answer_to (is_held l held) v (levels_of held)) _
      (choose (λ (r : Response). Grows l held Free (Some ModeX) 0 r) (nat_lt 0 (x_grants l (with_phase Free held))) _ _
      (λ has. let x = some_by (x_grants l (with_phase Free held)) has in further held Free proper l ModeX Free (omega arith) (λ z. absurd (cc)) (λ k. omega arith) _ refl)
      (λ no_x. choose (λ (r : Response). Grows l held Free (Some ModeX) 0 r) (nat_lt 0 (sx_grants l (with_phase Free held))) _ _
      (λ has.
      let sx = some_by (sx_grants l (with_phase Free held)) has in
      choose (λ (r : Response). Grows l held Free (Some ModeX) 0 r) (is_above_0 w) _ _
      (λ _. choose (λ (r : Response). Grows l held Free (Some ModeX) 0 r) (is_drained (w -ℤ pos X_LOCK_DECR)) _ _
      (λ _. further held Free proper l ModeX Free (omega arith) (λ z. absurd (cc)) (λ k. omega arith) _ refl)
      (λ _. further held Free proper l ModeX (Next l (level_on l v held)) (omega arith) (λ z. absurd (cc)) (λ k. omega arith) _ refl))
      (λ _. as_before l held Free (Some ModeX) _))
      (λ no_sx.
      let x = none_by (x_grants l (with_phase Free held)) no_x in let sx = none_by (sx_grants l (with_phase Free held)) no_sx in
      first_grows held Free proper l ModeX v Free w (free_of held Free proper l (none_by (reads l (with_phase Free held)) unread) (omega arith)) (λ k. omega arith)))))

  -- the last grant goes
  gone : (l : ℕ) (p' : Phase) (answer : Answer) → 0 < grants l (with_phase Free held) → owing l p' ≤ 1 → ((k : ℕ) → l ≢ k → owing k p' ≡ 0) → Grows l held Free None 0 (response answer (without_latch l held) p')
  gone l p' answer has one away =
      let z = on-without l (λ h. h.s + h.sx + h.x) held in let y = on-without l (λ h. 1) held in record {
        here = omega arith;
        few = omega arith;
        away = λ k n. let q = away k n in omega arith;
        class = λ _ h. absurd (omega arith);
      }

  us_grows : (l : ℕ) → Grows l held Free None 0 (giving_s l w (with_phase Free held))
  us_grows l = choose (λ (r : Response). Grows l held Free None 0 r) (nat_lt 0 (reads l (with_phase Free held))) _ _
      (λ has.
      let c = counted l (with_phase Free held) (proper.single l) in let r = some_by (reads l (with_phase Free held)) has in
      choose (λ (p' : Phase). Grows l held Free None 0 (response Released (without_latch l held) p')) (is_drained (w +ℤ pos 1)) (OwesRaiseEx l) Free
      (λ _. gone l (OwesRaiseEx l) _ (omega arith) (let q = at_it l in omega arith) (λ k n. at_other l k n))
      (λ _. gone l Free _ (omega arith) (omega arith) (λ k n. refl)))
      (λ _. as_before l held Free None _)

  -- one of several goes
  one_gone : (l : ℕ) (mode : Mode) (p' : Phase) (answer : Answer) → 0 < claims l (with_phase Free held) → (mode ≡ ModeS → ⊥)
      → (mode ≡ ModeSx → 0 < sx_grants l (with_phase Free held)) → (mode ≡ ModeX → 0 < x_grants l (with_phase Free held)) → owing l p' ≤ 1 → ((k : ℕ) → l ≢ k → owing k p' ≡ 0)
      → Grows l held Free None 0 (response answer (changed_on l (one_fewer mode) held) p')
  one_gone l ModeS p' answer has no_s sx x one away = absurd (no_s refl)
  one_gone l ModeSx p' answer has no_s sx x one away =
      let b = held_by_grant l (λ h. h.sx + h.x) held has in let s = proper.single l in
      let k = counts_changed l (one_fewer ModeSx) held (one_fewer-latch ModeSx) (omega arith) in
      let g = k.1 (λ h. h.s + h.sx + h.x) in let g' = k.2 (λ h. h.s + h.sx + h.x) in let r = k.1 (λ h. h.s) in let r' = k.2 (λ h. h.s) in let m = k.1 (λ h. h.sx) in let n = sx refl in
      record { here = omega arith; few = omega arith; away = λ j n. let q = away j n in omega arith; class = λ _ _. omega arith }
  one_gone l ModeX p' answer has no_s sx x one away =
      let b = held_by_grant l (λ h. h.sx + h.x) held has in let s = proper.single l in
      let k = counts_changed l (one_fewer ModeX) held (one_fewer-latch ModeX) (omega arith) in
      let g = k.1 (λ h. h.s + h.sx + h.x) in let g' = k.2 (λ h. h.s + h.sx + h.x) in let r = k.1 (λ h. h.s) in let r' = k.2 (λ h. h.s) in let m = k.1 (λ h. h.x) in let n = x refl in
      record { here = omega arith; few = omega arith; away = λ j n. let q = away j n in omega arith; class = λ _ _. omega arith }

  look_or_free : (l : ℕ) (b : Bool) → (owing l (cond b (OwesLook l) Free) ≤ 1) × ((k : ℕ) → l ≢ k → owing k (cond b (OwesLook l) Free) ≡ 0)
  look_or_free l true = (let q = at_it l in omega arith, λ k n. at_other l k n)
  look_or_free l false = (omega arith, λ k n. refl)

  usx_grows : (l : ℕ) → Grows l held Free None 0 (giving_sx l (with_phase Free held))
  usx_grows l =
      let c = counted l (with_phase Free held) (proper.single l) in
      choose (λ (r : Response). Grows l held Free None 0 r) (nat_lt 0 (sx_grants l (with_phase Free held))) _ _
      (λ has.
      let sx = some_by (sx_grants l (with_phase Free held)) has in let f = look_or_free l (claims l (with_phase Free held) == 1) in
      choose (λ (now : List Holding). Grows l held Free None 0 (response Released now (cond (claims l (with_phase Free held) == 1) (OwesLook l) Free))) (claims l (with_phase Free held) == 1) (without_latch l held) (changed_on l (one_fewer ModeSx) held)
      (λ _. gone l _ _ (omega arith) f.0 f.1)
      (λ _. one_gone l ModeSx _ _ (omega arith) (λ z. absurd (cc)) (λ _. sx) (λ z. absurd (cc)) f.0 f.1))
      (λ _. as_before l held Free None _)

  ux_grows : (l : ℕ) → Grows l held Free None 0 (giving_x l (with_phase Free held))
  ux_grows l =
      let c = counted l (with_phase Free held) (proper.single l) in
      choose (λ (r : Response). Grows l held Free None 0 r) (nat_lt 0 (x_grants l (with_phase Free held))) _ _
      (λ has.
      let x = some_by (x_grants l (with_phase Free held)) has in let f = look_or_free l (x_grants l (with_phase Free held) == 1) in
      choose (λ (now : List Holding). Grows l held Free None 0 (response Released now (cond (x_grants l (with_phase Free held) == 1) (OwesLook l) Free))) (claims l (with_phase Free held) == 1) (without_latch l held) (changed_on l (one_fewer ModeX) held)
      (λ _. gone l _ _ (omega arith) f.0 f.1)
      (λ _. one_gone l ModeX _ _ (omega arith) (λ z. absurd (cc)) (λ z. absurd (cc)) (λ _. x) f.0 f.1))
      (λ _. as_before l held Free None _)

  free_grows : (now : ℕ) (e : Event) → Grows (latch_of e) held Free (wish_of Free e) (spent Free e) (free_row w now e (with_phase Free held))
  free_grows now (S l v) = s_grows l v
  free_grows now (Sx l v) = sx_grows l v
  free_grows now (X l v) = x_grows l v
  free_grows now (Us l) = us_grows l
  free_grows now (Usx l) = usx_grows l
  free_grows now (Ux l) = ux_grows l
  free_grows now (Arm l mode v) = choose (λ (r : Response). Grows l held Free None 0 r) (is_held l held) _ _ (λ _. as_before l held Free None _)
      (λ _. allowed held Free proper l None (answer_to (is_held l held) v (levels_of held)) _ (same_held l held Free (Armed l mode v now) None _ (λ k. omega arith)))
  free_grows now e = as_before (latch_of e) held Free None _

module _ (held : List Holding) (w : ℤ) where
  flagged_grows : (mode : Mode) (v : Level) (g : ℕ) (e : Event) → IsProper (with_phase (Flagged (latch_of e) mode v g) held)
      → Grows (latch_of e) held (Flagged (latch_of e) mode v g) (wish_of (Flagged (latch_of e) mode v g) e) 0 (flagged_row mode v g w e (with_phase (Flagged (latch_of e) mode v g) held))
  flagged_grows mode v g (Again l) proper = first_grows held (Flagged l mode v g) proper l mode v (Checked l mode v g) w proper.suits.0 (λ k. omega arith)
  flagged_grows mode v g (Quit l) proper = same_held l held (Flagged l mode v g) Free None _ (λ k. omega arith)
  flagged_grows mode v g e proper = as_before (latch_of e) held (Flagged (latch_of e) mode v g) None _

  armed_grows : (mode : Mode) (v : Level) (g : ℕ) (e : Event) → Grows (latch_of e) held (Armed (latch_of e) mode v g) None 0 (armed_row mode v g e (with_phase (Armed (latch_of e) mode v g) held))
  armed_grows mode v g (Flag l) = same_held l held (Armed l mode v g) (Flagged l mode v g) None _ (λ k. omega arith)
  armed_grows mode v g (Quit l) = same_held l held (Armed l mode v g) Free None _ (λ k. omega arith)
  armed_grows mode v g e = as_before (latch_of e) held (Armed (latch_of e) mode v g) None _

  checked_grows : (mode : Mode) (v : Level) (g now : ℕ) (e : Event) → Grows (latch_of e) held (Checked (latch_of e) mode v g) None 0 (checked_row mode v g now e (with_phase (Checked (latch_of e) mode v g) held))
  checked_grows mode v g now (Sleep l) = choose (λ (r : Response). Grows l held (Checked l mode v g) None 0 r) (now == g) _ _
      (λ _. same_held l held (Checked l mode v g) (Asleep l mode v g) None _ (λ k. omega arith)) (λ _. same_held l held (Checked l mode v g) Free None _ (λ k. omega arith))
  checked_grows mode v g now (Quit l) = same_held l held (Checked l mode v g) Free None _ (λ k. omega arith)
  checked_grows mode v g now e = as_before (latch_of e) held (Checked (latch_of e) mode v g) None _

  asleep_grows : (mode : Mode) (v : Level) (g now : ℕ) (e : Event) → Grows (latch_of e) held (Asleep (latch_of e) mode v g) None 0 (asleep_row mode v g now e (with_phase (Asleep (latch_of e) mode v g) held))
  asleep_grows mode v g now (Sleep l) = choose (λ (r : Response). Grows l held (Asleep l mode v g) None 0 r) (now == g) _ _
      (λ _. same_held l held (Asleep l mode v g) (Asleep l mode v g) None _ (λ k. omega arith)) (λ _. same_held l held (Asleep l mode v g) Free None _ (λ k. omega arith))
  asleep_grows mode v g now e = as_before (latch_of e) held (Asleep (latch_of e) mode v g) None _

  next_grows : (v : Level) (now : ℕ) (e : Event) → Grows (latch_of e) held (Next (latch_of e) v) None 0 (next_row v w now e (with_phase (Next (latch_of e) v) held))
  next_grows v now (Ready l) = choose (λ (r : Response). Grows l held (Next l v) None 0 r) (owns_x_at (sx_grants l (with_phase (Next l v) held)) w) _ _
      (λ _. same_held l held (Next l v) Free None _ (λ k. omega arith)) (λ _. same_held l held (Next l v) (Next l v) None _ (λ k. omega arith))
  next_grows v now (Exarm l) = same_held l held (Next l v) (NextArmed l v now) None _ (λ k. omega arith)
  next_grows v now e = as_before (latch_of e) held (Next (latch_of e) v) None _

  next_armed_grows : (v : Level) (g : ℕ) (e : Event) → Grows (latch_of e) held (NextArmed (latch_of e) v g) None 0 (next_armed_row v g w e (with_phase (NextArmed (latch_of e) v g) held))
  next_armed_grows v g (Ready l) = choose (λ (r : Response). Grows l held (NextArmed l v g) None 0 r) (owns_x_at (sx_grants l (with_phase (NextArmed l v g) held)) w) _ _
      (λ _. same_held l held (NextArmed l v g) Free None _ (λ k. omega arith)) (λ _. same_held l held (NextArmed l v g) (NextChecked l v g) None _ (λ k. omega arith))
  next_armed_grows v g e = as_before (latch_of e) held (NextArmed (latch_of e) v g) None _

  next_waits_grows : (p : Phase) → ((k : ℕ) → owing k p ≡ 0) → (v : Level) (g now : ℕ) (e : Event) → Grows (latch_of e) held p None 0 (next_waits_row v g now e (with_phase p held))
  next_waits_grows p quiet v g now (Sleep l) = choose (λ (r : Response). Grows l held p None 0 r) (now == g) _ _
      (λ _. same_held l held p (NextAsleep l v g) None _ (λ k. omega arith)) (λ _. same_held l held p (Next l v) None _ (λ k. omega arith))
  next_waits_grows p quiet v g now e = as_before (latch_of e) held p None _

  look_grows : (b : Bool) (e : Event) → Grows (latch_of e) held (OwesLook (latch_of e)) None 0 (owes_look_row b e (with_phase (OwesLook (latch_of e)) held))
  look_grows b (Look l) = choose (λ (p' : Phase). Grows l held (OwesLook l) None 0 (response (Looked b) held p')) b (OwesClear l) Free
      (λ _. same_held l held (OwesLook l) (OwesClear l) None _ (λ k. omega arith)) (λ _. same_held l held (OwesLook l) Free None _ (λ k. omega arith))
  look_grows b e = as_before (latch_of e) held (OwesLook (latch_of e)) None _

  clear_grows : (b : Bool) (e : Event) → Grows (latch_of e) held (OwesClear (latch_of e)) None 0 (owes_clear_row b e (with_phase (OwesClear (latch_of e)) held))
  clear_grows b (Clear l) = choose (λ (p' : Phase). Grows l held (OwesClear l) None 0 (response (Cleared b) held p')) b (OwesRaise l) Free
      (λ _. same_held l held (OwesClear l) (OwesRaise l) None _ (λ k. omega arith)) (λ _. same_held l held (OwesClear l) Free None _ (λ k. omega arith))
  clear_grows b e = as_before (latch_of e) held (OwesClear (latch_of e)) None _

  -- a raise that was owed is made
  raised : (l : ℕ) (p : Phase) (answer : Answer) → owing l p ≡ 1 → Grows l held p None 1 (response answer held Free)
  raised l p answer owes = record { here = omega arith; few = omega arith; away = λ k n. omega arith; class = λ _ _. refl }

  raise_grows : (now : ℕ) (e : Event) → Grows (latch_of e) held (OwesRaise (latch_of e)) None (spent (OwesRaise (latch_of e)) e) (owes_raise_row now e (with_phase (OwesRaise (latch_of e)) held))
  raise_grows now (Raise l) = raised l (OwesRaise l) _ (at_it l)
  raise_grows now e = as_before (latch_of e) held (OwesRaise (latch_of e)) None _

  raise_ex_grows : (now : ℕ) (e : Event) → Grows (latch_of e) held (OwesRaiseEx (latch_of e)) None (spent (OwesRaiseEx (latch_of e)) e) (owes_raise_row now e (with_phase (OwesRaiseEx (latch_of e)) held))
  raise_ex_grows now (Raise l) = raised l (OwesRaiseEx l) _ (at_it l)
  raise_ex_grows now e = as_before (latch_of e) held (OwesRaiseEx (latch_of e)) None _

  module _ (m : Marks) (e : Event) where
    abbrev Pays : Phase → Bool → Type 0
    Pays p b = IsProper (with_phase p held) → Grows (latch_of e) held p (wish_of p e) (if b then 0 else spent p e) (if b then refused OutOfTurn (with_phase p held) else row_of p w m e (with_phase p held))

    elsewhere : (p : Phase) → Pays p true
    elsewhere p proper = as_before (latch_of e) held p (wish_of p e) _

    -- a phase about the latch k, from the law on the event's own latch
    on_latch : (p : ℕ → Phase) (k : ℕ) → Pays (p (latch_of e)) false → Pays (p k) (not (k == latch_of e))
    on_latch p k own = by_equal (λ b. Pays (p k) (not b)) k (latch_of e) (λ q. subst (λ k. Pays (p k) false) (sym q) own) (λ _. elsewhere (p k))

    pub pays_by : (p : Phase) → Pays p (is_elsewhere (latch_of e) p)
    pays_by Free = λ proper. free_grows held proper w m.generation e
    pays_by (Armed k mode v g) = on_latch (λ k. Armed k mode v g) k (λ proper. armed_grows mode v g e)
    pays_by (Flagged k mode v g) = on_latch (λ k. Flagged k mode v g) k (λ proper. flagged_grows mode v g e proper)
    pays_by (Checked k mode v g) = on_latch (λ k. Checked k mode v g) k (λ proper. checked_grows mode v g m.generation e)
    pays_by (Asleep k mode v g) = on_latch (λ k. Asleep k mode v g) k (λ proper. asleep_grows mode v g m.generation e)
    pays_by (Next k v) = on_latch (λ k. Next k v) k (λ proper. next_grows v m.ex_generation e)
    pays_by (NextArmed k v g) = on_latch (λ k. NextArmed k v g) k (λ proper. next_armed_grows v g e)
    pays_by (NextChecked k v g) = on_latch (λ k. NextChecked k v g) k (λ proper. next_waits_grows (NextChecked (latch_of e) v g) (λ k. refl) v g m.ex_generation e)
    pays_by (NextAsleep k v g) = on_latch (λ k. NextAsleep k v g) k (λ proper. next_waits_grows (NextAsleep (latch_of e) v g) (λ k. refl) v g m.ex_generation e)
    pays_by (OwesLook k) = on_latch (λ k. OwesLook k) k (λ proper. look_grows m.waiters e)
    pays_by (OwesClear k) = on_latch (λ k. OwesClear k) k (λ proper. clear_grows m.waiters e)
    pays_by (OwesRaise k) = on_latch (λ k. OwesRaise k) k (λ proper. raise_grows m.generation e)
    pays_by (OwesRaiseEx k) = on_latch (λ k. OwesRaiseEx k) k (λ proper. raise_ex_grows m.ex_generation e)

-- the raises of an event in its turn
abbrev pub spent_by : Phase → Event → ℕ
spent_by p e = if is_elsewhere (latch_of e) p then 0 else spent p e

pub response_pays : (w : ℤ) (m : Marks) (e : Event) (a : Session) → IsProper a → Grows (latch_of e) a.held a.phase (wish_of a.phase e) (spent_by a.phase e) (response_of w m e a)
response_pays w m e a proper = pays_by a.held w m e a.phase proper

-- .. are those of the marks
module _ (m : Marks) where
  raised_counts : (p : Phase) (e : Event) → (marks_by p e m).generation + (marks_by p e m).ex_generation ≡ m.generation + m.ex_generation + spent p e
  raised_counts (Armed k mode v g) (Flag l) = omega arith
  raised_counts (Armed k mode v g) e = omega arith
  raised_counts (OwesClear k) (Clear l) = omega arith
  raised_counts (OwesClear k) e = omega arith
  raised_counts (OwesRaise k) (Raise l) = omega arith
  raised_counts (OwesRaise k) e = omega arith
  raised_counts (OwesRaiseEx k) (Raise l) = omega arith
  raised_counts (OwesRaiseEx k) e = omega arith
  raised_counts p e = omega arith

  pub marks_pay : (p : Phase) (e : Event) → (marks_after p e m).generation + (marks_after p e m).ex_generation ≡ m.generation + m.ex_generation + spent_by p e
  marks_pay p e = by_test (is_elsewhere (latch_of e) p)
    where
      by_test : (b : Bool) → (if b then m else marks_by p e m).generation + (if b then m else marks_by p e m).ex_generation ≡ m.generation + m.ex_generation + (if b then 0 else spent p e)
      by_test true = omega arith
      by_test false = raised_counts p e
