-- Each event, in each phase, leads from a good state to a good state.
use Rattle.std.proofs.Common.{◌≡◌, ◌≢◌, ℕ, ◌<◌, inl, Bool, true, false, not, cond, List, set, refl, sym, ap, subst, arith}
use Rattle.std.specs.Prelude.{◌==◌, if◌then◌else◌}
use mathlib.Core.Logic.{dite}
use native.Mathlib.Decide.{ℕ_discrete}
use Rattle.ib_word.specs.declared.word.TheConstants.{X_LOCK_DECR}
use Rattle.ib_word.specs.Weight.{x_weight}
use Rattle.ib_levels.specs.declared.holding.Holding.{Holding}
use Rattle.ib_levels.specs.declared.level.Level.{Level}
use Rattle.ib_levels.specs.declared.level.Mode.{Mode}
use Rattle.ib_levels.specs.declared.level.Mode.TheVariants.{S as ModeS, Sx as ModeSx, X as ModeX}
use Rattle.ib_levels.proofs.Counts.{by_equal}
use Rattle.ib_core.specs.declared.phase.Phase.{Phase}
use Rattle.ib_core.specs.declared.phase.Phase.TheVariants.{Free, Armed, Flagged, Checked, Asleep, Next, NextArmed, NextChecked, NextAsleep, OwesLook, OwesClear, OwesRaise, OwesRaiseEx}
use Rattle.ib_core.specs.declared.event.Event.{Event}
use Rattle.ib_core.specs.declared.event.Event.TheVariants.{S, Sx, X, Us, Usx, Ux, Arm, Flag, Again, Quit, Sleep, Ready, Exarm, Look, Clear, Raise}
use Rattle.ib_core.specs.declared.session.Session.{Session}
use Rattle.ib_core.specs.declared.session.Marks.{Marks}
use Rattle.ib_core.specs.Sessions.{Stands, word_on, all_taken, claims, x_grants, sx_grants, readers_of, HasFewReaders}
use Rattle.ib_core.specs.declared.event.Refusal.TheVariants.{OutOfTurn}
use Rattle.ib_core.specs.Takings.{is_given_at}
use Rattle.ib_core.specs.Responses.{Response, refused, latch_of, is_elsewhere}
use Rattle.ib_core.specs.Table.{owns_x_at, readying, free_row, armed_row, flagged_row, checked_row, asleep_row, next_row, next_armed_row, next_waits_row, owes_look_row, owes_clear_row, owes_raise_row, row_of, response_of, flag_marks, clear_marks, raised_by, marks_by, marks_after}
use Rattle.ib_core.specs.Good.{IsGood, MustWait, MustDrain}
use Rattle.ib_core.proofs.Quiet.{at_itself}
use Rattle.ib_core.proofs.OnLatch.{counted}
use Rattle.ib_core.proofs.Weighs.{reads_none}
use Rattle.ib_core.proofs.WordTests.{not_above_0, not_above_half, owns_x, not_owns_x}
use Rattle.ib_core.proofs.Phased.{with_phase}
use Rattle.ib_core.proofs.Waiting.{nothing_flagged, nothing_next, nothing_next_armed, OwesNothing, flags, quits_armed, quits_flagged, quits_checked, quits_asleep, checks, falls_asleep, sleeps_on, exarms, next_stays, next_checks, next_falls_asleep, next_sleeps_on, next_awakes_checked, next_awakes_asleep, owns}
use Rattle.ib_core.proofs.Signals.{looks_down, looks_up, clears_up, clears_down, raises, raises_ex}
use Rattle.ib_core.proofs.Totals.{refused_wish, claimer_whole, nobody_reads}
use Rattle.ib_core.proofs.Turned.{stays, choose, first_kept, s_kept, sx_kept, x_kept, us_kept, usx_kept, ux_kept, arm_kept}

-- marks that differ on no latch are the same
same_marks : (m m' : ℕ → Marks) (l : ℕ) → m' l ≡ m l → ((k : ℕ) → l ≢ k → m' k ≡ m k) → m ≡ m'
same_marks m m' l here away = λ j k. sym (at k) j
  where
    at : (k : ℕ) → m' k ≡ m k
    at k = dite (ℕ_discrete l k) (λ q. subst (λ k. m' k ≡ m k) q here) (λ n. away k n)

module _ (m : ℕ → Marks) (ss : List Session) (i : ℕ) (held : List Holding) (good : IsGood ss m) (few : HasFewReaders ss) where
  free_kept : (e : Event) → Stands ss i (with_phase Free held) → IsGood (set ss i (free_row (word_on (latch_of e) ss) (m (latch_of e)).generation e (with_phase Free held)).session) m
  free_kept (S l v) at = s_kept m ss i held good few at l v
  free_kept (Sx l v) at = sx_kept m ss i held good few at l v
  free_kept (X l v) at = x_kept m ss i held good few at l v
  free_kept (Us l) at = us_kept m ss i held good few at l
  free_kept (Usx l) at = usx_kept m ss i held good few at l
  free_kept (Ux l) at = ux_kept m ss i held good few at l
  free_kept (Arm l mode v) at = arm_kept m ss i held good few at l mode v
  free_kept e at = stays m ss i (with_phase Free held) good at

  one : (l : ℕ) (j k : ℕ) (a b : Session) → Stands ss j a → Stands ss k b → j ≢ k → 0 < claims l a → claims l b ≡ 0
  one l j k a b e d n = (good.beside j k a b e d n l).one_claim

  -- a word that refuses the wish once more has somebody against it
  refused_again : (l : ℕ) (mode : Mode) → is_given_at mode (word_on l ss) ≡ false → MustWait mode l ss
  refused_again l ModeS no_more = let full = not_above_0 (all_taken l ss) no_more in inl (refused_wish l ss good.proper (one l) (few l) ModeS (λ _. full) (omega arith))
  refused_again l ModeSx no_more = let half = not_above_half (all_taken l ss) no_more in inl (refused_wish l ss good.proper (one l) (few l) ModeSx (λ z. absurd (cc)) half)
  refused_again l ModeX no_more = let half = not_above_half (all_taken l ss) no_more in inl (refused_wish l ss good.proper (one l) (few l) ModeX (λ z. absurd (cc)) half)

  flagged_kept : (mode : Mode) (v : Level) (g : ℕ) (e : Event) → Stands ss i (with_phase (Flagged (latch_of e) mode v g) held)
      → IsGood (set ss i (flagged_row mode v g (word_on (latch_of e) ss) e (with_phase (Flagged (latch_of e) mode v g) held)).session) m
  flagged_kept mode v g (Again l) at =
      let p : Phase = Flagged l mode v g in let suits = (good.proper i (with_phase p held) at).suits in
      first_kept m ss i held good few l v p (Checked l mode v g) at (at_itself l) (nothing_flagged l mode v g) suits.0 suits.1 mode
      (λ no_more. checks m ss i held l good mode v g at (refused_again l mode no_more))
  flagged_kept mode v g (Quit l) at = quits_flagged m ss i held l good mode v g at
  flagged_kept mode v g e at = stays m ss i (with_phase (Flagged (latch_of e) mode v g) held) good at

  checked_kept : (mode : Mode) (v : Level) (g now : ℕ) (e : Event) → Stands ss i (with_phase (Checked (latch_of e) mode v g) held)
      → IsGood (set ss i (checked_row mode v g now e (with_phase (Checked (latch_of e) mode v g) held)).session) m
  checked_kept mode v g now (Sleep l) at = choose (λ (r : Response). IsGood (set ss i r.session) m) (now == g) _ _
      (λ _. falls_asleep m ss i held l good mode v g at) (λ _. quits_checked m ss i held l good mode v g at)
  checked_kept mode v g now (Quit l) at = quits_checked m ss i held l good mode v g at
  checked_kept mode v g now e at = stays m ss i (with_phase (Checked (latch_of e) mode v g) held) good at

  asleep_kept : (mode : Mode) (v : Level) (g now : ℕ) (e : Event) → Stands ss i (with_phase (Asleep (latch_of e) mode v g) held)
      → IsGood (set ss i (asleep_row mode v g now e (with_phase (Asleep (latch_of e) mode v g) held)).session) m
  asleep_kept mode v g now (Sleep l) at = choose (λ (r : Response). IsGood (set ss i r.session) m) (now == g) _ _
      (λ _. sleeps_on m ss i held l good mode v g at) (λ _. quits_asleep m ss i held l good mode v g at)
  asleep_kept mode v g now e at = stays m ss i (with_phase (Asleep (latch_of e) mode v g) held) good at

  -- the next writer looks whether it owns X
  ready_kept : (l : ℕ) (p waiting : Phase) → Stands ss i (with_phase p held) → is_elsewhere l p ≡ false → OwesNothing p → x_grants l (with_phase p held) ≡ 1
      → (MustDrain l ss → IsGood (set ss i (with_phase waiting held)) m)
      → IsGood (set ss i (readying l waiting (word_on l ss) (with_phase p held)).session) m
  ready_kept l p waiting at before quiet x waits =
      let a : Session = with_phase p held in let proper = good.proper i a at in let c = counted l a (proper.single l) in
      let unread = reads_none l a proper (omega arith) in
      let w : x_weight (x_grants l a) ≡ X_LOCK_DECR = ap x_weight x in
      choose (λ (r : Response). IsGood (set ss i r.session) m) (owns_x_at (sx_grants l a) (word_on l ss)) _ _
      (λ owned. let whole = owns_x (sx_grants l a) (all_taken l ss) owned in
      owns m ss i held l good p at before quiet (nobody_reads l ss good.proper (one l) i a at (omega arith)))
      (λ not_owned. waits (dite (ℕ_discrete (readers_of l ss) 0)
      (λ none. let whole = claimer_whole l ss good.proper (one l) i a at (omega arith) none in absurd (not_owns_x (sx_grants l a) (all_taken l ss) not_owned (omega arith)))
      (λ readers. inl (omega arith))))

  next_kept : (v : Level) (e : Event) → Stands ss i (with_phase (Next (latch_of e) v) held)
      → IsGood (set ss i (next_row v (word_on (latch_of e) ss) (m (latch_of e)).ex_generation e (with_phase (Next (latch_of e) v) held)).session) m
  next_kept v (Ready l) at = ready_kept l (Next l v) (Next l v) at (at_itself l) (nothing_next l v) (good.proper i (with_phase (Next l v) held) at).suits (λ _. next_stays m ss i held l good v at)
  next_kept v (Exarm l) at = exarms m ss i held l good v at
  next_kept v e at = stays m ss i (with_phase (Next (latch_of e) v) held) good at

  next_armed_kept : (v : Level) (g : ℕ) (e : Event) → Stands ss i (with_phase (NextArmed (latch_of e) v g) held)
      → IsGood (set ss i (next_armed_row v g (word_on (latch_of e) ss) e (with_phase (NextArmed (latch_of e) v g) held)).session) m
  next_armed_kept v g (Ready l) at =
      ready_kept l (NextArmed l v g) (NextChecked l v g) at (at_itself l) (nothing_next_armed l v g) (good.proper i (with_phase (NextArmed l v g) held) at).suits (next_checks m ss i held l good v g at)
  next_armed_kept v g e at = stays m ss i (with_phase (NextArmed (latch_of e) v g) held) good at

  next_checked_kept : (v : Level) (g now : ℕ) (e : Event) → Stands ss i (with_phase (NextChecked (latch_of e) v g) held)
      → IsGood (set ss i (next_waits_row v g now e (with_phase (NextChecked (latch_of e) v g) held)).session) m
  next_checked_kept v g now (Sleep l) at = choose (λ (r : Response). IsGood (set ss i r.session) m) (now == g) _ _
      (λ _. next_falls_asleep m ss i held l good v g at) (λ _. next_awakes_checked m ss i held l good v g at)
  next_checked_kept v g now e at = stays m ss i (with_phase (NextChecked (latch_of e) v g) held) good at

  next_asleep_kept : (v : Level) (g now : ℕ) (e : Event) → Stands ss i (with_phase (NextAsleep (latch_of e) v g) held)
      → IsGood (set ss i (next_waits_row v g now e (with_phase (NextAsleep (latch_of e) v g) held)).session) m
  next_asleep_kept v g now (Sleep l) at = choose (λ (r : Response). IsGood (set ss i r.session) m) (now == g) _ _
      (λ _. next_sleeps_on m ss i held l good v g at) (λ _. next_awakes_asleep m ss i held l good v g at)
  next_asleep_kept v g now e at = stays m ss i (with_phase (NextAsleep (latch_of e) v g) held) good at

  look_kept : (e : Event) → Stands ss i (with_phase (OwesLook (latch_of e)) held) → IsGood (set ss i (owes_look_row (m (latch_of e)).waiters e (with_phase (OwesLook (latch_of e)) held)).session) m
  look_kept (Look l) at = by_flag (m l).waiters refl
    where
      by_flag : (b : Bool) → (m l).waiters ≡ b → IsGood (set ss i (with_phase (cond b (OwesClear l) Free) held)) m
      by_flag true up = looks_up m ss i held l good at
      by_flag false down = looks_down m ss i held l good at down
  look_kept e at = stays m ss i (with_phase (OwesLook (latch_of e)) held) good at

  module _ (m' : ℕ → Marks) (e : Event) (away : (k : ℕ) → latch_of e ≢ k → m' k ≡ m k) where
    -- where the marks stay
    as_before : (ss' : List Session) → m' (latch_of e) ≡ m (latch_of e) → IsGood ss' m → IsGood ss' m'
    as_before ss' here kept = subst (λ m. IsGood ss' m) (same_marks m m' (latch_of e) here away) kept

  armed_kept : (m' : ℕ → Marks) (mode : Mode) (v : Level) (g : ℕ) (e : Event) → ((k : ℕ) → latch_of e ≢ k → m' k ≡ m k) → Stands ss i (with_phase (Armed (latch_of e) mode v g) held)
      → m' (latch_of e) ≡ flag_marks e (m (latch_of e)) → IsGood (set ss i (armed_row mode v g e (with_phase (Armed (latch_of e) mode v g) held)).session) m'
  armed_kept m' mode v g (Flag l) away at here = flags m ss i held l good mode v g m' at here away
  armed_kept m' mode v g (Quit l) away at here = as_before m' (Quit l) away _ here (quits_armed m ss i held l good mode v g at)
  armed_kept m' mode v g e away at here = as_before m' e away _ here (stays m ss i (with_phase (Armed (latch_of e) mode v g) held) good at)

  clear_kept : (m' : ℕ → Marks) (e : Event) → ((k : ℕ) → latch_of e ≢ k → m' k ≡ m k) → Stands ss i (with_phase (OwesClear (latch_of e)) held)
      → m' (latch_of e) ≡ clear_marks e (m (latch_of e)) → IsGood (set ss i (owes_clear_row (m (latch_of e)).waiters e (with_phase (OwesClear (latch_of e)) held)).session) m'
  clear_kept m' (Clear l) away at here = by_flag (m l).waiters refl
    where
      by_flag : (b : Bool) → (m l).waiters ≡ b → IsGood (set ss i (with_phase (cond b (OwesRaise l) Free) held)) m'
      by_flag true up = clears_up m ss i held l good m' at here away
      by_flag false down = clears_down m ss i held l good m' at down here away
  clear_kept m' e away at here = as_before m' e away _ here (stays m ss i (with_phase (OwesClear (latch_of e)) held) good at)

  raise_kept : (m' : ℕ → Marks) (e : Event) → ((k : ℕ) → latch_of e ≢ k → m' k ≡ m k) → Stands ss i (with_phase (OwesRaise (latch_of e)) held)
      → m' (latch_of e) ≡ record (m (latch_of e)) { generation = raised_by e (m (latch_of e)).generation } → IsGood (set ss i (owes_raise_row (m (latch_of e)).generation e (with_phase (OwesRaise (latch_of e)) held)).session) m'
  raise_kept m' (Raise l) away at here = raises m ss i held l good m' at here away
  raise_kept m' e away at here = as_before m' e away _ here (stays m ss i (with_phase (OwesRaise (latch_of e)) held) good at)

  raise_ex_kept : (m' : ℕ → Marks) (e : Event) → ((k : ℕ) → latch_of e ≢ k → m' k ≡ m k) → Stands ss i (with_phase (OwesRaiseEx (latch_of e)) held)
      → m' (latch_of e) ≡ record (m (latch_of e)) { ex_generation = raised_by e (m (latch_of e)).ex_generation } → IsGood (set ss i (owes_raise_row (m (latch_of e)).ex_generation e (with_phase (OwesRaiseEx (latch_of e)) held)).session) m'
  raise_ex_kept m' (Raise l) away at here = raises_ex m ss i held l good m' at here away
  raise_ex_kept m' e away at here = as_before m' e away _ here (stays m ss i (with_phase (OwesRaiseEx (latch_of e)) held) good at)

  -- by the phase: on another latch nothing happens
  module _ (m' : ℕ → Marks) (e : Event) (away : (k : ℕ) → latch_of e ≢ k → m' k ≡ m k) where
    abbrev Kept : Phase → Bool → Type 0
    Kept p b = Stands ss i (with_phase p held) → m' (latch_of e) ≡ (if b then m (latch_of e) else marks_by p e (m (latch_of e)))
        → IsGood (set ss i (if b then refused OutOfTurn (with_phase p held) else row_of p (word_on (latch_of e) ss) (m (latch_of e)) e (with_phase p held)).session) m'

    elsewhere : (p : Phase) → Kept p true
    elsewhere p at here = as_before m' e away _ here (stays m ss i (with_phase p held) good at)

    -- a phase about the latch k, from the law on the event's own latch
    on_latch : (p : ℕ → Phase) (k : ℕ) → Kept (p (latch_of e)) false → Kept (p k) (not (k == latch_of e))
    on_latch p k own = by_equal (λ b. Kept (p k) (not b)) k (latch_of e) (λ q. subst (λ k. Kept (p k) false) (sym q) own) (λ _. elsewhere (p k))

    pub kept_by : (p : Phase) → Kept p (is_elsewhere (latch_of e) p)
    kept_by Free = λ at here. as_before m' e away _ here (free_kept e at)
    kept_by (Armed k mode v g) = on_latch (λ k. Armed k mode v g) k (λ at here. armed_kept m' mode v g e away at here)
    kept_by (Flagged k mode v g) = on_latch (λ k. Flagged k mode v g) k (λ at here. as_before m' e away _ here (flagged_kept mode v g e at))
    kept_by (Checked k mode v g) = on_latch (λ k. Checked k mode v g) k (λ at here. as_before m' e away _ here (checked_kept mode v g (m (latch_of e)).generation e at))
    kept_by (Asleep k mode v g) = on_latch (λ k. Asleep k mode v g) k (λ at here. as_before m' e away _ here (asleep_kept mode v g (m (latch_of e)).generation e at))
    kept_by (Next k v) = on_latch (λ k. Next k v) k (λ at here. as_before m' e away _ here (next_kept v e at))
    kept_by (NextArmed k v g) = on_latch (λ k. NextArmed k v g) k (λ at here. as_before m' e away _ here (next_armed_kept v g e at))
    kept_by (NextChecked k v g) = on_latch (λ k. NextChecked k v g) k (λ at here. as_before m' e away _ here (next_checked_kept v g (m (latch_of e)).ex_generation e at))
    kept_by (NextAsleep k v g) = on_latch (λ k. NextAsleep k v g) k (λ at here. as_before m' e away _ here (next_asleep_kept v g (m (latch_of e)).ex_generation e at))
    kept_by (OwesLook k) = on_latch (λ k. OwesLook k) k (λ at here. as_before m' e away _ here (look_kept e at))
    kept_by (OwesClear k) = on_latch (λ k. OwesClear k) k (λ at here. clear_kept m' e away at here)
    kept_by (OwesRaise k) = on_latch (λ k. OwesRaise k) k (λ at here. raise_kept m' e away at here)
    kept_by (OwesRaiseEx k) = on_latch (λ k. OwesRaiseEx k) k (λ at here. raise_ex_kept m' e away at here)

-- the law: the turn of an event leads from any good state of few sessions to a good state
pub turn_kept : (m m' : ℕ → Marks) (ss : List Session) (i : ℕ) (a : Session) (e : Event) → HasFewReaders ss → IsGood ss m → Stands ss i a
    → m' (latch_of e) ≡ marks_after a.phase e (m (latch_of e)) → ((k : ℕ) → latch_of e ≢ k → m' k ≡ m k)
    → IsGood (set ss i (response_of (word_on (latch_of e) ss) (m (latch_of e)) e a).session) m'
turn_kept m m' ss i a e few good at here away = kept_by m ss i a.held good few m' e away a.phase at here
