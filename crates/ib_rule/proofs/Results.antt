-- The session after each step on a latch.
use Rattle.std.proofs.Common.{◌≡◌, ℕ, ◌+◌, ◌<◌, Bool, true, false, ℤ, pos, Option, Some, None, refl, sym, ap, ◌∙◌, arith, eq-eqb, ne_eqb}
use Rattle.std.specs.Prelude.{◌==◌, not, nat_lt, if◌then◌else◌, ◌+ℤ◌}
use Rattle.std.proofs.lemmas.Int.{ints}
use mathlib.Core.Logic.{dite}
use native.Mathlib.Decide.{ℕ_discrete}
use Rattle.ib_word.specs.Word.{word_in}
use Rattle.ib_levels.specs.declared.level.Level.{Level}
use Rattle.ib_levels.specs.declared.level.Level.TheVariants.{Log}
use Rattle.ib_levels.specs.declared.level.Mode.{Mode}
use Rattle.ib_levels.specs.declared.level.Mode.TheVariants.{Sx as ModeSx, X as ModeX}
use Rattle.ib_levels.specs.Holding.{changed_on, without_latch}
use Rattle.ib_core.specs.declared.phase.Phase.{Phase}
use Rattle.ib_core.specs.declared.phase.Phase.TheVariants.{Free, Armed, Flagged, Checked, Asleep, Next, NextArmed, NextChecked, NextAsleep, OwesLook, OwesClear, OwesRaise, OwesRaiseEx}
use Rattle.ib_core.specs.declared.event.Event.{Event}
use Rattle.ib_core.specs.declared.event.Event.TheVariants.{Sx, Usx, Ux, Flag, Clear, Raise}
use Rattle.ib_core.specs.declared.event.Answer.TheVariants.{Armed as ArmedAt, Asleep as AsleepAt, Awake}
use Rattle.ib_core.specs.declared.event.Refusal.TheVariants.{OutOfTurn, HeldAlready}
use Rattle.ib_core.specs.declared.session.Session.{Session}
use Rattle.ib_core.specs.Holders.{CanWish}
use Rattle.ib_core.specs.Sessions.{claims, sx_grants, x_grants}
use Rattle.ib_core.specs.Good.{IsProper}
use Rattle.ib_core.specs.Responses.{Response, response, refused, latch_of, is_elsewhere}
use Rattle.ib_core.specs.Table.{response_of, row_of, arming, sleeping}
use Rattle.ib_core.specs.Takings.{given_back, one_fewer, one_more, where_allowed, wish}
use Rattle.ib_core.specs.Turns.{marks_found, turn_at}
use Rattle.ib_core.proofs.After.{after_further_sx, after_last_sx_back, after_sx_back, after_x_back, after_last_x_back, after_last_x_beside_sx}
use Rattle.ib_core.proofs.OnLatch.{counted}
use Rattle.ib_core.proofs.Phased.{with_phase}
use Rattle.ib_core.proofs.Quiet.{at_itself}
use Rattle.ib_core.proofs.Wishes.{allowed_new}
use Rattle.ib_levels.proofs.Counts.{unheld_from_none}
use Rattle.ib_rule.specs.declared.kind.StepKind.TheVariants.{Turn as Turns}
use Rattle.ib_rule.specs.declared.view.View.{View}
use Rattle.ib_rule.specs.Steps.{view_after}
use Rattle.ib_rule.specs.Conditions.{IsArmed, MayLoadExGen, MayLoadFlag, MayLoadGen, ex_gen_event, flag_event, gen_event}
use Rattle.ib_rule.specs.Afterwards.{cleared, ex_loaded, flag_loaded, flagged, gen_loaded, in_phase}

-- a step that was an event leaves the session of the event's response
pub response_session : (v w : View) (e : Event) (n : ℕ) (r : Response) → w ≡ view_after (Turns e) n v → response_of (word_in n) (marks_found n) e v.session ≡ r → w.session ≡ r.session
response_session v w e n r is response = ap (λ (u : View). u.session) is ∙ ap (λ (r : Response). r.session) response

-- the word after a step on a cell
pub next_word : (n : ℕ) (w : ℤ) → w ≡ word_in (n + 1) → (word_in n +ℤ pos 1) ≡ w
next_word n w is = omega (arith, ints)

-- an event in its turn, of a session in this phase on this latch
module _ (v w : View) (l n : ℕ) where
  pub row_session : (p : Phase) (e : Event) → v.session.phase ≡ p → is_elsewhere (latch_of e) p ≡ false → (turn_at e n v.session).session ≡ (row_of p (word_in n) (marks_found n) e (with_phase p v.session.held)).session
  row_session p e phase here =
      ap (λ (a : Session). (response_of (word_in n) (marks_found n) e a).session) (let same : v.session ≡ with_phase p v.session.held = λ j. record { held = v.session.held; phase = phase j } in same)
      ∙ ap (λ b. (if b then refused OutOfTurn (with_phase p v.session.held) else row_of p (word_in n) (marks_found n) e (with_phase p v.session.held)).session) here

  by_row : (p : Phase) (e : Event) → v.session.phase ≡ p → is_elsewhere (latch_of e) p ≡ false → w ≡ view_after (Turns e) n v → w.session ≡ (row_of p (word_in n) (marks_found n) e (with_phase p v.session.held)).session
  by_row p e phase here is =
      ap (λ (u : View). u.session) is ∙ row_session p e phase here

  at_latch : (k : ℕ) → k ≡ l → not (k == l) ≡ false
  at_latch k is = ap (λ (k : ℕ). not (k == l)) is ∙ at_itself l

  sleeps_or : (now g : ℕ) (asleep awake : Phase) → (sleeping now g asleep awake v.session).session ≡ in_phase (if now == g then asleep else awake) v.session
  sleeps_or now g asleep awake = by_test (now == g)
    where
      by_test : (b : Bool) → (if b then response (AsleepAt now) v.session.held asleep else response (Awake now) v.session.held awake).session ≡ in_phase (if b then asleep else awake) v.session
      by_test true = refl
      by_test false = refl

  armed_by : (m : Mode) (u : Level) → CanWish l u v.session → (arming l m u n (with_phase Free v.session.held)).session ≡ in_phase (Armed l m u n) v.session
  armed_by m u can =
      let unheld = unheld_from_none l v.session.held can.none in
      ap (λ (r : Response). r.session) (ap (λ b. if b then refused HeldAlready (with_phase Free v.session.held) else where_allowed l u (with_phase Free v.session.held) (response (ArmedAt n) v.session.held (Armed l m u n))) unheld
      ∙ allowed_new l u (with_phase Free v.session.held) (response (ArmedAt n) v.session.held (Armed l m u n)) unheld can.allowed)

  gen_by : (wish : Option (Mode × Level)) (p : Phase) → v.session.phase ≡ p → MayLoadGen l wish v.session p → w ≡ view_after (Turns (gen_event l wish)) n v → w.session ≡ in_phase (gen_loaded l wish n p) v.session
  gen_by (Some wish) Free phase may is = by_row Free (gen_event l (Some wish)) phase refl is ∙ armed_by wish.0 wish.1 may
  gen_by None (Checked k m u g) phase may is =
      by_row (Checked k m u g) (gen_event l None) phase (at_latch k may) is ∙ (sleeps_or n g (Asleep l m u g) Free ∙ ap (λ (k : ℕ). in_phase (if n == g then Asleep k m u g else Free) v.session) (sym may))
  gen_by None (Asleep k m u g) phase may is =
      by_row (Asleep k m u g) (gen_event l None) phase (at_latch k may) is ∙ (sleeps_or n g (Asleep l m u g) Free ∙ ap (λ (k : ℕ). in_phase (if n == g then Asleep k m u g else Free) v.session) (sym may))
  gen_by wish p phase may is = absurd may

  pub gen_session : (wish : Option (Mode × Level)) → MayLoadGen l wish v.session v.session.phase → w ≡ view_after (Turns (gen_event l wish)) n v → w.session ≡ in_phase (gen_loaded l wish n v.session.phase) v.session
  gen_session wish may is = gen_by wish v.session.phase refl may is

  ex_gen_by : (p : Phase) → v.session.phase ≡ p → MayLoadExGen l p → w ≡ view_after (Turns (ex_gen_event l p)) n v → w.session ≡ in_phase (ex_loaded n p) v.session
  ex_gen_by (Next k u) phase may is = by_row (Next k u) (ex_gen_event l (Next k u)) phase (at_latch k may) is ∙ ap (λ (k : ℕ). in_phase (NextArmed k u n) v.session) (sym may)
  ex_gen_by (NextChecked k u g) phase may is =
      by_row (NextChecked k u g) (ex_gen_event l (NextChecked k u g)) phase (at_latch k may) is ∙ (sleeps_or n g (NextAsleep l u g) (Next l u) ∙ ap (λ (k : ℕ). in_phase (if n == g then NextAsleep k u g else Next k u) v.session) (sym may))
  ex_gen_by (NextAsleep k u g) phase may is =
      by_row (NextAsleep k u g) (ex_gen_event l (NextAsleep k u g)) phase (at_latch k may) is ∙ (sleeps_or n g (NextAsleep l u g) (Next l u) ∙ ap (λ (k : ℕ). in_phase (if n == g then NextAsleep k u g else Next k u) v.session) (sym may))
  ex_gen_by p phase may is = absurd may

  pub ex_gen_session : MayLoadExGen l v.session.phase → w ≡ view_after (Turns (ex_gen_event l v.session.phase)) n v → w.session ≡ in_phase (ex_loaded n v.session.phase) v.session
  ex_gen_session may is = ex_gen_by v.session.phase refl may is

  flag_by : (p : Phase) → v.session.phase ≡ p → MayLoadFlag l p → w ≡ view_after (Turns (flag_event l p)) n v → w.session ≡ in_phase (flag_loaded n p) v.session
  flag_by (OwesLook k) phase may is =
      by_row (OwesLook k) (flag_event l (OwesLook k)) phase (at_latch k may) is ∙ ap (λ (k : ℕ). in_phase (if nat_lt 0 n then OwesClear k else Free) v.session) (sym may)
  flag_by (Armed k m u g) phase may is = by_row (Armed k m u g) (flag_event l (Armed k m u g)) phase (at_latch k may) is
  flag_by (Flagged k m u g) phase may is = by_row (Flagged k m u g) (flag_event l (Flagged k m u g)) phase (at_latch k may) is
  flag_by (Checked k m u g) phase may is = by_row (Checked k m u g) (flag_event l (Checked k m u g)) phase (at_latch k may) is
  flag_by p phase may is = absurd may

  pub flag_session : MayLoadFlag l v.session.phase → w ≡ view_after (Turns (flag_event l v.session.phase)) n v → w.session ≡ in_phase (flag_loaded n v.session.phase) v.session
  flag_session may is = flag_by v.session.phase refl may is

  set_by : (p : Phase) → v.session.phase ≡ p → IsArmed l p → w ≡ view_after (Turns (Flag l)) n v → w.session ≡ in_phase (flagged p) v.session
  set_by (Armed k m u g) phase may is = by_row (Armed k m u g) (Flag l) phase (at_latch k may) is ∙ ap (λ (k : ℕ). in_phase (Flagged k m u g) v.session) (sym may)
  set_by p phase may is = absurd may

  pub set_session : IsArmed l v.session.phase → w ≡ view_after (Turns (Flag l)) n v → w.session ≡ in_phase (flagged v.session.phase) v.session
  set_session may is = set_by v.session.phase refl may is

  pub clear_session : v.session.phase ≡ OwesClear l → w ≡ view_after (Turns (Clear l)) n v → w.session ≡ in_phase (cleared l n) v.session
  clear_session phase is = by_row (OwesClear l) (Clear l) phase (at_itself l) is

  pub raise_session : v.session.phase ≡ OwesRaise l → w ≡ view_after (Turns (Raise l)) n v → w.session ≡ in_phase Free v.session
  raise_session phase is = by_row (OwesRaise l) (Raise l) phase (at_itself l) is

  pub ex_raise_session : v.session.phase ≡ OwesRaiseEx l → w ≡ view_after (Turns (Raise l)) n v → w.session ≡ in_phase Free v.session
  ex_raise_session phase is = by_row (OwesRaiseEx l) (Raise l) phase (at_itself l) is

-- the session after each further grant and each release
module _ (v w : View) (l n : ℕ) (free : v.session.phase ≡ Free) (proper : IsProper v.session) where
  pub further_sx_session : 0 < claims l v.session → w ≡ view_after (Turns (Sx l Log)) n v → w.session ≡ with_phase Free (changed_on l (one_more ModeSx) v.session.held)
  further_sx_session has is = response_session v w (Sx l Log) n _ is (after_further_sx (word_in n) (marks_found n) l v.session proper free Log has)

  pub last_sx_session : sx_grants l v.session ≡ 1 → x_grants l v.session ≡ 0 → w ≡ view_after (Turns (Usx l)) n v → w.session ≡ with_phase (OwesLook l) (without_latch l v.session.held)
  last_sx_session sx x is = response_session v w (Usx l) n _ is (after_last_sx_back (word_in n) (marks_found n) l v.session proper free sx x)

  pub sx_back_session : 0 < sx_grants l v.session → 1 < claims l v.session → w ≡ view_after (Turns (Usx l)) n v → w.session ≡ with_phase Free (changed_on l (one_fewer ModeSx) v.session.held)
  sx_back_session sx more is = response_session v w (Usx l) n _ is (after_sx_back (word_in n) (marks_found n) l v.session proper free sx more)

  pub x_back_session : 1 < x_grants l v.session → w ≡ view_after (Turns (Ux l)) n v → w.session ≡ with_phase Free (changed_on l (one_fewer ModeX) v.session.held)
  x_back_session more is = response_session v w (Ux l) n _ is (after_x_back (word_in n) (marks_found n) l v.session proper free more)

  -- the last X, which is the last grant where no SX is left
  pub last_x_session : x_grants l v.session ≡ 1 → w ≡ view_after (Turns (Ux l)) n v → w.session ≡ with_phase (OwesLook l) (given_back ModeX l v.session)
  last_x_session x is = dite (ℕ_discrete (sx_grants l v.session) 0)
      (λ none.
      let c = counted l v.session (proper.single l) in let one : claims l v.session ≡ 1 = omega arith in
      response_session v w (Ux l) n _ is (after_last_x_back (word_in n) (marks_found n) l v.session proper free x none)
      ∙ sym (ap (λ b. with_phase (OwesLook l) (if b then without_latch l v.session.held else changed_on l (one_fewer ModeX) v.session.held)) (eq-eqb (claims l v.session) 1 one)))
      (λ some.
      let c = counted l v.session (proper.single l) in
      response_session v w (Ux l) n _ is (after_last_x_beside_sx (word_in n) (marks_found n) l v.session proper free x (omega arith))
      ∙ sym (ap (λ b. with_phase (OwesLook l) (if b then without_latch l v.session.held else changed_on l (one_fewer ModeX) v.session.held)) (ne_eqb (claims l v.session) 1 (λ e. omega arith))))
