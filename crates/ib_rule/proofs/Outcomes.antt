-- The view after each step on a latch.
use Rattle.std.proofs.Common.{◌≡◌, ◌≢◌, ℕ, ◌+◌, ◌<◌, Bool, true, false, ℤ, pos, ◌-ℤ◌, List, Option, Some, None, refl, sym, ap, ◌∙◌, subst, arith, eq-eqb}
use Rattle.std.specs.Prelude.{not, nat_lt, if◌then◌else◌}
use Rattle.ib_word.specs.declared.word.TheConstants.{X_LOCK_DECR}
use Rattle.ib_word.specs.Word.{word_in, cell_of}
use Rattle.ib_levels.specs.declared.holding.Holding.{Holding}
use Rattle.ib_levels.specs.declared.level.Level.{Level}
use Rattle.ib_levels.specs.declared.level.Level.TheVariants.{Log}
use Rattle.ib_levels.specs.declared.level.Mode.{Mode}
use Rattle.ib_levels.specs.declared.level.Mode.TheVariants.{S as ModeS, Sx as ModeSx, X as ModeX}
use Rattle.ib_levels.specs.Holding.{changed_on, on}
use Rattle.ib_levels.proofs.Counts.{by_equal}
use Rattle.ib_core.specs.declared.latch_word.LatchWord.{LatchWord}
use Rattle.ib_core.specs.declared.latch_word.LatchWord.TheVariants.{Lock, Waiters, Writer, Generation, ExGeneration}
use Rattle.ib_core.specs.declared.phase.Phase.{Phase}
use Rattle.ib_core.specs.declared.phase.Phase.TheVariants.{Free, Flagged, Checked, Next, NextArmed, NextChecked, OwesLook, OwesClear, OwesRaise, OwesRaiseEx}
use Rattle.ib_core.specs.declared.event.Event.{Event}
use Rattle.ib_core.specs.declared.event.Event.TheVariants.{Sx, X, Usx, Ux, Flag, Again, Clear, Raise, Ready}
use Rattle.ib_core.specs.declared.event.Answer.TheVariants.{Granted}
use Rattle.ib_core.specs.declared.session.Session.{Session}
use Rattle.ib_core.specs.Debts.{wish_of, won}
use Rattle.ib_core.specs.Good.{IsProper}
use Rattle.ib_core.specs.Responses.{Response, response, latch_of, is_above_0}
use Rattle.ib_core.specs.Sessions.{claims, holdings, sx_grants, x_grants}
use Rattle.ib_core.specs.Table.{owns_x_at, response_of, readying}
use Rattle.ib_core.specs.Takings.{first_response, first_weight, holding_too, is_given_at, level_on, one_more, reserving, wish}
use Rattle.ib_core.specs.Turns.{marks_found, raise_word, turn_at, word_for}
use Rattle.ib_core.proofs.After.{after_first, after_again, after_upgrade, after_further_x, after_further_sx}
use Rattle.ib_core.proofs.NumberTests.{if_true, if_false, lt_none, lt_some}
use Rattle.ib_core.proofs.Phased.{with_phase}
use Rattle.ib_core.proofs.Quiet.{at_itself}
use Rattle.ib_core.proofs.Turned.{choose}
use Rattle.ib_core.proofs.Weighed.{flagged_response}
use Rattle.ib_rule.specs.declared.kind.StepKind.TheVariants.{Turn, Try, Recheck, Look}
use Rattle.ib_rule.specs.declared.view.View.{View}
use Rattle.ib_rule.specs.Afterwards.{cleared, ex_loaded, flag_loaded, flag_looks, flagged, gen_loaded, granted, in_phase, phased, with_step, with_wait, word_loaded}
use Rattle.ib_rule.specs.Conditions.{IsArmed, MayLoadExGen, MayLoadFlag, MayLoadGen, MayTry, ex_gen_event, flag_event, gen_event, try_event, word_kind}
use Rattle.ib_rule.specs.Steps.{looked, mark_looks, one_raise_more, one_wait_more, turn_looks, view_after, refuses}
use Rattle.ib_rule.specs.Views.{KnowsHeld, left_as, turned, turned_by, with_grant, with_looks}
use Rattle.ib_rule.proofs.Gains.{first_held, first_wins, more_claims, more_holds, reserving_held, reserving_wins, too_claims, too_holds}
use Rattle.ib_rule.proofs.LockSteps.{flagged_for, given_word}
use Rattle.ib_rule.proofs.MarkSteps.{ex_gen_word, flag_load_word, gen_word}
use Rattle.ib_rule.proofs.Remains.{all_remains, is_plain, left_turn, lt_more, mark_turn, phase_turn, plain_turn, won_turn}
use Rattle.ib_rule.proofs.Results.{clear_session, ex_gen_session, ex_raise_session, flag_session, gen_session, raise_session, row_session, set_session}

-- the steps on the flag and the generations: no more than the phase is changed
module _ (v : View) (l n : ℕ) (known : KnowsHeld v) where
  off_lock : (c : LatchWord) (e : Event) → word_for e v.session ≡ c → c ≢ Lock → word_for e v.session ≢ Lock
  off_lock c e is off lock = off (sym is ∙ lock)

  pub gen_view : (wish : Option (Mode × Level)) → MayLoadGen l wish v.session v.session.phase → view_after (Turn (gen_event l wish)) n v ≡ with_wait (phased (gen_loaded l wish n v.session.phase) v)
  gen_view wish may =
      mark_turn (gen_event l wish) n v _ _ known (plain wish) (off_lock Generation (gen_event l wish) (gen_word v l n wish v.session.phase refl may) (λ z. absurd (cc))) refl
      (gen_session v _ l n wish may refl)
      ∙ ap (λ k. with_looks k (phased (gen_loaded l wish n v.session.phase) v)) (waits wish)
    where
      waits : (wish : Option (Mode × Level)) → mark_looks (word_for (gen_event l wish) v.session) (gen_event l wish) n v.looks ≡ one_wait_more v.looks
      waits None = refl
      waits (Some wish) = refl

      plain : (wish : Option (Mode × Level)) → is_plain (gen_event l wish) ≡ true
      plain None = refl
      plain (Some wish) = refl

  pub ex_gen_view : MayLoadExGen l v.session.phase → view_after (Turn (ex_gen_event l v.session.phase)) n v ≡ with_wait (phased (ex_loaded n v.session.phase) v)
  ex_gen_view may =
      mark_turn (ex_gen_event l v.session.phase) n v _ _ known (plain v.session.phase) (off_lock ExGeneration (ex_gen_event l v.session.phase) (ex_gen_word v l n v.session.phase refl may) (λ z. absurd (cc))) refl
      (ex_gen_session v _ l n may refl)
      ∙ ap (λ k. with_looks k (phased (ex_loaded n v.session.phase) v)) (waits v.session.phase)
    where
      waits : (p : Phase) → mark_looks (word_for (ex_gen_event l p) v.session) (ex_gen_event l p) n v.looks ≡ one_wait_more v.looks
      waits (Next k u) = refl
      waits p = refl

      plain : (p : Phase) → is_plain (ex_gen_event l p) ≡ true
      plain (Next k u) = refl
      plain p = refl

  pub flag_view : MayLoadFlag l v.session.phase → view_after (Turn (flag_event l v.session.phase)) n v ≡ with_looks (flag_looks v.session.phase v.looks) (phased (flag_loaded n v.session.phase) v)
  flag_view may =
      mark_turn (flag_event l v.session.phase) n v _ _ known (plain v.session.phase) (off_lock Waiters (flag_event l v.session.phase) (flag_load_word v l n v.session.phase) (λ z. absurd (cc))) refl
      (flag_session v _ l n may refl)
      ∙ ap (λ k. with_looks k (phased (flag_loaded n v.session.phase) v)) (waits v.session.phase)
    where
      waits : (p : Phase) → mark_looks (word_for (flag_event l p) v.session) (flag_event l p) n v.looks ≡ flag_looks p v.looks
      waits (OwesLook k) = refl
      waits p = refl

      plain : (p : Phase) → is_plain (flag_event l p) ≡ true
      plain (OwesLook k) = refl
      plain p = refl

  pub set_view : IsArmed l v.session.phase → view_after (Turn (Flag l)) n v ≡ with_wait (phased (flagged v.session.phase) v)
  set_view may = mark_turn (Flag l) n v _ _ known refl (λ z. absurd (cc)) refl (set_session v _ l n may refl)

  pub clear_view : v.session.phase ≡ OwesClear l → view_after (Turn (Clear l)) n v ≡ phased (cleared l n) v
  clear_view is = mark_turn (Clear l) n v _ _ known refl (λ z. absurd (cc)) refl (clear_session v _ l n is refl)

  pub raise_view : v.session.phase ≡ OwesRaise l → view_after (Turn (Raise l)) n v ≡ with_looks (one_raise_more l Generation (n + 1) v.looks) (phased Free v)
  raise_view is =
      let on : word_for (Raise l) v.session ≡ Generation = ap raise_word is in
      mark_turn (Raise l) n v _ _ known refl (off_lock Generation (Raise l) on (λ z. absurd (cc))) refl (raise_session v _ l n is refl)
      ∙ ap (λ (c : LatchWord). with_looks (one_raise_more l c (n + 1) v.looks) (phased Free v)) on

  pub ex_raise_view : v.session.phase ≡ OwesRaiseEx l → view_after (Turn (Raise l)) n v ≡ with_looks (one_raise_more l ExGeneration (n + 1) v.looks) (phased Free v)
  ex_raise_view is =
      let on : word_for (Raise l) v.session ≡ ExGeneration = ap raise_word is in
      mark_turn (Raise l) n v _ _ known refl (off_lock ExGeneration (Raise l) on (λ z. absurd (cc))) refl (ex_raise_session v _ l n is refl)
      ∙ ap (λ (c : LatchWord). with_looks (one_raise_more l c (n + 1) v.looks) (phased Free v)) on

  -- a view is itself in its own phase
  same_phase : (p : Phase) → v.session.phase ≡ p → v ≡ phased p v
  same_phase p is = λ j. record v { session = record v.session { phase = is j } }

  -- a next writer looks whether it owns X
  ready_view : (f : Bool → Phase) → (turn_at (Ready l) n v.session).session ≡ in_phase (f (owns_x_at (sx_grants l v.session) (word_in n))) v.session
      → view_after (Turn (Ready l)) n v ≡ with_looks (looked l n None (holdings l v.session) v.looks) (phased (f (owns_x_at (sx_grants l v.session) (word_in n))) v)
  ready_view f session = ap (with_looks (looked l n None (holdings l v.session) v.looks)) (phase_turn (Ready l) n v _ known refl session)

  readied : (waiting : Phase) → (readying l waiting (word_in n) v.session).session ≡ in_phase (if owns_x_at (sx_grants l v.session) (word_in n) then Free else waiting) v.session
  readied waiting = choose (λ (p : Phase). (readying l waiting (word_in n) v.session).session ≡ in_phase p v.session) (owns_x_at (sx_grants l v.session) (word_in n)) _ _
      (λ owns. ap (λ (r : Response). r.session) (if_true _ (response Granted v.session.held Free) _ owns))
      (λ not_yet. ap (λ (r : Response). r.session) (if_false _ (response Granted v.session.held Free) _ not_yet))

-- a load of the lock word
module _ (v : View) (n : ℕ) (known : KnowsHeld v) where
  abbrev pub at_word : Phase → ℕ → View
  at_word p l = with_looks (looked l n None (holdings l v.session) v.looks) (phased p v)

  -- a look that is no event
  only_look : (l : ℕ) (p : Phase) → v.session.phase ≡ p → view_after (Look l) n v ≡ at_word p l
  only_look l p is = ap (with_looks (looked l n None (holdings l v.session) v.looks)) (same_phase v l n known p is)

  next_looks : (l k : ℕ) (u : Level) → v.session.phase ≡ Next k u → view_after (word_kind l (Next k u)) n v ≡ at_word (word_loaded l n v.session (Next k u)) l
  next_looks l k u is =
      by_equal (λ b. view_after (if b then Turn (Ready l) else Look l) n v ≡ at_word (if b then (if owns_x_at (sx_grants l v.session) (word_in n) then Free else Next l u) else Next k u) l) k l
      (λ here. ready_view v l n known (λ b. if b then Free else Next l u) (row_session v v l n (Next l u) (Ready l) (is ∙ ap (λ (k : ℕ). Next k u) here) (at_itself l) ∙ readied v l n known (Next l u)))
      (λ _. only_look l (Next k u) is)

  armed_looks : (l k : ℕ) (u : Level) (g : ℕ) → v.session.phase ≡ NextArmed k u g → view_after (word_kind l (NextArmed k u g)) n v ≡ at_word (word_loaded l n v.session (NextArmed k u g)) l
  armed_looks l k u g is =
      by_equal (λ b. view_after (if b then Turn (Ready l) else Look l) n v ≡ at_word (if b then (if owns_x_at (sx_grants l v.session) (word_in n) then Free else NextChecked l u g) else NextArmed k u g) l) k l
      (λ here. ready_view v l n known (λ b. if b then Free else NextChecked l u g) (row_session v v l n (NextArmed l u g) (Ready l) (is ∙ ap (λ (k : ℕ). NextArmed k u g) here) (at_itself l) ∙ readied v l n known (NextChecked l u g)))
      (λ _. only_look l (NextArmed k u g) is)

  -- who set the flag has checked where its wish is refused
  rechecks : (l : ℕ) (mode : Mode) (u : Level) (g : ℕ) → v.session.phase ≡ Flagged l mode u g → view_after (Recheck l) n v ≡ at_word (if is_given_at mode (word_in n) then Flagged l mode u g else Checked l mode u g) l
  rechecks l mode u g is = ap (λ p. with_looks (looked l n None (holdings l v.session) v.looks) (turned_by (if refuses p n then Some (Again l) else None) n v)) is ∙ by_given (is_given_at mode (word_in n)) refl
    where
      by_given : (b : Bool) → is_given_at mode (word_in n) ≡ b → with_looks (looked l n None (holdings l v.session) v.looks) (turned_by (if not b then Some (Again l) else None) n v) ≡ at_word (if b then Flagged l mode u g else Checked l mode u g) l
      by_given true given = ap (with_looks (looked l n None (holdings l v.session) v.looks)) (same_phase v l n known (Flagged l mode u g) is)
      by_given false given =
          let r = flagged_response (word_in n) (marks_found n) l v.session mode u g is ∙ if_false (is_given_at mode (word_in n)) _ _ given in
          ap (with_looks (looked l n None (holdings l v.session) v.looks))
          (left_turn (Again l) n v (in_phase (Checked l mode u g) v.session) (ap (λ (r : Response). won r.answer (wish_of v.session.phase (Again l))) r) (ap (λ (r : Response). r.session) r)
          ∙ all_remains l (in_phase (Checked l mode u g) v.session) v known (λ h. h) (λ h. h))

  flagged_looks : (l k : ℕ) (mode : Mode) (u : Level) (g : ℕ) → v.session.phase ≡ Flagged k mode u g → view_after (word_kind l (Flagged k mode u g)) n v ≡ at_word (word_loaded l n v.session (Flagged k mode u g)) l
  flagged_looks l k mode u g is =
      by_equal (λ b. view_after (if b then Recheck l else Look l) n v ≡ at_word (if b then (if is_given_at mode (word_in n) then Flagged l mode u g else Checked l mode u g) else Flagged k mode u g) l) k l
      (λ here. rechecks l mode u g (is ∙ ap (λ (k : ℕ). Flagged k mode u g) here))
      (λ _. only_look l (Flagged k mode u g) is)

  by_phase : (l : ℕ) (p : Phase) → v.session.phase ≡ p → view_after (word_kind l p) n v ≡ at_word (word_loaded l n v.session p) l
  by_phase l (Next k u) is = next_looks l k u is
  by_phase l (NextArmed k u g) is = armed_looks l k u g is
  by_phase l (Flagged k mode u g) is = flagged_looks l k mode u g is
  by_phase l p is = only_look l p is

  pub word_view : (l : ℕ) → view_after (word_kind l v.session.phase) n v ≡ with_looks (looked l n None (holdings l v.session) v.looks) (phased (word_loaded l n v.session v.session.phase) v)
  word_view l = by_phase l v.session.phase refl

-- an exchange that found the word expected
pub won_view : (e : Event) (l n : ℕ) (v : View) → latch_of e ≡ l → view_after (Try e n) n v ≡ with_looks (looked l n (Some n) (holdings l v.session) v.looks) (turned e n v)
won_view e l n v here = ap (λ b. with_looks (looked (latch_of e) n (Some n) (holdings (latch_of e) v.session) v.looks) (turned_by (if b then Some e else None) n v)) (eq-eqb n n refl) ∙ ap (λ (k : ℕ). with_looks (looked k n (Some n) (holdings k v.session) v.looks) (turned e n v)) here

-- a wish that came true, by its response
module _ (v : View) (l n : ℕ) (known : KnowsHeld v) where
  pub won_by : (e : Event) (r : Response) (mode : Mode) → latch_of e ≡ l → response_of (word_in n) (marks_found n) e v.session ≡ r → won r.answer (wish_of v.session.phase e) ≡ Some mode
      → (0 < holdings l v.session → 0 < holdings l r.session) → (0 < claims l v.session → 0 < claims l r.session) → turned e n v ≡ granted mode r.session v
  won_by e r mode here is wins holds claims_it =
      won_turn e n v r.session mode (ap (λ (r : Response). won r.answer (wish_of v.session.phase e)) is ∙ wins) (ap (λ (r : Response). r.session) is)
      ∙ (λ j. record (left_as (here j) r.session v) { grants = with_grant (Some mode) v.grants })
      ∙ (λ j. record (all_remains l r.session v known holds claims_it j) { grants = with_grant (Some mode) v.grants })

  -- with a first grant
  pub first_by : (e : Event) (mode : Mode) (level : Level) (w : ℤ) → latch_of e ≡ l
      → response_of (word_in n) (marks_found n) e v.session ≡ first_response mode l level w (holding_too mode l level v.session.held) → wish_of v.session.phase e ≡ Some mode
      → turned e n v ≡ granted mode (first_response mode l level w (holding_too mode l level v.session.held)).session v
  first_by e mode level w here is wish_is =
      let held : List Holding = holding_too mode l level v.session.held in
      let same = sym (first_held mode l level w held) in
      won_by e (first_response mode l level w held) mode here is (first_wins mode l level w held _ wish_is)
      (λ _. subst (λ (hs : List Holding). 0 < on l (λ h. 1) hs) same (too_holds l v.session.held mode level))
      (λ some. subst (λ (hs : List Holding). 0 < on l (λ h. h.sx + h.x) hs) same (let m = too_claims l v.session.held mode level in omega arith))

  -- with one more of a mode, of which the response has this session
  pub more_by : (e : Event) (r : Response) (mode : Mode) → latch_of e ≡ l → response_of (word_in n) (marks_found n) e v.session ≡ r → won r.answer (wish_of v.session.phase e) ≡ Some mode
      → r.session.held ≡ changed_on l (one_more mode) v.session.held → turned e n v ≡ granted mode r.session v
  more_by e r mode here is wins held =
      won_by e r mode here is wins
      (λ some. subst (λ (hs : List Holding). 0 < on l (λ h. 1) hs) (sym held) (let m = more_holds l v.session.held mode in omega arith))
      (λ some. subst (λ (hs : List Holding). 0 < on l (λ h. h.sx + h.x) hs) (sym held) (let m = more_claims l v.session.held mode in omega arith))

-- the wish of a session that is free
wish_free : (mode : Mode) (l : ℕ) (u : Level) (p : Phase) → p ≡ Free → wish_of p (wish mode l u) ≡ Some mode
wish_free ModeS l u p is = ap (λ (p : Phase). wish_of p (wish ModeS l u)) is
wish_free ModeSx l u p is = ap (λ (p : Phase). wish_of p (wish ModeSx l u)) is
wish_free ModeX l u p is = ap (λ (p : Phase). wish_of p (wish ModeX l u)) is

wish_latch : (mode : Mode) (l : ℕ) (u : Level) → latch_of (wish mode l u) ≡ l
wish_latch ModeS l u = refl
wish_latch ModeSx l u = refl
wish_latch ModeX l u = refl

pub try_latch : (mode : Mode) (l : ℕ) (u : Level) (p : Phase) → latch_of (try_event mode l u p) ≡ l
try_latch mode l u (Flagged k m w g) = refl
try_latch mode l u p = wish_latch mode l u

-- the view after a first try that was won, and after an upgrade
module _ (v : View) (l : ℕ) (word : ℤ) (known : KnowsHeld v) where
  first_at : (mode : Mode) (level : Level) (p : Phase) → v.session.phase ≡ p → MayTry mode l level v.session p → is_given_at mode word ≡ true
      → turned (try_event mode l level p) (cell_of word) v ≡ granted mode (first_response mode l level (word -ℤ pos (first_weight mode)) (holding_too mode l level v.session.held)).session v
  first_at mode level Free phase may given =
      let there = given_word mode word given in
      first_by v l (cell_of word) known (wish mode l level) mode level (word -ℤ pos (first_weight mode)) (wish_latch mode l level)
      (after_first (word_in (cell_of word)) (marks_found (cell_of word)) l v.session mode level may (ap (is_given_at mode) there ∙ given)
      ∙ ap (λ (z : ℤ). first_response mode l level (z -ℤ pos (first_weight mode)) (holding_too mode l level v.session.held)) there)
      (wish_free mode l level v.session.phase phase)
  first_at mode level (Flagged k m u g) phase may given =
      let there = given_word mode word given in
      let is = flagged_for mode l level v.session k m u g phase may in
      first_by v l (cell_of word) known (Again l) mode level (word -ℤ pos (first_weight mode)) refl
      (after_again (word_in (cell_of word)) (marks_found (cell_of word)) l v.session mode level g is (ap (is_given_at mode) there ∙ given)
      ∙ ap (λ (z : ℤ). first_response mode l level (z -ℤ pos (first_weight mode)) (holding_too mode l level v.session.held)) there)
      (ap (λ (p : Phase). wish_of p (Again l)) is)
  first_at mode level p phase may given = absurd may

  pub first_view : (mode : Mode) (level : Level) → MayTry mode l level v.session v.session.phase → is_given_at mode word ≡ true
      → view_after (Try (try_event mode l level v.session.phase) (cell_of word)) (cell_of word) v
      ≡ with_looks (looked l (cell_of word) (Some (cell_of word)) (holdings l v.session) v.looks) (granted mode (first_response mode l level (word -ℤ pos (first_weight mode)) (holding_too mode l level v.session.held)).session v)
  first_view mode level may given =
      won_view (try_event mode l level v.session.phase) l (cell_of word) v (try_latch mode l level v.session.phase)
      ∙ ap (with_looks (looked l (cell_of word) (Some (cell_of word)) (holdings l v.session) v.looks)) (first_at mode level v.session.phase refl may given)

  pub upgrade_view : v.session.phase ≡ Free → IsProper v.session → 0 < sx_grants l v.session → x_grants l v.session ≡ 0 → is_above_0 word ≡ true
      → view_after (Try (X l Log) (cell_of word)) (cell_of word) v
      ≡ with_looks (looked l (cell_of word) (Some (cell_of word)) (holdings l v.session) v.looks) (granted ModeX (reserving l (level_on l Log v.session.held) (word -ℤ pos X_LOCK_DECR) (changed_on l (one_more ModeX) v.session.held)).session v)
  upgrade_view free proper sx x up =
      let there = given_word ModeS word up in
      let held : List Holding = changed_on l (one_more ModeX) v.session.held in
      let r : Response = reserving l (level_on l Log v.session.held) (word -ℤ pos X_LOCK_DECR) held in
      won_view (X l Log) l (cell_of word) v refl
      ∙ ap (with_looks (looked l (cell_of word) (Some (cell_of word)) (holdings l v.session) v.looks))
      (more_by v l (cell_of word) known (X l Log) (reserving l (level_on l Log v.session.held) (word -ℤ pos X_LOCK_DECR) (changed_on l (one_more ModeX) v.session.held)) ModeX refl
      (after_upgrade (word_in (cell_of word)) (marks_found (cell_of word)) l v.session proper free Log sx x (ap is_above_0 there ∙ up)
      ∙ ap (λ (z : ℤ). reserving l (level_on l Log v.session.held) (z -ℤ pos X_LOCK_DECR) (changed_on l (one_more ModeX) v.session.held)) there)
      (reserving_wins l (level_on l Log v.session.held) (word -ℤ pos X_LOCK_DECR) (changed_on l (one_more ModeX) v.session.held) _ ModeX (wish_free ModeX l Log v.session.phase free)) (reserving_held l (level_on l Log v.session.held) (word -ℤ pos X_LOCK_DECR) (changed_on l (one_more ModeX) v.session.held)))

-- the view after each further grant, and after each release
module _ (v : View) (l n : ℕ) (known : KnowsHeld v) (free : v.session.phase ≡ Free) (proper : IsProper v.session) where
  pub further_x_view : 0 < x_grants l v.session → view_after (Turn (X l Log)) n v ≡ with_step (granted ModeX (with_phase Free (changed_on l (one_more ModeX) v.session.held)) v)
  further_x_view has = ap with_step (more_by v l n known (X l Log) _ ModeX refl (after_further_x (word_in n) (marks_found n) l v.session proper free Log has) (wish_free ModeX l Log v.session.phase free) refl)

  further_sx_turn : 0 < claims l v.session → turned (Sx l Log) n v ≡ granted ModeSx (with_phase Free (changed_on l (one_more ModeSx) v.session.held)) v
  further_sx_turn has = more_by v l n known (Sx l Log) _ ModeSx refl (after_further_sx (word_in n) (marks_found n) l v.session proper free Log has) (wish_free ModeSx l Log v.session.phase free) refl

  pub further_sx_view : 0 < claims l v.session → sx_grants l v.session ≡ 0 → view_after (Turn (Sx l Log)) n v ≡ with_step (granted ModeSx (with_phase Free (changed_on l (one_more ModeSx) v.session.held)) v)
  further_sx_view has none = (λ j. with_looks (turn_looks (if lt_none (sx_grants l v.session) none j then Writer else Lock) (Sx l Log) v.session n v.looks) (further_sx_turn has j))

  pub counted_sx_view : 0 < claims l v.session → 0 < sx_grants l v.session → view_after (Turn (Sx l Log)) n v ≡ granted ModeSx (with_phase Free (changed_on l (one_more ModeSx) v.session.held)) v
  counted_sx_view has some = (λ j. with_looks (turn_looks (if lt_some (sx_grants l v.session) some j then Writer else Lock) (Sx l Log) v.session n v.looks) (further_sx_turn has j))

-- .. and after a release of SX or X, of which the session is known
module _ (v w : View) (l n : ℕ) (a : Session) where
  pub x_back_view : w ≡ view_after (Turn (Ux l)) n v → w.session ≡ a → w ≡ with_step (left_as l a v)
  x_back_view is session = is ∙ ap with_step (plain_turn (Ux l) n v a refl (sym (ap (λ (u : View). u.session) is) ∙ session))

  pub sx_back_view : sx_grants l v.session ≡ 1 → w ≡ view_after (Turn (Usx l)) n v → w.session ≡ a → w ≡ with_step (left_as l a v)
  sx_back_view last is session =
      let one : nat_lt 1 (sx_grants l v.session) ≡ false = ap (λ (k : ℕ). nat_lt 1 k) last in
      is ∙ (λ j. with_looks (turn_looks (if one j then Writer else Lock) (Usx l) v.session n v.looks) (plain_turn (Usx l) n v a refl (sym (ap (λ (u : View). u.session) is) ∙ session) j))

  pub counted_back_view : 1 < sx_grants l v.session → w ≡ view_after (Turn (Usx l)) n v → w.session ≡ a → w ≡ left_as l a v
  counted_back_view more is session =
      let some : nat_lt 1 (sx_grants l v.session) ≡ true = lt_more (sx_grants l v.session) more in
      is ∙ (λ j. with_looks (turn_looks (if some j then Writer else Lock) (Usx l) v.session n v.looks) (plain_turn (Usx l) n v a refl (sym (ap (λ (u : View). u.session) is) ∙ session) j))
