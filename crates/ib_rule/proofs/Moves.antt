-- Each kind of step is allowed by the rule.
use Rattle.std.proofs.Common.{◌≡◌, ◌≢◌, ℕ, ◌+◌, ◌*◌, ◌^◌, ◌<◌, ◌≤◌, inl, Bool, true, false, List, [], ◌∷◌, map, set, length, refl, sym, ap, ◌∙◌, subst, arith, length-set, get_or-set_same, get_or-set_other}
use Rattle.std.specs.Prelude.{slice_index, ◌==◌, not, if◌then◌else◌, Some, None}
use mathlib.Core.Logic.{dite}
use mathlib.Core.Option.{some}
use lib.ListN.{get_elem?}
use prog.Atomic.{either}
use native.Mathlib.Decide.{ℕ_discrete}
use Rattle.atomic_table.specs.Table.{State, Me, keeps, stepped, Allows}
use Rattle.atomic_table.proofs.Lists.{at_map}
use Rattle.ib_word.specs.declared.word.TheConstants.{X_LOCK_DECR, X_LOCK_HALF_DECR}
use Rattle.ib_word.specs.Word.{word_in, IsCounted}
use Rattle.ib_rule.proofs.Counts.{counted_word}
use Rattle.ib_word.proofs.Equation.{sx_weight_cases, x_weight_cases}
use Rattle.ib_levels.proofs.Counts.{by_equal}
use Rattle.ib_levels.specs.declared.holding.Holding.{Holding}
use Rattle.ib_layout.specs.Geometry.{Sizes}
use Rattle.ib_layout.specs.Places.{lock_place, writer_place, gen_place, ex_gen_place, latches_of, drawn_place}
use Rattle.ib_core.specs.declared.phase.Phase.{Phase}
use Rattle.ib_core.specs.declared.phase.Phase.TheVariants.{Flagged}
use Rattle.ib_core.specs.declared.event.Event.{Event}
use Rattle.ib_core.specs.declared.event.Event.TheVariants.{Again}
use Rattle.ib_core.specs.declared.session.Session.{Session}
use Rattle.ib_core.specs.Sessions.{Stands, taken, claims, grants, sx_grants, x_grants}
use Rattle.ib_core.specs.Takings.{is_given_at}
use Rattle.ib_core.specs.Responses.{Response, latch_of, is_elsewhere}
use Rattle.ib_core.specs.Good.{IsGood, IsProper}
use Rattle.ib_core.proofs.OnLatch.{counted}
use Rattle.ib_core.proofs.Phased.{with_phase}
use Rattle.ib_core.proofs.Totals.{taken_bound}
use Rattle.ib_core.proofs.Elements.{at_set, set_here, sum_at, one_of}
use Rattle.ib_core.proofs.Turned.{choose}
use Rattle.ib_core.specs.declared.latch_word.LatchWord.{LatchWord}
use Rattle.ib_core.specs.declared.latch_word.LatchWord.TheVariants.{Lock, Waiters, Writer, Generation, ExGeneration}
use Rattle.ib_rule.specs.declared.kind.StepKind.TheVariants.{Turn as Turns, Try, Recheck, Look as Looked, StoreWriter}
use Rattle.ib_rule.specs.declared.view.Role.{Role}
use Rattle.ib_rule.specs.declared.looks.Looks.{Looks}
use Rattle.ib_rule.specs.declared.view.View.{View}
use Rattle.ib_rule.specs.Steps.{latch_word_place, refuses, looks_after, view_after}
use Rattle.ib_core.specs.Turns.{word_for, turn_at, Leaves}
use Rattle.ib_core.specs.Debts.{wish_of, won, grants_won, debt}
use Rattle.ib_rule.specs.Views.{KnowsHeld, total, role_of, session_in_view, turned_by, with_looks, signed}
use Rattle.ib_rule.specs.declared.memory.Since.{Since}
use Rattle.ib_rule.specs.declared.memory.Loaded.{Loaded}
use Rattle.ib_rule.specs.Rule.{IsWriter, marks_in, LatchPart, IsIdle, RuleHolds}
use Rattle.ib_rule.specs.Roles.{session_number_of, live, sessions_in, SessionsPart}
use Rattle.ib_rule.specs.Told.{HasLeft, CanBe, Happens, tells}
use Rattle.ib_rule.specs.Conditions.{CanTake}
use Rattle.ib_rule.proofs.Words.{tells_by, place_fits, set_same, marks_away, marks_here, lock_away, lock_else, front, flag_after}
use Rattle.ib_rule.proofs.Stays.{view_part, latch_far}
use Rattle.ib_rule.proofs.Knowing.{knows}
use Rattle.ib_logrec.specs.declared.entry.Entry.{Entry}
use Rattle.ib_logrec.specs.Log.{by_place}
use Rattle.std.specs.List.{AllByRecursion}
use Rattle.ib_rule.proofs.Turning.{map_same, raises_few, readers_few, turn_keeps, turn_is}

module _ (lawful : ℕ → List Entry → Type 0) (opening : ℕ → ℕ → ℕ → ℕ) (sizes : Sizes) (s : State (Unit {0}) View) (kept : RuleHolds lawful opening sizes s) (id : ℕ) (v : View) (at : get_elem? s.views id ≡ some v) (l : ℕ) (inside : l < latches_of sizes) where
  ss : List Session
  ss = map session_in_view s.views

  -- what the words can be
  pub found_in : (c : LatchWord) → CanBe c l v.session (slice_index s.words (latch_word_place c l))
  found_in Waiters = kept.latches.flags l inside
  found_in Writer = tt
  found_in Generation = let r = raises_few lawful opening sizes s kept l inside in omega arith
  found_in ExGeneration = let r = raises_few lawful opening sizes s kept l inside in omega arith
  found_in Lock =
      let good = kept.latches.good in let ss : List Session = map session_in_view s.views in
      let bound = taken_bound l (X_LOCK_HALF_DECR + 2 * X_LOCK_DECR + 8192) ss good.proper (λ i j a b e d n. (good.beside i j a b e d n l).one_claim)
      (λ j a e.
      let c = counted l a ((good.proper j a e).single l) in let g = kept.latches.few j a e l in
      let p = sx_weight_cases (sx_grants l a) in let q = x_weight_cases (x_grants l a) in grind arith) in
      let r = readers_few lawful opening sizes s kept l in let k = kept.latches.counted l inside in
      let t = one_of (taken l) ss id v.session (at_map session_in_view s.views id v at) in
      (omega arith, omega arith, subst (λ w. IsCounted w) (sym (tells_by (latches_of sizes) s.words l inside ss kept.latches Lock)) (counted_word (marks_in (latches_of sizes) s.words) ss l good r (λ j a e. kept.latches.few j a e l)))

  -- a step that changes no word of which the rule speaks, and no more than the looks of its session
  pub aside_keeps : (p n' : ℕ) (looks : Looks) (cs : List (ℕ × Unit {0})) → set s.words p n' ≡ s.words → RuleHolds lawful opening sizes (stepped s p n' id cs (with_looks looks v) keeps)
  aside_keeps p n' looks cs same = knows lawful opening sizes s kept id v at p n' looks v.memory cs same (kept.memory.follows id v at) (λ q h. h)

-- what the rule says of what a session knows
each_also : {A : Type 0} (P Q : A → Type 0) → ((x : A) → P x → Q x) → (xs : List A) → AllByRecursion P xs → AllByRecursion Q xs
each_also P Q also [] each = tt
each_also P Q also (x ∷ xs) each = (also x each.0, each_also P Q also xs each.1)

pub known_in : (lawful : ℕ → List Entry → Type 0) (opening : ℕ → ℕ → ℕ → ℕ) (sizes : Sizes) (s : State (Unit {0}) View) (kept : RuleHolds lawful opening sizes s) (id : ℕ) (v : View) → get_elem? s.views id ≡ some v → KnowsHeld v
known_in lawful opening sizes s kept id v at = let f = kept.memory.follows id v at in record {
  since = each_also _ _ (λ (x : Since) is. is.0.held) v.memory.since f.since;
  loaded = each_also _ _ (λ (x : Loaded) is. is.0) v.memory.loaded f.loaded;
  written = each_also _ _ (λ (l : ℕ) is. is.0) v.written (kept.writers id v at);
}

-- what the state after a step says of the session
module _ (lawful : ℕ → List Entry → Type 0) (opening : ℕ → ℕ → ℕ → ℕ) (sizes : Sizes) (s : State (Unit {0}) View) (p n id : ℕ) (cs : List (ℕ × Unit {0})) (v w : View) (at : get_elem? s.views id ≡ some v)
    (kept : RuleHolds lawful opening sizes (stepped s p n id cs w keeps)) where
  here : Stands (map session_in_view (set s.views id w)) id w.session
  here = at_map session_in_view (set s.views id w) id w (set_here s.views id v w at)

  pub proper_now : IsProper w.session
  proper_now = kept.latches.good.proper id w.session here

  pub few_now : (l : ℕ) → grants l w.session ≤ 8192
  few_now = kept.latches.few id w.session here

  pub known_now : KnowsHeld w
  known_now = known_in lawful opening sizes (stepped s p n id cs w keeps) kept id w (set_here s.views id v w at)

  pub taken_now : total w.grants ≤ 2 ^ 52 * sessions_in w.role
  taken_now = kept.paid.bound id w (set_here s.views id v w at)

module _ (lawful : ℕ → List Entry → Type 0) (opening : ℕ → ℕ → ℕ → ℕ) (sizes : Sizes) (entry : Entry) (slots id : ℕ) (me : Me (Unit {0}) View) where
  -- a step that is this event, whatever it finds
  pub turn_allowed : (e : Event) (f : ℕ → ℕ) → latch_of e < latches_of sizes → (live me.0.role ≡ 0 → ⊥) → me.0.memory.append ≡ None
      → ((n : ℕ) → CanBe (word_for e me.0.session) (latch_of e) me.0.session n → CanTake e me.0 n × Leaves (word_for e me.0.session) e me.0.session n (f n))
      → Allows (RuleHolds lawful opening sizes) slots id me (latch_word_place (word_for e me.0.session) (latch_of e)) f (tells lawful opening sizes entry (Turns e) f me)
  turn_allowed e f inside alive closed leaves s kept sized at fits =
      let n : ℕ = slice_index s.words (latch_word_place (word_for e me.0.session) (latch_of e)) in
      let found = found_in lawful opening sizes s kept id me.0 at (latch_of e) inside (word_for e me.0.session) in
      let after = turn_keeps lawful opening sizes s kept id me.0 at alive e inside (f n) (leaves n found).1 (leaves n found).0 (looks_after (Turns e) me.0.session n me.0.looks) closed me.1 in
      let is = turn_is lawful opening sizes s kept id me.0 at alive e inside (f n) (leaves n found).1 in (
        view_after (Turns e) n me.0,
        keeps,
        tt,
        after,
        (record { view = refl; event = is; proper = proper_now lawful opening sizes s _ (f n) id me.1 me.0 (view_after (Turns e) n me.0) at after; known = known_now lawful opening sizes s _ (f n) id me.1 me.0 (view_after (Turns e) n me.0) at after; range = found; left = (leaves n found).1; few = few_now lawful opening sizes s _ (f n) id me.1 me.0 (view_after (Turns e) n me.0) at after; taken = taken_now lawful opening sizes s _ (f n) id me.1 me.0 (view_after (Turns e) n me.0) at after }, refl),
      )

  -- an exchange from the word expected
  pub try_allowed : (e : Event) (expected new : ℕ) → latch_of e < latches_of sizes → (live me.0.role ≡ 0 → ⊥) → me.0.memory.append ≡ None
      → (CanBe (word_for e me.0.session) (latch_of e) me.0.session expected → CanTake e me.0 expected × Leaves (word_for e me.0.session) e me.0.session expected new)
      → Allows (RuleHolds lawful opening sizes) slots id me (latch_word_place (word_for e me.0.session) (latch_of e)) (λ n. either (n == expected) new n) (tells lawful opening sizes entry (Try e expected) (λ n. either (n == expected) new n) me)
  try_allowed e expected new inside alive closed leaves s kept sized at fits =
      let a : Session = me.0.session in
      let p : ℕ = latch_word_place (word_for e a) (latch_of e) in
      let n : ℕ = slice_index s.words p in
      let found = found_in lawful opening sizes s kept id me.0 at (latch_of e) inside (word_for e a) in
      let looks : Looks = looks_after (Try e expected) a n me.0.looks in
      let both = by_equal (λ b. RuleHolds lawful opening sizes (stepped s (latch_word_place (word_for e me.0.session) (latch_of e)) (either b new (slice_index s.words (latch_word_place (word_for e me.0.session) (latch_of e)))) id me.1
      (with_looks (looks_after (Try e expected) me.0.session (slice_index s.words (latch_word_place (word_for e me.0.session) (latch_of e))) me.0.looks) (turned_by (if b then Some e else None) (slice_index s.words (latch_word_place (word_for e me.0.session) (latch_of e))) me.0)) keeps)
      × Happens (if b then Some e else None) me.0.session (slice_index s.words (latch_word_place (word_for e me.0.session) (latch_of e))) (turned_by (if b then Some e else None) (slice_index s.words (latch_word_place (word_for e me.0.session) (latch_of e))) me.0).session
      × HasLeft entry (Try e expected) me.0 (slice_index s.words (latch_word_place (word_for e me.0.session) (latch_of e))) (either b new (slice_index s.words (latch_word_place (word_for e me.0.session) (latch_of e))))) n expected
      (λ hit.
      let can : CanTake e me.0 n = subst (λ n. CanTake e me.0 n) (sym hit) (leaves (subst (λ n. CanBe (word_for e me.0.session) (latch_of e) me.0.session n) hit found)).0 in
      let left : Leaves (word_for e a) e a n new = subst (λ n. Leaves (word_for e me.0.session) e me.0.session n new) (sym hit) (leaves (subst (λ n. CanBe (word_for e me.0.session) (latch_of e) me.0.session n) hit found)).1 in
      let is = turn_is lawful opening sizes s kept id me.0 at alive e inside new left in
      (turn_keeps lawful opening sizes s kept id me.0 at alive e inside new left can looks closed me.1, is, ((λ _. left), λ away. absurd (away hit))))
      (λ away. (aside_keeps lawful opening sizes s kept id me.0 at (latch_of e) inside p n looks me.1 (set_same s.words p (place_fits sizes s.words (latch_of e) (word_for e a) kept.sized inside)), refl, ((λ hit. absurd (away hit)), λ _. refl))) in (
        view_after (Try e expected) n me.0,
        keeps,
        tt,
        both.0,
        (record { view = refl; event = both.1; proper = proper_now lawful opening sizes s _ _ id me.1 me.0 (view_after (Try e expected) n me.0) at both.0; known = known_now lawful opening sizes s _ _ id me.1 me.0 (view_after (Try e expected) n me.0) at both.0; range = found; left = both.2; few = few_now lawful opening sizes s _ _ id me.1 me.0 (view_after (Try e expected) n me.0) at both.0; taken = taken_now lawful opening sizes s _ _ id me.1 me.0 (view_after (Try e expected) n me.0) at both.0 }, refl),
      )

  -- a look at the lock word
  pub look_allowed : (l : ℕ) → l < latches_of sizes → Allows (RuleHolds lawful opening sizes) slots id me (lock_place l) (λ n. n) (tells lawful opening sizes entry (Looked l) (λ n. n) me)
  look_allowed l inside s kept sized at fits =
      let n : ℕ = slice_index s.words (lock_place l) in (
        view_after (Looked l) n me.0,
        keeps,
        tt,
        aside_keeps lawful opening sizes s kept id me.0 at l inside (lock_place l) n (looks_after (Looked l) me.0.session n me.0.looks) me.1 (set_same s.words (lock_place l) (place_fits sizes s.words l Lock kept.sized inside)),
        (record { view = refl; event = refl; proper = kept.latches.good.proper id me.0.session (at_map session_in_view s.views id me.0 at); known = (let k = known_in lawful opening sizes s kept id me.0 at in record { since = k.since; loaded = k.loaded; written = k.written }); range = found_in lawful opening sizes s kept id me.0 at l inside Lock; left = refl; few = kept.latches.few id me.0.session (at_map session_in_view s.views id me.0 at); taken = kept.paid.bound id me.0 at }, refl),
      )

  -- the wish that is refused is_drawn more takes nothing
  again_same : (l n : ℕ) (held : List Holding) (p : Phase) → refuses p n ≡ true → taken l (turn_at (Again l) n (with_phase p held)).session ≡ taken l (with_phase p held)
  again_same l n held (Flagged k mode v g) busy = choose (λ (r : Response). taken l r.session ≡ taken l (with_phase (Flagged k mode v g) held)) (is_elsewhere l (Flagged k mode v g)) _ _ (λ _. refl)
      (λ _. choose (λ (r : Response). taken l r.session ≡ taken l (with_phase (Flagged k mode v g) held)) (is_given_at mode (word_in n)) _ _
      (λ given. let q : not (is_given_at mode (word_in n)) ≡ false = ap not given in absurd (cc)) (λ _. refl))
  again_same l n held p busy = absurd (cc)

  again_none : (l n : ℕ) (held : List Holding) (p : Phase) → refuses p n ≡ true → grants_won (won (turn_at (Again l) n (with_phase p held)).answer (wish_of p (Again l))) ≡ 0
  again_none l n held (Flagged k mode v g) busy = choose (λ (r : Response). grants_won (won r.answer (Some mode)) ≡ 0) (is_elsewhere l (Flagged k mode v g)) _ _ (λ _. refl)
      (λ _. choose (λ (r : Response). grants_won (won r.answer (Some mode)) ≡ 0) (is_given_at mode (word_in n)) _ _
      (λ given. let q : not (is_given_at mode (word_in n)) ≡ false = ap not given in absurd (cc)) (λ _. refl))
  again_none l n held p busy = absurd (cc)

  -- a load of the lock word by who set the flag
  pub recheck_allowed : (l : ℕ) → l < latches_of sizes → (live me.0.role ≡ 0 → ⊥) → me.0.memory.append ≡ None → Allows (RuleHolds lawful opening sizes) slots id me (lock_place l) (λ n. n) (tells lawful opening sizes entry (Recheck l) (λ n. n) me)
  recheck_allowed l inside alive closed s kept sized at fits =
      let a : Session = me.0.session in
      let n : ℕ = slice_index s.words (lock_place l) in
      let looks : Looks = looks_after (Recheck l) me.0.session n me.0.looks in
      let found = found_in lawful opening sizes s kept id me.0 at l inside Lock in
      let both = by_flag s kept at (refuses a.phase n) refl in (
        view_after (Recheck l) n me.0,
        keeps,
        tt,
        both.0,
        (record { view = refl; event = both.1; proper = proper_now lawful opening sizes s _ _ id me.1 me.0 (view_after (Recheck l) n me.0) at both.0; known = known_now lawful opening sizes s _ _ id me.1 me.0 (view_after (Recheck l) n me.0) at both.0; range = found; left = refl; few = few_now lawful opening sizes s _ _ id me.1 me.0 (view_after (Recheck l) n me.0) at both.0; taken = taken_now lawful opening sizes s _ _ id me.1 me.0 (view_after (Recheck l) n me.0) at both.0 }, refl),
      )
    where
      by_flag : (s : State (Unit {0}) View) → RuleHolds lawful opening sizes s → get_elem? s.views id ≡ some me.0 → (b : Bool) → refuses me.0.session.phase (slice_index s.words (lock_place l)) ≡ b
          → RuleHolds lawful opening sizes (stepped s (lock_place l) (slice_index s.words (lock_place l)) id me.1 (with_looks (looks_after (Recheck l) me.0.session (slice_index s.words (lock_place l)) me.0.looks) (turned_by (if b then Some (Again l) else None) (slice_index s.words (lock_place l)) me.0)) keeps)
          × Happens (if b then Some (Again l) else None) me.0.session (slice_index s.words (lock_place l)) (turned_by (if b then Some (Again l) else None) (slice_index s.words (lock_place l)) me.0).session
      by_flag s kept at true busy =
          let a : Session = me.0.session in
          let n : ℕ = slice_index s.words (lock_place l) in
          let left : n + taken l (turn_at (Again l) n a).session ≡ n + taken l a = ap (λ (t : ℕ). n + t) (again_same l n a.held a.phase busy) in
          let is = turn_is lawful opening sizes s kept id me.0 at alive (Again l) inside n left in
          (turn_keeps lawful opening sizes s kept id me.0 at alive (Again l) inside n left (inl (again_none l n a.held a.phase busy)) (looks_after (Recheck l) me.0.session n me.0.looks) closed me.1, is)
      by_flag s kept at false given =
          (aside_keeps lawful opening sizes s kept id me.0 at l inside (lock_place l) (slice_index s.words (lock_place l)) (looks_after (Recheck l) me.0.session (slice_index s.words (lock_place l)) me.0.looks) me.1 (set_same s.words (lock_place l) (place_fits sizes s.words l Lock kept.sized inside)), refl)

  -- the session's number is stored as the writer
  pub store_allowed : (l number : ℕ) → l < latches_of sizes → (live me.0.role ≡ 0 → ⊥) → me.0.memory.append ≡ None → 0 < claims l me.0.session → number ≡ session_number_of me.0.role
      → Allows (RuleHolds lawful opening sizes) slots id me (writer_place l) (λ _. number) (tells lawful opening sizes entry (StoreWriter l) (λ _. number) me)
  store_allowed l number inside alive closed claims' mine s kept sized at fits =
      let w : View = signed l me.0 in
      let ss : List Session = map session_in_view s.views in
      let latches : ℕ = latches_of sizes in
      let words : List ℕ = set s.words (writer_place l) number in
      let fit : writer_place l < length s.words = place_fits sizes s.words l Writer kept.sized inside in
      let at' : Stands ss id me.0.session = at_map session_in_view s.views id me.0 at in
      let marks : marks_in latches s.words ≡ marks_in latches (set s.words (writer_place l) number) = same_marks s.words (length s.words) l number latches inside fit in
      let after : RuleHolds lawful opening sizes (stepped s (writer_place l) number id me.1 (signed l me.0) keeps) = record {
        sized = length-set s.words (writer_place l) number ∙ kept.sized;
        sessions = subst (λ (z : ℕ × List Role). SessionsPart z.0 z.1) (λ j. (sym (front latches s.words l number Writer drawn_place (omega arith)) j, sym (map_same role_of s.views id me.0 w at refl) j)) kept.sessions;
        latches = subst (λ z. LatchPart (latches_of sizes) (set s.words (writer_place l) number) z) (sym (map_same session_in_view s.views id me.0 w at refl)) record {
          good = subst (λ m. IsGood (map session_in_view s.views) m) marks kept.latches.good;
          counted = λ k h. let c = kept.latches.counted k h in let e = dite (ℕ_discrete l k)
              (λ q. subst (λ k. slice_index (set s.words (writer_place l) number) (lock_place k) ≡ slice_index s.words (lock_place k)) q (lock_else latches s.words l number Writer (λ z. absurd (cc))))
              (λ d. lock_away latches s.words l number Writer k d) in omega arith;
          flags = flag_after latches s.words l number Writer (λ z. absurd (cc)) fit kept.latches.flags;
          few = kept.latches.few;
        };
        idles = at_set (λ _ u. IsIdle u) s.views id w (kept.idles id me.0 at) (λ j b e _. kept.idles j b e);
        paid = record {
          paid = λ k h.
              let t = sum_at (λ (u : View). total u.grants) s.views id me.0 w at in let d = sum_at (λ (u : View). debt k u.session) s.views id me.0 w at in
              let b = kept.paid.paid k h in
              let g = get_or-set_other s.words (writer_place l) (gen_place k) number 0 (λ e. omega arith) in let x = get_or-set_other s.words (writer_place l) (ex_gen_place k) number 0 (λ e. omega arith) in omega arith;
          bound = at_set (λ _ u. total u.grants ≤ 2 ^ 52 * sessions_in u.role) s.views id w (kept.paid.bound id me.0 at) (λ j u e d. kept.paid.bound j u e);
        };
        writers = at_set (λ _ u. AllByRecursion (IsWriter (latches_of sizes) (set s.words (writer_place l) number) u) u.written) s.views id w
            ((claims', get_or-set_same s.words (writer_place l) number 0 fit ∙ mine, inside), mine_write s l number fit mine me.0.written (kept.writers id me.0 at))
            (λ j u q d. others_write s l number u (good_one s kept at l claims' j u q d) u.written (kept.writers j u q));
        log = kept.log;
        memory = view_part sizes (lawful sizes.pages) (by_place opening sizes.pages) s.words (set s.words (writer_place l) number) kept.log s.views id me.0 w kept.memory at (latch_far sizes s.words Writer l number inside)
            (omega arith) (kept.memory.follows id me.0 at) (kept.memory.ended id me.0 at) (λ q h. h);
      } in (
        signed l me.0,
        keeps,
        tt,
        after,
        (record { view = refl; event = refl; proper = proper_now lawful opening sizes s _ _ id me.1 me.0 (signed l me.0) at after; known = known_now lawful opening sizes s _ _ id me.1 me.0 (signed l me.0) at after; range = tt; left = mine; few = few_now lawful opening sizes s _ _ id me.1 me.0 (signed l me.0) at after; taken = taken_now lawful opening sizes s _ _ id me.1 me.0 (signed l me.0) at after }, refl),
      )
    where
      same_marks : (words : List ℕ) (len l number latches : ℕ) → l < latches → writer_place l < length words → marks_in latches words ≡ marks_in latches (set words (writer_place l) number)
      same_marks words len l number latches inside fit = λ j k. sym (dite (ℕ_discrete l k)
          (λ q. subst (λ k. marks_in latches (set words (writer_place l) number) k ≡ marks_in latches words k) q (marks_here latches words l number Writer inside fit))
          (λ d. marks_away latches words l number Writer k d)) j

      mine_write : (s : State (Unit {0}) View) (l number : ℕ) → writer_place l < length s.words → number ≡ session_number_of me.0.role → (xs : List ℕ) → AllByRecursion (IsWriter (latches_of sizes) s.words me.0) xs → AllByRecursion (IsWriter (latches_of sizes) (set s.words (writer_place l) number) (signed l me.0)) xs
      mine_write s l number fit mine [] each = tt
      mine_write s l number fit mine (x ∷ xs) each = (
        (
          each.0.0,
          dite (ℕ_discrete l x)
              (λ q. subst (λ x. slice_index (set s.words (writer_place l) number) (writer_place x) ≡ session_number_of me.0.role) q (get_or-set_same s.words (writer_place l) number 0 fit ∙ mine))
              (λ d. get_or-set_other s.words (writer_place l) (writer_place x) number 0 (λ e. d (omega arith)) ∙ each.0.1),
          each.0.2,
        ),
        mine_write s l number fit mine xs each.1,
      )

      good_one : (s : State (Unit {0}) View) → RuleHolds lawful opening sizes s → get_elem? s.views id ≡ some me.0 → (l : ℕ) → 0 < claims l me.0.session → (j : ℕ) (u : View) → get_elem? s.views j ≡ some u → id ≢ j → claims l u.session ≡ 0
      good_one s kept at l claims' j u q d = (kept.latches.good.beside id j me.0.session u.session (at_map session_in_view s.views id me.0 at) (at_map session_in_view s.views j u q) d l).one_claim claims'

      others_write : (s : State (Unit {0}) View) (l number : ℕ) (u : View) → claims l u.session ≡ 0 → (xs : List ℕ) → AllByRecursion (IsWriter (latches_of sizes) s.words u) xs → AllByRecursion (IsWriter (latches_of sizes) (set s.words (writer_place l) number) u) xs
      others_write s l number u none [] each = tt
      others_write s l number u none (x ∷ xs) each = (
        (
          each.0.0,
          get_or-set_other s.words (writer_place l) (writer_place x) number 0
              (λ e. let here : l ≡ x = omega arith in let z : claims x u.session ≡ 0 = subst (λ x. claims x u.session ≡ 0) here none in let w = each.0.0 in absurd (omega arith)) ∙ each.0.1,
          each.0.2,
        ),
        others_write s l number u none xs each.1,
      )

  -- .. on a word and at a place that are named
  pub turn_allowed_at : (c : LatchWord) (p : ℕ) (e : Event) (f : ℕ → ℕ) → word_for e me.0.session ≡ c → p ≡ latch_word_place c (latch_of e) → latch_of e < latches_of sizes → (live me.0.role ≡ 0 → ⊥) → me.0.memory.append ≡ None
      → ((n : ℕ) → CanBe c (latch_of e) me.0.session n → CanTake e me.0 n × Leaves c e me.0.session n (f n))
      → Allows (RuleHolds lawful opening sizes) slots id me p f (tells lawful opening sizes entry (Turns e) f me)
  turn_allowed_at c p e f is at inside alive closed leaves =
      subst (λ p. Allows (RuleHolds lawful opening sizes) slots id me p f (tells lawful opening sizes entry (Turns e) f me)) (ap (λ c. latch_word_place c (latch_of e)) is ∙ sym at)
      (turn_allowed e f inside alive closed (subst (λ c. (n : ℕ) → CanBe c (latch_of e) me.0.session n → CanTake e me.0 n × Leaves c e me.0.session n (f n)) (sym is) leaves))

  pub try_allowed_at : (p : ℕ) (e : Event) (expected new : ℕ) → word_for e me.0.session ≡ Lock → p ≡ lock_place (latch_of e) → latch_of e < latches_of sizes → (live me.0.role ≡ 0 → ⊥) → me.0.memory.append ≡ None
      → (CanBe Lock (latch_of e) me.0.session expected → CanTake e me.0 expected × Leaves Lock e me.0.session expected new)
      → Allows (RuleHolds lawful opening sizes) slots id me p (λ n. either (n == expected) new n) (tells lawful opening sizes entry (Try e expected) (λ n. either (n == expected) new n) me)
  try_allowed_at p e expected new is at inside alive closed leaves =
      subst (λ p. Allows (RuleHolds lawful opening sizes) slots id me p (λ n. either (n == expected) new n) (tells lawful opening sizes entry (Try e expected) (λ n. either (n == expected) new n) me)) (ap (λ c. latch_word_place c (latch_of e)) is ∙ sym at)
      (try_allowed e expected new inside alive closed (subst (λ c. CanBe c (latch_of e) me.0.session expected → CanTake e me.0 expected × Leaves c e me.0.session expected new) (sym is) leaves))

  pub look_allowed_at : (p l : ℕ) → p ≡ lock_place l → l < latches_of sizes → Allows (RuleHolds lawful opening sizes) slots id me p (λ n. n) (tells lawful opening sizes entry (Looked l) (λ n. n) me)
  look_allowed_at p l at inside = subst (λ p. Allows (RuleHolds lawful opening sizes) slots id me p (λ n. n) (tells lawful opening sizes entry (Looked l) (λ n. n) me)) (sym at) (look_allowed l inside)

  pub recheck_allowed_at : (p l : ℕ) → p ≡ lock_place l → l < latches_of sizes → (live me.0.role ≡ 0 → ⊥) → me.0.memory.append ≡ None → Allows (RuleHolds lawful opening sizes) slots id me p (λ n. n) (tells lawful opening sizes entry (Recheck l) (λ n. n) me)
  recheck_allowed_at p l at inside alive closed = subst (λ p. Allows (RuleHolds lawful opening sizes) slots id me p (λ n. n) (tells lawful opening sizes entry (Recheck l) (λ n. n) me)) (sym at) (recheck_allowed l inside alive closed)

  pub store_allowed_at : (p l number : ℕ) → p ≡ writer_place l → l < latches_of sizes → (live me.0.role ≡ 0 → ⊥) → me.0.memory.append ≡ None → 0 < claims l me.0.session → number ≡ session_number_of me.0.role
      → Allows (RuleHolds lawful opening sizes) slots id me p (λ _. number) (tells lawful opening sizes entry (StoreWriter l) (λ _. number) me)
  store_allowed_at p l number at inside alive closed claims' mine = subst (λ p. Allows (RuleHolds lawful opening sizes) slots id me p (λ _. number) (tells lawful opening sizes entry (StoreWriter l) (λ _. number) me)) (sym at) (store_allowed l number inside alive closed claims' mine)
