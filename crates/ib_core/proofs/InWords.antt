-- What a good state says in the words of a reader, and that runs of events stay good.
use Rattle.std.proofs.Common.{◌+◌, ◌≡◌, ◌≢◌, ℕ, suc, ◌<◌, ◌≤◌, ⊎_elim, Bool, true, false, cond, List, [], ◌∷◌, set, length, length-set, get_or-set_same, get_or-set_other, refl, sym, ap, ◌∙◌, zero, subst, arith}
use Rattle.std.specs.List.{sum_by}
use Rattle.std.proofs.lemmas.List.Sums.{sum_by-cons}
use Rattle.std.specs.Prelude.{Some, None, nat_lt, not, position}
use Rattle.std.specs.List.{position_or_len}
use Rattle.std.proofs.lemmas.Bool.Decides.{nat_tests}
use mathlib.Core.Option.{some-ne-none, some-injective}
use mathlib.Core.Logic.{dite}
use native.Mathlib.Decide.{ℕ_discrete}
use Rattle.ib_word.specs.Weight.{weight, sx_weight, x_weight}
use Rattle.ib_word.specs.Word.{word_less, word_of}
use Rattle.ib_levels.specs.declared.level.Level.{Level}
use Rattle.ib_levels.specs.declared.level.Mode.{Mode}
use Rattle.ib_levels.specs.declared.level.Mode.TheVariants.{S, Sx, X}
use Rattle.ib_core.specs.declared.phase.Phase.TheVariants.{Flagged, Checked, Asleep, NextChecked, NextAsleep}
use Rattle.ib_core.specs.declared.session.Session.{Session}
use Rattle.ib_core.specs.declared.session.Marks.{Marks}
use Rattle.ib_core.specs.Sessions.{Stands, idle, is_next, reads, sx_grants, x_grants, claims, owned, taken, all_taken, word_on, readers_of, sx_owner_of, x_owner_of, next_writer_of, HasFewReaders}
use Rattle.ib_core.specs.Responses.{latch_of}
use Rattle.ib_core.specs.Good.{IsProper, IsGood, IsOwed, Heard, against, owes_signal, owes_raise_ex, WillRaise}
use Rattle.ib_core.specs.Sleepers.{MaySleep, HasFlagged, NextMaySleep}
use Rattle.ib_core.specs.Holders.{OwnsSx, OwnsX, IsNextWriter, HoldersAreCompatible, IsFreeOfClaims, IsGrantable}
use Rattle.ib_core.specs.Machine.{CoreState, marks_at, fresh, opening_state, session_at, outcome_of, turn_in, IsGoodState}
use Rattle.ib_core.specs.Actions.{Action, IsAmong, AllAmong, state_after}
use Rattle.ib_core.proofs.OnLatch.{counted}
use Rattle.ib_core.proofs.Elements.{all_zero, at_below}
use Rattle.ib_core.proofs.Kept.{next_has_x}
use Rattle.ib_core.proofs.Grown.{owned_le}
use Rattle.ib_core.proofs.EachTurn.{turn_kept}
use Rattle.ib_core.proofs.Totals.{readers_few}
use Rattle.ib_core.proofs.Steps.{stands_at}
use Rattle.ib_core.proofs.Opened.{good_idle}

module _ (m : ℕ → Marks) (sessions : List Session) (good : IsGood sessions m) (l : ℕ) where
  -- SX, X and the place of the next writer are claims
  claims_sx : (i : ℕ) (a : Session) → Stands sessions i a → OwnsSx l a → 0 < claims l a
  claims_sx i a at has = let c = counted l a ((good.proper i a at).single l) in omega arith

  claims_x : (a : Session) → OwnsX l a → 0 < claims l a
  claims_x a has = let o = owned_le l a in omega arith

  claims_next : (i : ℕ) (a : Session) → Stands sessions i a → IsNextWriter l a → 0 < claims l a
  claims_next i a at next = let c = counted l a ((good.proper i a at).single l) in let x = next_has_x l a.phase a next (good.proper i a at).suits in omega arith

  -- where a session claims nothing it has none of the three
  none_of_three : (i : ℕ) (a : Session) → Stands sessions i a → claims l a ≡ 0 → ¬ OwnsSx l a × ¬ OwnsX l a × ¬ IsNextWriter l a
  none_of_three i a at none = (
    (λ has. let c = claims_sx i a at has in absurd (omega arith)),
    (λ has. let c = claims_x a has in absurd (omega arith)),
    (λ next. let c = claims_next i a at next in absurd (omega arith)),
  )

  pub compatible : HoldersAreCompatible l sessions
  compatible = record {
    beside = λ i j a b at bt n.
        let ab = good.beside i j a b at bt n l in record {
          x_alone = λ has. let three = none_of_three j b bt (ab.one_claim (claims_x a has)) in ((λ r. let z = ab.none_reads has in absurd (omega arith)), three.0, three.1, three.2);
          one_sx = λ has. none_of_three j b bt (ab.one_claim (claims_sx i a at has));
          one_next = λ next. none_of_three j b bt (ab.one_claim (claims_next i a at next));
        };
    apart = λ i a at r. none_of_three i a at ((good.proper i a at).apart l r);
  }

  -- who has X owns it, or is the next writer
  x_owned : (i : ℕ) (a : Session) → Stands sessions i a → ¬ OwnsX l a → ¬ IsNextWriter l a → x_grants l a ≡ 0
  x_owned i a at not_owned not_next = by_test (is_next l a.phase) refl
    where
      by_test : (b : Bool) → is_next l a.phase ≡ b → x_grants l a ≡ 0
      by_test true e = absurd (not_next e)
      by_test false e = dite (ℕ_discrete (x_grants l a) 0) (λ z. z)
          (λ n. let o : owned l a ≡ x_grants l a = ap (λ b. cond b 0 (x_grants l a)) e in absurd (not_owned (omega arith)))

  -- a grantable wish has nobody against it
  pub nobody_against : (mode : Mode) → IsGrantable mode l sessions → sum_by (against mode l) sessions ≡ 0
  nobody_against S grantable = all_zero (x_grants l) sessions (λ i a at. x_owned i a at (grantable.no_owner i a at) (grantable.no_next i a at))
  nobody_against Sx grantable = all_zero (claims l) sessions (λ i a at.
      let c = counted l a ((good.proper i a at).single l) in let x = x_owned i a at (grantable.no_x.no_owner i a at) (grantable.no_x.no_next i a at) in
      dite (ℕ_discrete (sx_grants l a) 0) (λ z. omega arith) (λ n. absurd (grantable.no_sx i a at (omega arith))))
  nobody_against X grantable = nobody_against_sx grantable
    where
      nobody_against_sx : IsFreeOfClaims l sessions → sum_by (claims l) sessions ≡ 0
      nobody_against_sx grantable = all_zero (claims l) sessions (λ i a at.
          let c = counted l a ((good.proper i a at).single l) in let x = x_owned i a at (grantable.no_x.no_owner i a at) (grantable.no_x.no_next i a at) in
          dite (ℕ_discrete (sx_grants l a) 0) (λ z. omega arith) (λ n. absurd (grantable.no_sx i a at (omega arith))))

  -- no signal is lost to who may sleep or sleeps ..
  pub sleeper_signalled : (i : ℕ) (a : Session) (mode : Mode) (v : Level) → Stands sessions i a → MaySleep l mode v (m l).generation a.phase → IsGrantable mode l sessions → IsOwed (owes_signal l) sessions
  sleeper_signalled i a mode v at waits grantable =
      let none = nobody_against mode grantable in
      ⊎_elim (λ (z : 0 < sum_by (against mode l) sessions). absurd (omega arith)) (λ o. o)
      (⊎_elim
      (λ (is : a.phase ≡ Checked l mode v (m l).generation). (subst (λ p. Heard m sessions p) is (good.heard i a at)).2 refl)
      (λ (is : a.phase ≡ Asleep l mode v (m l).generation). (subst (λ p. Heard m sessions p) is (good.heard i a at)).2 refl) waits)

  -- .. and none to a next writer
  pub next_signalled : (i : ℕ) (a : Session) (v : Level) → Stands sessions i a → NextMaySleep l v (m l).ex_generation a.phase → readers_of l sessions ≡ 0 → IsOwed (owes_raise_ex l) sessions
  next_signalled i a v at waits none =
      ⊎_elim (λ (z : 0 < readers_of l sessions). absurd (omega arith)) (λ o. o)
      (⊎_elim
      (λ (is : a.phase ≡ NextChecked l v (m l).ex_generation). (subst (λ p. Heard m sessions p) is (good.heard i a at)).1 refl)
      (λ (is : a.phase ≡ NextAsleep l v (m l).ex_generation). (subst (λ p. Heard m sessions p) is (good.heard i a at)).1 refl) waits)

  -- the flag of who waits is set, or was cleared by one that owes the raise
  pub flag_stands : (i : ℕ) (a : Session) (mode : Mode) (v : Level) → Stands sessions i a → HasFlagged l mode v (m l).generation a.phase → WillRaise l (m l) sessions
  flag_stands i a mode v at waits =
      ⊎_elim
      (λ (is : a.phase ≡ Flagged l mode v (m l).generation). (subst (λ p. Heard m sessions p) is (good.heard i a at)).1 refl)
      (λ (waits : MaySleep l mode v (m l).generation a.phase). ⊎_elim
      (λ (is : a.phase ≡ Checked l mode v (m l).generation). (subst (λ p. Heard m sessions p) is (good.heard i a at)).1 refl)
      (λ (is : a.phase ≡ Asleep l mode v (m l).generation). (subst (λ p. Heard m sessions p) is (good.heard i a at)).1 refl) waits) waits

-- the place of the one session that passes a test
passed_over : (p : Session → Bool) (ss : List Session) (i : ℕ) (a : Session) → Stands ss i a → p a ≡ true
    → ((j : ℕ) (b : Session) → Stands ss j b → j ≢ i → p b ≡ false) → position_or_len p ss ≡ i
passed_over p [] i a at is others = absurd (some-ne-none a (sym at))
passed_over p (x ∷ ss) zero a at is others = ap (λ b. cond (not b) (1 + position_or_len p ss) 0) (ap p (some-injective x a at) ∙ is)
passed_over p (x ∷ ss) (suc i) a at is others =
    let rest = passed_over p ss i a at is (λ j b bt n. others (suc j) b bt (λ q. n (omega arith))) in let e : 1 + position_or_len p ss ≡ suc i = omega arith in
    ap (λ b. cond (not b) (1 + position_or_len p ss) 0) (others 0 x refl (λ q. omega arith)) ∙ e

only_place : (p : Session → Bool) (ss : List Session) (i : ℕ) (a : Session) → Stands ss i a → p a ≡ true
    → ((j : ℕ) (b : Session) → Stands ss j b → j ≢ i → p b ≡ false) → position p ss ≡ Some i
only_place p ss i a at is others =
    let len = passed_over p ss i a at is others in let within = at_below ss i a at in
    let inside : nat_lt i (length ss) ≡ true = grind (arith, nat_tests) in
    (λ j. cond (nat_lt (len j) (length ss)) (Some (len j)) None) ∙ ap (λ b. cond b (Some i) None) inside

module _ (m : ℕ → Marks) (sessions : List Session) (good : IsGood sessions m) (l : ℕ) where
  more_than_none : (n : ℕ) → 0 < n → nat_lt 0 n ≡ true
  more_than_none n has = grind (arith, nat_tests)

  no_more : (n : ℕ) → (0 < n → ⊥) → nat_lt 0 n ≡ false
  no_more n not_so = dite (ℕ_discrete n 0) (λ z. grind (arith, nat_tests)) (λ some. absurd (not_so (omega arith)))

  -- the owners of SX and of X, and the next writer, are the ones that are named
  pub sx_owner_named : (i : ℕ) (a : Session) → Stands sessions i a → OwnsSx l a → sx_owner_of l sessions ≡ Some i
  sx_owner_named i a at has =
      only_place (λ a. nat_lt 0 (sx_grants l a)) sessions i a at (more_than_none (sx_grants l a) has)
      (λ j b bt n. no_more (sx_grants l b) (((compatible m sessions good l).beside i j a b at bt (λ q. n (sym q))).one_sx has).0)

  pub x_owner_named : (i : ℕ) (a : Session) → Stands sessions i a → OwnsX l a → x_owner_of l sessions ≡ Some i
  x_owner_named i a at has =
      only_place (λ a. nat_lt 0 (owned l a)) sessions i a at (more_than_none (owned l a) has)
      (λ j b bt n. no_more (owned l b) (((compatible m sessions good l).beside i j a b at bt (λ q. n (sym q))).x_alone has).2)

  pub next_writer_named : (i : ℕ) (a : Session) → Stands sessions i a → IsNextWriter l a → next_writer_of l sessions ≡ Some i
  next_writer_named i a at next =
      only_place (λ a. is_next l a.phase) sessions i a at next
      (λ j b bt n. not_next (is_next l b.phase) (((compatible m sessions good l).beside i j a b at bt (λ q. n (sym q))).one_next next).2)
    where
      not_next : (b : Bool) → (b ≡ true → ⊥) → b ≡ false
      not_next true z = absurd (z refl)
      not_next false z = refl

-- what is taken off is what the counts of all holders take off
counts_taken : (l : ℕ) (ss : List Session) → ((i : ℕ) (a : Session) → Stands ss i a → IsProper a)
    → ((i j : ℕ) (a b : Session) → Stands ss i a → Stands ss j b → i ≢ j → 0 < claims l a → claims l b ≡ 0)
    → all_taken l ss ≡ weight (readers_of l ss) (sum_by (sx_grants l) ss) (sum_by (x_grants l) ss)
counts_taken l [] proper one = refl
counts_taken l (a ∷ ss) proper one =
    let t = sum_by-cons (taken l) a ss in let r = sum_by-cons (reads l) a ss in let sx = sum_by-cons (sx_grants l) a ss in let x = sum_by-cons (x_grants l) a ss in
    let k = counted l a ((proper 0 a refl).single l) in
    let h = counts_taken l ss (λ i b e. proper (suc i) b e) (λ i j b d e f n. one (suc i) (suc j) b d e f (λ q. n (omega arith))) in
    dite (ℕ_discrete (claims l a) 0)
    (λ none.
    let sx' : sx_weight (sum_by (sx_grants l) (a ∷ ss)) ≡ sx_weight (sum_by (sx_grants l) ss) = ap sx_weight (let e : sum_by (sx_grants l) (a ∷ ss) ≡ sum_by (sx_grants l) ss = omega arith in e) in
    let x' : x_weight (sum_by (x_grants l) (a ∷ ss)) ≡ x_weight (sum_by (x_grants l) ss) = ap x_weight (let e : sum_by (x_grants l) (a ∷ ss) ≡ sum_by (x_grants l) ss = omega arith in e) in
    let zsx : sx_weight (sx_grants l a) ≡ 0 = ap sx_weight (let e : sx_grants l a ≡ 0 = omega arith in e) in
    let zx : x_weight (x_grants l a) ≡ 0 = ap x_weight (let e : x_grants l a ≡ 0 = omega arith in e) in omega arith)
    (λ some.
    let rest : (i : ℕ) (b : Session) → Stands ss i b → claims l b ≡ 0 = λ i b e. one 0 (suc i) a b refl e (λ q. omega arith) (omega arith) in
    let nsx = all_zero (sx_grants l) ss (λ i b e. let z = rest i b e in let c = counted l b ((proper (suc i) b e).single l) in omega arith) in
    let nx = all_zero (x_grants l) ss (λ i b e. let z = rest i b e in let c = counted l b ((proper (suc i) b e).single l) in omega arith) in
    let sx' : sx_weight (sum_by (sx_grants l) (a ∷ ss)) ≡ sx_weight (sx_grants l a) = ap sx_weight (let e : sum_by (sx_grants l) (a ∷ ss) ≡ sx_grants l a = omega arith in e) in
    let x' : x_weight (sum_by (x_grants l) (a ∷ ss)) ≡ x_weight (x_grants l a) = ap x_weight (let e : sum_by (x_grants l) (a ∷ ss) ≡ x_grants l a = omega arith in e) in
    let zsx : sx_weight (sum_by (sx_grants l) ss) ≡ 0 = ap sx_weight nsx in
    let zx : x_weight (sum_by (x_grants l) ss) ≡ 0 = ap x_weight nx in omega arith)

pub word_of_counts : (m : ℕ → Marks) (ss : List Session) (l : ℕ) → IsGood ss m → word_on l ss ≡ word_of (readers_of l ss) (sum_by (sx_grants l) ss) (sum_by (x_grants l) ss)
word_of_counts m ss l good = ap word_less (counts_taken l ss good.proper (λ i j a b e d n. (good.beside i j a b e d n l).one_claim))

-- each event of a session and a latch that there are leads from a good state to a good state
pub event_kept : (state : CoreState) (action : Action) → HasFewReaders state.sessions → IsAmong state action → IsGoodState state → IsGoodState (outcome_of state action.index action.event).state
event_kept state action few among good =
    let l : ℕ = latch_of action.event in
    turn_kept (marks_at state.marks) (marks_at (set state.marks l (turn_in state action.index action.event).marks)) state.sessions action.index (session_at state action.index) action.event few good
    (stands_at state.sessions action.index idle among.session)
    (get_or-set_same state.marks l (turn_in state action.index action.event).marks fresh among.latch)
    (λ k n. get_or-set_other state.marks l k (turn_in state action.index action.event).marks fresh (λ q. n (sym q)))

-- as many sessions and latches as before
among_after : (state : CoreState) (action other : Action) → IsAmong state other → IsAmong (outcome_of state action.index action.event).state other
among_after state action other among = record {
  session = let n = length-set state.sessions action.index (turn_in state action.index action.event).session in let w = among.session in omega arith;
  latch = let n = length-set state.marks (latch_of action.event) (turn_in state action.index action.event).marks in let w = among.latch in omega arith;
}

all_among_after : (state : CoreState) (action : Action) (actions : List Action) → AllAmong state actions → AllAmong (outcome_of state action.index action.event).state actions
all_among_after state action [] among = tt
all_among_after state action (other ∷ actions) among = (among_after state action other among.0, all_among_after state action actions among.1)

pub run_kept : (state : CoreState) (actions : List Action) → length state.sessions ≤ 1024 → AllAmong state actions → IsGoodState state → IsGoodState (state_after state actions)
run_kept state [] few among good = good
run_kept state (action ∷ actions) few among good =
    run_kept (outcome_of state action.index action.event).state actions
    (let n = length-set state.sessions action.index (turn_in state action.index action.event).session in omega arith)
    (all_among_after state action actions among.1) (event_kept state action (λ l. let r = readers_few l state.sessions good.proper in omega arith) among.0 good)

pub opening_good : (sessions latches : ℕ) → IsGoodState (opening_state sessions latches)
opening_good sessions latches = good_idle sessions (marks_at (opening_state sessions latches).marks)
