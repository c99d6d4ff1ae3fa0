-- Sessions that wait: nothing is changed but the phase and the looks.
use Rattle.std.proofs.Common.{◌≡◌, ◌≢◌, inl, ℕ, ◌+◌, ◌≤◌, List, ◌∷◌, Some, None, Bool, true, false, pos, ◌-ℤ◌, eq-eqb, refl, sym, ap, ◌∙◌, subst, arith}
use Rattle.std.specs.Prelude.{◌==◌, if◌then◌else◌, IfNone, IfSome, Option, is_some}
use Rattle.ib_word.specs.Word.{cell_of, word_in, is_drained}
use Rattle.ib_word.specs.declared.word.TheConstants.{X_LOCK_DECR}
use Rattle.ib_word.specs.declared.word.LockWord.{LockWord}
use Rattle.ib_levels.specs.declared.holding.Holding.{Holding}
use Rattle.ib_levels.specs.declared.level.Level.{Level}
use Rattle.ib_levels.specs.declared.level.Mode.{Mode}
use Rattle.ib_levels.specs.declared.level.Mode.TheVariants.{S, Sx, X}
use Rattle.ib_levels.specs.Holding.{changed_on}
use Rattle.ib_levels.specs.declared.level.Level.TheVariants.{Log}
use Rattle.ib_core.specs.declared.phase.Phase.{Phase}
use Rattle.ib_core.specs.declared.phase.Phase.TheVariants.{Free, Next, NextArmed, NextChecked}
use Rattle.ib_core.specs.Sessions.{holdings, sx_grants}
use Rattle.ib_core.specs.Table.{owns_x_at}
use Rattle.ib_core.specs.declared.session.Session.{Session}
use Rattle.ib_core.specs.Takings.{holding_too, is_given_at, level_on, one_more}
use Rattle.ib_rule.specs.declared.looks.Look.{Look}
use Rattle.ib_rule.specs.declared.looks.Looks.{Looks}
use Rattle.ib_rule.specs.declared.view.View.{View}
use Rattle.ib_rule.specs.Afterwards.{looked_on, phased, tried_on, with_wait, word_loaded}
use Rattle.ib_rule.specs.Laws.{Stores}
use Rattle.ib_rule.specs.Pass.{PassState, IsOf, with_view}
use Rattle.ib_rule.specs.Space.{SpaceState}
use Rattle.ib_rule.specs.Takes.{IsStillOf}
use Rattle.ib_rule.specs.Views.{with_grant, with_looks}
use Rattle.ib_latch.specs.declared.tries.Reserve.{Reserve}
use Rattle.ib_latch.specs.declared.tries.Reserve.TheVariants.{Owned, Next as NextWriter}
use Rattle.ib_latch.specs.Tries.{HasTakenGrant, first_session, looked_at, lost_at, phase_by, phase_of, reserve_at, upgraded, won_with}
use Rattle.ib_latch.specs.Waits.{EndsAsReserved, EndsOwned, EndsOwning, HasLockedX, HasLookedAsNext, HasTried, IsStill, IsUpgraded, IsWon, reserved_by}
use Rattle.ib_latch.proofs.Takes.{won_taken}

-- a pass in another phase, with other looks
pub view_still : (f : Phase) (k : Looks) (p q : PassState) → q ≡ with_view p (with_looks k (phased f p.view)) → p.view.looks.count ≤ k.count → IsStill f p q
view_still f k p q is more =
    let looks : q.view.looks ≡ k = ap (λ (q : PassState). q.view.looks) is in record {
      same = is ∙ ap (λ (k : Looks). with_view p (with_looks k (phased f p.view))) (sym looks);
      looks = subst (λ (k : Looks). p.view.looks.count ≤ k.count) (sym looks) more;
    }

pub armed_still : (f : Phase) (p q : PassState) → q ≡ with_view p (with_wait (with_wait (phased f p.view))) → IsStill f p q
armed_still f p q is = view_still f (with_wait (with_wait p.view)).looks p q is (omega arith)

pub waited_still : (f : Phase) (p q : PassState) → q ≡ with_view p (with_wait (phased f p.view)) → IsStill f p q
waited_still f p q is = view_still f (with_wait p.view).looks p q is (omega arith)

pub looked_still : (f : Phase) (l : ℕ) (w : LockWord) (p q : PassState) → q ≡ with_view p (looked_on l w (phased f p.view)) → IsStill f p q
looked_still f l w p q is = view_still f (looked_on l w p.view).looks p q is (omega arith)

-- a view is itself in its own phase
as_phased : (f : Phase) (v : View) → v.session.phase ≡ f → v ≡ phased f v
as_phased f v is = λ j. record v { session = record v.session { phase = is j } }

pub raced_still : (f : Phase) (l : ℕ) (w found : LockWord) (p q : PassState) → p.view.session.phase ≡ f → q ≡ lost_at l w found (looked_at l w p) → IsStill f p q
raced_still f l w found p q phase is =
    view_still f (tried_on l w found (looked_on l w p.view)).looks p q (is ∙ ap (λ (v : View). with_view p (tried_on l w found (looked_on l w v))) (as_phased f p.view phase)) (omega arith)

-- one after the other
pub still_then : (f g : Phase) (p q r : PassState) → IsStill f p q → IsStill g q r → IsStill g p r
still_then f g p q r a b = record {
  same = b.same ∙ ap (λ (q : PassState). with_view q (with_looks r.view.looks (phased g q.view))) a.same;
  looks = let x = a.looks in let y = b.looks in omega arith;
}

-- what is taken after a session stood still is taken from where it stood, and what was taken is taken while it stands still
pub taken_after : (f : Phase) (mode : Mode) (held : List Holding) (phase : Phase) (p q s : PassState) → IsStill f p q → HasTakenGrant mode held phase q.view s.view → HasTakenGrant mode held phase p.view s.view
taken_after f mode held phase p q s still taken = record {
  session = taken.session;
  grants = taken.grants ∙ ap (λ (q : PassState). with_grant (Some mode) q.view.grants) still.same;
  kept = λ k was. taken.kept k (subst (Stores k) (sym (ap (λ (q : PassState). q.view.written) still.same)) was);
  memory = taken.memory ∙ ap (λ (q : PassState). q.view.memory) still.same;
}

pub taken_still : (f : Phase) (mode : Mode) (held : List Holding) (phase : Phase) (p q s : PassState) → HasTakenGrant mode held phase p.view q.view → IsStill f q s → HasTakenGrant mode held f p.view s.view
taken_still f mode held phase p q s taken still = record {
  session = ap (λ (s : PassState). s.view.session) still.same ∙ ap (λ (a : Session). record a { phase = f }) taken.session;
  grants = ap (λ (s : PassState). s.view.grants) still.same ∙ taken.grants;
  kept = λ k was. subst (Stores k) (sym (ap (λ (s : PassState). s.view.written) still.same)) (taken.kept k was);
  memory = ap (λ (s : PassState). s.view.memory) still.same ∙ taken.memory;
}

still_held : (f : Phase) (p q : PassState) → IsStill f p q → q.view.session.held ≡ p.view.session.held
still_held f p q still = ap (λ (q : PassState). q.view.session.held) still.same

pub won_after : (f : Phase) (mode : Mode) (l : ℕ) (v : Level) (r : Reserve) (p q s : PassState) → IsStill f p q → IsWon mode l v r q s → IsWon mode l v r p s
won_after f mode l v r p q s still won = record {
  taken = taken_after f mode (holding_too mode l v p.view.session.held) (phase_of l v r) p q s still
      (subst (λ hs. HasTakenGrant mode (holding_too mode l v hs) (phase_of l v r) q.view s.view) (still_held f p q still) won.taken);
  won = won.won;
  owned = won.owned;
  owns_x = won.owns_x;
  signed = won.signed;
  looks = let a = still.looks in let b = won.looks in omega arith;
}

-- what holds where nothing was won
pub none_won : (P : Type 0) (o : Option Reserve) → is_some o ≡ false → IfNone o P → P
none_won P (Some r) is none = absurd (cc)
none_won P None is none = none

-- .. also where nothing may have been won
pub some_after : (f : Phase) (mode : Mode) (l : ℕ) (v : Level) (o : Option Reserve) (p q s : PassState) → IsStill f p q → IfSome o (λ r. IsWon mode l v r q s) → IfSome o (λ r. IsWon mode l v r p s)
some_after f mode l v (Some r) p q s still won = won_after f mode l v r p q s still won
some_after f mode l v None p q s still won = tt

pub upgraded_after : (f : Phase) (l : ℕ) (r : Reserve) (p q s : PassState) → IsStill f p q → IsUpgraded l r q s → IsUpgraded l r p s
upgraded_after f l r p q s still won = record {
  taken = taken_after f X (changed_on l (one_more X) p.view.session.held) (phase_of l (level_on l Log p.view.session.held) r) p q s still
      (subst (λ hs. HasTakenGrant X (changed_on l (one_more X) hs) (phase_of l (level_on l Log hs) r) q.view s.view) (still_held f p q still) won.taken);
  owns_x = won.owns_x;
  signed = won.signed;
  looks = let a = still.looks in let b = won.looks in omega arith;
}

-- what the next writer owns X by is the same while it waits
pub still_owned : (f : Phase) (l : ℕ) (k : Looks) (p q : PassState) → IsStill f p q → EndsOwned (sx_grants l q.view.session) l k → EndsOwned (sx_grants l p.view.session) l k
still_owned f l k p q still owned = subst (λ (sx : ℕ). EndsOwned sx l k) (ap (λ (q : PassState). sx_grants l q.view.session) still.same) owned

-- who was the next writer and is free has found a word at which it owns X
owns_at : (sx n : ℕ) (waiting : Phase) → waiting ≢ Free → (if owns_x_at sx (word_in n) then Free else waiting) ≡ Free → owns_x_at sx (word_in n) ≡ true
owns_at sx n waiting waits is = by_test (owns_x_at sx (word_in n)) refl is
  where
    by_test : (b : Bool) → owns_x_at sx (word_in n) ≡ b → (if b then Free else waiting) ≡ Free → owns_x_at sx (word_in n) ≡ true
    by_test true found free = found
    by_test false found free = absurd (waits free)

module _ (l : ℕ) (w : LockWord) (p q : PassState) (is : q ≡ with_view p (looked_on l w (phased (word_loaded l (cell_of w.0) p.view.session p.view.session.phase) p.view))) (free : q.view.session.phase ≡ Free) where
  owned_by : (waiting other : Phase) → waiting ≢ Free → word_loaded l (cell_of w.0) p.view.session p.view.session.phase ≡ (if l == l then (if owns_x_at (sx_grants l p.view.session) (word_in (cell_of w.0)) then Free else waiting) else other) → EndsOwned (sx_grants l p.view.session) l q.view.looks
  owned_by waiting other waits row =
      let here = ap (λ b. if b then (if owns_x_at (sx_grants l p.view.session) (word_in (cell_of w.0)) then Free else waiting) else other) (eq-eqb l l refl) in
      record {
        found = cell_of w.0;
        owned = owns_at (sx_grants l p.view.session) (cell_of w.0) waiting waits (sym (row ∙ here) ∙ (sym (ap (λ (q : PassState). q.view.session.phase) is) ∙ free));
        at = p.view.looks.steps;
        held = holdings l p.view.session;
        before = p.view.looks.all;
        last = ap (λ (q : PassState). q.view.looks.all) is;
      }

  pub next_owned : (v : Level) → p.view.session.phase ≡ Next l v → EndsOwned (sx_grants l p.view.session) l q.view.looks
  next_owned v next = owned_by (Next l v) (Next l v) (λ e. absurd (cc)) (ap (word_loaded l (cell_of w.0) p.view.session) next)

  pub armed_owned : (v : Level) (g : ℕ) → p.view.session.phase ≡ NextArmed l v g → EndsOwned (sx_grants l p.view.session) l q.view.looks
  armed_owned v g armed = owned_by (NextChecked l v g) (NextArmed l v g) (λ e. absurd (cc)) (ap (word_loaded l (cell_of w.0) p.view.session) armed)

-- who reserved X by a won exchange, and is no next writer, owns it by that
as_reserved : (l : ℕ) (v : Level) (w : LockWord) (k : Looks) (at held : ℕ) (before : List Look)
    → k.all ≡ record { latch = l; found = cell_of w.0; expected = Some (cell_of w.0); at = at + 1; held = held } ∷ record { latch = l; found = cell_of w.0; expected = None; at = at; held = held } ∷ before
    → EndsAsReserved l (phase_of l v (reserve_at (w.0 -ℤ pos X_LOCK_DECR))) k
as_reserved l v w k at held before last_two = by_test (is_drained (w.0 -ℤ pos X_LOCK_DECR)) refl
  where
    by_test : (b : Bool) → is_drained (w.0 -ℤ pos X_LOCK_DECR) ≡ b → EndsAsReserved l (phase_of l v (if b then Owned else NextWriter (record { 0 = w.0 -ℤ pos X_LOCK_DECR }))) k
    by_test true drained = record { word = w; given = drained; at = at; held = held; before = before; last_two = last_two }
    by_test false drained = tt

-- X that was taken beside one's own SX, at a word
pub upgraded_is : (l : ℕ) (w : LockWord) (r : Reserve) (p q : PassState) → r ≡ reserve_at (w.0 -ℤ pos X_LOCK_DECR) → q ≡ won_with X l w (upgraded l p.view.session.held w) (looked_at l w p) → IsUpgraded l r p q
upgraded_is l w r p q came is = record {
  taken = subst (λ (r : Reserve). HasTakenGrant X (changed_on l (one_more X) p.view.session.held) (phase_of l (level_on l Log p.view.session.held) r) p.view q.view) (sym came) (won_taken X l w (upgraded l p.view.session.held w) p q is);
  owns_x = subst (λ (q : PassState). EndsAsReserved l q.view.session.phase q.view.looks) (sym is) (as_reserved l (level_on l Log p.view.session.held) w (tried_on l w w (looked_on l w p.view)).looks p.view.looks.steps (holdings l p.view.session) p.view.looks.all refl);
  signed = subst (λ (q : PassState). Stores l q.view.written) (sym is) (inl refl);
  looks = let more = ap (λ (q : PassState). q.view.looks.count) is in omega arith;
}

-- a first grant that was won at a word
module _ (l : ℕ) (v : Level) (w : LockWord) (p q : PassState) where
  won_phase : (mode : Mode) → phase_by mode l v w.0 ≡ phase_of l v (reserved_by mode w.0)
  won_phase S = refl
  won_phase Sx = refl
  won_phase X = refl

  won_looks : (mode : Mode) (a : Session) → (won_with mode l w a (looked_at l w p)).view.looks ≡ (tried_on l w w (looked_on l w p.view)).looks
  won_looks S a = refl
  won_looks Sx a = refl
  won_looks X a = refl

  won_owned : (mode : Mode) → mode ≢ X → reserved_by mode w.0 ≡ Owned
  won_owned S other = refl
  won_owned Sx other = refl
  won_owned X other = absurd (other refl)

  won_signed : (mode : Mode) (a : Session) → mode ≢ S → Stores l (won_with mode l w a (looked_at l w p)).view.written
  won_signed S a other = absurd (other refl)
  won_signed Sx a other = inl refl
  won_signed X a other = inl refl

  won_owns : (mode : Mode) → mode ≡ X → q ≡ won_with mode l w (first_session mode l v p.view.session.held w) (looked_at l w p) → EndsAsReserved l q.view.session.phase q.view.looks
  won_owns S other is = absurd (cc)
  won_owns Sx other is = absurd (cc)
  won_owns X refl_x is = subst (λ (q : PassState). EndsAsReserved l q.view.session.phase q.view.looks) (sym is) (as_reserved l v w (tried_on l w w (looked_on l w p.view)).looks p.view.looks.steps (holdings l p.view.session) p.view.looks.all refl)

  pub won_is : (mode : Mode) (r : Reserve) → is_given_at mode w.0 ≡ true → r ≡ reserved_by mode w.0 → q ≡ won_with mode l w (first_session mode l v p.view.session.held w) (looked_at l w p) → IsWon mode l v r p q
  won_is mode r given came is =
      let looks = ap (λ (q : PassState). q.view.looks) is ∙ won_looks mode (first_session mode l v p.view.session.held w) in
      record {
        taken = subst (λ (f : Phase). HasTakenGrant mode (holding_too mode l v p.view.session.held) f p.view q.view) (won_phase mode ∙ ap (phase_of l v) (sym came)) (won_taken mode l w (first_session mode l v p.view.session.held w) p q is);
        won = record { word = w; given = given; at = p.view.looks.steps; held = holdings l p.view.session; before = p.view.looks.all; last_two = ap (λ (k : Looks). k.all) looks };
        owned = λ other. came ∙ won_owned mode other;
        owns_x = λ is_x. won_owns mode is_x is;
        signed = λ other. subst (λ (q : PassState). Stores l q.view.written) (sym is) (won_signed mode (first_session mode l v p.view.session.held w) other);
        looks = let more = ap (λ (k : Looks). k.count) looks in omega arith;
      }

-- of one space still
pub own_still : (space : SpaceState) (f : Phase) (p q : PassState) → IsOf space p → IsStill f p q → IsOf space q
own_still space f p q own still = record {
  table = ap (λ (q : PassState). q.table) still.same ∙ own.table;
  sizes = ap (λ (q : PassState). q.sizes) still.same ∙ own.sizes;
  closed = ap (λ (q : PassState). q.view.memory.append) still.same ∙ own.closed;
}

of_after : (space : SpaceState) (f : Phase) (p q s : PassState) → IsStill f p q → IsStillOf space q s → IsStillOf space p s
of_after space f p q s still of = record { own = of.own; same = of.same ∙ ap (λ (q : PassState). with_view q s.view) still.same }

none_after : (f g : Phase) (o : Option Reserve) (p q s : PassState) → IsStill f p q → IfNone o (IsStill g q s) → IfNone o (IsStill g p s)
none_after f g (Some r) p q s still none = tt
none_after f g None p q s still none = still_then f g p q s still none

-- what tries came to after a session stood still
pub tried_after : (space : SpaceState) (f : Phase) (mode : Mode) (l : ℕ) (v : Level) (o : Option Reserve) (p q s : PassState) → IsStill f p q → HasTried space mode l v o q s → HasTried space mode l v o p s
tried_after space f mode l v o p q s still tried = record {
  still = of_after space f p q s still tried.still;
  some = some_after f mode l v o p q s still tried.some;
  none = none_after f Free o p q s still tried.none;
}

-- .. and none was won
pub none_tried : (space : SpaceState) (mode : Mode) (l : ℕ) (v : Level) (p q : PassState) → IsOf space p → IsStill Free p q → HasTried space mode l v None p q
none_tried space mode l v p q own still = record {
  still = record { own = own_still space Free p q own still; same = still.same ∙ ap (λ (v : View). with_view p v) (sym (ap (λ (q : PassState). q.view) still.same)) };
  some = tt;
  none = still;
}

-- looks of a next writer after it stood still
pub looked_after : (space : SpaceState) (f : Phase) (l : ℕ) (v : Level) (is_owner : Bool) (p q s : PassState) → IsStill f p q → HasLookedAsNext space l v is_owner q s → HasLookedAsNext space l v is_owner p s
looked_after space f l v is_owner p q s still looked = record {
  own = looked.own;
  owns = λ is. still_then f Free p q s still (looked.owns is);
  owned = λ is. still_owned f l s.view.looks p q still (looked.owned is);
  waits = λ is. still_then f (Next l v) p q s still (looked.waits is);
}

-- .. that is the next writer still
pub waits_still : (space : SpaceState) (l : ℕ) (v : Level) (p q : PassState) → IsOf space p → IsStill (Next l v) p q → HasLookedAsNext space l v false p q
waits_still space l v p q own still = record { own = own_still space (Next l v) p q own still; owns = λ is. absurd (cc); owned = λ is. absurd (cc); waits = λ _. still }

-- X that was reserved, and is owned by now
pub locked_still : (held : List Holding) (l : ℕ) (phase : Phase) (p q s : PassState) → HasTakenGrant X held phase p.view q.view → Stores l q.view.written → p.view.looks.count ≤ q.view.looks.count
    → IsStill Free q s → EndsOwning (sx_grants l q.view.session) l s.view.looks → HasLockedX held l p s
locked_still held l phase p q s taken signed more still ends = record {
  taken = taken_still Free X held phase p q s taken still;
  ends = λ _. subst (λ (sx : ℕ). EndsOwning sx l s.view.looks) (sym (ap (λ (s : PassState). sx_grants l s.view.session) still.same)) ends;
  signed = subst (Stores l) (sym (ap (λ (s : PassState). s.view.written) still.same)) signed;
  looks = let a = still.looks in omega arith;
}

-- a look of the next writer, after which it is free, or is not
pub looked_free : (space : SpaceState) (l : ℕ) (v : Level) (w : LockWord) (p q : PassState) → IsOf space p → p.view.session.phase ≡ Next l v
    → q ≡ with_view p (looked_on l w (phased (word_loaded l (cell_of w.0) p.view.session p.view.session.phase) p.view)) → q.view.session.phase ≡ Free → HasLookedAsNext space l v true p q
looked_free space l v w p q own next is free =
    let still : IsStill Free p q = subst (λ (f : Phase). IsStill f p q) (sym (ap (λ (q : PassState). q.view.session.phase) is) ∙ free) (looked_still (word_loaded l (cell_of w.0) p.view.session p.view.session.phase) l w p q is) in
    record { own = own_still space Free p q own still; owns = λ _. still; owned = λ _. next_owned l w p q is free v next; waits = λ e. absurd (cc) }

pub looked_next : (space : SpaceState) (l : ℕ) (v : Level) (w : LockWord) (p q : PassState) → IsOf space p → p.view.session.phase ≡ Next l v
    → q ≡ with_view p (looked_on l w (phased (word_loaded l (cell_of w.0) p.view.session p.view.session.phase) p.view)) → q.view.session.phase ≢ Free → HasLookedAsNext space l v false p q
looked_next space l v w p q own next is busy = waits_still space l v p q own (by_test (owns_x_at (sx_grants l p.view.session) (word_in (cell_of w.0))) after)
  where
    after : word_loaded l (cell_of w.0) p.view.session p.view.session.phase ≡ (if owns_x_at (sx_grants l p.view.session) (word_in (cell_of w.0)) then Free else Next l v)
    after = ap (word_loaded l (cell_of w.0) p.view.session) next ∙ ap (λ b. if b then (if owns_x_at (sx_grants l p.view.session) (word_in (cell_of w.0)) then Free else Next l v) else Next l v) (eq-eqb l l refl)

    by_test : (b : Bool) → word_loaded l (cell_of w.0) p.view.session p.view.session.phase ≡ (if b then Free else Next l v) → IsStill (Next l v) p q
    by_test true e = absurd (busy (ap (λ (q : PassState). q.view.session.phase) is ∙ e))
    by_test false e = subst (λ (f : Phase). IsStill f p q) e (looked_still (word_loaded l (cell_of w.0) p.view.session p.view.session.phase) l w p q is)
