-- A step keeps what the machine counts.
use Rattle.std.proofs.Common.{◌≡◌, ◌≢◌, ℕ, zero, suc, ◌+◌, ◌*◌, ◌<◌, ◌≤◌, Bool, true, false, ℤ, List, [], ◌∷◌, set, get_or, length, length-set, get_or-set_same, get_or-set_other, refl, sym, ap, ◌∙◌, subst, arith}
use Rattle.std.specs.Prelude.{if◌then◌else◌}
use Rattle.std.proofs.lemmas.Int.{ints}
use mathlib.Core.Logic.{dite}
use mathlib.Core.Option.{some, some-ne-none, some-injective}
use lib.ListN.{get_elem?}
use native.Mathlib.Decide.{ℕ_discrete}
use Rattle.ib_word.specs.declared.word.LockWord.{LockWord}
use Rattle.ib_word.specs.declared.word.TheConstants.{X_LOCK_DECR, X_LOCK_HALF_DECR}
use Rattle.ib_word.specs.Word.{word_less}
use Rattle.ib_word.proofs.Equation.{sx_weight_cases, x_weight_cases}
use Rattle.ib_core.specs.declared.phase.Phase.{Phase}
use Rattle.ib_core.specs.declared.phase.Phase.TheVariants.{Armed, OwesClear, OwesRaise, OwesRaiseEx}
use Rattle.ib_core.specs.declared.event.Event.{Event}
use Rattle.ib_core.specs.declared.event.Event.TheVariants.{S, Sx, X, Us, Usx, Ux, Arm, Flag, Again, Quit, Sleep, Ready, Exarm, Look, Clear, Raise}
use Rattle.ib_core.specs.declared.machine.TheConstants.{MOST_STEPS}
use Rattle.ib_core.specs.declared.session.Session.{Session}
use Rattle.ib_core.specs.declared.session.Marks.{Marks}
use Rattle.ib_core.specs.Sessions.{Stands, grants, sx_grants, x_grants, taken, all_taken, word_on}
use Rattle.ib_core.specs.Responses.{latch_of, is_elsewhere}
use Rattle.ib_core.specs.Table.{response_of, marks_after, marks_by, raised_by, flag_marks, clear_marks}
use Rattle.ib_core.specs.Good.{IsGood}
use Rattle.ib_core.specs.Machine.{marks_at, fresh, free_word}
use Rattle.ib_core.specs.Member.{SessionAmong, sessions_of, CanStep, SameSum}
use Rattle.ib_core.specs.Keeping.{IsKept}
use Rattle.ib_core.proofs.Elements.{at_set, sum_at, one_of}
use Rattle.ib_core.proofs.OnLatch.{counted, weighs}
use Rattle.ib_core.proofs.Totals.{taken_bound, readers_few}
use Rattle.ib_core.proofs.Near.{Near, near_response, all_grants}
use Rattle.ib_core.proofs.EachTurn.{turn_kept}

-- members and their sessions
pub stands_map : (members : List SessionAmong) (i : ℕ) (m : SessionAmong) → get_elem? members i ≡ some m → Stands (sessions_of members) i m.session
stands_map [] i m e = absurd (some-ne-none m (sym e))
stands_map (x ∷ xs) zero m e = ap (λ (m : SessionAmong). some m.session) (some-injective x m e)
stands_map (x ∷ xs) (suc i) m e = stands_map xs i m e

pub map_set : (members : List SessionAmong) (i : ℕ) (m : SessionAmong) → sessions_of (set members i m) ≡ set (sessions_of members) i m.session
map_set [] i m = refl
map_set (x ∷ xs) zero m = refl
map_set (x ∷ xs) (suc i) m = ap (λ ss. x.session ∷ ss) (map_set xs i m)

pub length_sessions : (members : List SessionAmong) → length (sessions_of members) ≡ length members
length_sessions [] = refl
length_sessions (x ∷ xs) = ap suc (length_sessions xs)

pub stands_at : {A : Type 0} (xs : List A) (i : ℕ) (d : A) → i < length xs → get_elem? xs i ≡ some (get_or xs i d)
stands_at [] i d within = absurd (omega arith)
stands_at (x ∷ xs) zero d within = refl
stands_at (x ∷ xs) (suc i) d within = stands_at xs i d (omega arith)

pub value_at : {A : Type 0} (xs : List A) (i : ℕ) (x d : A) → get_elem? xs i ≡ some x → get_or xs i d ≡ x
value_at [] i x d e = absurd (some-ne-none x (sym e))
value_at (y ∷ xs) zero x d e = some-injective y x e
value_at (y ∷ xs) (suc i) x d e = value_at xs i x d e

-- a generation rises by 1 at most
raise_small : (e : Event) (now : ℕ) → raised_by e now ≤ now + 1
raise_small (Raise l) now = omega arith
raise_small (S l v) now = omega arith
raise_small (Sx l v) now = omega arith
raise_small (X l v) now = omega arith
raise_small (Us l) now = omega arith
raise_small (Usx l) now = omega arith
raise_small (Ux l) now = omega arith
raise_small (Arm l mode v) now = omega arith
raise_small (Flag l) now = omega arith
raise_small (Again l) now = omega arith
raise_small (Quit l) now = omega arith
raise_small (Sleep l) now = omega arith
raise_small (Ready l) now = omega arith
raise_small (Exarm l) now = omega arith
raise_small (Look l) now = omega arith
raise_small (Clear l) now = omega arith

pub record RisesByOne (m m' : Marks) : Type 0 where
  pub generation : m'.generation ≤ m.generation + 1
  pub ex_generation : m'.ex_generation ≤ m.ex_generation + 1

as_it_was : (m : Marks) → RisesByOne m m
as_it_was m = record { generation = omega arith; ex_generation = omega arith }

flag_rises : (e : Event) (m : Marks) → RisesByOne m (flag_marks e m)
flag_rises (Flag l) m = record { generation = omega arith; ex_generation = omega arith }
flag_rises e m = as_it_was m

clear_rises : (e : Event) (m : Marks) → RisesByOne m (clear_marks e m)
clear_rises (Clear l) m = record { generation = omega arith; ex_generation = omega arith }
clear_rises e m = as_it_was m

by_rises : (p : Phase) (e : Event) (m : Marks) → RisesByOne m (marks_by p e m)
by_rises (Armed l mode v g) e m = flag_rises e m
by_rises (OwesClear l) e m = clear_rises e m
by_rises (OwesRaise l) e m = record { generation = raise_small e m.generation; ex_generation = omega arith }
by_rises (OwesRaiseEx l) e m = record { generation = omega arith; ex_generation = raise_small e m.ex_generation }
by_rises p e m = as_it_was m

pub rises_by_one : (p : Phase) (e : Event) (m : Marks) → RisesByOne m (marks_after p e m)
rises_by_one p e m = by_test (is_elsewhere (latch_of e) p)
  where
    by_test : (b : Bool) → RisesByOne m (if b then m else marks_by p e m)
    by_test true = as_it_was m
    by_test false = by_rises p e m

module _ (members : List SessionAmong) (words : List LockWord) (marks : List Marks) (steps : ℕ) (kept : IsKept members words marks steps)
    (i : ℕ) (m : SessionAmong) (at : get_elem? members i ≡ some m) (l : ℕ) (within : l < length marks) where
  -- what is taken off a word is bounded by the steps
  pub can_step : (w : ℤ) → w ≡ word_on l (sessions_of members) → CanStep l w m.session
  can_step w is =
      let good = kept.good in let ss : List Session = sessions_of members in let stands = stands_map members i m at in
      let proper = good.proper i m.session stands in
      let each = kept.granted in
      let bound = taken_bound l (X_LOCK_HALF_DECR + 2 * X_LOCK_DECR + steps) ss good.proper (λ i j a b e d n. (good.beside i j a b e d n l).one_claim)
      (λ j a e.
      let c = counted l a ((good.proper j a e).single l) in let g = each j a e l in
      let p = sx_weight_cases (sx_grants l a) in let q = x_weight_cases (x_grants l a) in grind arith) in
      let t = one_of (taken l) ss i m.session stands in let r = readers_few l ss good.proper in
      let n = length_sessions members in let f = kept.few in let b = kept.bounded in
      let g = each i m.session stands l in
      record { proper = proper; few = omega arith; low = omega (arith, ints); high = omega (arith, ints) }

  pub room_for : l < m.latches
  room_for = let r = kept.rooms i m at in omega arith

  -- the state after the turn of one member
  module _ (e : Event) (here : latch_of e ≡ l) (m' : SessionAmong) (w' : LockWord) (mk' : Marks)
      (responds : m'.session ≡ (response_of (word_on l (sessions_of members)) (marks_at marks l) e m.session).session)
      (marked : mk' ≡ marks_after m.session.phase e (marks_at marks l))
      (moved : SameSum l (word_on l (sessions_of members)) m.session w'.0 m'.session)
      (room : m'.latches ≡ m.latches) (more : steps + 1 ≤ MOST_STEPS) where
    marks_here : marks_at (set marks l mk') l ≡ mk'
    marks_here = get_or-set_same marks l mk' fresh within

    marks_away : (k : ℕ) → l ≢ k → marks_at (set marks l mk') k ≡ marks_at marks k
    marks_away k n = get_or-set_other marks l k mk' fresh (λ q. n (sym q))

    pub good_after : IsGood (sessions_of (set members i m')) (marks_at (set marks l mk'))
    good_after =
        subst (λ ss. IsGood ss (marks_at (set marks l mk'))) (sym (map_set members i m'))
        (subst (λ a. IsGood (set (sessions_of members) i a) (marks_at (set marks l mk'))) (sym responds)
        (subst (λ l. marks_at (set marks l mk') l ≡ mk' → ((k : ℕ) → l ≢ k → marks_at (set marks l mk') k ≡ marks_at marks k) → mk' ≡ marks_after m.session.phase e (marks_at marks l)
        → IsGood (set (sessions_of members) i (response_of (word_on l (sessions_of members)) (marks_at marks l) e m.session).session) (marks_at (set marks l mk'))) here
        (λ at_latch away is. turn_kept (marks_at marks) (marks_at (set marks (latch_of e) mk')) (sessions_of members) i m.session e
        (λ l. let r = readers_few l (sessions_of members) kept.good.proper in let n = length_sessions members in let f = kept.few in omega arith) kept.good (stands_map members i m at) (at_latch ∙ is) away)
        marks_here marks_away marked))

    near : Near l m.session.held m'.session.held
    near =
        subst (λ (a : Session). Near l m.session.held a.held) (sym responds)
        (subst (λ k. Near k m.session.held (response_of (word_on l (sessions_of members)) (marks_at marks l) e m.session).session.held) here
        (near_response m.session (kept.good.proper i m.session (stands_map members i m at)).single (word_on l (sessions_of members)) (marks_at marks l) e))

    -- the word of each latch is the equation's
    words_after : (k : ℕ) → k < length (set words l w') → (get_or (set words l w') k free_word).0 ≡ word_on k (sessions_of (set members i m'))
    words_after k inside =
        let ss : List Session = sessions_of members in
        let e' = map_set members i m' in let stands = stands_map members i m at in
        let sized = kept.sized in let n = length-set words l w' in
        dite (ℕ_discrete l k)
        (λ q.
        let s = sum_at (taken l) ss i m.session m'.session stands in
        let v : (get_or (set words l w') l free_word) ≡ w' = get_or-set_same words l w' free_word (omega arith) in
        let u : w'.0 ≡ word_on l (set ss i m'.session) = omega (arith, ints) in
        subst (λ k. (get_or (set words l w') k free_word).0 ≡ word_on k (sessions_of (set members i m'))) q
        (ap (λ (w : LockWord). w.0) v ∙ (u ∙ sym (ap (word_on l) e'))))
        (λ q.
        let s = sum_at (taken k) ss i m.session m'.session stands in
        let same = near.away k q weighs in
        let v = get_or-set_other words l k w' free_word (λ z. q (sym z)) in
        let was = kept.counted k (omega arith) in
        let total : all_taken k ss ≡ all_taken k (set ss i m'.session) = omega arith in
        let u : word_on k ss ≡ word_on k (set ss i m'.session) = ap word_less total in
        ap (λ (w : LockWord). w.0) v ∙ (was ∙ (u ∙ sym (ap (word_on k) e'))))

    granted_after : (j : ℕ) (a : Session) → Stands (sessions_of (set members i m')) j a → (k : ℕ) → grants k a ≤ steps + 1
    granted_after j a e k = by_place j a (subst (λ ss. Stands ss j a) (map_set members i m') e)
      where
        mine : (k : ℕ) → grants k m'.session ≤ steps + 1
        mine k =
            let was = kept.granted i m.session (stands_map members i m at) k in
            dite (ℕ_discrete l k)
            (λ q. subst (λ k. grants k m'.session ≤ steps + 1) q (let o = near.one_more in let was' = kept.granted i m.session (stands_map members i m at) l in omega arith))
            (λ q. let o = near.away k q all_grants in omega arith)

        by_place : (j : ℕ) (a : Session) → Stands (set (sessions_of members) i m'.session) j a → grants k a ≤ steps + 1
        by_place = at_set (λ _ a. grants k a ≤ steps + 1) (sessions_of members) i m'.session (mine k) (λ j b e n. let was = kept.granted j b e k in omega arith)

    raised_after : (k : ℕ) → (marks_at (set marks l mk') k).generation ≤ steps + 1
    raised_after k = dite (ℕ_discrete l k)
        (λ q. subst (λ k. (marks_at (set marks l mk') k).generation ≤ steps + 1) q
        (let e' = ap (λ (z : Marks). z.generation) (marks_here ∙ marked) in let r = (rises_by_one m.session.phase e (marks_at marks l)).generation in let was = kept.raised l in omega arith))
        (λ q. let e' = ap (λ (z : Marks). z.generation) (marks_away k q) in let was = kept.raised k in omega arith)

    ex_raised_after : (k : ℕ) → (marks_at (set marks l mk') k).ex_generation ≤ steps + 1
    ex_raised_after k = dite (ℕ_discrete l k)
        (λ q. subst (λ k. (marks_at (set marks l mk') k).ex_generation ≤ steps + 1) q
        (let e' = ap (λ (z : Marks). z.ex_generation) (marks_here ∙ marked) in let r = (rises_by_one m.session.phase e (marks_at marks l)).ex_generation in let was = kept.ex_raised l in omega arith))
        (λ q. let e' = ap (λ (z : Marks). z.ex_generation) (marks_away k q) in let was = kept.ex_raised k in omega arith)

    rooms_after : (j : ℕ) (n : SessionAmong) → get_elem? (set members i m') j ≡ some n → n.latches ≡ length (set marks l mk')
    rooms_after = subst (λ (k : ℕ). (j : ℕ) (n : SessionAmong) → get_elem? (set members i m') j ≡ some n → n.latches ≡ k) (sym (length-set marks l mk'))
        (at_set (λ _ n. n.latches ≡ length marks) members i m' (room ∙ kept.rooms i m at) (λ j n e _. kept.rooms j n e))

    pub counted_after : IsKept (set members i m') (set words l w') (set marks l mk') (steps + 1)
    counted_after = record {
      good = good_after;
      few = let n = length-set members i m' in let f = kept.few in omega arith;
      bounded = more;
      sized = length-set words l w' ∙ (kept.sized ∙ sym (length-set marks l mk'));
      counted = words_after;
      granted = granted_after;
      raised = raised_after;
      ex_raised = ex_raised_after;
      rooms = rooms_after;
    }
