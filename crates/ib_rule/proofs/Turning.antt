-- The one lemma: a step on one word of a latch that is the turn of an event keeps the rule.
use Rattle.std.proofs.Common.{◌≡◌, ◌≢◌, inl, ⊎_elim, ℕ, ◌+◌, ◌*◌, ◌^◌, ◌<◌, ◌≤◌, Bool, true, false, cond, List, [], ◌∷◌, map, set, length, refl, sym, ap, ◌∙◌, subst, arith, length-set, get_or-set_same, mul-add, mul-zero}
use Rattle.ib_levels.proofs.Counts.{by_equal}
use Rattle.ib_core.proofs.Turned.{choose}
use Rattle.std.specs.Prelude.{slice_index, filter, not, ◌||◌, ◌==◌, nat_lt, sum_by, Option, Some, None}
use Rattle.std.proofs.lemmas.List.{map-set}
use Rattle.std.proofs.lemmas.List.Sums.{sum_by-cons}
use mathlib.Core.Logic.{dite}
use mathlib.Core.Option.{some}
use lib.ListN.{get_elem?}
use native.Mathlib.Decide.{ℕ_discrete}
use Rattle.atomic_table.specs.Table.{State, keeps, stepped}
use Rattle.atomic_table.proofs.Lists.{at_map}
use Rattle.ib_word.specs.Word.{word_in, IsCell}
use Rattle.ib_levels.specs.declared.level.Mode.{Mode}
use Rattle.ib_levels.specs.declared.level.Mode.TheVariants.{S as ModeS, Sx as ModeSx, X as ModeX}
use Rattle.ib_layout.specs.Geometry.{Sizes}
use Rattle.ib_layout.specs.Places.{lock_place, writer_place, latches_of, drawn_place}
use Rattle.ib_core.specs.declared.event.Event.{Event}
use Rattle.ib_core.specs.declared.event.Answer.{Answer}
use Rattle.ib_core.specs.declared.event.Answer.TheVariants.{Granted, Reserved}
use Rattle.ib_core.specs.declared.session.Session.{Session}
use Rattle.ib_core.specs.declared.session.Marks.{Marks}
use Rattle.ib_core.specs.Sessions.{Stands, reads, taken, all_taken, word_on, readers_of, claims, grants}
use Rattle.ib_core.specs.Responses.{Response, latch_of}
use Rattle.ib_core.specs.Table.{response_of, marks_after}
use Rattle.ib_core.specs.Good.{IsGood, IsProper}
use Rattle.ib_core.proofs.EachTurn.{turn_kept}
use Rattle.ib_core.proofs.Near.{Near, near_response, all_grants}
use Rattle.ib_core.proofs.OnLatch.{weighs}
use Rattle.ib_core.proofs.Elements.{at_set, set_again, set_here, sum_at, sum_more}
use Rattle.ib_core.specs.declared.latch_word.LatchWord.{LatchWord}
use Rattle.ib_core.specs.declared.latch_word.LatchWord.TheVariants.{Lock, Waiters, Writer, Generation, ExGeneration}
use Rattle.ib_rule.specs.declared.view.Role.{Role}
use Rattle.ib_rule.specs.declared.view.Role.TheVariants.{Space, Fresh, Session as Seated, Note, Spent}
use Rattle.ib_rule.specs.declared.looks.Grants.{Grants}
use Rattle.ib_rule.specs.declared.looks.Looks.{Looks}
use Rattle.ib_rule.specs.declared.view.View.{View}
use Rattle.ib_rule.specs.Steps.{latch_word_place}
use Rattle.ib_core.specs.Turns.{word_for, marks_found, turn_at, flag_word, Leaves, Tells, with_mark, mark_in}
use Rattle.ib_core.specs.Debts.{wish_of, won, grants_won, debt}
use Rattle.ib_rule.specs.Views.{total, with_grant, role_of, session_in_view, turned, with_looks}
use Rattle.std.specs.List.{AllByRecursion}
use Rattle.ib_rule.specs.Rule.{IsWriter, WriterPart, marks_in, LatchPart, PaidPart, raises_in, IsIdle, RuleHolds}
use Rattle.ib_rule.specs.Roles.{live, sessions_in, SessionsPart, session_number_of}
use Rattle.ib_rule.specs.Told.{IsEvent}
use Rattle.ib_rule.specs.Conditions.{CanTake}
use Rattle.ib_logrec.specs.declared.entry.Entry.{Entry}
use Rattle.ib_logrec.specs.Log.{by_place}
use Rattle.ib_core.proofs.OneWord.{response_same, marks_with, response_weighs}
use Rattle.ib_core.proofs.Pays.{Grows, response_pays, spent_by, marks_pay}
use Rattle.ib_core.proofs.NumberTests.{some_by}
use Rattle.ib_rule.proofs.Words.{place_fits, set_same, tells_by, raises_are, marks_away, marks_here, lock_away, lock_else, flag_after, writer_kept, front}
use Rattle.ib_rule.proofs.Stays.{Moves, view_part, latch_far, follows_left}

-- a part of the views that one step leaves as it is
pub map_same : {A B : Type 0} (f : A → B) (xs : List A) (i : ℕ) (v w : A) → get_elem? xs i ≡ some v → f w ≡ f v → map f (set xs i w) ≡ map f xs
map_same f xs i v w at e = map-set f xs i w ∙ (ap (set (map f xs) i) e ∙ set_again (map f xs) i (f v) (at_map f xs i v at))

pub alive_crowd : (r : Role) → (live r ≡ 0 → ⊥) → sessions_in r ≡ 1
alive_crowd (Space d ended) n = absurd (n refl)
alive_crowd (Fresh n) m = absurd (m refl)
alive_crowd (Seated n) m = refl
alive_crowd Note n = absurd (n refl)
alive_crowd Spent n = absurd (n refl)

pub mapped : {A B : Type 0} (g : A → B) (f : B → ℕ) (xs : List A) → sum_by f (map g xs) ≡ sum_by (λ x. f (g x)) xs
mapped g f [] = refl
mapped g f (x ∷ xs) = let a = sum_by-cons f (g x) (map g xs) in let b = sum_by-cons (λ x. f (g x)) x xs in let h = mapped g f xs in omega arith

scaled : {A : Type 0} (f : A → ℕ) (c : ℕ) (xs : List A) → sum_by (λ x. c * f x) xs ≡ c * sum_by f xs
scaled f c [] = sym (mul-zero c)
scaled f c (x ∷ xs) = let a = sum_by-cons (λ x. c * f x) x xs in let b = sum_by-cons f x xs in let h = scaled f c xs in grind (arith, mul-add)

total_more : (o : Option Mode) (g : Grants) → total (with_grant o g) ≡ total g + grants_won o
total_more None g = omega arith
total_more (Some ModeS) g = omega arith
total_more (Some ModeSx) g = omega arith
total_more (Some ModeX) g = omega arith

-- what a turn leaves are the marks after it
leaves_put : (c : LatchWord) (e : Event) (a : Session) (n n' : ℕ) (m : Marks) → Leaves c e a n n' → with_mark c n' m ≡ with_mark c (mark_in c (turn_at e n a).marks) m
leaves_put Lock e a n n' m leaves = refl
leaves_put Writer e a n n' m leaves = refl
leaves_put Waiters e a n n' m leaves = ap (λ (k : ℕ). with_mark Waiters k m) leaves
leaves_put Generation e a n n' m leaves = ap (λ (k : ℕ). with_mark Generation k m) leaves
leaves_put ExGeneration e a n n' m leaves = ap (λ (k : ℕ). with_mark ExGeneration k m) leaves

flag_small : (b : Bool) → flag_word b ≤ 1
flag_small true = omega arith
flag_small false = omega arith

small_flag : (c : LatchWord) (e : Event) (a : Session) (n n' : ℕ) → Leaves c e a n n' → c ≡ Waiters → n' ≤ 1
small_flag c e a n n' leaves is = let l : Leaves Waiters e a n n' = subst (λ c. Leaves c e a n n') is leaves in let f = flag_small (turn_at e n a).marks.waiters in omega arith

module _ (lawful : ℕ → List Entry → Type 0) (opening : ℕ → ℕ → ℕ → ℕ) (sizes : Sizes) (s : State (Unit {0}) View) (kept : RuleHolds lawful opening sizes s) where
  -- there are few readers, and few grants ever
  pub readers_few : (l : ℕ) → readers_of l (map session_in_view s.views) ≤ 1024
  readers_few l =
      let each = sum_more (λ (v : View). reads l v.session) (λ v. sessions_in v.role) s.views (λ i v at. dite (ℕ_discrete (live v.role) 0)
      (λ none. let q : reads l v.session ≡ 0 = ap (reads l) (kept.idles i v at none) in omega arith)
      (λ alive. let one = alive_crowd v.role alive in let p = (kept.latches.good.proper i v.session (at_map session_in_view s.views i v at)).once l in omega arith)) in
      let a = mapped session_in_view (reads l) s.views in let b = mapped role_of sessions_in s.views in
      let c = kept.sessions.all_stand in let d = kept.sessions.few in omega arith

  pub grants_few : sum_by (λ v. total v.grants) s.views ≤ 2 ^ 62
  grants_few =
      let a = sum_more (λ (v : View). total v.grants) (λ v. 2 ^ 52 * sessions_in v.role) s.views kept.paid.bound in
      let b = scaled (λ (v : View). sessions_in v.role) (2 ^ 52) s.views in let c = mapped role_of sessions_in s.views in
      let d = kept.sessions.all_stand in let e = kept.sessions.few in omega arith

  -- no generation comes near its end
  pub raises_few : (l : ℕ) → l < latches_of sizes → raises_in s.words l ≤ 2 ^ 62
  raises_few l inside = let p = kept.paid.paid l inside in let g = grants_few in omega arith

none_got : (answer : Answer) (o : Option Mode) → o ≡ None → grants_won (won answer o) ≡ 0
none_got answer o none = ap (λ o. grants_won (won answer o)) none ∙ of_none answer
  where
    of_none : (answer : Answer) → grants_won (won answer None) ≡ 0
    of_none Granted = refl
    of_none Reserved = refl
    of_none answer = refl

got_small : (o : Option Mode) → grants_won o ≤ 1
got_small None = omega arith
got_small (Some mode) = omega arith

-- .. so an event that takes none can
pub takes_none : (e : Event) (v : View) (n : ℕ) → wish_of v.session.phase e ≡ None → CanTake e v n
takes_none e v n none = inl (none_got (turn_at e n v.session).answer (wish_of v.session.phase e) none)

module _ (lawful : ℕ → List Entry → Type 0) (opening : ℕ → ℕ → ℕ → ℕ) (sizes : Sizes) (s : State (Unit {0}) View) (kept : RuleHolds lawful opening sizes s) (id : ℕ) (v : View) (at : get_elem? s.views id ≡ some v)
    (alive : live v.role ≡ 0 → ⊥) (e : Event) (inside : latch_of e < latches_of sizes) (n' : ℕ) where
  abbrev l : ℕ
  l = latch_of e

  abbrev a : Session
  a = v.session

  abbrev c : LatchWord
  c = word_for e v.session

  abbrev p : ℕ
  p = latch_word_place (word_for e v.session) (latch_of e)

  abbrev n : ℕ
  n = slice_index s.words (latch_word_place (word_for e v.session) (latch_of e))

  abbrev ss : List Session
  ss = map session_in_view s.views

  abbrev m : ℕ → Marks
  m = marks_in (latches_of sizes) s.words

  abbrev words : List ℕ
  words = set s.words (latch_word_place (word_for e v.session) (latch_of e)) n'

  abbrev r : Response
  r = response_of (word_in n) (marks_found n) e v.session

  abbrev o : Option Mode
  o = won r.answer (wish_of v.session.phase e)

  at' : Stands ss id a
  at' = at_map session_in_view s.views id v at

  proper : IsProper a
  proper = kept.latches.good.proper id a at'

  fits : p < length s.words
  fits = place_fits sizes s.words l c kept.sized inside

  told : Tells c n (word_on l ss) (m l)
  told = tells_by (latches_of sizes) s.words l inside ss kept.latches c

  same : r ≡ response_of (word_on l ss) (m l) e a
  same = response_same n (word_on l ss) (m l) a.held proper.single a.phase e told

  near : Near l a.held r.session.held
  near = near_response a proper.single (word_in n) (marks_found n) e

  grows : Grows l a.held a.phase (wish_of a.phase e) (spent_by a.phase e) r
  grows = response_pays (word_in n) (marks_found n) e a proper

  module _ (leaves : Leaves c e a n n') where
    marks_are : marks_in (latches_of sizes) words l ≡ marks_after a.phase e (m l)
    marks_are = marks_here (latches_of sizes) s.words l n' c inside fits ∙ (leaves_put c e a n n' (m l) leaves ∙ marks_with n (word_on l ss) (m l) a.held a.phase e told)

    away : (k : ℕ) → l ≢ k → marks_in (latches_of sizes) words k ≡ m k
    away k d = marks_away (latches_of sizes) s.words l n' c k d

    good_after : IsGood (set ss id r.session) (marks_in (latches_of sizes) words)
    good_after = subst (λ a'. IsGood (set ss id a') (marks_in (latches_of sizes) words)) (sym (ap (λ (r : Response). r.session) same))
        (turn_kept m (marks_in (latches_of sizes) words) ss id a e (readers_few lawful opening sizes s kept) kept.latches.good at' marks_are away)

    -- the lock word moves by what the session takes off it
    off_lock : (d : LatchWord) → c ≡ d → d ≢ Lock → slice_index (set s.words (latch_word_place d l) n') (lock_place l) + taken l r.session ≡ slice_index s.words (lock_place l) + taken l a
    off_lock d is off =
        let w = lock_else (latches_of sizes) s.words l n' d off in
        let t : taken l r.session ≡ taken l a = response_weighs (word_in n) a.held a.phase (marks_found n) e proper (λ q. off (sym is ∙ q)) in omega arith

    lock_moves : (d : LatchWord) → c ≡ d → slice_index (set s.words (latch_word_place d l) n') (lock_place l) + taken l r.session ≡ slice_index s.words (lock_place l) + taken l a
    lock_moves Lock is =
        let at_lock : Leaves Lock e a (slice_index s.words (latch_word_place Lock l)) n' = subst (λ d. Leaves d e a (slice_index s.words (latch_word_place d l)) n') is leaves in
        let q : taken l r.session ≡ taken l (turn_at e (slice_index s.words (lock_place l)) a).session = ap (λ d. taken l (turn_at e (slice_index s.words (latch_word_place d l)) a).session) is in
        let f : lock_place l < length s.words = subst (λ d. latch_word_place d l < length s.words) is fits in
        let w = get_or-set_same s.words (lock_place l) n' 0 f in omega arith
    lock_moves Waiters is = off_lock Waiters is (λ z. absurd (cc))
    lock_moves Writer is = off_lock Writer is (λ z. absurd (cc))
    lock_moves Generation is = off_lock Generation is (λ z. absurd (cc))
    lock_moves ExGeneration is = off_lock ExGeneration is (λ z. absurd (cc))

    counted_after : (k : ℕ) → k < latches_of sizes → IsCell (all_taken k (set ss id r.session)) (slice_index words (lock_place k))
    counted_after k h =
        let was = kept.latches.counted k h in let t = sum_at (taken k) ss id a r.session at' in
        dite (ℕ_discrete l k)
        (λ q. subst (λ k. IsCell (all_taken k (set ss id r.session)) (slice_index words (lock_place k))) q
        (let was = kept.latches.counted l inside in let t = sum_at (taken l) ss id a r.session at' in let w = lock_moves c refl in omega arith))
        (λ d. let w = lock_away (latches_of sizes) s.words l n' c k d in let q = near.away k d weighs in omega arith)

    -- the step is that event
    pub turn_is : IsEvent e v.session r.answer r.session
    turn_is = record {
      sessions = ss;
      marks = m;
      marks_after = marks_in (latches_of sizes) words;
      place = id;
      stands = at';
      good = kept.latches.good;
      few = readers_few lawful opening sizes s kept;
      turns = λ j. record { answer = (sym same j).answer; session = (sym same j).session; marks = sym marks_are j };
      away = away;
      good_after = good_after;
    }

    -- its marks are those of the state after it, and its answer is the one that the word found tells
    pub turn_marks : marks_after v.session.phase e (marks_in (latches_of sizes) s.words (latch_of e)) ≡ marks_in (latches_of sizes) (set s.words (latch_word_place (word_for e v.session) (latch_of e)) n') (latch_of e)
    turn_marks = sym marks_are

    pub turn_answer : (response_of (word_on (latch_of e) (map session_in_view s.views)) (marks_in (latches_of sizes) s.words (latch_of e)) e v.session).answer ≡ (turn_at e (slice_index s.words (latch_word_place (word_for e v.session) (latch_of e))) v.session).answer
    turn_answer = sym (ap (λ (r : Response). r.answer) same)

    module _ (can : CanTake e v n) where
      pub few_after : (j : ℕ) (b : Session) → Stands (set ss id r.session) j b → (k : ℕ) → grants k b ≤ 8192
      few_after = at_set (λ _ b. (k : ℕ) → grants k b ≤ 8192) ss id r.session
          (λ k. dite (ℕ_discrete l k)
          (λ q. subst (λ k. grants k r.session ≤ 8192) q (⊎_elim
          (λ (none : grants_won o ≡ 0). let f = grows.few in let w = kept.latches.few id a at' l in omega arith)
          (λ (low : (total v.grants < 2 ^ 52) × (grants l a < 8192)). let g = got_small o in let f = grows.few in let w = low.1 in omega arith)
          can))
          (λ d. let q = near.away k d all_grants in let w = kept.latches.few id a at' k in omega arith))
          (λ j b e d. kept.latches.few j b e)

      latches_after : LatchPart (latches_of sizes) words (set ss id r.session)
      latches_after = record {
        good = good_after;
        counted = counted_after;
        flags = flag_after (latches_of sizes) s.words l n' c (small_flag c e a n n' leaves) fits kept.latches.flags;
        few = few_after;
      }

      module _ (looks : Looks) where
        abbrev w : View
        w = with_looks looks (turned e n v)

        paid_after : PaidPart (latches_of sizes) words (set s.views id (with_looks looks (turned e n v)))
        paid_after = record {
          paid = λ k h.
              let t = sum_at (λ (u : View). total u.grants) s.views id v w at in let g = total_more o v.grants in let b = kept.paid.paid k h in
              dite (ℕ_discrete l k)
              (λ q. subst (λ k. raises_in words k + sum_by (λ u. debt k u.session) (set s.views id (with_looks looks (turned e n v))) ≤ sum_by (λ u. total u.grants) (set s.views id (with_looks looks (turned e n v)))) q
              (let d = sum_at (λ (u : View). debt l u.session) s.views id v w at in let b = kept.paid.paid l inside in
              let f = grows.here in let x = raises_are (latches_of sizes) s.words l inside in let y = raises_are (latches_of sizes) words l inside in
              let z = ap (λ (m : Marks). m.generation + m.ex_generation) marks_are in let u = marks_pay (m l) a.phase e in omega arith))
              (λ j. let d = sum_at (λ (u : View). debt k u.session) s.views id v w at in
              let q = near.away k j all_grants in let f = grows.away k j in
              let x = raises_are (latches_of sizes) s.words k h in let y = raises_are (latches_of sizes) words k h in
              let z = ap (λ (m : Marks). m.generation + m.ex_generation) (away k j) in omega arith);
          bound = at_set (λ _ u. total u.grants ≤ 2 ^ 52 * sessions_in u.role) s.views id w
              (let one = alive_crowd v.role alive in let g = total_more o v.grants in let b = kept.paid.bound id v at in
              ⊎_elim
              (λ (none : grants_won o ≡ 0). omega arith)
              (λ (low : (total v.grants < 2 ^ 52) × (grants l a < 8192)). let q = got_small o in let f = low.0 in omega arith)
              can)
              (λ j u e d. kept.paid.bound j u e);
        }

        -- the writer words stay
        same_writers : (d : LatchWord) → c ≡ d → (k : ℕ) → slice_index (set s.words (latch_word_place d l) n') (writer_place k) ≡ slice_index s.words (writer_place k)
        same_writers Writer is k =
            let left : Leaves Writer e a (slice_index s.words (writer_place l)) n' = subst (λ d. Leaves d e a (slice_index s.words (latch_word_place d l)) n') is leaves in
            let f : writer_place l < length s.words = subst (λ d. latch_word_place d l < length s.words) is fits in
            ap (λ (ws : List ℕ). slice_index ws (writer_place k)) (ap (λ (z : ℕ). set s.words (writer_place l) z) left ∙ set_same s.words (writer_place l) f)
        same_writers Lock is k = writer_kept (latches_of sizes) s.words l n' Lock k (λ z. absurd (cc))
        same_writers Waiters is k = writer_kept (latches_of sizes) s.words l n' Waiters k (λ z. absurd (cc))
        same_writers Generation is k = writer_kept (latches_of sizes) s.words l n' Generation k (λ z. absurd (cc))
        same_writers ExGeneration is k = writer_kept (latches_of sizes) s.words l n' ExGeneration k (λ z. absurd (cc))

        others_write : (u : View) (xs : List ℕ) → AllByRecursion (IsWriter (latches_of sizes) s.words u) xs → AllByRecursion (IsWriter (latches_of sizes) words u) xs
        others_write u [] each = tt
        others_write u (x ∷ xs) each = ((each.0.0, same_writers c refl x ∙ each.0.1, each.0.2), others_write u xs each.1)

        still_writes : (xs : List ℕ) → AllByRecursion (IsWriter (latches_of sizes) s.words v) xs → AllByRecursion (IsWriter (latches_of sizes) words (with_looks looks (turned e n v))) (filter (λ k. not (k == latch_of e) || nat_lt 0 (claims (latch_of e) r.session)) xs)
        still_writes [] each = tt
        still_writes (x ∷ xs) each =
            by_equal (λ t. AllByRecursion (IsWriter (latches_of sizes) words (with_looks looks (turned e n v))) (cond (not t || nat_lt 0 (claims (latch_of e) r.session)) (x ∷ filter (λ k. not (k == latch_of e) || nat_lt 0 (claims (latch_of e) r.session)) xs) (filter (λ k. not (k == latch_of e) || nat_lt 0 (claims (latch_of e) r.session)) xs))) x l
            (λ here. choose (λ ys. AllByRecursion (IsWriter (latches_of sizes) words (with_looks looks (turned e n v))) ys) (nat_lt 0 (claims l r.session)) _ _
            (λ has. ((subst (λ k. 0 < claims k r.session) (sym here) (some_by (claims l r.session) has), same_writers c refl x ∙ each.0.1, each.0.2), still_writes xs each.1))
            (λ _. still_writes xs each.1))
            (λ d. ((let q = near.away x (λ z. d (sym z)) (λ h. h.sx + h.x) in let o = each.0.0 in omega arith, same_writers c refl x ∙ each.0.1, each.0.2), still_writes xs each.1))

        writers_after : WriterPart (latches_of sizes) words (set s.views id (with_looks looks (turned e n v)))
        writers_after = at_set (λ _ u. AllByRecursion (IsWriter (latches_of sizes) words u) u.written) s.views id w (still_writes v.written (kept.writers id v at)) (λ j u q _. others_write u u.written (kept.writers j u q))

        moves : Moves l a r.session
        moves = record { away = near.away; class = grows.class }

        proper_after : IsProper r.session
        proper_after = good_after.proper id r.session (set_here ss id a r.session at')

        pub turn_keeps : v.memory.append ≡ None → (cs : List (ℕ × Unit {0})) → RuleHolds lawful opening sizes (stepped s (latch_word_place (word_for e v.session) (latch_of e)) n' id cs (with_looks looks (turned e n v)) keeps)
        turn_keeps closed cs = record {
          sized = length-set s.words p n' ∙ kept.sized;
          sessions = subst (λ (z : ℕ × List Role). SessionsPart z.0 z.1) (λ j. (sym (front (latches_of sizes) s.words l n' c drawn_place (omega arith)) j, sym (map_same role_of s.views id v w at refl) j)) kept.sessions;
          latches = subst (λ z. LatchPart (latches_of sizes) words z) (sym (map-set session_in_view s.views id w)) latches_after;
          idles = at_set (λ _ u. IsIdle u) s.views id w (λ z. absurd (alive z)) (λ j b e _. kept.idles j b e);
          paid = paid_after;
          writers = writers_after;
          log = kept.log;
          memory = view_part sizes (lawful sizes.pages) (by_place opening sizes.pages) s.words words kept.log s.views id v w kept.memory at (latch_far sizes s.words c l n' inside)
              (omega arith)
              (follows_left l a r.session proper proper_after moves sizes (lawful sizes.pages) (by_place opening sizes.pages) s.words kept.log (session_number_of v.role) v.memory closed (kept.memory.follows id v at))
              (kept.memory.ended id v at) (λ q h. h);
        }
