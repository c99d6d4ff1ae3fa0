-- The rule at the start, and the moves of sessions.
use Rattle.std.proofs.Common.{◌≡◌, ◌≢◌, ℕ, zero, suc, ◌+◌, ◌*◌, ◌%◌, ◌^◌, ◌<◌, ◌≤◌, false, cond, List, [], ◌∷◌, ◌++◌, map, set, length, refl, sym, ap, ◌∙◌, subst, arith, length-set, get_or-set_same, get_or-set_other, eq-eqb}
use native.Mathlib.Decide.{ℕ_discrete}
use Rattle.std.specs.Prelude.{slice_index, sum_by, ◌==◌, None}
use Rattle.std.proofs.lemmas.List.{map-set, map-append}
use Rattle.std.proofs.lemmas.List.Sums.{sum_by_push, sum_by-cons}
use Rattle.std.proofs.lemmas.Bool.Decides.{nat_tests}
use Rattle.std.proofs.Math.Nat.{mod-eq_of_lt}
use mathlib.Core.Logic.{dite}
use mathlib.Core.Option.{some, some-ne-none, some-injective}
use lib.ListN.{get_elem?}
use Rattle.atomic_table.specs.Table.{State, Me, keeps, stepped, opening as starting, Allows, Splits, Joins}
use Rattle.atomic_table.proofs.Lists.{at_map}
use Rattle.ib_layout.specs.Geometry.{Sizes}
use Rattle.ib_layout.specs.Places.{lock_place, waiters_place, gen_place, ex_gen_place, writer_place, latches_of, drawn_place}
use Rattle.ib_core.specs.declared.session.Session.{Session}
use Rattle.ib_core.specs.Sessions.{idle, taken, grants}
use Rattle.ib_core.specs.Good.{IsGood}
use Rattle.ib_core.proofs.Opened.{good_push, good_idle}
use Rattle.ib_core.proofs.Elements.{at_set, at_snoc, at_longer, set_again, set_else, sum_at, one_of, two_of, only_one}
use Rattle.ib_rule.specs.declared.view.Role.{Role}
use Rattle.ib_rule.specs.declared.view.Role.TheVariants.{Space, Fresh, Session as Seated, Note, Spent}
use Rattle.ib_rule.specs.declared.view.Ended.{Ended}
use Rattle.ib_rule.specs.declared.memory.Knowledge.{Knowledge}
use Rattle.ib_rule.specs.declared.view.View.{View}
use Rattle.ib_rule.specs.declared.kind.StepKind.TheVariants.{Enter, Count}
use Rattle.ib_rule.specs.Views.{total, with_memory, nothing_seen, with_role, seated, space_view, role_of, session_in_view, knowledge_of, one_drawn, newcomer, ended_as, with_ended, nobody}
use Rattle.std.specs.List.{AllByRecursion}
use Rattle.ib_rule.specs.Memory.{EndedFact, Follows, stored_in}
use Rattle.ib_rule.proofs.RoomLaws.{had_room-empty}
use Rattle.ib_rule.proofs.Stays.{view_part, far_from}
use Rattle.ib_logrec.specs.declared.entry.Entry.{Entry}
use Rattle.ib_logrec.specs.Log.{by_place}
use Rattle.ib_rule.specs.Roles.{live, sessions_in, uncounted, drawn_in, is_space, bears, is_drawn, ended_in, drawn_more, entered, ended_more, SessionsPart, session_number_of}
use Rattle.ib_rule.specs.Rule.{marks_in, LatchPart, MemoryPart, IsWriter, IsIdle, RuleHolds, IsOpening}
use Rattle.ib_core.specs.Debts.{debt}
use Rattle.ib_rule.specs.Told.{tells}
use Rattle.ib_rule.specs.Steps.{view_after}
use Rattle.ib_rule.proofs.Turning.{map_same}
use Rattle.ib_rule.proofs.Moves.{proper_now, known_now, few_now, taken_now}

-- where one seat is the space's, it has the whole count
pub whole_count : (roles : List Role) (i d : ℕ) (ended : List Ended) → sum_by is_space roles ≡ 1 → get_elem? roles i ≡ some (Space d ended) → sum_by drawn_in roles ≡ d
whole_count roles i d ended one at = only_one drawn_in roles i (Space d ended) at
    (λ j r e n. zero_drawn r (let t = two_of is_space roles j i r (Space d ended) e at n in omega arith))
  where
    zero_drawn : (r : Role) → is_space r ≡ 0 → drawn_in r ≡ 0
    zero_drawn (Space d ended) e = absurd (omega arith)
    zero_drawn (Fresh n) e = refl
    zero_drawn (Seated n) e = refl
    zero_drawn Note e = refl
    zero_drawn Spent e = refl

once_more : (n d : ℕ) → is_drawn n (d + 1) ≡ is_drawn n d + cond ((d + 1) == n) 1 0
once_more n d = grind (arith, nat_tests)

none_borne : (n : ℕ) → 0 ≡ is_drawn n 0
none_borne n = grind (arith, nat_tests)

-- the sessions part, where a seat draws the next number and a new one bears it
draws_part : (word : ℕ) (roles : List Role) (id d : ℕ) (ended : List Ended) → SessionsPart word roles → get_elem? roles id ≡ some (Space d ended) → d < 1024
    → SessionsPart word (set roles id (Space (d + 1) ended) ++ Fresh (d + 1) ∷ [])
draws_part word roles id d ended part at room =
    let roles' : List Role = set roles id (Space (d + 1) ended) in
    let whole = whole_count roles id d ended part.one_space at in
    let drawn : sum_by drawn_in (roles' ++ Fresh (d + 1) ∷ []) ≡ d + 1 =
    let a = sum_by_push drawn_in roles' (Fresh (d + 1)) in let b = sum_at drawn_in roles id (Space d ended) (Space (d + 1) ended) at in omega arith in
    record {
      one_space = let a = sum_by_push is_space roles' (Fresh (d + 1)) in let b = sum_at is_space roles id (Space d ended) (Space (d + 1) ended) at in let c = part.one_space in omega arith;
      counted = let a = sum_by_push uncounted roles' (Fresh (d + 1)) in let b = sum_at uncounted roles id (Space d ended) (Space (d + 1) ended) at in let c = part.counted in omega arith;
      all_stand = let a = sum_by_push sessions_in roles' (Fresh (d + 1)) in let b = sum_at sessions_in roles id (Space d ended) (Space (d + 1) ended) at in let c = part.all_stand in omega arith;
      few = omega arith;
      numbered = λ n.
          let a = sum_by_push (bears n) roles' (Fresh (d + 1)) in let b = sum_at (bears n) roles id (Space d ended) (Space (d + 1) ended) at in
          let c : sum_by (bears n) roles ≡ is_drawn n d = subst (λ z. sum_by (bears n) roles ≡ is_drawn n z) whole (part.numbered n) in
          let e = once_more n d in subst (λ z. sum_by (bears n) (roles' ++ Fresh (d + 1) ∷ []) ≡ is_drawn n z) (sym drawn) (omega arith);
    }

-- a session that enters is counted
came : (id n word : ℕ) (roles : List Role) → get_elem? roles id ≡ some (Fresh n) → SessionsPart word roles → SessionsPart (word + 1) (set roles id (Seated n))
came id n word roles at part =
    let drawn : sum_by drawn_in (set roles id (Seated n)) ≡ sum_by drawn_in roles = let s = sum_at drawn_in roles id (Fresh n) (Seated n) at in omega arith in
    record {
      one_space = let s = sum_at is_space roles id (Fresh n) (Seated n) at in let p = part.one_space in omega arith;
      counted = let s = sum_at uncounted roles id (Fresh n) (Seated n) at in let p = part.counted in omega arith;
      all_stand = let s = sum_at sessions_in roles id (Fresh n) (Seated n) at in let p = part.all_stand in omega arith;
      few = let p = part.few in omega arith;
      numbered = λ m. let s = sum_at (bears m) roles id (Fresh n) (Seated n) at in let p = part.numbered m in
          let y : sum_by (bears m) (set roles id (Seated n)) ≡ is_drawn m (sum_by drawn_in roles) = omega arith in subst (λ z. sum_by (bears m) (set roles id (Seated n)) ≡ is_drawn m z) (sym drawn) y;
    }

-- a session that ends
left : (id d : ℕ) (ended : List Ended) (other n : ℕ) (word : ℕ) (roles : List Role) (e : Ended) → get_elem? roles id ≡ some (Space d ended) → get_elem? roles other ≡ some (Seated n) → id ≢ other → e.number ≡ n → SessionsPart word roles
    → SessionsPart word (set (set roles id (Space d (e ∷ ended))) other Spent)
left id d ended other n word roles e a b apart named part =
    let mid : List Role = set roles id (Space d (e ∷ ended)) in
    let b' : get_elem? mid other ≡ some (Seated n) = set_else roles id other (Space d (e ∷ ended)) apart ∙ b in
    let drawn : sum_by drawn_in (set mid other Spent) ≡ sum_by drawn_in roles =
    let s = sum_at drawn_in roles id (Space d ended) (Space d (e ∷ ended)) a in let t = sum_at drawn_in mid other (Seated n) Spent b' in omega arith in
    record {
      one_space = let s = sum_at is_space roles id (Space d ended) (Space d (e ∷ ended)) a in let t = sum_at is_space mid other (Seated n) Spent b' in let p = part.one_space in omega arith;
      counted = let s = sum_at uncounted roles id (Space d ended) (Space d (e ∷ ended)) a in let t = sum_at uncounted mid other (Seated n) Spent b' in let p = part.counted in omega arith;
      all_stand = let s = sum_at sessions_in roles id (Space d ended) (Space d (e ∷ ended)) a in let t = sum_at sessions_in mid other (Seated n) Spent b' in let p = part.all_stand in omega arith;
      few = let p = part.few in omega arith;
      numbered = λ m.
          let s = sum_at (bears m) roles id (Space d ended) (Space d (e ∷ ended)) a in let t = sum_at (bears m) mid other (Seated n) Spent b' in let p = part.numbered m in
          let c = sum_by-cons (λ (e : Ended). cond (e.number == m) 1 0) e ended in
          let q : bears m (Seated e.number) ≡ bears m (Seated n) = ap (λ (z : ℕ). bears m (Seated z)) named in
          let y : sum_by (bears m) (set mid other Spent) ≡ is_drawn m (sum_by drawn_in roles) = omega arith in subst (λ z. sum_by (bears m) (set mid other Spent) ≡ is_drawn m z) (sym drawn) y;
    }

-- lists with one element changed and one added
map_grown : {A B : Type 0} (f : A → B) (xs : List A) (i : ℕ) (a b : A) → map f (set xs i a ++ b ∷ []) ≡ set (map f xs) i (f a) ++ f b ∷ []
map_grown f xs i a b = map-append f (set xs i a) (b ∷ []) ∙ ap (λ l. l ++ f b ∷ []) (map-set f xs i a)

pub map_twice : {A B : Type 0} (f : A → B) (xs : List A) (i j : ℕ) (a b : A) → map f (set (set xs i a) j b) ≡ set (set (map f xs) i (f a)) j (f b)
map_twice f xs i j a b = map-set f (set xs i a) j b ∙ ap (λ l. set l j (f b)) (map-set f xs i a)

renamed : (sizes : Sizes) (words : List ℕ) (v w : View) → session_number_of w.role ≡ session_number_of v.role → w.session ≡ v.session → (xs : List ℕ) → AllByRecursion (IsWriter (latches_of sizes) words v) xs → AllByRecursion (IsWriter (latches_of sizes) words w) xs
renamed sizes words v w number same [] each = tt
renamed sizes words v w number same (x ∷ xs) each = ((subst (λ a. 0 < Rattle.ib_core.specs.Sessions.claims x a) (sym same) each.0.0, each.0.1 ∙ sym number, each.0.2), renamed sizes words v w number same xs each.1)

same_length : (views : List View) → length (map session_in_view views) ≡ length (map knowledge_of views)
same_length [] = refl
same_length (v ∷ views) = ap suc (same_length views)

-- a session's number is 1 or more
numbered_from_one : (roles : List Role) (i n word : ℕ) → SessionsPart word roles → get_elem? roles i ≡ some (Seated n) → 0 < n
numbered_from_one roles i n word part at =
    let o = one_of (bears n) roles i (Seated n) at in let p = part.numbered n in let b : bears n (Seated n) ≡ 1 = ap (λ b. cond {A = ℕ} b 1 0) (eq-eqb n n refl) in
    dite (ℕ_discrete n 0)
    (λ z. let q : is_drawn n (sum_by drawn_in roles) ≡ 0 = ap (λ (n : ℕ). is_drawn n (sum_by drawn_in roles)) z in absurd (omega arith))
    (λ z. omega arith)

-- the rule at the start
pub opens : (lawful : ℕ → List Entry → Type 0) (opening : ℕ → ℕ → ℕ → ℕ) (sizes : Sizes) (words : List ℕ) → lawful sizes.pages [] → IsOpening opening sizes words → RuleHolds lawful opening sizes (starting words [] (space_view 0 []))
opens lawful opening sizes words empty o = record {
  sized = o.sized;
  sessions = record { one_space = refl; counted = let a = o.none_drawn in omega arith; all_stand = refl; few = omega arith; numbered = none_borne };
  latches = record {
    good = good_idle 1 (marks_in (latches_of sizes) words);
    counted = λ l h. let a = o.all_free l h in omega arith;
    flags = λ l h. let a = o.none_waits l h in omega arith;
    few = λ i a e l. let z : grants l a ≡ 0 = ap (grants l) (alone i a e) in omega arith;
  };
  idles = one;
  paid = record { paid = λ l h. let a = o.none_raised l h in let b = o.none_drained l h in omega arith; bound = small };
  writers = λ i v e. subst (λ (v : View). AllByRecursion (IsWriter (latches_of sizes) words v) v.written) (sym (only i v e)) tt;
  log = [];
  memory = record {
    legal = empty;
    grammar = tt;
    short = omega arith;
    room = omega arith;
    had_room = had_room-empty sizes.log_words;
    end = o.none_logged;
    logged = λ w h. absurd (omega arith);
    paged = λ q h none. o.opened q h;
    follows = λ i v e. subst (λ (v : View). Follows sizes (lawful sizes.pages) (by_place opening sizes.pages) words [] (session_number_of v.role) v.session v.memory) (sym (only i v e))
        record { met = tt; seen = ([], refl); mine = λ h. absurd (omega arith); since = tt; loaded = tt; append = tt };
    ended = λ i v e. subst (λ (v : View). AllByRecursion (EndedFact []) (ended_in v.role)) (sym (only i v e)) tt;
    undrawn = λ n h. refl;
  };
}
  where
    only : (i : ℕ) (v : View) → get_elem? (space_view 0 [] ∷ []) i ≡ some v → v ≡ space_view 0 []
    only zero v e = sym (some-injective _ v e)
    only (suc i) v e = absurd (some-ne-none v (sym e))

    alone : (i : ℕ) (a : Session) → get_elem? (idle ∷ []) i ≡ some a → a ≡ idle
    alone zero v e = sym (some-injective _ v e)
    alone (suc i) v e = absurd (some-ne-none v (sym e))

    one : (i : ℕ) (v : View) → get_elem? (space_view 0 [] ∷ []) i ≡ some v → IsIdle v
    one i v e _ = ap session_in_view (only i v e)

    small : (i : ℕ) (v : View) → get_elem? (space_view 0 [] ∷ []) i ≡ some v → total v.grants ≤ 2 ^ 52 * sessions_in v.role
    small i v e = subst (λ (v : View). total v.grants ≤ 2 ^ 52 * sessions_in v.role) (sym (only i v e)) (omega arith)

module _ (lawful : ℕ → List Entry → Type 0) (opening : ℕ → ℕ → ℕ → ℕ) (sizes : Sizes) where
  latch_push : (words : List ℕ) (ss : List Session) → LatchPart (latches_of sizes) words ss → LatchPart (latches_of sizes) words (ss ++ idle ∷ [])
  latch_push words ss part = record {
    good = good_push ss (marks_in (latches_of sizes) words) part.good;
    counted = λ l h. let s = sum_by_push (taken l) ss idle in let c = part.counted l h in omega arith;
    flags = part.flags;
    few = at_snoc (λ _ a. (l : ℕ) → grants l a ≤ 8192) ss idle (λ l. omega arith) part.few;
  }

  -- one more view that knows nothing
  push_part : (words : List ℕ) (log : List Entry) (views : List View) (r : Role) (m : Knowledge) → (part : MemoryPart sizes (lawful sizes.pages) (by_place opening sizes.pages) words log views) → Follows sizes (lawful sizes.pages) (by_place opening sizes.pages) words log (session_number_of r) idle m → AllByRecursion (EndedFact log) (ended_in r)
      → MemoryPart sizes (lawful sizes.pages) (by_place opening sizes.pages) words log (views ++ with_memory m (seated r) ∷ [])
  push_part words log views r m part fresh ended = record {
    legal = part.legal;
    grammar = part.grammar;
    short = part.short;
    room = part.room;
    had_room = part.had_room;
    end = part.end;
    logged = part.logged;
    paged = λ q h none. part.paged q h (λ i u e. none i u (at_longer views (with_memory m (seated r) ∷ []) i u e));
    follows = at_snoc (λ _ u. Follows sizes (lawful sizes.pages) (by_place opening sizes.pages) words log (session_number_of u.role) u.session u.memory) views (with_memory m (seated r))
        fresh part.follows;
    ended = at_snoc (λ _ u. AllByRecursion (EndedFact log) (ended_in u.role)) views (with_memory m (seated r)) ended part.ended;
    undrawn = λ n h. part.undrawn n (let e = ap (λ rs. sum_by drawn_in rs) (map-append role_of views (with_memory m (seated r) ∷ [])) in let t = sum_by_push drawn_in (map role_of views) r in omega arith);
  }

  -- who the session is stays
  renumbered : (words : List ℕ) (log : List Entry) (v : View) (q : Role) → session_number_of q ≡ session_number_of v.role → Follows sizes (lawful sizes.pages) (by_place opening sizes.pages) words log (session_number_of v.role) v.session v.memory
      → Follows sizes (lawful sizes.pages) (by_place opening sizes.pages) words log (session_number_of q) v.session v.memory
  renumbered words log v q same f = subst (λ n. Follows sizes (lawful sizes.pages) (by_place opening sizes.pages) words log n v.session v.memory) (sym same) f

  -- a seat's role changes, and a new seat has nothing
  pub split_step : (s : State (Unit {0}) View) (id : ℕ) (v : View) (q r : Role) (m : Knowledge) → (k : RuleHolds lawful opening sizes s) → get_elem? s.views id ≡ some v → (live q ≡ 0 → v.session ≡ idle) → sessions_in q ≡ sessions_in v.role → session_number_of q ≡ session_number_of v.role
      → SessionsPart (slice_index s.words drawn_place) (set (map role_of s.views) id q ++ r ∷ [])
      → drawn_in v.role ≤ drawn_in q → AllByRecursion (EndedFact k.log) (ended_in q) → Follows sizes (lawful sizes.pages) (by_place opening sizes.pages) s.words k.log (session_number_of r) idle m → AllByRecursion (EndedFact k.log) (ended_in r)
      → RuleHolds lawful opening sizes record { words = s.words; homes = s.homes; views = set s.views id (with_role q v) ++ with_memory m (seated r) ∷ [] }
  split_step s id v q r m k at still crowds number roles more ended fresh none =
      let w : View = with_role q v in
      let new : View = with_memory m (seated r) in
      let sessions : map session_in_view (set s.views id w ++ new ∷ []) ≡ map session_in_view s.views ++ idle ∷ [] = map-append session_in_view (set s.views id w) (new ∷ []) ∙ ap (λ ss. ss ++ idle ∷ []) (map_same session_in_view s.views id v w at refl) in record {
        sized = k.sized;
        sessions = subst (λ z. SessionsPart (slice_index s.words drawn_place) z) (sym (map_grown role_of s.views id w new)) roles;
        latches = subst (λ z. LatchPart (latches_of sizes) s.words z) (sym sessions) (latch_push s.words (map session_in_view s.views) k.latches);
        idles = at_snoc (λ _ u. IsIdle u) (set s.views id w) new (λ _. refl) (at_set (λ _ u. IsIdle u) s.views id w still (λ j b e _. k.idles j b e));
        paid = record {
          paid = λ l h.
              let a = sum_by_push (λ (u : View). debt l u.session) (set s.views id w) new in let b = sum_by_push (λ (u : View). total u.grants) (set s.views id w) new in
              let c = sum_at (λ (u : View). debt l u.session) s.views id v w at in let d = sum_at (λ (u : View). total u.grants) s.views id v w at in
              let p = k.paid.paid l h in omega arith;
          bound = at_snoc (λ _ u. total u.grants ≤ 2 ^ 52 * sessions_in u.role) (set s.views id w) new (omega arith)
              (at_set (λ _ u. total u.grants ≤ 2 ^ 52 * sessions_in u.role) s.views id w (subst (λ c. total v.grants ≤ 2 ^ 52 * c) (sym crowds) (k.paid.bound id v at)) (λ j b e _. k.paid.bound j b e));
        };
        writers = at_snoc (λ _ u. AllByRecursion (IsWriter (latches_of sizes) s.words u) u.written) (set s.views id w) new tt
            (at_set (λ _ u. AllByRecursion (IsWriter (latches_of sizes) s.words u) u.written) s.views id w (renamed sizes s.words v w number refl v.written (k.writers id v at)) (λ j b e _. k.writers j b e));
        log = k.log;
        memory = push_part s.words k.log (set s.views id w) r m
            (view_part sizes (lawful sizes.pages) (by_place opening sizes.pages) s.words s.words k.log s.views id v w k.memory at (λ q far. refl) more (renumbered s.words k.log v q number (k.memory.follows id v at)) ended (λ q h. h))
            fresh none;
      }

  -- the space draws the next number, for a new seat
  pub draws : (id d : ℕ) (ended : List Ended) (v : View) → v.role ≡ Space d ended → d < 1024 → Splits (RuleHolds lawful opening sizes) id v (one_drawn v) (newcomer v)
  draws id d ended v is room s k at =
      let roles : List Role = map role_of s.views in
      let at' : get_elem? roles id ≡ some v.role = at_map role_of s.views id v at in
      split_step s id v (drawn_more v.role) (Fresh (drawn_in v.role + 1)) nothing_seen k at
      (λ z. k.idles id v at (subst (λ r. live r ≡ 0) (sym is) refl))
      (subst (λ (r : Role). sessions_in (drawn_more r) ≡ sessions_in r) (sym is) refl)
      (subst (λ (r : Role). session_number_of (drawn_more r) ≡ session_number_of r) (sym is) refl)
      (subst (λ (r : Role). SessionsPart (slice_index s.words drawn_place) (set roles id (drawn_more r) ++ Fresh (drawn_in r + 1) ∷ [])) (sym is)
      (draws_part (slice_index s.words drawn_place) roles id d ended k.sessions (subst (λ r. get_elem? roles id ≡ some r) is at') room))
      (subst (λ (r : Role). drawn_in r ≤ drawn_in (drawn_more r)) (sym is) (omega arith))
      (subst (λ (r : Role). AllByRecursion (EndedFact k.log) (ended_in (drawn_more r))) (sym is) (subst (λ (r : Role). AllByRecursion (EndedFact k.log) (ended_in r)) is (k.memory.ended id v at)))
      record { met = tt; seen = (k.log, refl); mine = λ _. (k.memory.undrawn (drawn_in v.role + 1) (let w = whole_count roles id d ended k.sessions.one_space (subst (λ r. get_elem? roles id ≡ some r) is at') in let z = ap drawn_in is in omega arith), refl); since = tt; loaded = tt; append = tt }
      tt

  -- a step on the count of sessions
  count_step : (s : State (Unit {0}) View) (n id : ℕ) (cs : List (ℕ × Unit {0})) (v : View) (q : Role) → (k : RuleHolds lawful opening sizes s) → get_elem? s.views id ≡ some v → (live q ≡ 0 → v.session ≡ idle) → sessions_in q ≡ sessions_in v.role → session_number_of q ≡ session_number_of v.role
      → SessionsPart n (set (map role_of s.views) id q) → drawn_in v.role ≤ drawn_in q → AllByRecursion (EndedFact k.log) (ended_in q)
      → RuleHolds lawful opening sizes (stepped s drawn_place n id cs (with_role q v) keeps)
  count_step s n id cs v q k at still crowds number roles more ended =
      let w : View = with_role q v in
      let words : List ℕ = set s.words drawn_place n in
      let sessions = map_same session_in_view s.views id v w at refl in record {
        sized = length-set s.words drawn_place n ∙ k.sized;
        sessions = subst (λ (z : ℕ × List Role). SessionsPart z.0 z.1) (λ j. (sym (get_or-set_same s.words drawn_place n 0 (let z = k.sized in omega arith)) j, sym (map-set role_of s.views id w) j)) roles;
        latches = subst (λ z. LatchPart (latches_of sizes) (set s.words drawn_place n) z) (sym sessions) record {
          good = subst (λ m. IsGood (map session_in_view s.views) m) (same_marks s.words n) k.latches.good;
          counted = λ l h. let e = get_or-set_other s.words drawn_place (lock_place l) n 0 (λ e. omega arith) in let c = k.latches.counted l h in omega arith;
          flags = λ l h. let e = get_or-set_other s.words drawn_place (waiters_place l) n 0 (λ e. omega arith) in let c = k.latches.flags l h in omega arith;
          few = k.latches.few;
        };
        idles = at_set (λ _ u. IsIdle u) s.views id w still (λ j b e _. k.idles j b e);
        paid = record {
          paid = λ l h.
              let c = sum_at (λ (u : View). debt l u.session) s.views id v w at in let d = sum_at (λ (u : View). total u.grants) s.views id v w at in
              let g = get_or-set_other s.words drawn_place (gen_place l) n 0 (λ e. omega arith) in let x = get_or-set_other s.words drawn_place (ex_gen_place l) n 0 (λ e. omega arith) in
              let p = k.paid.paid l h in omega arith;
          bound = at_set (λ _ u. total u.grants ≤ 2 ^ 52 * sessions_in u.role) s.views id w (subst (λ c. total v.grants ≤ 2 ^ 52 * c) (sym crowds) (k.paid.bound id v at)) (λ j b e _. k.paid.bound j b e);
        };
        writers = at_set (λ _ u. AllByRecursion (IsWriter (latches_of sizes) (set s.words drawn_place n) u) u.written) s.views id w (renamed s.words n v w number refl v.written (k.writers id v at)) (λ j b e _. renamed s.words n b b refl refl b.written (k.writers j b e));
        log = k.log;
        memory = view_part sizes (lawful sizes.pages) (by_place opening sizes.pages) s.words (set s.words drawn_place n) k.log s.views id v w k.memory at (far_from sizes s.words drawn_place n (λ e. absurd (omega arith)) (omega arith)) more
            (renumbered s.words k.log v q number (k.memory.follows id v at)) ended (λ q h. h);
      }
    where
      same_marks : (words : List ℕ) (n : ℕ) → marks_in (latches_of sizes) words ≡ marks_in (latches_of sizes) (set words drawn_place n)
      same_marks words n = λ j l. record {
        waiters = cond (Rattle.std.specs.Prelude.nat_lt l (latches_of sizes)) (Rattle.std.specs.Prelude.nat_lt 0 (sym (get_or-set_other words drawn_place (waiters_place l) n 0 (λ e. omega arith)) j)) false;
        generation = cond (Rattle.std.specs.Prelude.nat_lt l (latches_of sizes)) (sym (get_or-set_other words drawn_place (gen_place l) n 0 (λ e. omega arith)) j) 0;
        ex_generation = cond (Rattle.std.specs.Prelude.nat_lt l (latches_of sizes)) (sym (get_or-set_other words drawn_place (ex_gen_place l) n 0 (λ e. omega arith)) j) 0;
      }

      renamed : (words : List ℕ) (n : ℕ) (v w : View) → session_number_of w.role ≡ session_number_of v.role → w.session ≡ v.session → (xs : List ℕ) → AllByRecursion (IsWriter (latches_of sizes) words v) xs → AllByRecursion (IsWriter (latches_of sizes) (set words drawn_place n) w) xs
      renamed words n v w number same [] each = tt
      renamed words n v w number same (x ∷ xs) each = ((subst (λ a. 0 < Rattle.ib_core.specs.Sessions.claims x a) (sym same) each.0.0, get_or-set_other words drawn_place (writer_place x) n 0 (λ e. omega arith) ∙ (each.0.1 ∙ sym number), each.0.2), renamed words n v w number same xs each.1)

  -- a session ends, and the space keeps its lists
  pub leaves : (id d : ℕ) (ended : List Ended) (v : View) (other n : ℕ) (w : View) → v.role ≡ Space d ended → w.role ≡ Seated n → w.session ≡ idle → w.memory.append ≡ None → Joins (RuleHolds lawful opening sizes) id v other w (with_ended v w) nobody
  leaves id d ended v other n w space seated_n still closed s k at apart there =
      let roles : List Role = map role_of s.views in
      let both : View = with_ended v w in
      let there' : get_elem? s.views other ≡ some w = sym (set_else s.views id other (with_ended v w) (λ e. apart (sym e))) ∙ there in
      let e : Ended = ended_as w in
      let a : get_elem? roles id ≡ some (Space d ended) = at_map role_of s.views id v at ∙ ap (λ (r : Role). some r) space in
      let b : get_elem? roles other ≡ some (Seated n) = at_map role_of s.views other w there' ∙ ap (λ (r : Role). some r) seated_n in
      let sessions : map session_in_view (set (set s.views id (with_ended v w)) other nobody) ≡ map session_in_view s.views = map_same session_in_view (set s.views id (with_ended v w)) other w nobody there (sym still) ∙ map_same session_in_view s.views id v (with_ended v w) at refl in
      let role : ended_more e v.role ≡ Space d (e ∷ ended) = ap (ended_more e) space in
      let counted : 0 < session_number_of w.role = let z = ap session_number_of seated_n in let p = numbered_from_one roles other n (slice_index s.words drawn_place) k.sessions b in omega arith in record {
        sized = k.sized;
        sessions = subst (λ z. SessionsPart (slice_index s.words drawn_place) z) (sym (map_twice role_of s.views id other (with_ended v w) nobody ∙ ap (λ (r : Role). set (set (map role_of s.views) id r) other Spent) role))
            (left id d ended other n (slice_index s.words drawn_place) roles e a b (λ q. apart (sym q)) (ap session_number_of seated_n) k.sessions);
        latches = subst (λ z. LatchPart (latches_of sizes) s.words z) (sym sessions) k.latches;
        idles = at_set (λ _ u. IsIdle u) (set s.views id both) other nobody (λ _. refl)
            (λ j b e _. at_set (λ _ u. IsIdle u) s.views id both (λ _. k.idles id v at (subst (λ r. live r ≡ 0) (sym space) refl)) (λ j b e _. k.idles j b e) j b e);
        paid = record {
          paid = λ l h.
              let x = sum_at (λ (u : View). debt l u.session) s.views id v both at in let x' = sum_at (λ (u : View). debt l u.session) (set s.views id both) other w nobody there in
              let y = sum_at (λ (u : View). total u.grants) s.views id v both at in let y' = sum_at (λ (u : View). total u.grants) (set s.views id both) other w nobody there in
              let z : debt l w.session ≡ 0 = ap (debt l) still in let p = k.paid.paid l h in omega arith;
          bound = at_set (λ _ u. total u.grants ≤ 2 ^ 52 * sessions_in u.role) (set s.views id both) other nobody (omega arith)
              (λ j b e _. at_set (λ _ u. total u.grants ≤ 2 ^ 52 * sessions_in u.role) s.views id both
              (let p = k.paid.bound id v at in let q = k.paid.bound other w there' in let c : sessions_in w.role ≡ 1 = ap sessions_in seated_n in
              let c' : sessions_in both.role ≡ suc (length ended) = ap sessions_in role in let d : sessions_in v.role ≡ length ended = ap sessions_in space in more_crowd (total v.grants) (total w.grants) (total both.grants) (sessions_in v.role) (sessions_in w.role) (sessions_in both.role) p q c (omega arith) (omega arith))
              (λ j b e _. k.paid.bound j b e) j b e);
        };
        writers = at_set (λ _ u. AllByRecursion (IsWriter (latches_of sizes) s.words u) u.written) (set s.views id both) other nobody tt
            (λ j b e _. at_set (λ _ u. AllByRecursion (IsWriter (latches_of sizes) s.words u) u.written) s.views id both (renamed sizes s.words v both (ap session_number_of role ∙ sym (ap session_number_of space)) refl v.written (k.writers id v at)) (λ j b e _. k.writers j b e) j b e);
        log = k.log;
        memory = view_part sizes (lawful sizes.pages) (by_place opening sizes.pages) s.words s.words k.log (set s.views id (with_ended v w)) other w nobody
            (view_part sizes (lawful sizes.pages) (by_place opening sizes.pages) s.words s.words k.log s.views id v (with_ended v w) k.memory at (λ q far. refl)
            (let z = ap drawn_in space in let z' = ap drawn_in role in omega arith)
            (renumbered s.words k.log v (ended_more e v.role) (ap session_number_of role ∙ sym (ap session_number_of space)) (k.memory.follows id v at))
            (subst (λ (r : Role). AllByRecursion (EndedFact k.log) (ended_in r)) (sym role)
            ((((k.memory.follows other w there').seen, ((k.memory.follows other w there').mine counted).0, counted), subst (λ (r : Role). AllByRecursion (EndedFact k.log) (ended_in r)) space (k.memory.ended id v at))))
            (λ q h. h))
            there (λ q far. refl) (let z = ap drawn_in seated_n in omega arith)
            record { met = tt; seen = (k.log, refl); mine = λ h. absurd (omega arith); since = tt; loaded = tt; append = tt } tt
            (λ q _. ap (λ o. stored_in o q) closed);
      }
    where
      more_crowd : (g h t c c' t' : ℕ) → g ≤ 2 ^ 52 * c → h ≤ 2 ^ 52 * c' → c' ≡ 1 → t' ≡ c + 1 → t ≡ g + h → t ≤ 2 ^ 52 * t'
      more_crowd g h t c c' t' p q one more sum = omega arith

  module _ (entry : Entry) (slots id : ℕ) (me : Me (Unit {0}) View) where
    -- a new seat is counted
    pub enters : (n : ℕ) → me.0.role ≡ Fresh n → Allows (RuleHolds lawful opening sizes) slots id me drawn_place (λ n. (n + 1) % 2 ^ 64) (tells lawful opening sizes entry Enter (λ n. (n + 1) % 2 ^ 64) me)
    enters n is s k _ at _ =
        let word : ℕ = slice_index s.words drawn_place in
        let roles : List Role = map role_of s.views in
        let at' : get_elem? roles id ≡ some (Fresh n) = at_map role_of s.views id me.0 at ∙ ap (λ (r : Role). some r) is in
        let one = one_of uncounted roles id (Fresh n) at' in
        let c = k.sessions.counted in let f = k.sessions.few in
        let small : (word + 1) % 2 ^ 64 ≡ word + 1 = mod-eq_of_lt (omega arith) in
        let w : View = view_after Enter word me.0 in
        let after : RuleHolds lawful opening sizes (stepped s drawn_place ((slice_index s.words drawn_place + 1) % 2 ^ 64) id me.1 (with_role (entered me.0.role) me.0) keeps) =
        subst (λ u. RuleHolds lawful opening sizes (stepped s drawn_place u id me.1 (with_role (entered me.0.role) me.0) keeps)) (sym small)
        (count_step s (word + 1) id me.1 me.0 (entered me.0.role) k at
        (λ z. k.idles id me.0 at (subst (λ r. live r ≡ 0) (sym is) refl))
        (subst (λ r. sessions_in (entered r) ≡ sessions_in r) (sym is) refl)
        (subst (λ r. session_number_of (entered r) ≡ session_number_of r) (sym is) refl)
        (subst (λ r. SessionsPart (word + 1) (set roles id (entered r))) (sym is) (came id n word roles at' k.sessions))
        (subst (λ (r : Role). drawn_in r ≤ drawn_in (entered r)) (sym is) (omega arith)) (subst (λ (r : Role). AllByRecursion (EndedFact k.log) (ended_in (entered r))) (sym is) tt)) in (
          w,
          keeps,
          tt,
          after,
          (
            record {
              view = refl;
              event = refl;
              proper = proper_now lawful opening sizes s drawn_place _ id me.1 me.0 (with_role (entered me.0.role) me.0) at after;
              known = known_now lawful opening sizes s drawn_place _ id me.1 me.0 (with_role (entered me.0.role) me.0) at after;
              range = tt;
              left = refl;
              few = few_now lawful opening sizes s drawn_place _ id me.1 me.0 (with_role (entered me.0.role) me.0) at after;
              taken = taken_now lawful opening sizes s drawn_place _ id me.1 me.0 (with_role (entered me.0.role) me.0) at after;
            },
            refl,
          ),
        )

    -- the space looks at the count
    pub counts : (d : ℕ) (ended : List Ended) → me.0.role ≡ Space d ended → Allows (RuleHolds lawful opening sizes) slots id me drawn_place (λ n. n) (tells lawful opening sizes entry Count (λ n. n) me)
    counts d ended is s k _ at _ =
        let word : ℕ = slice_index s.words drawn_place in
        let roles : List Role = map role_of s.views in
        let at' : get_elem? roles id ≡ some (Space d ended) = at_map role_of s.views id me.0 at ∙ ap (λ (r : Role). some r) is in
        let after : RuleHolds lawful opening sizes (stepped s drawn_place (slice_index s.words drawn_place) id me.1 me.0 keeps) =
        count_step s word id me.1 me.0 me.0.role k at (λ z. k.idles id me.0 at z) refl refl
        (subst (λ rs. SessionsPart (slice_index s.words drawn_place) rs) (sym (set_again roles id me.0.role (at_map role_of s.views id me.0 at))) k.sessions) (omega arith) (k.memory.ended id me.0 at) in (
          me.0,
          keeps,
          tt,
          after,
          (
            record {
              view = refl;
              event = refl;
              proper = proper_now lawful opening sizes s drawn_place _ id me.1 me.0 me.0 at after;
              known = known_now lawful opening sizes s drawn_place _ id me.1 me.0 me.0 at after;
              range = subst (λ r. (length (ended_in r) ≤ drawn_in r) × (drawn_in r ≤ 1024)) (sym is)
                  (let w = whole_count roles id d ended k.sessions.one_space at' in let o = one_of sessions_in roles id (Space d ended) at' in
                  let p = k.sessions.all_stand in let q = k.sessions.few in (omega arith, omega arith));
              left = refl;
              few = few_now lawful opening sizes s drawn_place _ id me.1 me.0 me.0 at after;
              taken = taken_now lawful opening sizes s drawn_place _ id me.1 me.0 me.0 at after;
            },
            refl,
          ),
        )
