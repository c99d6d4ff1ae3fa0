-- One session tells another what it has seen.
use Rattle.std.proofs.Common.{◌≡◌, ℕ, ◌+◌, ◌*◌, ◌^◌, ◌<◌, ◌≤◌, Bool, true, false, cond, ◌⊎◌, List, [], ◌∷◌, ◌++◌, drop, map, set, length, refl, sym, ap, ◌∙◌, subst, arith, length-append}
use Rattle.std.specs.Prelude.{◌==◌, nat_lt, slice_index, sum_by, Option, Some, None}
use Rattle.std.proofs.lemmas.List.{nil_from_length}
use Rattle.std.proofs.lemmas.List.Sums.{sum_by_push}
use Rattle.std.proofs.lemmas.Bool.Decides.{nat_tests}
use mathlib.Core.Option.{some}
use mathlib.Core.List.{IsPrefix}
use lib.ListN.{get_elem?}
use Rattle.atomic_table.specs.Table.{State, Me, keeps, stepped, Allows, Splits, Joins}
use Rattle.atomic_table.proofs.Lists.{at_map}
use Rattle.ib_map.specs.Space.{has_pages}
use Rattle.ib_layout.specs.Geometry.{Sizes}
use Rattle.ib_layout.specs.Places.{latches_of, drawn_place}
use Rattle.ib_logrec.specs.declared.entry.Entry.{Entry}
use Rattle.ib_logrec.specs.Log.{by_place, log_words, used}
use Rattle.ib_logrec.proofs.LogLaws.{log_words-append}
use Rattle.ib_core.specs.Sessions.{idle}
use Rattle.ib_core.proofs.Elements.{at_set, set_again, set_else, sum_at}
use Rattle.ib_core.proofs.Turned.{choose}
use Rattle.ib_rule.specs.declared.kind.StepKind.TheVariants.{Meet}
use Rattle.ib_rule.specs.declared.memory.OpenAppend.{OpenAppend}
use Rattle.ib_rule.specs.declared.view.Role.{Role}
use Rattle.ib_rule.specs.declared.view.Role.TheVariants.{Note, Spent}
use Rattle.ib_rule.specs.declared.view.View.{View}
use Rattle.std.specs.List.{AllByRecursion}
use Rattle.ib_rule.specs.Memory.{conflicts, entries_of, stored_in, IsAppending, SinceFact}
use Rattle.ib_rule.specs.Views.{total, role_of, session_in_view, nothing_seen, with_memory, longer, forgets, note_of, with_note, nobody}
use Rattle.ib_rule.specs.Roles.{sessions_in, uncounted, drawn_in, is_space, bears, is_drawn, SessionsPart, session_number_of}
use Rattle.ib_rule.specs.Rule.{LatchPart, IsWriter, IsIdle, RuleHolds}
use Rattle.ib_core.specs.Debts.{debt}
use Rattle.ib_rule.specs.Told.{tells}
use Rattle.ib_rule.proofs.Stays.{view_part}
use Rattle.ib_rule.proofs.Knowing.{knows, old_since, prefix_short}
use Rattle.ib_rule.proofs.Sessions.{split_step, map_twice}
use Rattle.ib_rule.proofs.Turning.{map_same}
use Rattle.ib_rule.proofs.Words.{set_same}
use Rattle.ib_rule.proofs.Moves.{proper_now, known_now, few_now, taken_now}
use Rattle.ib_rule.proofs.Lists.{drop_front, each_left, each_map, nil_append}

-- of two beginnings of one list the shorter begins the longer
prefix_of : {A : Type 0} (xs ys log : List A) → IsPrefix xs log → IsPrefix ys log → length xs ≤ length ys → IsPrefix xs ys
prefix_of [] ys log p q h = (ys, refl)
prefix_of (x ∷ xs) [] log p q h = absurd (omega arith)
prefix_of (x ∷ xs) (y ∷ ys) [] p q h = let e = p.1 in absurd (cc)
prefix_of (x ∷ xs) (y ∷ ys) (z ∷ zs) p q h =
    let a : xs ++ p.0 ≡ zs = let e = p.1 in cc in
    let b : ys ++ q.0 ≡ zs = let e = q.1 in cc in
    let same : x ≡ y = let e = p.1 in let d = q.1 in cc in
    let r = prefix_of xs ys zs (p.0, a) (q.0, b) (omega arith) in (r.0, λ i. same i ∷ r.1 i)

longer_by : (P : List Entry → Type 0) (xs ys : List Entry) → P xs → P ys → P (longer xs ys)
longer_by P xs ys p q = choose P (nat_lt (length xs) (length ys)) ys xs (λ _. q) (λ _. p)

pub longest : (xs ys : List Entry) → AllByRecursion (λ zs. length zs ≤ length (longer xs ys)) (xs ∷ ys ∷ [])
longest xs ys = choose (λ ms. AllByRecursion (λ zs. length zs ≤ length ms) (xs ∷ ys ∷ [])) (nat_lt (length xs) (length ys)) ys xs
    (λ less. let h : length xs < length ys = grind (arith, nat_tests) in (omega arith, (omega arith, tt)))
    (λ more. let h : length ys ≤ length xs = grind (arith, nat_tests) in (omega arith, (omega arith, tt)))

-- a front that is as long as the list is the list
whole_front : (xs log : List Entry) → IsPrefix xs log → length log ≤ length xs → xs ≡ log
whole_front xs log p long =
    let n = length-append xs p.0 in let e = ap (λ (ys : List Entry). length ys) p.1 in
    let none : p.0 ≡ [] = nil_from_length p.0 (omega arith) in sym (nil_append xs) ∙ (ap (λ ys. xs ++ ys) (sym none) ∙ p.1)
  where
    nil_append : (xs : List Entry) → xs ++ [] ≡ xs
    nil_append [] = refl
    nil_append (x ∷ xs) = ap (λ ys. x ∷ ys) (nil_append xs)

-- a session's entries in a list
entries_append : (n : ℕ) (xs ys : List Entry) → entries_of n (xs ++ ys) ≡ entries_of n xs ++ entries_of n ys
entries_append n [] ys = refl
entries_append n (x ∷ xs) ys = by_test (x.session == n) (entries_of n (xs ++ ys)) (entries_of n xs) (entries_of n ys) (entries_append n xs ys)
  where
    by_test : (b : Bool) (all front back : List Entry) → all ≡ front ++ back → cond b (x ∷ all) all ≡ cond b (x ∷ front) front ++ back
    by_test true all front back is = ap (λ zs. x ∷ zs) is
    by_test false all front back is = is

-- what stands between two lists with the same entries of a session has them too
between : (n : ℕ) (own a b c : List Entry) → IsPrefix a b → IsPrefix b c → entries_of n a ≡ own → entries_of n c ≡ own → entries_of n b ≡ own
between n own a b c p q first last =
    let whole : entries_of n c ≡ (entries_of n a ++ entries_of n p.0) ++ entries_of n q.0 =
    ap (entries_of n) (sym q.1) ∙ (entries_append n b q.0 ∙ ap (λ zs. zs ++ entries_of n q.0) (ap (entries_of n) (sym p.1) ∙ entries_append n a p.0)) in
    let l = ap length whole in let m = length-append (entries_of n a ++ entries_of n p.0) (entries_of n q.0) in let k = length-append (entries_of n a) (entries_of n p.0) in
    let f = ap length first in let g = ap length last in
    let empty : entries_of n p.0 ≡ [] = nil_from_length (entries_of n p.0) (omega arith) in
    ap (entries_of n) (sym p.1) ∙ (entries_append n a p.0 ∙ (ap (λ zs. entries_of n a ++ zs) empty ∙ (nil_append (entries_of n a) ∙ first)))

-- a change of role that leaves each sum
noted : (word : ℕ) (roles : List Role) → SessionsPart word roles → SessionsPart word (roles ++ Note ∷ [])
noted word roles part =
    let drawn : sum_by drawn_in (roles ++ Note ∷ []) ≡ sum_by drawn_in roles = let s = sum_by_push drawn_in roles Note in omega arith in
    record {
      one_space = let s = sum_by_push is_space roles Note in let p = part.one_space in omega arith;
      counted = let s = sum_by_push uncounted roles Note in let p = part.counted in omega arith;
      all_stand = let s = sum_by_push sessions_in roles Note in let p = part.all_stand in omega arith;
      few = let p = part.few in omega arith;
      numbered = λ n. let s = sum_by_push (bears n) roles Note in let p = part.numbered n in
          let y : sum_by (bears n) (roles ++ Note ∷ []) ≡ is_drawn n (sum_by drawn_in roles) = omega arith in subst (λ z. sum_by (bears n) (roles ++ Note ∷ []) ≡ is_drawn n z) (sym drawn) y;
    }

spent : (word : ℕ) (roles : List Role) (i : ℕ) → get_elem? roles i ≡ some Note → SessionsPart word roles → SessionsPart word (set roles i Spent)
spent word roles i at part =
    let drawn : sum_by drawn_in (set roles i Spent) ≡ sum_by drawn_in roles = let s = sum_at drawn_in roles i Note Spent at in omega arith in
    record {
      one_space = let s = sum_at is_space roles i Note Spent at in let p = part.one_space in omega arith;
      counted = let s = sum_at uncounted roles i Note Spent at in let p = part.counted in omega arith;
      all_stand = let s = sum_at sessions_in roles i Note Spent at in let p = part.all_stand in omega arith;
      few = let p = part.few in omega arith;
      numbered = λ n. let s = sum_at (bears n) roles i Note Spent at in let p = part.numbered n in
          let y : sum_by (bears n) (set roles i Spent) ≡ is_drawn n (sum_by drawn_in roles) = omega arith in subst (λ z. sum_by (bears n) (set roles i Spent) ≡ is_drawn n z) (sym drawn) y;
    }

module _ (lawful : ℕ → List Entry → Type 0) (opening : ℕ → ℕ → ℕ → ℕ) (sizes : Sizes) where
  pub notes : (id : ℕ) (v : View) → Splits (RuleHolds lawful opening sizes) id v v (note_of v)
  notes id v s k at =
      let roles : List Role = map role_of s.views in
      let f = k.memory.follows id v at in
      split_step lawful opening sizes s id v v.role Note (record nothing_seen { seen = v.memory.seen }) k at (λ z. k.idles id v at z) refl refl
      (subst (λ (rs : List Role). SessionsPart (slice_index s.words drawn_place) (rs ++ Note ∷ [])) (sym (set_again roles id v.role (at_map role_of s.views id v at))) (noted (slice_index s.words drawn_place) roles k.sessions))
      (omega arith) (k.memory.ended id v at)
      record { met = tt; seen = f.seen; mine = λ h. absurd (omega arith); since = tt; loaded = tt; append = tt }
      tt

  pub takes_note : (id : ℕ) (v : View) (other : ℕ) (w : View) → w.role ≡ Note → w.session ≡ idle → w.memory.append ≡ None → w.grants ≡ record { s = 0; sx = 0; x = 0 } → Joins (RuleHolds lawful opening sizes) id v other w (with_note v w) nobody
  takes_note id v other w note still closed' zeros s k at apart there =
      let roles : List Role = map role_of s.views in
      let there' : get_elem? s.views other ≡ some w = sym (set_else s.views id other (with_note v w) (λ e. apart (sym e))) ∙ there in
      let r : get_elem? roles other ≡ some Note = at_map role_of s.views other w there' ∙ ap (λ (r : Role). some r) note in
      let f = k.memory.follows id v at in let g = k.memory.follows other w there' in
      let far = prefix_short v.memory.seen (longer v.memory.seen w.memory.seen) in
      let seen : IsPrefix (longer v.memory.seen w.memory.seen) k.log = longer_by (λ xs. IsPrefix xs k.log) v.memory.seen w.memory.seen f.seen g.seen in
      let mine : IsPrefix v.memory.seen (longer v.memory.seen w.memory.seen) = prefix_of v.memory.seen (longer v.memory.seen w.memory.seen) k.log f.seen seen (longest v.memory.seen w.memory.seen).0 in
      let sessions : map session_in_view (set (set s.views id (with_note v w)) other nobody) ≡ map session_in_view s.views = map_same session_in_view (set s.views id (with_note v w)) other w nobody there (sym still) ∙ map_same session_in_view s.views id v (with_note v w) at refl in record {
        sized = k.sized;
        sessions = subst (λ z. SessionsPart (slice_index s.words drawn_place) z) (sym (map_twice role_of s.views id other (with_note v w) nobody ∙ ap (λ rs. set rs other Spent) (set_again roles id v.role (at_map role_of s.views id v at))))
            (spent (slice_index s.words drawn_place) roles other r k.sessions);
        latches = subst (λ z. LatchPart (latches_of sizes) s.words z) (sym sessions) k.latches;
        idles = at_set (λ _ u. IsIdle u) (set s.views id (with_note v w)) other nobody (λ _. refl) (λ j b e _. at_set (λ _ u. IsIdle u) s.views id (with_note v w) (k.idles id v at) (λ j b e _. k.idles j b e) j b e);
        paid = record {
          paid = λ l h.
              let x = sum_at (λ (u : View). debt l u.session) s.views id v (with_note v w) at in let x' = sum_at (λ (u : View). debt l u.session) (set s.views id (with_note v w)) other w nobody there in
              let y = sum_at (λ (u : View). total u.grants) s.views id v (with_note v w) at in let y' = sum_at (λ (u : View). total u.grants) (set s.views id (with_note v w)) other w nobody there in
              let z : debt l w.session ≡ 0 = ap (debt l) still in let z' : total w.grants ≡ 0 = ap total zeros in let p = k.paid.paid l h in omega arith;
          bound = at_set (λ _ u. total u.grants ≤ 2 ^ 52 * sessions_in u.role) (set s.views id (with_note v w)) other nobody (omega arith)
              (λ j b e _. at_set (λ _ u. total u.grants ≤ 2 ^ 52 * sessions_in u.role) s.views id (with_note v w) (k.paid.bound id v at) (λ j b e _. k.paid.bound j b e) j b e);
        };
        writers = at_set (λ _ u. AllByRecursion (IsWriter (latches_of sizes) s.words u) u.written) (set s.views id (with_note v w)) other nobody tt
            (λ j b e _. at_set (λ _ u. AllByRecursion (IsWriter (latches_of sizes) s.words u) u.written) s.views id (with_note v w) (k.writers id v at) (λ j b e _. k.writers j b e) j b e);
        log = k.log;
        memory = view_part sizes (lawful sizes.pages) (by_place opening sizes.pages) s.words s.words k.log (set s.views id (with_note v w)) other w nobody
            (view_part sizes (lawful sizes.pages) (by_place opening sizes.pages) s.words s.words k.log s.views id v (with_note v w) k.memory at (λ q far. refl) (omega arith)
            record {
              met = (f.seen, (g.seen, tt));
              seen = seen;
              mine = λ h. ((f.mine h).0, between (session_number_of v.role) v.memory.own v.memory.seen (longer v.memory.seen w.memory.seen) k.log mine seen (f.mine h).1 (f.mine h).0);
              since = old_since (session_number_of v.role) (length v.memory.seen) (length (longer v.memory.seen w.memory.seen)) v.session k.log (far mine) v.memory.since f.since;
              loaded = f.loaded;
              append = appends_on s.words k.log v.memory.append mine seen f.append;
            }
            (k.memory.ended id v at) (λ q h. h))
            there (λ q far. refl) (let z = ap drawn_in note in omega arith)
            record { met = tt; seen = (k.log, refl); mine = λ h. absurd (omega arith); since = tt; loaded = tt; append = tt } tt
            (λ q _. ap (λ o. stored_in o q) closed');
      }
    where
      -- who has an open append has seen the whole log, and has no more to see
      appends_on : (words : List ℕ) (log : List Entry) (o : Option OpenAppend) → IsPrefix v.memory.seen (longer v.memory.seen w.memory.seen) → IsPrefix (longer v.memory.seen w.memory.seen) log
          → IsAppending sizes (lawful sizes.pages) words log (session_number_of v.role) v.session v.memory o → IsAppending sizes (lawful sizes.pages) words log (session_number_of v.role) v.session (with_note v w).memory o
      appends_on words log None mine seen on = tt
      appends_on words log (Some o) mine seen on = record {
        fits = on.fits;
        whole = let a = prefix_short v.memory.seen (longer v.memory.seen w.memory.seen) mine in let b = ap (λ (xs : List Entry). length xs) on.whole in whole_front (longer v.memory.seen w.memory.seen) log seen (omega arith);
        pages_done = on.pages_done;
        words_done = on.words_done;
      }

  module _ (entry : Entry) (slots id : ℕ) (me : Me (Unit {0}) View) where
    pub meets : has_pages sizes.pages ≡ true → ((n : ℕ) (xs ys : List Entry) → has_pages n ≡ true → lawful n (xs ++ ys) → lawful n xs)
        → Allows (RuleHolds lawful opening sizes) slots id me drawn_place (λ n. n) (tells lawful opening sizes entry Meet (λ n. n) me)
    meets sized begins s k _ at _ =
        let n : ℕ = slice_index s.words drawn_place in
        let f = k.memory.follows id me.0 at in
        let w : View = with_memory (forgets me.0.memory) me.0 in
        let after : RuleHolds lawful opening sizes (stepped s drawn_place (slice_index s.words drawn_place) id me.1 (with_memory (forgets me.0.memory) me.0) keeps) =
        knows lawful opening sizes s k id me.0 at drawn_place n me.0.looks (forgets me.0.memory) me.1 (set_same s.words drawn_place (let z = k.sized in omega arith))
        record { met = tt; seen = f.seen; mine = f.mine; since = f.since; loaded = f.loaded; append = still k.log s.words me.0.memory.append f.append }
        (λ q h. h) in (
          w,
          keeps,
          tt,
          after,
          (
            record {
              view = (
                refl,
                record {
                  met = all_in s k me.0.memory.met f.met f.seen;
                  legal = begins sizes.pages me.0.memory.seen f.seen.0 sized (subst (lawful sizes.pages) (sym f.seen.1) k.memory.legal);
                  room = let more : used k.log ≡ used me.0.memory.seen + used f.seen.0 = ap used (sym f.seen.1) ∙ (ap length (log_words-append me.0.memory.seen f.seen.0) ∙ length-append (log_words me.0.memory.seen) (log_words f.seen.0)) in let fits = k.memory.room in omega arith;
                  mine = λ h. (f.mine h).1;
                  since = stable_there me.0.memory.seen f.seen.0 (subst (λ log. AllByRecursion (SinceFact (session_number_of me.0.role) me.0.session (length me.0.memory.seen) log) me.0.memory.since) (sym f.seen.1) f.since);
                },
              );
              event = refl;
              proper = proper_now lawful opening sizes s _ _ id me.1 me.0 w at after;
              known = known_now lawful opening sizes s _ _ id me.1 me.0 w at after;
              range = tt;
              left = refl;
              few = few_now lawful opening sizes s _ _ id me.1 me.0 w at after;
              taken = taken_now lawful opening sizes s _ _ id me.1 me.0 w at after;
            },
            refl,
          ),
        )
      where
        stable_there : (seen rest : List Entry) → AllByRecursion (SinceFact (session_number_of me.0.role) me.0.session (length seen) (seen ++ rest)) me.0.memory.since → AllByRecursion (SinceFact (session_number_of me.0.role) me.0.session (length seen) seen) me.0.memory.since
        stable_there seen rest each = each_map (SinceFact (session_number_of me.0.role) me.0.session (length seen) (seen ++ rest)) (SinceFact (session_number_of me.0.role) me.0.session (length seen) seen) me.0.memory.since
            (λ x fact. (
              fact.0,
              fact.1,
              each_left (λ (e : Entry). (e.session ≡ session_number_of me.0.role) ⊎ (conflicts e x ≡ false)) (drop x.place seen) rest
                  (subst (λ es. AllByRecursion (λ (e : Entry). (e.session ≡ session_number_of me.0.role) ⊎ (conflicts e x ≡ false)) es) (drop_front seen rest x.place fact.1) fact.2),
            )) each

        all_in : (s : State (Unit {0}) View) (k : RuleHolds lawful opening sizes s) (xss : List (List Entry)) → AllByRecursion (λ xs. IsPrefix xs k.log) xss → IsPrefix me.0.memory.seen k.log → AllByRecursion (λ xs. length xs ≤ length me.0.memory.seen → IsPrefix xs me.0.memory.seen) xss
        all_in s k [] p mine = tt
        all_in s k (xs ∷ xss) p mine = ((λ short. prefix_of xs me.0.memory.seen k.log p.0 mine short), all_in s k xss p.1 mine)

        still : (log : List Entry) (words : List ℕ) (o : Rattle.std.specs.Prelude.Option Rattle.ib_rule.specs.declared.memory.OpenAppend.OpenAppend) → IsAppending sizes (lawful sizes.pages) words log (session_number_of me.0.role) me.0.session me.0.memory o
            → IsAppending sizes (lawful sizes.pages) words log (session_number_of me.0.role) me.0.session (forgets me.0.memory) o
        still log words None w = tt
        still log words (Rattle.std.specs.Prelude.Some o) w = record { fits = w.fits; whole = w.whole; pages_done = w.pages_done; words_done = w.words_done }
