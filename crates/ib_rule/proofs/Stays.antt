-- The memory part after a step of one view that is no step of the memory.
use Rattle.std.proofs.Common.{◌≡◌, ◌≢◌, ◌⊎◌, ⊎_elim, inl, inr, ℕ, ◌+◌, ◌<◌, ◌≤◌, false, cond, List, [], ◌∷◌, map, set, length, refl, sym, ap, ◌∙◌, subst, arith, get_or-set_other}
use Rattle.std.specs.Prelude.{◌==◌, ◌||◌, not, nat_lt, filter, slice_index, sum_by, Option, Some, None}
use Rattle.std.proofs.lemmas.Bool.Decides.{nat_tests}
use mathlib.Core.Logic.{dite}
use mathlib.Core.Option.{some}
use lib.ListN.{get_elem?}
use native.Mathlib.Decide.{ℕ_discrete}
use Rattle.ib_levels.specs.declared.holding.Holding.{Holding}
use Rattle.ib_levels.specs.Holding.{on}
use Rattle.ib_levels.proofs.Counts.{by_equal}
use Rattle.ib_layout.specs.Geometry.{Sizes}
use Rattle.ib_layout.specs.Places.{end_place, log_place, latches_of}
use Rattle.ib_logrec.specs.declared.entry.Entry.{Entry}
use Rattle.ib_logrec.specs.Log.{used}
use Rattle.ib_core.specs.declared.session.Session.{Session}
use Rattle.ib_core.specs.Sessions.{reads, claims, holdings}
use Rattle.ib_core.specs.Good.{IsProper}
use Rattle.ib_core.proofs.OnLatch.{counted}
use Rattle.ib_core.proofs.Elements.{at_set, set_else, same_at, sum_at}
use Rattle.atomic_table.proofs.Lists.{at_map}
use Rattle.std.proofs.lemmas.List.{map-set}
use Rattle.ib_core.proofs.Turned.{choose}
use Rattle.ib_core.proofs.Weighs.{reads_none}
use Rattle.ib_core.specs.declared.latch_word.LatchWord.{LatchWord}
use Rattle.ib_core.specs.declared.latch_word.LatchWord.TheVariants.{Lock, Waiters, Writer, Generation, ExGeneration}
use Rattle.ib_core.proofs.NumberTests.{some_by}
use Rattle.ib_rule.specs.declared.memory.Since.{Since}
use Rattle.ib_rule.specs.declared.memory.Loaded.{Loaded}
use Rattle.ib_rule.specs.declared.memory.OpenAppend.{OpenAppend}
use Rattle.ib_rule.specs.declared.memory.Knowledge.{Knowledge}
use Rattle.ib_rule.specs.declared.view.View.{View}
use Rattle.ib_rule.specs.Steps.{latch_word_place}
use Rattle.std.specs.List.{AllByRecursion}
use Rattle.ib_rule.specs.Memory.{base, latch_at, Watches, SinceFact, LoadedFact, IsAppending, stored_in, EndedFact, Follows}
use Rattle.ib_rule.specs.Rule.{MemoryPart}
use Rattle.ib_rule.specs.Views.{memory_left, role_of}
use Rattle.ib_rule.specs.Roles.{drawn_in, ended_in, session_number_of}

-- only the log's end, the page words and the log words count
abbrev pub SameMemory : Sizes → List ℕ → List ℕ → Type 0
SameMemory sizes words ws = (q : ℕ) → (q ≡ end_place) ⊎ (base sizes ≤ q) → slice_index ws q ≡ slice_index words q

pub far_from : (sizes : Sizes) (words : List ℕ) (p n : ℕ) → p ≢ end_place → p < base sizes → SameMemory sizes words (set words p n)
far_from sizes words p n here below q far = get_or-set_other words p q n 0 (λ e. ⊎_elim (λ (one : q ≡ end_place). here (omega arith)) (λ (up : base sizes ≤ q). omega arith) far)

pub latch_far : (sizes : Sizes) (words : List ℕ) (c : LatchWord) (l n : ℕ) → l < latches_of sizes → SameMemory sizes words (set words (latch_word_place c l) n)
latch_far sizes words Lock l n inside = far_from sizes words (latch_word_place Lock l) n (λ e. omega arith) (omega arith)
latch_far sizes words Waiters l n inside = far_from sizes words (latch_word_place Waiters l) n (λ e. omega arith) (omega arith)
latch_far sizes words Writer l n inside = far_from sizes words (latch_word_place Writer l) n (λ e. omega arith) (omega arith)
latch_far sizes words Generation l n inside = far_from sizes words (latch_word_place Generation l) n (λ e. omega arith) (omega arith)
latch_far sizes words ExGeneration l n inside = far_from sizes words (latch_word_place ExGeneration l) n (λ e. omega arith) (omega arith)

module _ (sizes : Sizes) (lawful : List Entry → Type 0) (opening : ℕ → ℕ) (words ws : List ℕ) (same : SameMemory sizes words ws) (log : List Entry) where
  -- what follows the log does so with other words of latches
  follows_words : (number : ℕ) (a : Session) (m : Knowledge) → Follows sizes lawful opening words log number a m → Follows sizes lawful opening ws log number a m
  follows_words number a m f = record { met = f.met; seen = f.seen; mine = f.mine; since = f.since; loaded = f.loaded; append = still m.append f.append }
    where
      still : (o : Option OpenAppend) → IsAppending sizes lawful words log number a m o → IsAppending sizes lawful ws log number a m o
      still None w = tt
      still (Some o) w = record {
        fits = w.fits;
        whole = w.whole;
        pages_done = λ q h. let d = w.pages_done q h in (d.0, same (base sizes + q) (inr (omega arith)) ∙ d.1);
        words_done = λ j h. let d = w.words_done j h in (d.0, same (log_place sizes (used log + j)) (inr (omega arith)) ∙ d.1);
      }

-- one view changes
pub view_part : (sizes : Sizes) (lawful : List Entry → Type 0) (opening : ℕ → ℕ) (words ws : List ℕ) (log : List Entry) (views : List View) (id : ℕ) (v w : View)
    → (part : MemoryPart sizes lawful opening words log views) → get_elem? views id ≡ some v → SameMemory sizes words ws
    → drawn_in v.role ≤ drawn_in w.role
    → Follows sizes lawful opening words log (session_number_of w.role) w.session w.memory
    → AllByRecursion (EndedFact log) (ended_in w.role)
    → ((q : ℕ) → stored_in w.memory.append q ≡ false → stored_in v.memory.append q ≡ false)
    → MemoryPart sizes lawful opening ws log (set views id w)
view_part sizes lawful opening words ws log views id v w part at same drawn follows ended closed = record {
  legal = part.legal;
  grammar = part.grammar;
  short = part.short;
  room = part.room;
  had_room = part.had_room;
  end = same end_place (inl refl) ∙ part.end;
  logged = λ u h. same (log_place sizes u) (inr (omega arith)) ∙ part.logged u h;
  paged = λ q h none. same (base sizes + q) (inr (omega arith)) ∙ part.paged q h (λ i u e. dite (ℕ_discrete id i)
      (λ here. let is : u ≡ v = same_at views id u v (subst (λ i. get_elem? views i ≡ some u) (sym here) e) at in
      subst (λ (u : View). stored_in u.memory.append q ≡ false) (sym is) (closed q (none id w (Rattle.ib_core.proofs.Elements.set_here views id v w at))))
      (λ away. none i u (set_else views id i w away ∙ e)));
  follows = at_set (λ _ u. Follows sizes lawful opening ws log (session_number_of u.role) u.session u.memory) views id w
      (follows_words sizes lawful opening words ws same log (session_number_of w.role) w.session w.memory follows)
      (λ j u e _. follows_words sizes lawful opening words ws same log (session_number_of u.role) u.session u.memory (part.follows j u e));
  ended = at_set (λ _ u. AllByRecursion (EndedFact log) (ended_in u.role)) views id w ended (λ j u e _. part.ended j u e);
  undrawn = λ n h. part.undrawn n (let t = sum_at drawn_in (map role_of views) id v.role w.role (at_map role_of views id v at) in let e = ap (λ rs. sum_by drawn_in rs) (map-set role_of views id w) in omega arith);
}

pub record Moves (l : ℕ) (a b : Session) : Type 0 where
  pub away : (k : ℕ) → l ≢ k → (f : Holding → ℕ) → on k f b.held ≡ on k f a.held
  pub class : 0 < holdings l a → 0 < holdings l b → reads l b ≡ reads l a

same_test : (m n : ℕ) → (0 < m → 0 < n) → (0 < n → 0 < m) → nat_lt 0 m ≡ nat_lt 0 n
same_test m n to from = dite (ℕ_discrete m 0)
    (λ z. let z' : n ≡ 0 = dite (ℕ_discrete n 0) (λ q. q) (λ q. let p : 0 < m = from (omega arith) in absurd (omega arith)) in grind (arith, nat_tests))
    (λ n'. let p : 0 < n = to (omega arith) in grind (arith, nat_tests))

module _ (l : ℕ) (a b : Session) (proper : IsProper a) (proper' : IsProper b) (moves : Moves l a b) where
  -- a latch that is still held is held in its class
  same_class : 0 < holdings l a → 0 < holdings l b → nat_lt 0 (claims l a) ≡ nat_lt 0 (claims l b)
  same_class was is =
      let s = moves.class was is in let k = counted l a (proper.single l) in let k' = counted l b (proper'.single l) in let g = proper.solid l in let g' = proper'.solid l in
      same_test (claims l a) (claims l b)
      (λ h. let r = reads_none l a proper h in omega arith)
      (λ h. let r = reads_none l b proper' h in omega arith)

  watches : (s : Since) → (s.latch ≡ l → 0 < holdings l b) → Watches a s → Watches b s
  watches s still w = dite (ℕ_discrete l s.latch)
      (λ here.
      let was : 0 < holdings l a = subst (λ k. 0 < holdings k a) (sym here) w.held in let is : 0 < holdings l b = still (sym here) in
      record { held = subst (λ k. 0 < holdings k b) here is; class = w.class ∙ subst (λ k. nat_lt 0 (claims k a) ≡ nat_lt 0 (claims k b)) here (same_class was is) })
      (λ away. record {
        held = let e = moves.away s.latch away (λ h. 1) in let h = w.held in omega arith;
        class = w.class ∙ ap (λ (n : ℕ). nat_lt 0 n) (sym (moves.away s.latch away (λ h. h.sx + h.x)));
      })

  still_since : (n k : ℕ) (log : List Entry) (xs : List Since) → AllByRecursion (SinceFact n a k log) xs → AllByRecursion (SinceFact n b k log) (filter (λ since. not (since.latch == l) || nat_lt 0 (holdings l b)) xs)
  still_since n k log [] each = tt
  still_since n k log (x ∷ xs) each =
      by_equal (λ t. AllByRecursion (SinceFact n b k log) (cond (not t || nat_lt 0 (holdings l b)) (x ∷ filter (λ since. not (since.latch == l) || nat_lt 0 (holdings l b)) xs) (filter (λ since. not (since.latch == l) || nat_lt 0 (holdings l b)) xs))) x.latch l
      (λ here. choose (λ ys. AllByRecursion (SinceFact n b k log) ys) (nat_lt 0 (holdings l b)) _ _
      (λ held. ((watches x (λ _. some_by (holdings l b) held) each.0.0, each.0.1, each.0.2), still_since n k log xs each.1))
      (λ _. still_since n k log xs each.1))
      (λ away. ((watches x (λ q. absurd (away q)) each.0.0, each.0.1, each.0.2), still_since n k log xs each.1))

  still_loaded : (opening : ℕ → ℕ) (log : List Entry) (xs : List Loaded) → AllByRecursion (LoadedFact opening a log) xs → AllByRecursion (LoadedFact opening b log) (filter (λ x. not (latch_at x.place == l) || nat_lt 0 (holdings l b)) xs)
  still_loaded opening log [] each = tt
  still_loaded opening log (x ∷ xs) each =
      by_equal (λ t. AllByRecursion (LoadedFact opening b log) (cond (not t || nat_lt 0 (holdings l b)) (x ∷ filter (λ x. not (latch_at x.place == l) || nat_lt 0 (holdings l b)) xs) (filter (λ x. not (latch_at x.place == l) || nat_lt 0 (holdings l b)) xs))) (latch_at x.place) l
      (λ here. choose (λ ys. AllByRecursion (LoadedFact opening b log) ys) (nat_lt 0 (holdings l b)) _ _
      (λ held. ((subst (λ k. 0 < holdings k b) (sym here) (some_by (holdings l b) held), each.0.1), still_loaded opening log xs each.1))
      (λ _. still_loaded opening log xs each.1))
      (λ away. ((let e = moves.away (latch_at x.place) (λ q. away (sym q)) (λ h. 1) in let h = each.0.0 in omega arith, each.0.1), still_loaded opening log xs each.1))

  -- the one lemma of latch steps: what the session knows of the memory stays, but for what ends with the last grant
  pub follows_left : (sizes : Sizes) (lawful : List Entry → Type 0) (opening : ℕ → ℕ) (words : List ℕ) (log : List Entry) (number : ℕ) (m : Knowledge) → m.append ≡ None
      → Follows sizes lawful opening words log number a m → Follows sizes lawful opening words log number b (memory_left l b m)
  follows_left sizes lawful opening words log number m closed f = record {
    met = f.met;
    seen = f.seen;
    mine = f.mine;
    since = still_since number (length m.seen) log m.since f.since;
    loaded = still_loaded opening log m.loaded f.loaded;
    append = subst (λ o. IsAppending sizes lawful words log number b (memory_left l b m) o) (sym closed) tt;
  }
