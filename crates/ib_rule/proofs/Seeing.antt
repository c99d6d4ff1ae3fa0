-- The loads of page words, of words of the log, and of the log's end.
use Rattle.std.proofs.Common.{◌≡◌, ◌≢◌, ◌⊎◌, ℕ, ◌+◌, ◌<◌, ◌≤◌, Bool, true, false, List, [], ◌∷◌, ◌++◌, length, get_or, refl, sym, ap, ◌∙◌, subst, arith, length-append}
use Rattle.std.specs.Prelude.{slice_index, slice_index_or, nat_lt, Option, Some, None}
use Rattle.std.specs.List.{AllByRecursion}
use Rattle.std.proofs.Math.Seq.{drop-length}
use Rattle.std.proofs.Math.ListN.{get_or-append}
use Rattle.std.proofs.lemmas.Nat.{div-mul-add}
use mathlib.Core.Logic.{dite}
use mathlib.Core.Option.{some}
use lib.ListN.{get_elem?}
use native.Mathlib.Decide.{ℕ_discrete}
use Rattle.atomic_table.specs.Table.{State, Me, keeps, stepped, Allows}
use Rattle.ib_map.specs.declared.TheConstants.{PAGE_WORDS}
use Rattle.ib_map.specs.Writes.{page_at, word_place}
use Rattle.ib_levels.specs.declared.holding.Holding.{Holding}
use Rattle.ib_levels.specs.Holding.{on}
use Rattle.ib_levels.proofs.Counts.{on-cons, part-here}
use Rattle.ib_layout.specs.Geometry.{Sizes}
use Rattle.ib_layout.specs.Places.{page_place, log_place, end_place}
use Rattle.ib_logrec.specs.declared.entry.Entry.{Entry}
use Rattle.ib_logrec.specs.Log.{by_place, memory_after, log_words, used}
use Rattle.ib_logrec.proofs.LogLaws.{log_words-append}
use Rattle.ib_core.specs.Sessions.{claims, holdings}
use Rattle.ib_core.proofs.Elements.{same_at}
use Rattle.ib_core.proofs.Turned.{choose}
use Rattle.ib_rule.specs.declared.kind.StepKind.TheVariants.{LoadPage, LoadEnd, LoadLog}
use Rattle.ib_rule.specs.declared.memory.Since.{Since}
use Rattle.ib_rule.specs.declared.memory.OpenAppend.{OpenAppend}
use Rattle.ib_rule.specs.declared.view.View.{View}
use Rattle.ib_rule.specs.Memory.{conflicts, base, page_places, latch_at, SinceFact, IsAppending, stored_in, has}
use Rattle.ib_rule.specs.Roles.{live, session_number_of}
use Rattle.ib_rule.specs.Views.{loading, reaching, is_watched, watches_from}
use Rattle.ib_rule.specs.Rule.{RuleHolds}
use Rattle.ib_rule.specs.Told.{tells}
use Rattle.ib_rule.proofs.Alone.{alone, number_live}
use Rattle.ib_rule.proofs.Knowing.{knows, old_since, prefix_short}
use Rattle.ib_rule.proofs.Looking.{looked}
use Rattle.ib_rule.proofs.Watching.{untouched, word_stays}
use Rattle.ib_rule.proofs.Lists.{each_append, nil_append}
use Rattle.ib_rule.proofs.Moves.{proper_now, known_now, few_now, taken_now}
use Rattle.ib_rule.proofs.Words.{set_same}

pub page_latch : (page index : ℕ) → index < PAGE_WORDS → latch_at (word_place page index) ≡ page + 2
page_latch page index small = ap (λ (n : ℕ). n + 2) (div-mul-add page PAGE_WORDS index small)

module _ (lawful : ℕ → List Entry → Type 0) (opening : ℕ → ℕ → ℕ → ℕ) (sizes : Sizes) where
  module _ (s : State (Unit {0}) View) (kept : RuleHolds lawful opening sizes s) (id : ℕ) (v : View) (at : get_elem? s.views id ≡ some v) where
    -- nobody stores in a page that another holds
    unstored : (q : ℕ) → v.memory.append ≡ None → 0 < holdings (latch_at q) v.session → (i : ℕ) (u : View) → get_elem? s.views i ≡ some u → stored_in u.memory.append q ≡ false
    unstored q closed held i u e = dite (ℕ_discrete id i)
        (λ here. let is : u ≡ v = same_at s.views id u v (subst (λ i. get_elem? s.views i ≡ some u) (sym here) e) at in
        ap (λ (u : View). stored_in u.memory.append q) is ∙ ap (λ o. stored_in o q) closed)
        (λ away. by_append away u.memory.append (kept.memory.follows i u e).append)
      where
        by_append : id ≢ i → (o : Option OpenAppend) → IsAppending sizes (lawful sizes.pages) s.words kept.log (session_number_of u.role) u.session u.memory o → stored_in o q ≡ false
        by_append away None w = refl
        by_append away (Some o) w = by_test (has q o.places) refl
          where
            by_test : (b : Bool) → has q o.places ≡ b → b ≡ false
            by_test false is = refl
            by_test true is =
                let x = (w.fits.pages_x q (w.pages_done q is).0).1 in
                let none = alone lawful opening sizes s kept i id u v e at (λ z. away (sym z)) w.fits.free (latch_at q) x in absurd (omega arith)

    found_right : (q : ℕ) → q < page_places sizes → v.memory.append ≡ None → 0 < holdings (latch_at q) v.session → slice_index s.words (base sizes + q) ≡ memory_after (by_place opening sizes.pages) kept.log q
    found_right q inside closed held = kept.memory.paged q inside (unstored q closed held)

    -- what the log has beyond what is seen writes no page whose latch is watched
    settled : (live v.role ≡ 0 → ⊥) → (q : ℕ) → is_watched (latch_at q) v.memory.since ≡ true → memory_after (by_place opening sizes.pages) kept.log q ≡ memory_after (by_place opening sizes.pages) v.memory.seen q
    settled alive q watched =
        let f = kept.memory.follows id v at in
        let look = looked sizes (lawful sizes.pages) (by_place opening sizes.pages) v (slice_index s.words end_place) kept.log record {
          longer = f.seen;
          legal = kept.memory.legal;
          end = kept.memory.end;
          few = kept.memory.short;
          room = kept.memory.room;
          mine = f.mine (number_live lawful opening sizes s kept id v at alive);
          since = f.since;
          loaded = f.loaded;
        } in
        ap (λ log. memory_after (by_place opening sizes.pages) log q) (sym look.longer)
        ∙ word_stays (by_place opening sizes.pages) v.memory.seen look.others q (untouched (session_number_of v.role) (page_at q) v.memory.since look.others watched look.harmless)

  -- each latch that is held has a since from now on
  starts_right : (v : View) (n : ℕ) (log : List Entry) (hs : List Holding) (ss : List Since) → ((l : ℕ) → on l (λ h. 1) hs ≤ holdings l v.session) → AllByRecursion (SinceFact n v.session (length log) log) (watches_from v.session hs ss (length log))
  starts_right v n log [] ss within = tt
  starts_right v n log (h ∷ hs) ss within =
      choose (λ xs. AllByRecursion (SinceFact n v.session (length log) log) xs) (is_watched h.latch.0 ss) (watches_from v.session hs ss (length log)) _
      (λ _. starts_right v n log hs ss (λ l. let a = on-cons l (λ h. 1) h hs in let b = within l in omega arith))
      (λ _. (
        (
          record { held = let a = on-cons h.latch.0 (λ h. 1) h hs in let b = part-here h.latch.0 (λ h. 1) h refl in let c = within h.latch.0 in omega arith; class = refl },
          omega arith,
          subst (λ (xs : List Entry). AllByRecursion (λ (e : Entry). (e.session ≡ n) ⊎ (conflicts e (record { latch = h.latch.0; claims = nat_lt 0 (claims h.latch.0 v.session); place = length log }) ≡ false)) xs) (sym (drop-length log)) tt,
        ),
        starts_right v n log hs ss (λ l. let a = on-cons l (λ h. 1) h hs in let b = within l in omega arith),
      ))

  module _ (entry : Entry) (slots id : ℕ) (me : Me (Unit {0}) View) where
    -- a word of a page that is held
    page_allowed : (live me.0.role ≡ 0 → ⊥) → (q : ℕ) → q < page_places sizes → me.0.memory.append ≡ None → 0 < holdings (latch_at q) me.0.session → Allows (RuleHolds lawful opening sizes) slots id me (base sizes + q) (λ n. n) (tells lawful opening sizes entry (LoadPage q) (λ n. n) me)
    page_allowed alive q inside closed held s k _ at _ =
        let n : ℕ = slice_index s.words (base sizes + q) in
        let f = k.memory.follows id me.0 at in
        let after : RuleHolds lawful opening sizes (stepped s (base sizes + q) (slice_index s.words (base sizes + q)) id me.1 (loading q (slice_index s.words (base sizes + q)) me.0) keeps) =
        knows lawful opening sizes s k id me.0 at (base sizes + q) (slice_index s.words (base sizes + q)) me.0.looks (loading q (slice_index s.words (base sizes + q)) me.0).memory me.1
        (set_same s.words (base sizes + q) (let z = k.sized in omega arith))
        record {
          met = f.met;
          seen = f.seen;
          mine = f.mine;
          since = f.since;
          loaded = ((held, λ _. found_right s k id me.0 at q inside closed held), f.loaded);
          append = subst (λ o. IsAppending sizes (lawful sizes.pages) s.words k.log (session_number_of me.0.role) me.0.session (loading q n me.0).memory o) (sym closed) tt;
        }
        (λ q h. h) in (
          loading q n me.0,
          keeps,
          tt,
          after,
          (
            record {
              view = (refl, λ watched. found_right s k id me.0 at q inside closed held ∙ settled s k id me.0 at alive q watched);
              event = refl;
              proper = proper_now lawful opening sizes s _ _ id me.1 me.0 (loading q n me.0) at after;
              known = known_now lawful opening sizes s _ _ id me.1 me.0 (loading q n me.0) at after;
              range = tt;
              left = refl;
              few = few_now lawful opening sizes s _ _ id me.1 me.0 (loading q n me.0) at after;
              taken = taken_now lawful opening sizes s _ _ id me.1 me.0 (loading q n me.0) at after;
            },
            refl,
          ),
        )

    -- .. by its page and index
    pub page_allowed_at : (live me.0.role ≡ 0 → ⊥) → (p page index : ℕ) → p ≡ page_place sizes page index → page < sizes.pages → index < PAGE_WORDS → me.0.memory.append ≡ None → 0 < holdings (page + 2) me.0.session
        → Allows (RuleHolds lawful opening sizes) slots id me p (λ n. n) (tells lawful opening sizes entry (LoadPage (word_place page index)) (λ n. n) me)
    page_allowed_at alive p page index is inside small closed held =
        subst (λ p. Allows (RuleHolds lawful opening sizes) slots id me p (λ n. n) (tells lawful opening sizes entry (LoadPage (word_place page index)) (λ n. n) me)) (let z : base sizes + word_place page index ≡ p = omega arith in z)
        (page_allowed alive (word_place page index) (omega arith) closed (subst (λ l. 0 < holdings l me.0.session) (sym (page_latch page index small)) held))

    -- a word of the log, of those of the entries seen
    pub log_allowed_at : (p w : ℕ) → p ≡ log_place sizes w → w < used me.0.memory.seen → Allows (RuleHolds lawful opening sizes) slots id me p (λ n. n) (tells lawful opening sizes entry (LoadLog w) (λ n. n) me)
    log_allowed_at p w is below = subst (λ p. Allows (RuleHolds lawful opening sizes) slots id me p (λ n. n) (tells lawful opening sizes entry (LoadLog w) (λ n. n) me)) (sym is) at_log
      where
        at_log : Allows (RuleHolds lawful opening sizes) slots id me (log_place sizes w) (λ n. n) (tells lawful opening sizes entry (LoadLog w) (λ n. n) me)
        at_log s k _ at _ =
            let f = k.memory.follows id me.0 at in let seen : List Entry = me.0.memory.seen in
            let rest : List Entry = f.seen.0 in
            let whole : log_words k.log ≡ log_words seen ++ log_words rest = ap log_words (sym f.seen.1) ∙ log_words-append seen rest in
            let more : used k.log ≡ used seen + used rest = ap length whole ∙ length-append (log_words seen) (log_words rest) in
            let word : slice_index s.words (log_place sizes w) ≡ slice_index_or (log_words seen) w 0 = k.memory.logged w (omega arith) ∙ (ap (λ l. get_or l w 0) whole ∙ get_or-append (log_words seen) (log_words rest) 0 w below) in
            let after : RuleHolds lawful opening sizes (stepped s (log_place sizes w) (slice_index s.words (log_place sizes w)) id me.1 me.0 keeps) =
            knows lawful opening sizes s k id me.0 at (log_place sizes w) (slice_index s.words (log_place sizes w)) me.0.looks me.0.memory me.1
            (set_same s.words (log_place sizes w) (let z = k.sized in let r = k.memory.room in omega arith)) f (λ q h. h) in (
              me.0,
              keeps,
              tt,
              after,
              (
                record {
                  view = (refl, word);
                  event = refl;
                  proper = proper_now lawful opening sizes s _ _ id me.1 me.0 me.0 at after;
                  known = known_now lawful opening sizes s _ _ id me.1 me.0 me.0 at after;
                  range = tt;
                  left = refl;
                  few = few_now lawful opening sizes s _ _ id me.1 me.0 me.0 at after;
                  taken = taken_now lawful opening sizes s _ _ id me.1 me.0 me.0 at after;
                },
                refl,
              ),
            )

    -- the log's end: all of the log is seen
    pub end_allowed : (live me.0.role ≡ 0 → ⊥) → Allows (RuleHolds lawful opening sizes) slots id me end_place (λ n. n) (tells lawful opening sizes entry LoadEnd (λ n. n) me)
    end_allowed alive s k _ at _ =
        let n : ℕ = slice_index s.words end_place in
        let f = k.memory.follows id me.0 at in
        let short = prefix_short me.0.memory.seen k.log f.seen in
        let w : View = reaching k.log me.0 in
        let after : RuleHolds lawful opening sizes (stepped s end_place (slice_index s.words end_place) id me.1 (reaching k.log me.0) keeps) =
        knows lawful opening sizes s k id me.0 at end_place (slice_index s.words end_place) me.0.looks (reaching k.log me.0).memory me.1
        (set_same s.words end_place (let z = k.sized in omega arith))
        record {
          met = f.met;
          seen = ([], nil_append k.log);
          mine = λ h. ((f.mine h).0, (f.mine h).0);
          since = each_append (SinceFact (session_number_of me.0.role) me.0.session (length k.log) k.log) me.0.memory.since _
              (old_since (session_number_of me.0.role) (length me.0.memory.seen) (length k.log) me.0.session k.log short me.0.memory.since f.since)
              (starts_right me.0 (session_number_of me.0.role) k.log me.0.session.held me.0.memory.since (λ l. omega arith));
          loaded = f.loaded;
          append = still s.words k.log me.0.memory.append f.append;
        }
        (λ q h. h) in (
          reaching k.log me.0,
          keeps,
          tt,
          after,
          (
            record {
              view = (
                refl,
                record {
                  longer = f.seen;
                  legal = k.memory.legal;
                  end = k.memory.end;
                  few = k.memory.short;
                  room = k.memory.room;
                  mine = f.mine (number_live lawful opening sizes s k id me.0 at alive);
                  since = f.since;
                  loaded = f.loaded;
                },
              );
              event = refl;
              proper = proper_now lawful opening sizes s _ _ id me.1 me.0 (reaching k.log me.0) at after;
              known = known_now lawful opening sizes s _ _ id me.1 me.0 (reaching k.log me.0) at after;
              range = tt;
              left = refl;
              few = few_now lawful opening sizes s _ _ id me.1 me.0 (reaching k.log me.0) at after;
              taken = taken_now lawful opening sizes s _ _ id me.1 me.0 (reaching k.log me.0) at after;
            },
            refl,
          ),
        )
      where
        still : (words : List ℕ) (log : List Entry) (o : Option OpenAppend) → IsAppending sizes (lawful sizes.pages) words log (session_number_of me.0.role) me.0.session me.0.memory o
            → IsAppending sizes (lawful sizes.pages) words log (session_number_of me.0.role) me.0.session (reaching log me.0).memory o
        still words log None w = tt
        still words log (Some o) w = record { fits = w.fits; whole = refl; pages_done = w.pages_done; words_done = w.words_done }
