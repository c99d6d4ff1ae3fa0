-- The stores of an open append are allowed by the rule.
use Rattle.std.proofs.Common.{◌≡◌, ℕ, ◌+◌, ◌*◌, ◌^◌, ◌<◌, true, List, length, refl, sym, subst, arith}
use Rattle.std.specs.Prelude.{slice_index_or}
use Rattle.atomic_table.specs.Table.{Me, keeps, Allows}
use Rattle.ib_map.specs.Writes.{word_place, stored, writes_at}
use Rattle.ib_layout.specs.Geometry.{Sizes}
use Rattle.ib_layout.specs.Places.{page_place, end_place, log_place}
use Rattle.ib_logrec.specs.declared.entry.Entry.{Entry}
use Rattle.ib_logrec.specs.Words.{words_of_entry}
use Rattle.ib_logrec.specs.Log.{used}
use Rattle.ib_rule.specs.declared.kind.StepKind.TheVariants.{StorePage, StoreLog, StoreEnd}
use Rattle.ib_rule.specs.declared.view.View.{View}
use Rattle.ib_rule.specs.Memory.{base}
use Rattle.ib_rule.specs.Rule.{RuleHolds}
use Rattle.ib_rule.specs.Told.{tells}
use Rattle.ib_rule.specs.Stores.{storing_page, storing_word, appending, IsReady, AllStored}
use Rattle.ib_rule.proofs.Moves.{proper_now, known_now, few_now, taken_now}
use Rattle.ib_rule.proofs.Storing.{stores_page, stores_word, appends}

module _ (lawful : ℕ → List Entry → Type 0) (opening : ℕ → ℕ → ℕ → ℕ) (sizes : Sizes) (e : Entry) (slots id : ℕ) (me : Me (Unit {0}) View) (ready : IsReady sizes (lawful sizes.pages) me.0 e) where
  -- a store of one word of a page
  pub store_page_allowed : (p page index x : ℕ) → p ≡ page_place sizes page index → writes_at (word_place page index) e.writes ≡ true → x ≡ stored e.writes (word_place page index) 0
      → Allows (RuleHolds lawful opening sizes) slots id me p (λ _. x) (tells lawful opening sizes e (StorePage (word_place page index) x) (λ _. x) me)
  store_page_allowed p page index x is here word =
      subst (λ p. Allows (RuleHolds lawful opening sizes) slots id me p (λ _. x) (tells lawful opening sizes e (StorePage (word_place page index) x) (λ _. x) me)) (let z : base sizes + word_place page index ≡ p = omega arith in z) (at_base (word_place page index) here word)
    where
      at_base : (q : ℕ) → writes_at q e.writes ≡ true → x ≡ stored e.writes q 0 → Allows (RuleHolds lawful opening sizes) slots id me (base sizes + q) (λ _. x) (tells lawful opening sizes e (StorePage q x) (λ _. x) me)
      at_base q here word s k _ at _ =
          let after = stores_page lawful opening sizes s k id me.0 at e ready q x me.1 here word in (
            storing_page e q me.0,
            keeps,
            tt,
            after,
            (
              record {
                view = refl;
                event = refl;
                proper = proper_now lawful opening sizes s _ _ id me.1 me.0 (storing_page e q me.0) at after;
                known = known_now lawful opening sizes s _ _ id me.1 me.0 (storing_page e q me.0) at after;
                range = tt;
                left = refl;
                few = few_now lawful opening sizes s _ _ id me.1 me.0 (storing_page e q me.0) at after;
                taken = taken_now lawful opening sizes s _ _ id me.1 me.0 (storing_page e q me.0) at after;
              },
              refl,
            ),
          )

  -- a store of one word of the entry in the log
  pub store_log_allowed : (p j x : ℕ) → p ≡ log_place sizes (used me.0.memory.seen + j) → j < length (words_of_entry e) → x ≡ slice_index_or (words_of_entry e) j 0
      → Allows (RuleHolds lawful opening sizes) slots id me p (λ _. x) (tells lawful opening sizes e (StoreLog j x) (λ _. x) me)
  store_log_allowed p j x is here word = subst (λ p. Allows (RuleHolds lawful opening sizes) slots id me p (λ _. x) (tells lawful opening sizes e (StoreLog j x) (λ _. x) me)) (sym is) at_log
    where
      at_log : Allows (RuleHolds lawful opening sizes) slots id me (log_place sizes (used me.0.memory.seen + j)) (λ _. x) (tells lawful opening sizes e (StoreLog j x) (λ _. x) me)
      at_log s k _ at _ =
          let after = stores_word lawful opening sizes s k id me.0 at e ready j x me.1 here word in (
            storing_word e j me.0,
            keeps,
            tt,
            after,
            (
              record {
                view = refl;
                event = refl;
                proper = proper_now lawful opening sizes s _ _ id me.1 me.0 (storing_word e j me.0) at after;
                known = known_now lawful opening sizes s _ _ id me.1 me.0 (storing_word e j me.0) at after;
                range = tt;
                left = refl;
                few = few_now lawful opening sizes s _ _ id me.1 me.0 (storing_word e j me.0) at after;
                taken = taken_now lawful opening sizes s _ _ id me.1 me.0 (storing_word e j me.0) at after;
              },
              refl,
            ),
          )

  -- the append
  pub store_end_allowed : (n : ℕ) → AllStored e me.0.memory.append → n ≡ (length me.0.memory.seen + 1) * 2 ^ 32 + (used me.0.memory.seen + length (words_of_entry e))
      → Allows (RuleHolds lawful opening sizes) slots id me end_place (λ _. n) (tells lawful opening sizes e StoreEnd (λ _. n) me)
  store_end_allowed n every is s k _ at _ =
      let after = appends lawful opening sizes s k id me.0 at e ready n me.1 is every in (
        appending e me.0,
        keeps,
        tt,
        after,
        (
          record {
            view = refl;
            event = refl;
            proper = proper_now lawful opening sizes s _ _ id me.1 me.0 (appending e me.0) at after;
            known = known_now lawful opening sizes s _ _ id me.1 me.0 (appending e me.0) at after;
            range = tt;
            left = is;
            few = few_now lawful opening sizes s _ _ id me.1 me.0 (appending e me.0) at after;
            taken = taken_now lawful opening sizes s _ _ id me.1 me.0 (appending e me.0) at after;
          },
          refl,
        ),
      )
