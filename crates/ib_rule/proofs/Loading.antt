-- A page that is loaded word by word.
use Rattle.std.proofs.Common.{◌≡◌, ℕ, zero, suc, ◌+◌, ◌<◌, ◌≤◌, true, List, [], ◌∷◌, ◌++◌, length, refl, sym, ap, ◌∙◌, subst, arith, get_or-set_same, get_or-set_other}
use Rattle.std.specs.Prelude.{slice_index, slice_set}
use mathlib.Core.Logic.{dite}
use native.Mathlib.Decide.{ℕ_discrete}
use Rattle.ib_map.specs.declared.TheConstants.{PAGE_WORDS}
use Rattle.ib_map.specs.Writes.{word_place}
use Rattle.ib_logrec.specs.Log.{memory_after}
use Rattle.ib_rule.specs.declared.memory.Loaded.{Loaded}
use Rattle.ib_rule.specs.declared.view.View.{View}
use Rattle.ib_rule.specs.Views.{is_watched, loading, with_memory}
use Rattle.ib_rule.specs.Told.{IsWatchedWord}
use Rattle.ib_rule.specs.Loads.{AreSettled, HasLoaded, loads_below, with_loaded}
use Rattle.ib_rule.proofs.Seeing.{page_latch}

loads_none : (page : ℕ) (image : List ℕ) → loads_below page image 0 ≡ []
unfolding loads_below
loads_none page image = refl

loads_more : (page : ℕ) (image : List ℕ) (n : ℕ) → loads_below page image (n + 1) ≡ record { place = word_place page n; value = slice_index image n; is_fresh = true } ∷ loads_below page image n
unfolding loads_below
loads_more page image n = ap (λ (k : ℕ). loads_below page image k) (let e : n + 1 ≡ suc n = omega arith in e)

-- a word behind them changes none of them
loads_same : (page : ℕ) (image : List ℕ) (i x n : ℕ) → n ≤ i → loads_below page (slice_set image i x) n ≡ loads_below page image n
unfolding loads_below
loads_same page image i x zero h = refl
loads_same page image i x (suc n) h = λ j.
    record { place = word_place page n; value = get_or-set_other image i n x 0 (λ e. omega arith) j; is_fresh = true } ∷ loads_same page image i x n (omega arith) j

loaded_none : (page : ℕ) (out : List ℕ) (v : View) → v ≡ with_loaded page out 0 v
loaded_none page out v = ap (λ (l : List Loaded). record v { memory = record v.memory { loaded = l ++ v.memory.loaded } }) (sym (loads_none page out))

module _ (start now next : View) (page i x : ℕ) (out : List ℕ) (room : i < length out) (same : now ≡ with_loaded page out i start) where
  -- one word more is loaded
  loaded_more : next ≡ loading (word_place page i) x now → next ≡ with_loaded page (slice_set out i x) (i + 1) start
  loaded_more is =
      is ∙ (ap (λ (v : View). loading (word_place page i) x v) same
      ∙ ap (λ (l : List Loaded). record start { memory = record start.memory { loaded = l ++ start.memory.loaded } }) (sym more))
    where
      more : loads_below page (slice_set out i x) (i + 1) ≡ record { place = word_place page i; value = x; is_fresh = true } ∷ loads_below page out i
      more = loads_more page (slice_set out i x) i ∙ (λ j. record { place = word_place page i; value = get_or-set_same out i x 0 room j; is_fresh = true } ∷ loads_same page out i x i (omega arith) j)

  -- .. and is that of the page, where its latch is watched
  settled_more : (opening : ℕ → ℕ) → i < PAGE_WORDS → IsWatchedWord opening now (word_place page i) x → AreSettled opening page out i start → AreSettled opening page (slice_set out i x) (i + 1) start
  settled_more opening small is before watched k h = dite (ℕ_discrete i k)
      (λ here. subst (λ (k : ℕ). slice_index (slice_set out i x) k ≡ memory_after opening start.memory.seen (word_place page k)) here
      (get_or-set_same out i x 0 room ∙ subst (λ (v : View). IsWatchedWord opening v (word_place page i) x) same is (subst (λ (l : ℕ). is_watched l start.memory.since ≡ true) (sym (page_latch page i small)) watched)))
      (λ away. get_or-set_other out i k x 0 (λ e. away (sym e)) ∙ before watched k (omega arith))

module _ (opening : ℕ → ℕ) (page : ℕ) (start : View) where
  pub has_none : (out : List ℕ) → HasLoaded opening page start out 0 start
  has_none out = record { view = loaded_none page out start; settled = λ watched k h. absurd (omega arith) }

  pub has_more : (now next : View) (i x : ℕ) (out : List ℕ) → i < length out → i < PAGE_WORDS → next ≡ loading (word_place page i) x now → IsWatchedWord opening now (word_place page i) x → HasLoaded opening page start out i now
      → HasLoaded opening page start (slice_set out i x) (i + 1) next
  has_more now next i x out room small is settled has = record {
    view = loaded_more start now next page i x out room has.view is;
    settled = settled_more start now next page i x out room has.view opening small settled has.settled;
  }

-- loads change what is loaded, and nothing else
pub only_loads : (start now next : View) (q x : ℕ) → now ≡ with_memory (record start.memory { loaded = now.memory.loaded }) start → next ≡ loading q x now → next ≡ with_memory (record start.memory { loaded = next.memory.loaded }) start
only_loads start now next q x same is =
    is ∙ (ap (λ (v : View). loading q x v) same ∙ ap (λ (l : List Loaded). with_memory (record start.memory { loaded = l }) start) (sym (ap (λ (v : View). v.memory.loaded) is)))
