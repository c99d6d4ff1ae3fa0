-- The words of a table as its space opens: first the lock words, then those of the pages.
use Rattle.std.specs.Prelude.{◌≡◌, ◌≢◌, ℕ, ◌+◌, ◌<◌, List, length, slice_index}
use Rattle.ib_word.specs.declared.word.TheConstants.{X_LOCK_DECR, WORD_BIAS}
use Rattle.ib_layout.specs.Geometry.{Sizes}
use Rattle.ib_layout.specs.Places.{lock_place}
use Rattle.ib_logrec.specs.Log.{by_place}
use Rattle.ib_rule.specs.Memory.{base}

-- the first latches are free, and all other words are as before
pub record AreFreed (latches : ℕ) (old new : List ℕ) : Type 0 where
  pub sized : length new ≡ length old
  pub freed : (l : ℕ) → l < latches → slice_index new (lock_place l) ≡ WORD_BIAS + X_LOCK_DECR
  pub others : (p : ℕ) → ((l : ℕ) → l < latches → lock_place l ≢ p) → slice_index new p ≡ slice_index old p

-- the first page words are the law's, and all words before the pages are as before
pub record AreOpened (opening : ℕ → ℕ → ℕ → ℕ) (sizes : Sizes) (places : ℕ) (old new : List ℕ) : Type 0 where
  pub sized : length new ≡ length old
  pub opened : (q : ℕ) → q < places → slice_index new (base sizes + q) ≡ by_place opening sizes.pages q
  pub before : (p : ℕ) → p < base sizes → slice_index new p ≡ slice_index old p
