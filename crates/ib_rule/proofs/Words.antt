-- What the words of a table tell of its latches, and what a change of one word leaves.
use Rattle.std.proofs.Common.{◌≡◌, ◌≢◌, ℕ, zero, suc, ◌+◌, ◌<◌, ◌≤◌, true, false, cond, List, [], ◌∷◌, set, get_or, length, refl, sym, ap, subst, arith, get_or-set_same, get_or-set_other}
use Rattle.std.specs.Prelude.{slice_index, nat_lt}
use Rattle.std.proofs.lemmas.Bool.Decides.{nat_tests}
use Rattle.std.proofs.lemmas.Int.{ints}
use mathlib.Core.Logic.{dite}
use mathlib.Core.Option.{some}
use lib.ListN.{get_elem?}
use native.Mathlib.Decide.{ℕ_discrete}
use Rattle.ib_layout.specs.Geometry.{Sizes}
use Rattle.ib_layout.specs.Places.{lock_place, waiters_place, writer_place, gen_place, ex_gen_place, words_of, latches_of}
use Rattle.ib_core.specs.declared.session.Session.{Session}
use Rattle.ib_core.specs.Sessions.{word_on}
use Rattle.ib_core.proofs.Elements.{set_again}
use Rattle.ib_core.specs.declared.latch_word.LatchWord.{LatchWord}
use Rattle.ib_core.specs.declared.latch_word.LatchWord.TheVariants.{Lock, Waiters, Writer, Generation, ExGeneration}
use Rattle.ib_rule.specs.Steps.{latch_word_place}
use Rattle.ib_rule.specs.Rule.{marks_in, LatchPart, raises_in}
use Rattle.ib_core.specs.Turns.{Tells, with_mark}

pub is_inside : (l latches : ℕ) → l < latches → nat_lt l latches ≡ true
is_inside l latches h = grind (arith, nat_tests)

pub place_fits : (sizes : Sizes) (words : List ℕ) (l : ℕ) (c : LatchWord) → length words ≡ words_of sizes → l < latches_of sizes → latch_word_place c l < length words
place_fits sizes words l Lock sized inside = omega arith
place_fits sizes words l Waiters sized inside = omega arith
place_fits sizes words l Writer sized inside = omega arith
place_fits sizes words l Generation sized inside = omega arith
place_fits sizes words l ExGeneration sized inside = omega arith

at_get : (words : List ℕ) (p : ℕ) → p < length words → get_elem? words p ≡ some (get_or words p 0)
at_get [] p h = absurd (omega arith)
at_get (x ∷ xs) zero h = refl
at_get (x ∷ xs) (suc p) h = at_get xs p (omega arith)

pub set_same : (words : List ℕ) (p : ℕ) → p < length words → set words p (slice_index words p) ≡ words
set_same words p h = set_again words p (slice_index words p) (at_get words p h)

module _ (latches : ℕ) (words : List ℕ) (l : ℕ) (inside : l < latches) where
  -- the word found tells what the machine has there
  pub tells_by : (ss : List Session) → LatchPart latches words ss → (c : LatchWord) → Tells c (slice_index words (latch_word_place c l)) (word_on l ss) (marks_in latches words l)
  tells_by ss part Lock = let k = part.counted l inside in omega (arith, ints)
  tells_by ss part Waiters = sym (ap (λ b. cond b (nat_lt 0 (slice_index words (waiters_place l))) false) (is_inside l latches inside))
  tells_by ss part Writer = tt
  tells_by ss part Generation = sym (ap (λ b. cond b (slice_index words (gen_place l)) 0) (is_inside l latches inside))
  tells_by ss part ExGeneration = sym (ap (λ b. cond b (slice_index words (ex_gen_place l)) 0) (is_inside l latches inside))

  pub raises_are : raises_in words l ≡ (marks_in latches words l).generation + (marks_in latches words l).ex_generation
  raises_are =
      let g : (marks_in latches words l).generation ≡ slice_index words (gen_place l) = ap (λ b. cond b (slice_index words (gen_place l)) 0) (is_inside l latches inside) in
      let x : (marks_in latches words l).ex_generation ≡ slice_index words (ex_gen_place l) = ap (λ b. cond b (slice_index words (ex_gen_place l)) 0) (is_inside l latches inside) in omega arith

module _ (latches : ℕ) (words : List ℕ) (l n : ℕ) where
  -- a word that no mark is read from
  apart : (p k : ℕ) → waiters_place k ≢ p → gen_place k ≢ p → ex_gen_place k ≢ p → marks_in latches (set words p n) k ≡ marks_in latches words k
  apart p k a b c = λ j. record {
    waiters = cond (nat_lt k latches) (nat_lt 0 (get_or-set_other words p (waiters_place k) n 0 a j)) false;
    generation = cond (nat_lt k latches) (get_or-set_other words p (gen_place k) n 0 b j) 0;
    ex_generation = cond (nat_lt k latches) (get_or-set_other words p (ex_gen_place k) n 0 c j) 0;
  }

  pub marks_away : (c : LatchWord) (k : ℕ) → l ≢ k → marks_in latches (set words (latch_word_place c l) n) k ≡ marks_in latches words k
  marks_away Lock k d = apart (latch_word_place Lock l) k (λ e. omega arith) (λ e. omega arith) (λ e. omega arith)
  marks_away Waiters k d = apart (latch_word_place Waiters l) k (λ e. d (omega arith)) (λ e. omega arith) (λ e. omega arith)
  marks_away Writer k d = apart (latch_word_place Writer l) k (λ e. omega arith) (λ e. omega arith) (λ e. omega arith)
  marks_away Generation k d = apart (latch_word_place Generation l) k (λ e. omega arith) (λ e. d (omega arith)) (λ e. omega arith)
  marks_away ExGeneration k d = apart (latch_word_place ExGeneration l) k (λ e. omega arith) (λ e. omega arith) (λ e. d (omega arith))

  pub marks_here : (c : LatchWord) → l < latches → latch_word_place c l < length words → marks_in latches (set words (latch_word_place c l) n) l ≡ with_mark c n (marks_in latches words l)
  marks_here Lock inside fits = apart (latch_word_place Lock l) l (λ e. omega arith) (λ e. omega arith) (λ e. omega arith)
  marks_here Writer inside fits = apart (latch_word_place Writer l) l (λ e. omega arith) (λ e. omega arith) (λ e. omega arith)
  marks_here Waiters inside fits = λ j. record {
    waiters = cond (is_inside l latches inside j) (nat_lt 0 (get_or-set_same words (waiters_place l) n 0 fits j)) false;
    generation = cond (nat_lt l latches) (get_or-set_other words (waiters_place l) (gen_place l) n 0 (λ e. omega arith) j) 0;
    ex_generation = cond (nat_lt l latches) (get_or-set_other words (waiters_place l) (ex_gen_place l) n 0 (λ e. omega arith) j) 0;
  }
  marks_here Generation inside fits = λ j. record {
    waiters = cond (nat_lt l latches) (nat_lt 0 (get_or-set_other words (gen_place l) (waiters_place l) n 0 (λ e. omega arith) j)) false;
    generation = cond (is_inside l latches inside j) (get_or-set_same words (gen_place l) n 0 fits j) 0;
    ex_generation = cond (nat_lt l latches) (get_or-set_other words (gen_place l) (ex_gen_place l) n 0 (λ e. omega arith) j) 0;
  }
  marks_here ExGeneration inside fits = λ j. record {
    waiters = cond (nat_lt l latches) (nat_lt 0 (get_or-set_other words (ex_gen_place l) (waiters_place l) n 0 (λ e. omega arith) j)) false;
    generation = cond (nat_lt l latches) (get_or-set_other words (ex_gen_place l) (gen_place l) n 0 (λ e. omega arith) j) 0;
    ex_generation = cond (is_inside l latches inside j) (get_or-set_same words (ex_gen_place l) n 0 fits j) 0;
  }

  -- the lock word of another latch, and its flag
  pub lock_away : (c : LatchWord) (k : ℕ) → l ≢ k → slice_index (set words (latch_word_place c l) n) (lock_place k) ≡ slice_index words (lock_place k)
  lock_away Lock k d = get_or-set_other words (latch_word_place Lock l) (lock_place k) n 0 (λ e. d (omega arith))
  lock_away Waiters k d = get_or-set_other words (latch_word_place Waiters l) (lock_place k) n 0 (λ e. omega arith)
  lock_away Writer k d = get_or-set_other words (latch_word_place Writer l) (lock_place k) n 0 (λ e. omega arith)
  lock_away Generation k d = get_or-set_other words (latch_word_place Generation l) (lock_place k) n 0 (λ e. omega arith)
  lock_away ExGeneration k d = get_or-set_other words (latch_word_place ExGeneration l) (lock_place k) n 0 (λ e. omega arith)

  pub lock_else : (c : LatchWord) → c ≢ Lock → slice_index (set words (latch_word_place c l) n) (lock_place l) ≡ slice_index words (lock_place l)
  lock_else Lock d = absurd (d refl)
  lock_else Waiters d = get_or-set_other words (latch_word_place Waiters l) (lock_place l) n 0 (λ e. omega arith)
  lock_else Writer d = get_or-set_other words (latch_word_place Writer l) (lock_place l) n 0 (λ e. omega arith)
  lock_else Generation d = get_or-set_other words (latch_word_place Generation l) (lock_place l) n 0 (λ e. omega arith)
  lock_else ExGeneration d = get_or-set_other words (latch_word_place ExGeneration l) (lock_place l) n 0 (λ e. omega arith)

  pub flag_after : (c : LatchWord) → (c ≡ Waiters → n ≤ 1) → latch_word_place c l < length words → ((k : ℕ) → k < latches → slice_index words (waiters_place k) ≤ 1) → (k : ℕ) → k < latches → slice_index (set words (latch_word_place c l) n) (waiters_place k) ≤ 1
  flag_after Lock small fits flags k h = let e = get_or-set_other words (latch_word_place Lock l) (waiters_place k) n 0 (λ e. omega arith) in let f = flags k h in omega arith
  flag_after Writer small fits flags k h = let e = get_or-set_other words (latch_word_place Writer l) (waiters_place k) n 0 (λ e. omega arith) in let f = flags k h in omega arith
  flag_after Generation small fits flags k h = let e = get_or-set_other words (latch_word_place Generation l) (waiters_place k) n 0 (λ e. omega arith) in let f = flags k h in omega arith
  flag_after ExGeneration small fits flags k h = let e = get_or-set_other words (latch_word_place ExGeneration l) (waiters_place k) n 0 (λ e. omega arith) in let f = flags k h in omega arith
  flag_after Waiters small fits flags k h = dite (ℕ_discrete l k)
      (λ q. subst (λ k. slice_index (set words (waiters_place l) n) (waiters_place k) ≤ 1) q (let e = get_or-set_same words (waiters_place l) n 0 fits in let f = small refl in omega arith))
      (λ d. let e = get_or-set_other words (waiters_place l) (waiters_place k) n 0 (λ e. d (omega arith)) in let f = flags k h in omega arith)

  -- the writers
  pub writer_kept : (c : LatchWord) (k : ℕ) → c ≢ Writer → slice_index (set words (latch_word_place c l) n) (writer_place k) ≡ slice_index words (writer_place k)
  writer_kept Lock k d = get_or-set_other words (latch_word_place Lock l) (writer_place k) n 0 (λ e. omega arith)
  writer_kept Waiters k d = get_or-set_other words (latch_word_place Waiters l) (writer_place k) n 0 (λ e. omega arith)
  writer_kept Writer k d = absurd (d refl)
  writer_kept Generation k d = get_or-set_other words (latch_word_place Generation l) (writer_place k) n 0 (λ e. omega arith)
  writer_kept ExGeneration k d = get_or-set_other words (latch_word_place ExGeneration l) (writer_place k) n 0 (λ e. omega arith)

  -- the two words that stand before those of the latches
  pub front : (c : LatchWord) (q : ℕ) → q < 2 → slice_index (set words (latch_word_place c l) n) q ≡ slice_index words q
  front Lock q h = get_or-set_other words (latch_word_place Lock l) q n 0 (λ e. omega arith)
  front Waiters q h = get_or-set_other words (latch_word_place Waiters l) q n 0 (λ e. omega arith)
  front Writer q h = get_or-set_other words (latch_word_place Writer l) q n 0 (λ e. omega arith)
  front Generation q h = get_or-set_other words (latch_word_place Generation l) q n 0 (λ e. omega arith)
  front ExGeneration q h = get_or-set_other words (latch_word_place ExGeneration l) q n 0 (λ e. omega arith)
